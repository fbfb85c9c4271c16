-- Counting calls: a module with room has a free central, an overfull module has no proper colouring, and the rows on two centrals are few.
--   at_module_iff, count_next, count_here == the rows at a module, and one row more
--   some_free, overfull_uncoloured == a module with room has a free central, and an overfull one no proper colouring
--   few           == the rows on two centrals, one free at an input module and one at an output module
use Rattle.std.specs.Prelude.{◌≡◌, ◌↔◌, Bool, cond, List, ◌∷◌, map, ℕ, suc, ◌+◌, ◌*◌, ◌-◌, ◌≤◌, ◌<◌, T, length}
use Rattle.std.proofs.Math.Path.{refl}
use Rattle.std.proofs.Common.{sym, ◌∙◌, inl, inr, arith, eqb→eq, eq-eqb, eqb-true}
use Rattle.std.proofs.Math.Bool.{true, false}
use Rattle.std.proofs.Math.Option.{Option, get_or}
use Rattle.std.proofs.Math.Dec.{eqb, eqb_refl}
use Rattle.std.proofs.lemmas.List.{length-map}
use Rattle.std.proofs.lemmas.Bool.{eqb-false}
use Rattle.ground.specs.Lists.{In, here, there, Distinct}
use Rattle.ground.specs.ListsLaws.{pigeonhole, few_below, in_map, distinct_map}
use Rattle.ground.specs.Below.{Once}
use Rattle.choice.specs.Rule.{row_on, is_none, is_free}
use Rattle.choice.specs.Colouring.{Free, rows_below, at_module}
use Rattle.choice.proofs.Search.{Standing, row, free, standing, rows_pass, rows_hold, rows_distinct}
use Rattle.choice.proofs.Chain.{Two}

-- they are the rows below k that stand there
pub at_module_iff : (f : ℕ → ℕ) (k v i : ℕ) → In i (at_module f k v) ↔ ((i < k) × (f i ≡ v))
at_module_iff f k v i = (
  (λ p. let r = rows_pass k (λ i. eqb (f i) v) i p in (r.0, eqb→eq (f i) v r.1)),
  (λ p. rows_hold k (λ i. eqb (f i) v) i p.0 (rw p.1 (eqb_refl v))),
)

-- one more row is counted at its module, and nowhere else
pub count_next : (f : ℕ → ℕ) (k v : ℕ) → length (at_module f (suc k) v) ≡ cond (eqb (f k) v) (suc (length (at_module f k v))) (length (at_module f k v))
unfolding rows_below
count_next f k v = go (eqb (f k) v)
  where
    go : (t : Bool) → length {A = ℕ} (elim t [ true ↦ k ∷ at_module f k v | false ↦ at_module f k v ]) ≡ cond t (suc (length (at_module f k v))) (length (at_module f k v))
    go true = refl
    go false = refl

-- so row k is one call more at its own module
pub count_here : (f : ℕ → ℕ) (k : ℕ) → length (at_module f (suc k) (f k)) ≡ suc (length (at_module f k (f k)))
count_here f k = rw (count_next f k (f k), eq-eqb (f k) (f k) refl)

-- ---- a free central

-- the row of the module on the central c, where it is in use
row_for : (f γ : ℕ → ℕ) (k v c : ℕ) → ℕ
row_for f γ k v c = get_or (row_on f γ k v c) 0

row_found : (f γ : ℕ → ℕ) (k v c : ℕ) → (T (is_free f γ k v c) → ⊥) → (row_for f γ k v c < k) × (f (row_for f γ k v c) ≡ v) × (γ (row_for f γ k v c) ≡ c)
unfolding is_none row_for
row_found f γ k v c = go (standing f γ k v c)
  where
    go : {o : Option ℕ} → Standing f γ k v c o → (T (is_none o) → ⊥) → (get_or o 0 < k) × (f (get_or o 0) ≡ v) × (γ (get_or o 0) ≡ c)
    go (row e l x y) s = (l, x, y)
    go (free w) s = absurd (s tt)

-- a module with fewer rows than there are centrals has a free central: otherwise each central would have a row of its own there
pub some_free : (f γ : ℕ → ℕ) (k v : ℕ) (order : List ℕ) → Distinct order → length (at_module f k v) < length order
    → ((c : ℕ) → In c order → T (is_free f γ k v c) → ⊥) → ⊥
some_free f γ k v order d l full =
    omega (arith, pigeonhole (map g order) (at_module f k v) (distinct_map g order d (λ x y p q e. cc ((own x p).2, (own y q).2))) there_too, length-map order g)
  where
    g : ℕ → ℕ
    g = row_for f γ k v

    own : (c : ℕ) → In c order → (g c < k) × (f (g c) ≡ v) × (γ (g c) ≡ c)
    own c p = row_found f γ k v c (full c p)

    there_too : (z : ℕ) → In z (map g order) → In z (at_module f k v)
    there_too z p = let r = in_map g order p in let w = own r.0 r.1 in rw r.2 ((at_module_iff f k v (g r.0)).1 (w.0, w.1))

-- an overfull module has no proper colouring: its rows have centrals of their own
pub overfull_uncoloured : (f γ : ℕ → ℕ) (k v : ℕ) (order : List ℕ) → Once f γ k → ((i : ℕ) → i < k → In (γ i) order)
    → length order < length (at_module f k v) → ⊥
overfull_uncoloured f γ k v order proper inside l =
    omega (arith, pigeonhole (map γ (at_module f k v)) order (distinct_map γ (at_module f k v) (rows_distinct k (λ i. eqb (f i) v)) own) in_order, length-map (at_module f k v) γ)
  where
    own : (x y : ℕ) → In x (at_module f k v) → In y (at_module f k v) → γ x ≡ γ y → x ≡ y
    own x y p q e = let r = (at_module_iff f k v x).0 p in let s = (at_module_iff f k v y).0 q in proper x y r.0 s.0 (r.1 ∙ sym s.1) e

    in_order : (z : ℕ) → In z (map γ (at_module f k v)) → In z order
    in_order z p = let r = in_map γ (at_module f k v) p in rw r.2 (inside r.0 ((at_module_iff f k v r.0).0 r.1).0)

-- ---- the rows on two centrals

-- Where a is free at the input module x, and b at the output module y, the rows on a and b are two fewer than there are modules:
-- a row on a stands for its input module, a row on b for its output module, and neither x nor y is stood for.
module _ (α β γ : ℕ → ℕ) (k r a b x y : ℕ) (proper_α : Once α γ k) (proper_β : Once β γ k)
    (small-α : (i : ℕ) → i < k → α i < r) (small-β : (i : ℕ) → i < k → β i < r) (small-x : x < r) (small-y : y < r)
    (free_a : Free α γ k x a) (free_b : Free β γ k y b) where
  -- the number of the module, of the 2 * r there are, that the row stands for
  module_of : ℕ → ℕ
  module_of i = elim (eqb (γ i) a) [ true ↦ α i | false ↦ r + β i ]

  data StandsFor (i : ℕ) : ℕ → Type 0 where
    on_a : γ i ≡ a → StandsFor i (α i)
    on_b : γ i ≡ b → StandsFor i (r + β i)

  stands_for : (i : ℕ) → Two a b (γ i) → StandsFor i (module_of i)
  unfolding module_of
  stands_for i t = go (eqb (γ i) a) refl t
    where
      go : (q : Bool) → eqb (γ i) a ≡ q → Two a b (γ i) → StandsFor i (elim q [ true ↦ α i | false ↦ r + β i ])
      go true e t = on_a (eqb-true (γ i) a e)
      go false e (inl p) = absurd (eqb-false (γ i) a e p)
      go false e (inr p) = on_b p

  one_row : (i j : ℕ) {m n : ℕ} → i < k → j < k → StandsFor i m → StandsFor j n → m ≡ n → i ≡ j
  one_row i j li lj (on_a p) (on_a q) e = proper_α i j li lj e (p ∙ sym q)
  one_row i j li lj (on_a p) (on_b q) e = absurd (omega (arith, small-α i li))
  one_row i j li lj (on_b p) (on_a q) e = absurd (omega (arith, small-α j lj))
  one_row i j li lj (on_b p) (on_b q) e = proper_β i j li lj (omega arith) (p ∙ sym q)

  -- a module that a row stands for is one of them, and neither x nor y
  one_of_them : (i : ℕ) {n : ℕ} → i < k → StandsFor i n → (n < 2 * r) × (x ≡ n → ⊥) × (r + y ≡ n → ⊥)
  one_of_them i l (on_a p) = (omega (arith, small-α i l), λ e. free_a i l (sym e) p, λ e. omega (arith, small-α i l))
  one_of_them i l (on_b p) = (omega (arith, small-β i l), λ e. omega arith, λ e. free_b i l (omega arith) p)

  -- so distinct rows on a or b are at most 2 * r - 2
  pub few : (P : List ℕ) → Distinct P → ((i : ℕ) → In i P → (i < k) × Two a b (γ i)) → length P ≤ 2 * r - 2
  few P d m = omega (arith, few_below (2 * r) (x ∷ (r + y) ∷ map module_of P) (no_x, (no_y, apart)) small, length-map P module_of)
    where
      apart : Distinct (map module_of P)
      apart = distinct_map module_of P d (λ i j p q. one_row i j (m i p).0 (m j q).0 (stands_for i (m i p).1) (stands_for j (m j q).1))

      of_row : (z : ℕ) → In z (map module_of P) → (z < 2 * r) × (x ≡ z → ⊥) × (r + y ≡ z → ⊥)
      of_row z p = let w = in_map module_of P p in let u = m w.0 w.1 in rw w.2 (one_of_them w.0 u.0 (stands_for w.0 u.1))

      no_y : In (r + y) (map module_of P) → ⊥
      no_y p = (of_row (r + y) p).2 refl

      no_x : In x ((r + y) ∷ map module_of P) → ⊥
      no_x (here e) = omega arith
      no_x (there p) = (of_row x p).1 refl

      small : (z : ℕ) → In z (x ∷ (r + y) ∷ map module_of P) → z < 2 * r
      small z (here e) = omega arith
      small z (there (here e)) = omega arith
      small z (there (there p)) = (of_row z p).0
