-- What the searches of the choice rule find. A search is never reasoned about by its clauses: each has a view that says what its answer means.
--   Found p k o         == o is the least number below k that passes the test, or none does
--   Picked order p o    == o is a central of the order that passes the test, or none does
--   Standing f γ k v c o == o is a row below k that stands there, or the central is free there
--   found, picked, standing, stands_iff, free_iff == each search has its view
--   row_below           == a row that a search finds is below k
--   first_some, first_none, first_found, first_over == a search of the order whose answer is known, and one whose least is known
--   rows_pass, rows_hold, rows_distinct == the rows that pass a test
use Rattle.std.specs.Prelude.{◌≡◌, refl, ◌⊎◌, ◌↔◌, Bool, true, false, List, [], ◌∷◌, eqb}
use Rattle.std.proofs.Common.{◌∙◌, inl, inr, arith, eqb→eq}
use Rattle.std.proofs.Math.Option.{Option, none, some}
use Prim.Native.Nat.{ℕ, zero, suc, ◌≤◌, ◌<◌}
use Rattle.std.proofs.Math.Numerals.{add-one}
use Rattle.std.proofs.Math.Dec.{T, eqb_refl}
use Rattle.ground.specs.TruthLaws.{both_is}
use Rattle.ground.specs.Numbers.{below_suc}
use Rattle.ground.specs.Words.{First}
use Rattle.ground.specs.Lists.{In, here, there, Distinct}
use Rattle.ground.specs.ListsLaws.{not_in_nil}
use Rattle.shelf.specs.declared.Network.{Network}
use Rattle.shelf.specs.Order.{order, order_from}
use Rattle.shelf.specs.OrderLaws.{order_start, order_here, order_end}
use Rattle.choice.specs.Rule.{first_below, first_of, stands, row_on, is_none, is_free}
use Rattle.choice.specs.Colouring.{Free, rows_below}

-- ---- the least number below k

pub data Found (p : ℕ → Bool) (k : ℕ) : Option ℕ → Type 0 where
  hit : (i : ℕ) → i < k → T (p i) → ((j : ℕ) → j < i → T (p j) → ⊥) → Found p k (some i)
  miss : ((i : ℕ) → i < k → T (p i) → ⊥) → Found p k none

pub found : (p : ℕ → Bool) (k : ℕ) → Found p k (first_below k p)
unfolding first_below
found p zero = miss (λ i h t. omega arith)
found p (suc k) = go (found p k)
  where
    test : (b : Bool) → p k ≡ b → ((i : ℕ) → i < k → T (p i) → ⊥) → Found p (suc k) (elim b [ true ↦ some k | false ↦ none ])
    test true e m = hit k (omega arith) (rw e tt) m
    test false e m =
        let other : (i : ℕ) → (i ≡ k) ⊎ (i < k) → T (p i) → ⊥ = λ i. elim [ inl q ↦ λ t. rw (q, e) at t | inr h ↦ m i h ] in
        miss (λ i h t. other i (below_suc h) t)

    go : {o : Option ℕ} → Found p k o → Found p (suc k) (elim o [ some i ↦ some i | none ↦ elim (p k) [ true ↦ some k | false ↦ none ] ])
    go (hit i h t m) = hit i (omega arith) t m
    go (miss m) = test (p k) refl m

-- ---- the first central of the order

pub data Picked (order : List ℕ) (p : ℕ → Bool) : Option ℕ → Type 0 where
  got : (c : ℕ) → In c order → T (p c) → Picked order p (some c)
  nothing : ((c : ℕ) → In c order → T (p c) → ⊥) → Picked order p none

pub picked : (order : List ℕ) (p : ℕ → Bool) → Picked order p (first_of order p)
unfolding first_of
picked [] p = nothing (λ c m t. not_in_nil m)
picked (c ∷ cs) p = test (p c) refl (picked cs p)
  where
    test : (b : Bool) → p c ≡ b → {o : Option ℕ} → Picked cs p o → Picked (c ∷ cs) p (elim b [ true ↦ some c | false ↦ o ])
    test true e m = got c (here refl) (rw e tt)
    test false e (got x m t) = got x (there m) t
    test false e (nothing m) = nothing other
      where
        other : (x : ℕ) → In x (c ∷ cs) → T (p x) → ⊥
        other x (here q) t = rw (q, e) at t
        other x (there q) t = m x q t

-- the same, of a search whose answer is known
pub first_some : (order : List ℕ) (p : ℕ → Bool) (c : ℕ) → first_of order p ≡ some c → In c order × T (p c)
first_some order p c = go (picked order p)
  where
    go : {o : Option ℕ} → Picked order p o → o ≡ some c → In c order × T (p c)
    go (got x m t) e = let q : x ≡ c = cc in rw (← q) (m, t)
    go (nothing m) e = let z : ◌≡◌ {A = ℕ} 0 1 = cc in absurd (omega arith)

pub first_none : (order : List ℕ) (p : ℕ → Bool) → first_of order p ≡ none → (c : ℕ) → In c order → T (p c) → ⊥
first_none order p = go (picked order p)
  where
    go : {o : Option ℕ} → Picked order p o → o ≡ none → (c : ℕ) → In c order → T (p c) → ⊥
    go (got x m t) e c n u = let z : ◌≡◌ {A = ℕ} 0 1 = cc in omega arith
    go (nothing m) e c n u = m c n u

-- The search goes through the order by rising centrals: where n is the least number below k that passes the test, it finds n if the
-- shelf has that central.
module _ (net : Network) (test : ℕ → Bool) where
  first_here : (c : ℕ) → c < net.m → test c ≡ true → first_of (order_from net c) test ≡ some c
  unfolding first_of
  first_here c l t = rw (order_here net c l, first_of, t)

  passed_over : (c : ℕ) → c ≤ net.m → ((j : ℕ) → j < c → test j ≡ false) → first_of (order net) test ≡ first_of (order_from net c) test
  unfolding first_of
  passed_over zero l none_yet = rw (order_start net)
  passed_over (suc c) l none_yet =
      passed_over c (omega arith) (λ j m. none_yet j (omega arith)) ∙ rw (order_here net c l, first_of, none_yet c (omega arith), add-one c)

  module _ (k n : ℕ) (least-passes : First k test n) where
    pub first_found : net.m ≤ k → n < net.m → first_of (order net) test ≡ some n
    first_found enough l = passed_over n (omega arith) least-passes.1 ∙ first_here n l (least-passes.2 (omega arith))

    pub first_over : net.m ≤ n → first_of (order net) test ≡ none
    unfolding first_of
    first_over l = passed_over net.m (omega arith) (λ j m. least-passes.1 j (omega arith)) ∙ rw (order_end net net.m (omega arith))

-- ---- a row of a module on a central

pub data Standing (f γ : ℕ → ℕ) (k v c : ℕ) : Option ℕ → Type 0 where
  row : (e : ℕ) → e < k → f e ≡ v → γ e ≡ c → Standing f γ k v c (some e)
  free : Free f γ k v c → Standing f γ k v c none

pub stands_iff : (f γ : ℕ → ℕ) (v c i : ℕ) → T (stands f γ v c i) ↔ ((f i ≡ v) × (γ i ≡ c))
stands_iff f γ v c i = (
  (λ t. let r = (both_is (eqb (f i) v) (eqb (γ i) c)).0 t in (eqb→eq (f i) v r.0, eqb→eq (γ i) c r.1)),
  (λ p. rw (p.0, p.1) ((both_is (eqb v v) (eqb c c)).1 (eqb_refl v, eqb_refl c))),
)

module _ (f γ : ℕ → ℕ) (k v c : ℕ) where
  -- the search for a row finds one that stands there, or the central is free there
  pub standing : Standing f γ k v c (row_on f γ k v c)
  standing = go (found (stands f γ v c) k)
    where
      go : {o : Option ℕ} → Found (stands f γ v c) k o → Standing f γ k v c o
      go (hit i h t m) = let p = (stands_iff f γ v c i).0 t in row i h p.0 p.1
      go (miss m) = free (λ q l x y. m q l ((stands_iff f γ v c q).1 (x, y)))

  pub row_below : (e : ℕ) → row_on f γ k v c ≡ some e → e < k
  row_below e = go standing
    where
      go : {o : Option ℕ} → Standing f γ k v c o → o ≡ some e → e < k
      go (row i l x y) q = let z : i ≡ e = cc in rw z at l
      go (free w) q = let z : ◌≡◌ {A = ℕ} 0 1 = cc in omega arith

  -- the test `is_free` says what it should
  pub free_iff : T (is_free f γ k v c) ↔ Free f γ k v c
  unfolding is_none
  free_iff = go standing
    where
      go : {o : Option ℕ} → Standing f γ k v c o → T (is_none o) ↔ Free f γ k v c
      go (row e l x y) = (λ t. absurd t, λ w. w e l x y)
      go (free w) = (λ t. w, λ t. tt)

-- ---- all rows that pass a test

-- they are below k and pass, every such number is among them, and none is twice
pub rows_pass : (k : ℕ) (p : ℕ → Bool) (i : ℕ) → In i (rows_below k p) → (i < k) × T (p i)
unfolding rows_below
rows_pass zero p i m = absurd (not_in_nil m)
rows_pass (suc k) p i m = go (λ q. let r = rows_pass k p i q in (omega arith, r.1)) (p k) refl m
  where
    go : (In i (rows_below k p) → (i < suc k) × T (p i)) → (b : Bool) → p k ≡ b
        → In i (elim b [ true ↦ k ∷ rows_below k p | false ↦ rows_below k p ]) → (i < suc k) × T (p i)
    go deep true e (here q) = (omega arith, rw (q, e) tt)
    go deep true e (there q) = deep q
    go deep false e q = deep q

pub rows_hold : (k : ℕ) (p : ℕ → Bool) (i : ℕ) → i < k → T (p i) → In i (rows_below k p)
unfolding rows_below
rows_hold zero p i h t = absurd (omega arith)
rows_hold (suc k) p i h t = go (λ l. rows_hold k p i l t) (p k) refl (below_suc h)
  where
    go : (i < k → In i (rows_below k p)) → (b : Bool) → p k ≡ b → (i ≡ k) ⊎ (i < k) → In i (elim b [ true ↦ k ∷ rows_below k p | false ↦ rows_below k p ])
    go deep true e (inl q) = here q
    go deep true e (inr l) = there (deep l)
    go deep false e (inl q) = absurd (rw (q, e) at t)
    go deep false e (inr l) = deep l

pub rows_distinct : (k : ℕ) (p : ℕ → Bool) → Distinct (rows_below k p)
unfolding rows_below
rows_distinct zero p = tt
rows_distinct (suc k) p = go (rows_distinct k p) (p k)
  where
    go : Distinct (rows_below k p) → (b : Bool) → Distinct (elim b [ true ↦ k ∷ rows_below k p | false ↦ rows_below k p ])
    go d true = ((λ m. omega (arith, rows_pass k p k m)), d)
    go d false = d
