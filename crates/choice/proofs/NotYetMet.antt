-- The falling number of the two chain steps. It starts at 2 * r - 1, since the output module of the new call is met already, and falls by one with
-- each call of the chain: so it is the number of the modules not yet met, of both sides, and it is never what ends a chain.
--   is_met met v          == module v is one of those met
--   not_met r met         == how many of the r modules of a side are not yet met
--   met_outputs, met_inputs α β γ k a b i == the output modules, the input modules, met after i calls of the chain that places row k
--   left_not_met         == after i calls of that chain, 2 * r - 1 - i modules are not yet met
--   left_some            == and that is never none
use Rattle.std.specs.Prelude.{◌≡◌, ◌⊎◌, Bool, not, ◌||◌, List, [], ◌∷◌, eqb, take}
use Rattle.std.proofs.Math.Path.{refl, ap}
use Rattle.std.proofs.Common.{sym, inl, inr, true≢false, arith, length-take, eq-eqb, ne_eqb}
use Rattle.std.proofs.Math.Bool.{true, false}
use Rattle.std.proofs.lemmas.Bool.{false≢true}
use Prim.Native.Nat.{ℕ, zero, suc, ◌+◌, ◌*◌, ◌-◌, ◌≤◌, ◌<◌}
use Rattle.std.proofs.Math.ListN.{length}
use Rattle.ground.specs.Numbers.{below_suc}
use Rattle.ground.specs.Lists.{In, here, there, Distinct}
use Rattle.ground.specs.ListsLaws.{not_in_nil}
use Rattle.shelf.specs.Rows.{ModulesBelow}
use Rattle.choice.specs.Colouring.{rows_below}
use Rattle.choice.proofs.Chain.{near_modules, far_modules, arrived_near, arrived_far}
use Rattle.choice.proofs.StepLaws.{ChainStart, step_chain, chain_runs, chain_rows, chain_modules, chain_few}

unfoldable pub is_met : List ℕ → ℕ → Bool
is_met [] v = false
is_met (u ∷ us) v = eqb u v || is_met us v

unfoldable pub not_met : ℕ → List ℕ → ℕ
not_met r met = length (rows_below r (λ v. not (is_met met v)))

abbrev pub met_outputs : (α β γ : ℕ → ℕ) (k a b i : ℕ) → List ℕ
met_outputs α β γ k a b i = near_modules β α (β k) (take i (step_chain α β γ k a b))

abbrev pub met_inputs : (α β γ : ℕ → ℕ) (k a b i : ℕ) → List ℕ
met_inputs α β γ k a b i = far_modules β α (β k) (take i (step_chain α β γ k a b))

-- ---- counting the modules of one side

-- two tests that agree but at u, which passes p and fails q
module _ (u : ℕ) (p q : ℕ → Bool) (passes : p u ≡ true) (fails : q u ≡ false) (agree : (v : ℕ) → (v ≡ u → ⊥) → p v ≡ q v) where
  rows_same : (k : ℕ) → k ≤ u → length (rows_below k p) ≡ length (rows_below k q)
  unfolding rows_below
  rows_same zero l = refl
  rows_same (suc k) l = go (p k) (q k) (agree k (λ e. omega arith)) (rows_same k (omega arith))
    where
      go : (s t : Bool) → s ≡ t → length (rows_below k p) ≡ length (rows_below k q)
          → length {A = ℕ} (elim s [ true ↦ k ∷ rows_below k p | false ↦ rows_below k p ]) ≡ length {A = ℕ} (elim t [ true ↦ k ∷ rows_below k q | false ↦ rows_below k q ])
      go true true e deep = ap suc deep
      go true false e deep = absurd (true≢false e)
      go false true e deep = absurd (false≢true e)
      go false false e deep = deep

  rows_more : (k : ℕ) → u < k → length (rows_below k p) ≡ suc (length (rows_below k q))
  unfolding rows_below
  rows_more zero l = absurd (omega arith)
  rows_more (suc k) l = go (rows_more k) (below_suc l)
    where
      here_more : (s t : Bool) → s ≡ true → t ≡ false
          → length {A = ℕ} (elim s [ true ↦ u ∷ rows_below u p | false ↦ rows_below u p ]) ≡ suc (length {A = ℕ} (elim t [ true ↦ u ∷ rows_below u q | false ↦ rows_below u q ]))
      here_more true true e f = absurd (true≢false f)
      here_more true false e f = ap suc (rows_same u (omega arith))
      here_more false t e f = absurd (false≢true e)

      below_more : (s t : Bool) → s ≡ t → length (rows_below k p) ≡ suc (length (rows_below k q))
          → length {A = ℕ} (elim s [ true ↦ k ∷ rows_below k p | false ↦ rows_below k p ]) ≡ suc (length {A = ℕ} (elim t [ true ↦ k ∷ rows_below k q | false ↦ rows_below k q ]))
      below_more true true e deep = ap suc deep
      below_more true false e deep = absurd (true≢false e)
      below_more false true e deep = absurd (false≢true e)
      below_more false false e deep = deep

      go : (u < k → length (rows_below k p) ≡ suc (length (rows_below k q))) → (u ≡ k) ⊎ (u < k) → length (rows_below (suc k) p) ≡ suc (length (rows_below (suc k) q))
      go deep (inl e) = rw (← e) (here_more (p u) (q u) passes fails)
      go deep (inr m) = below_more (p k) (q k) (agree k (λ e. omega arith)) (deep m)

all_rows : (k : ℕ) → length (rows_below k (λ v. true)) ≡ k
unfolding rows_below
all_rows zero = refl
all_rows (suc k) = ap suc (all_rows k)

not_among : (us : List ℕ) (v : ℕ) → (In v us → ⊥) → is_met us v ≡ false
unfolding is_met
not_among [] v n = refl
not_among (u ∷ us) v n = rw (ne_eqb u v (λ e. n (here (sym e))), not_among us v (λ p. n (there p)))

-- distinct modules of a side that are met, and those that are not, are all of them
not_met_count : (r : ℕ) (met : List ℕ) → Distinct met → ((v : ℕ) → In v met → v < r) → not_met r met + length met ≡ r
unfolding not_met is_met
not_met_count r [] d below = omega (arith, all_rows r)
not_met_count r (u ∷ us) d below =
    omega (
      arith,
      rows_more u (λ v. not (is_met us v)) (λ v. not (is_met (u ∷ us) v)) (rw (not_among us u d.0)) (rw (eq-eqb u u refl)) (λ v n. rw (ne_eqb u v (λ e. n (sym e)))) r
          (below u (here refl)),
      not_met_count r us d.1 (λ v p. below v (there p)),
    )

-- ---- the modules at which the first calls of a chain arrive

met_length : (h f : ℕ → ℕ) (v : ℕ) (es : List ℕ) → length (near_modules h f v es) + length (far_modules h f v es) ≡ suc (length es)
unfolding near_modules far_modules
met_length h f v [] = refl
met_length h f v (e ∷ es) = omega (arith, met_length f h (f e) es)

mutual
  unfolding near_modules far_modules

  near_part : (h f : ℕ → ℕ) (v : ℕ) (es : List ℕ) (i z : ℕ) → In z (near_modules h f v (take i es)) → In z (near_modules h f v es)
  near_part h f v [] zero z p = p
  near_part h f v [] (suc i) z p = p
  near_part h f v (e ∷ es) zero z (here q) = here q
  near_part h f v (e ∷ es) zero z (there p) = absurd (not_in_nil p)
  near_part h f v (e ∷ es) (suc i) z (here q) = here q
  near_part h f v (e ∷ es) (suc i) z (there p) = there (far_part f h (f e) es i z p)

  far_part : (h f : ℕ → ℕ) (v : ℕ) (es : List ℕ) (i z : ℕ) → In z (far_modules h f v (take i es)) → In z (far_modules h f v es)
  far_part h f v [] zero z p = p
  far_part h f v [] (suc i) z p = p
  far_part h f v (e ∷ es) zero z p = absurd (not_in_nil p)
  far_part h f v (e ∷ es) (suc i) z p = near_part f h (f e) es i z p

mutual
  unfolding near_modules far_modules

  near_distinct : (h f : ℕ → ℕ) (v : ℕ) (es : List ℕ) (i : ℕ) → Distinct (near_modules h f v es) → Distinct (near_modules h f v (take i es))
  near_distinct h f v [] zero d = d
  near_distinct h f v [] (suc i) d = d
  near_distinct h f v (e ∷ es) zero d = (not_in_nil, tt)
  near_distinct h f v (e ∷ es) (suc i) d = ((λ p. d.0 (far_part f h (f e) es i v p)), far_distinct f h (f e) es i d.1)

  far_distinct : (h f : ℕ → ℕ) (v : ℕ) (es : List ℕ) (i : ℕ) → Distinct (far_modules h f v es) → Distinct (far_modules h f v (take i es))
  far_distinct h f v [] zero d = d
  far_distinct h f v [] (suc i) d = d
  far_distinct h f v (e ∷ es) zero d = tt
  far_distinct h f v (e ∷ es) (suc i) d = near_distinct f h (f e) es i d

-- ---- the falling number

module _ (α β γ : ℕ → ℕ) (k a b : ℕ) (s : ChainStart α β γ k a b) (r : ℕ) (below : ModulesBelow α β r (suc k)) where
  outputs_below : (z : ℕ) → In z (near_modules β α (β k) (step_chain α β γ k a b)) → z < r
  outputs_below z p = go (arrived_near γ k (chain_runs α β γ k a b s) z p)
    where
      go : (z ≡ β k) ⊎ ((i : ℕ) × In i (step_chain α β γ k a b) × (γ i ≡ b) × (β i ≡ z)) → z < r
      go (inl e) = omega (arith, (below k (omega arith)).1)
      go (inr w) = let l = (chain_rows α β γ k a b s w.0 w.1).0 in omega (arith, (below w.0 (omega arith)).1)

  inputs_below : (z : ℕ) → In z (far_modules β α (β k) (step_chain α β γ k a b)) → z < r
  inputs_below z p =
      let w = arrived_far γ k (chain_runs α β γ k a b s) z p in
      let l = (chain_rows α β γ k a b s w.0 w.1).0 in
      omega (arith, (below w.0 (omega arith)).0)

  pub left_not_met : (i : ℕ) → i ≤ length (step_chain α β γ k a b) → 2 * r - 1 - i ≡ not_met r (met_outputs α β γ k a b i) + not_met r (met_inputs α β γ k a b i)
  left_not_met i l =
      let es = step_chain α β γ k a b in
      let d = chain_modules α β γ k a b s in
      omega (
        arith,
        not_met_count r (met_outputs α β γ k a b i) (near_distinct β α (β k) es i d.0) (λ z p. outputs_below z (near_part β α (β k) es i z p)),
        not_met_count r (met_inputs α β γ k a b i) (far_distinct β α (β k) es i d.1) (λ z p. inputs_below z (far_part β α (β k) es i z p)),
        met_length β α (β k) (take i es),
        length-take i es,
      )

  pub left_some : (i : ℕ) → i ≤ length (step_chain α β γ k a b) → 0 < 2 * r - 1 - i
  left_some i l = omega (arith, chain_few α β γ k a b s r below, (below k (omega arith)).1)
