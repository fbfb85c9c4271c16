-- What the library's searches over the rows of a table tell, in the words of the rule.
--   any_rows            == some row passes the test, or none does
--   count_rows, count_few == the rows that stand at a module are those that a filter by it leaves, and are not more than all
use Rattle.std.specs.Prelude.{◌≡◌, refl, Bool, true, false, ℕ, zero, suc, ◌≤◌, ◌<◌, T, eqb, length, take, MatchBool}
use Rattle.std.specs.List.{range_with_len, AllWithin, HoldsAt, filter, count_by}
use Rattle.std.proofs.Common.{sym, ap, ◌∙◌, add-one, arith, get_or, take_all, eq-eqb, ne_eqb}
use Rattle.std.proofs.Math.Decide.{ℕ_discrete}
use Rattle.std.proofs.lemmas.List.Sums.{length-filter, count_by-le-length, count_by_more_yes, count_by_more_no}
use Rattle.std.proofs.lemmas.List.FromFn.{length-range_with_len, get_or-range_with_len}
use Rattle.ground.specs.TruthLaws.{same_test}
use Rattle.ground.specs.Below.{some_below}
use Rattle.ground.specs.BelowLaws.{some_is, some_found}
use Rattle.choice.specs.Colouring.{rows_below, at_module}
use Rattle.choice.proofs.Count.{count_next}

module _ (p : ℕ → Bool) (k : ℕ) where
  -- the rows are their own numbers
  row_is : (i : ℕ) → i < k → get_or (range_with_len 0 k) i 0 ≡ i
  row_is i l = get_or-range_with_len 0 k i 0 l ∙ omega arith

  pub any_rows : (r : Bool)
      → MatchBool r ((i : ℕ) × (i < length (range_with_len 0 k)) × HoldsAt (λ j. p j ≡ true) (range_with_len 0 k) i) (AllWithin (λ j. p j ≡ false) (range_with_len 0 k) 0 (length (range_with_len 0 k)))
      → r ≡ some_below k p
  any_rows true h =
      let l : h.0 < k = rw (length-range_with_len 0 k) at h.1 in
      let passes = h.2 0 in
      sym (some_found h.0 k p l (rw (row_is h.0 l) at passes))
  any_rows false h = sym (same_test (some_below k p) false (λ t. found ((some_is k p).0 t), λ t. absurd t))
    where
      found : (i : ℕ) × (i < k) × T (p i) → T false
      found w =
          let fails = h w.0 0 (omega arith) (rw (length-range_with_len 0 k) w.1) in
          let passes = w.2 in
          rw (rw (row_is w.0 w.1) at fails) at passes

-- the rows of a table that stand at a module of one side, as the library counts them
module _ (f : ℕ → ℕ) (v k : ℕ) where
  abbrev here : ℕ → Bool
  here i = eqb (f i) v

  counted : (i : ℕ) → i ≤ k → count_by here (take i (range_with_len 0 k)) ≡ length (at_module f i v)
  unfolding rows_below
  counted zero l = refl
  counted (suc i) l = go (ℕ_discrete (f i) v) (counted i (omega arith))
    where
      there : i < length (range_with_len 0 k)
      there = rw (length-range_with_len 0 k) (omega arith)

      go : Dec (f i ≡ v) → count_by here (take i (range_with_len 0 k)) ≡ length (at_module f i v) → count_by here (take (suc i) (range_with_len 0 k)) ≡ length (at_module f (suc i) v)
      go (yes e) before =
          let more = count_by_more_yes here (range_with_len 0 k) i 0 there (rw (row_is (λ j. true) k i (omega arith)) (eq-eqb (f i) v e)) in
          (rw (add-one i) at more) ∙ rw (count_next f i v, eq-eqb (f i) v e) (omega (arith, before))
      go (no n) before =
          let more = count_by_more_no here (range_with_len 0 k) i 0 there (rw (row_is (λ j. true) k i (omega arith)) (ne_eqb (f i) v n)) in
          (rw (add-one i) at more) ∙ rw (count_next f i v, ne_eqb (f i) v n) before

  pub count_rows : length (filter here (range_with_len 0 k)) ≡ length (at_module f k v)
  count_rows = length-filter here (range_with_len 0 k) ∙ ap (count_by here) (sym (take_all k (range_with_len 0 k) (omega (arith, length-range_with_len 0 k)))) ∙ counted k (omega arith)

  pub count_few : length (at_module f k v) ≤ k
  count_few = omega (arith, sym count_rows, length-filter here (range_with_len 0 k), count_by-le-length here (range_with_len 0 k), length-range_with_len 0 k)
