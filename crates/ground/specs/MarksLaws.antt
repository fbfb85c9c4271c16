-- Laws of a record of use.
--   length_marks        == the record keeps its words
--   mark_tells          == what marking a row's pair tells, and what it leaves
use Rattle.std.specs.Prelude.{◌≡◌, refl, Bool, false, cond, ◌&&◌, ◌||◌, List, eqb, length}
use Rattle.std.proofs.Common.{◌∙◌, add-one, arith}
use Rattle.std.proofs.Math.Logic.Iff
use Rattle.std.proofs.Math.Bool.{true}
use Prim.Native.Nat.{ℕ, zero, suc, ◌+◌, ◌<◌}
use Rattle.std.proofs.Math.ListN.{length-replicate}
use Rattle.std.proofs.lemmas.List.{get_or-replicate}
use Rattle.ground.specs.TruthLaws.{same_test}
use Rattle.ground.specs.Numbers.{pair_is}
use Rattle.ground.specs.Below.{some_below, used_earlier}
use Rattle.ground.specs.Words.{word_size, bit_at}
use Rattle.ground.specs.WordsLaws.{no_bit, put_at_lem, length_put_at}
use Rattle.ground.specs.Marks.{blank, marks, Marked}

-- a mark that was there or is put, with the pair that is asked for second
marked_or : (a b c d : ℕ) (t : Bool) → cond (eqb c a && eqb d b) true t ≡ (t || (eqb a c && eqb b d))
marked_or a b c d t = rw turned (either (eqb a c && eqb b d) t)
  where
    turned : (eqb c a && eqb d b) ≡ (eqb a c && eqb b d)
    turned = same_test (eqb c a && eqb d b) (eqb a c && eqb b d)
        (Iff.trans (pair_is c d a b) (Iff.trans ((λ e. (omega arith, omega arith)), (λ e. (omega arith, omega arith))) (Iff.symm (pair_is a b c d))))

    either : (s u : Bool) → cond s true u ≡ (u || s)
    either true true = refl
    either true false = refl
    either false true = refl
    either false false = refl

module _ (top : ℕ) (f g : ℕ → ℕ) where
  pub length_marks : (i : ℕ) → length (marks top f g i) ≡ top
  unfolding marks blank
  length_marks zero = length-replicate top 0
  length_marks (suc i) = length_put_at (marks top f g i) (f i) (g i) true ∙ length_marks i

  -- what the record says of a pair
  marked : (i p j : ℕ) → p < top → j < word_size → ((q : ℕ) → q < i → g q < word_size) → bit_at (marks top f g i) p j ≡ some_below i (λ q. eqb (f q) p && eqb (g q) j)
  unfolding marks blank bit_at some_below
  marked zero p j l m narrow = rw (get_or-replicate {A = ℕ} top p 0 0 l) (no_bit j)
  marked (suc i) p j l m narrow =
      put_at_lem (marks top f g i) (f i) (g i) true p j (rw (length_marks i) l) (narrow i (omega arith)) m
      ∙ rw (marked i p j l m (λ q n. narrow q (omega arith))) (marked_or (f i) (g i) p j _)

  -- Row i's pair is marked, in the record of the rows below i: it is told whether an earlier row has the same pair, and the record is
  -- that of the rows up to i.
  pub mark_tells : (i : ℕ) {used used' : List ℕ} {p j : ℕ} {before : Bool} → used ≡ marks top f g i → p ≡ f i → j ≡ g i → Marked used used' p j before
      → f i < top → ((q : ℕ) → q < suc i → g q < word_size) → (before ≡ used_earlier f g i) × (used' ≡ marks top f g (i + 1))
  unfolding marks used_earlier
  mark_tells i e x y m small narrow = (
    m.told ∙ rw (e, x, y) (marked i (f i) (g i) small (narrow i (omega arith)) (λ q l. narrow q (omega arith))),
    m.set_there ∙ rw (add-one i, e, x, y),
  )
