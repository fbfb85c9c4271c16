-- Laws of tests below a bound, and of pairs that no two rows have.
--   every_is, some_is    == the tests of all rows, as types
--   some_same            == two tests that agree on every row below k
--   some_found, some_next == for code that tries one row after the other: one that passes, and one more that does not
--   used_earlier_is      == the earlier row
--   once_apart           == no two rows have a pair: no row has that of an earlier one
--   once_is              == so no row's pair is used earlier
--   once_more            == one row more
--   once_same            == only the rows below k matter
use Rattle.std.specs.Prelude.{◌≡◌, refl, ◌⊎◌, ◌↔◌, Bool, true, false, not, ◌&&◌, ℕ, zero, suc, ◌+◌, ◌<◌, T}
use Rattle.std.proofs.Common.{sym, ◌∙◌, inl, inr, add-one, arith}
use Rattle.std.proofs.Math.Logic.Iff
use Rattle.std.proofs.Math.Decide.{dec_lt}
use Rattle.std.proofs.Math.Dec.{eqb}
use Rattle.ground.specs.TruthLaws.{both_is, either_is, not_is, same_test}
use Rattle.ground.specs.Numbers.{pair_is, below_suc, up_to}
use Rattle.ground.specs.Below.{every_below, some_below, used_earlier, Once}

pub every_is : (k : ℕ) (p : ℕ → Bool) → T (every_below k p) ↔ ((i : ℕ) → i < k → T (p i))
unfolding every_below
every_is zero p = (λ h i l. absurd (omega arith), λ h. tt)
every_is (suc k) p = Iff.trans (both_is (every_below k p) (p k)) (
  λ h. up_to (λ i. T (p i)) ((every_is k p).0 h.0) h.1,
  λ h. ((every_is k p).1 (λ i l. h i (omega arith)), h k (omega arith)),
)

pub some_is : (k : ℕ) (p : ℕ → Bool) → T (some_below k p) ↔ ((i : ℕ) × (i < k) × T (p i))
unfolding some_below
some_is zero p = (λ h. absurd h, λ h. absurd (omega arith))
some_is (suc k) p = (
  λ h. to (some_is k p).0 ((either_is (some_below k p) (p k)).0 h),
  λ h. (either_is (some_below k p) (p k)).1 (from (some_is k p).1 h.0 (below_suc h.1) h.2),
)
  where
    to : (T (some_below k p) → (i : ℕ) × (i < k) × T (p i)) → T (some_below k p) ⊎ T (p k) → (i : ℕ) × (i < suc k) × T (p i)
    to deep (inl h) = let w = deep h in (w.0, omega arith, w.2)
    to deep (inr h) = (k, omega arith, h)

    from : ((i : ℕ) × (i < k) × T (p i) → T (some_below k p)) → (i : ℕ) → (i ≡ k) ⊎ (i < k) → T (p i) → T (some_below k p) ⊎ T (p k)
    from deep i (inl e) t = inr (rw e at t)
    from deep i (inr l) t = inl (deep (i, l, t))

pub some_same : (k : ℕ) (p q : ℕ → Bool) → ((j : ℕ) → j < k → p j ≡ q j) → some_below k p ≡ some_below k q
unfolding some_below
some_same zero p q h = refl
some_same (suc k) p q h = rw (some_same k p q (λ j l. h j (omega arith)), h k (omega arith))

pub some_found : (i k : ℕ) (p : ℕ → Bool) → i < k → p i ≡ true → some_below k p ≡ true
some_found i k p l e = same_test (some_below k p) true (λ h. tt, λ h. (some_is k p).1 (i, l, rw e tt))

pub some_next : (i : ℕ) (p : ℕ → Bool) → some_below i p ≡ false → p i ≡ false → some_below (i + 1) p ≡ false
unfolding some_below
some_next i p e f = rw (add-one i, e, f)

module _ (f g : ℕ → ℕ) where
  pub used_earlier_is : (j : ℕ) → T (used_earlier f g j) ↔ ((i : ℕ) × (i < j) × (f i ≡ f j) × (g i ≡ g j))
  unfolding used_earlier
  used_earlier_is j = Iff.trans (some_is j (λ i. eqb (f i) (f j) && eqb (g i) (g j))) (
    λ h. let e = (pair_is (f h.0) (g h.0) (f j) (g j)).0 h.2 in (h.0, h.1, e.0, e.1),
    λ h. (h.0, h.1, (pair_is (f h.0) (g h.0) (f j) (g j)).1 (h.2, h.3)),
  )

  pub once_apart : (k : ℕ) → Once f g k ↔ ((j : ℕ) → j < k → (i : ℕ) → i < j → f i ≡ f j → g i ≡ g j → ⊥)
  once_apart k = (
    λ h j k i l e q. let s = h i j (omega arith) k e q in omega arith,
    λ h i j k l e q. elim (dec_lt i j) [
      | yes b ↦ absurd (h j l i b e q)
      | no n ↦ elim (dec_lt j i) [ yes b ↦ absurd (h i k j b (sym e) (sym q)) | no m ↦ omega arith ]
    ],
  )

  pub once_is : (k : ℕ) → ((j : ℕ) → j < k → T (not (used_earlier f g j))) ↔ Once f g k
  once_is k = Iff.trans (
    λ h j l i m e q. (not_is (used_earlier f g j)).0 (h j l) ((used_earlier_is j).1 (i, m, e, q)),
    λ h j l. (not_is (used_earlier f g j)).1 (λ t. let w = (used_earlier_is j).0 t in h j l w.0 w.1 w.2 w.3),
  ) ((once_apart k).1, (once_apart k).0)

  pub once_more : (k : ℕ) → Once f g (suc k) ↔ (Once f g k × T (not (used_earlier f g k)))
  once_more k = (
    λ h. (λ i j li lj. h i j (omega arith) (omega arith), (once_is (suc k)).1 h k (omega arith)),
    λ h. (once_is (suc k)).0 (up_to (λ j. T (not (used_earlier f g j))) ((once_is k).1 h.0) h.1),
  )

pub once_same : {f f' g g' : ℕ → ℕ} {k : ℕ} → ((i : ℕ) → i < k → f i ≡ f' i) → ((i : ℕ) → i < k → g i ≡ g' i) → Once f g k → Once f' g' k
once_same a b h i j li lj e q = h i j li lj (a i li ∙ e ∙ sym (a j lj)) (b i li ∙ q ∙ sym (b j lj))
