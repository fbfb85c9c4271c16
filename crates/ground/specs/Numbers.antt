-- Laws of numbers.
--   eqb_is, leb_is, ltb_is == a comparison that holds
--   less_is, at_most_is == a comparison that fails
--   equal_is            == a comparison that does not fail
--   pair_is, pair_same, pair_other == two comparisons that hold: the pairs are the same
--   below_suc           == below suc k: k itself, or below k
--   up_to               == what holds of every number below k, and of k, holds of every number below suc k
use Rattle.std.specs.Prelude.{◌≡◌, ◌⊎◌, ◌↔◌, true, false, not, ◌&&◌, ℕ, suc, ◌≤◌, ◌<◌, T, eqb, leb, ltb}
use Rattle.std.proofs.Common.{inl, inr, eq-or-lt_of_le, le_of_suc-le-suc, arith, eqb→eq, leb→le, le→leb, ltb→lt, lt→ltb, nltb→le}
use Rattle.std.proofs.Math.Logic.Iff
use Rattle.std.proofs.Math.Dec.{eqb_refl, nleb→lt, not_T}
use Rattle.ground.specs.TruthLaws.{both_is, holds_is, same_test}

pub eqb_is : (a b : ℕ) → T (eqb a b) ↔ (a ≡ b)
eqb_is a b = (eqb→eq a b, λ e. rw e (eqb_refl b))

pub leb_is : (a b : ℕ) → T (leb a b) ↔ (a ≤ b)
leb_is a b = (leb→le a b, le→leb a b)

pub ltb_is : (a b : ℕ) → T (ltb a b) ↔ (a < b)
ltb_is a b = (ltb→lt a b, lt→ltb a b)

pub less_is : (a b : ℕ) → T (not (leb b a)) ↔ (a < b)
less_is a b = (nleb→lt b a, λ h. not_T (leb b a) (λ t. omega (arith, leb→le b a t)))

pub at_most_is : (a b : ℕ) → T (not (ltb b a)) ↔ (a ≤ b)
at_most_is a b = (nltb→le b a, λ h. not_T (ltb b a) (λ t. omega (arith, ltb→lt b a t)))

pub equal_is : (a b : ℕ) → T (not (not (eqb a b))) ↔ (a ≡ b)
equal_is a b = Iff.trans (holds_is (eqb a b)) (eqb_is a b)

pub pair_is : (a b c d : ℕ) → T (eqb a c && eqb b d) ↔ ((a ≡ c) × (b ≡ d))
pair_is a b c d = Iff.trans (both_is (eqb a c) (eqb b d)) (Iff.and (eqb_is a c) (eqb_is b d))

pub pair_same : {a b c d : ℕ} → a ≡ c → b ≡ d → (eqb a c && eqb b d) ≡ true
pair_same {a} {b} {c} {d} e f = same_test (eqb a c && eqb b d) true (λ t. tt, λ t. (pair_is a b c d).1 (e, f))

pub pair_other : {a b c d : ℕ} → (a ≡ c → b ≡ d → ⊥) → (eqb a c && eqb b d) ≡ false
pair_other {a} {b} {c} {d} n = same_test (eqb a c && eqb b d) false (λ t. let e = (pair_is a b c d).0 t in n e.0 e.1, λ t. absurd t)

pub below_suc : {i k : ℕ} → i < suc k → (i ≡ k) ⊎ (i < k)
below_suc h = eq-or-lt_of_le (le_of_suc-le-suc h)

pub up_to : (P : ℕ → Type 0) {k : ℕ} → ((i : ℕ) → i < k → P i) → P k → (i : ℕ) → i < suc k → P i
up_to P f p i l = elim (below_suc l) [ inl e ↦ rw e p | inr b ↦ f i b ]
