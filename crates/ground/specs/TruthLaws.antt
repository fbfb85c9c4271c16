-- Laws of tests.
--   both_is, either_is, not_is, neither_is, holds_is == two tests joined, a test that fails, and one that does not fail
--   all_is, any_is, none_is == tests in a list, as types
--   same_test            == two tests that hold together are the same test
--   test_fails, test_holds == a test that fails is false, and one that does not fail is true
--   not_both             == no test is both
use Rattle.std.specs.Prelude.{◌≡◌, refl, ◌⊎◌, ◌↔◌, Bool, true, false, not, ◌&&◌, ◌||◌, List, [], ◌∷◌, T}
use Rattle.std.proofs.Common.{sym, subst, inl, inr}
use Rattle.std.proofs.Math.Logic.Iff
use Rattle.ground.specs.Truth.{all, any, AllHold, SomeHolds, NoneHolds}

pub both_is : (s t : Bool) → T (s && t) ↔ (T s × T t)
both_is true t = (λ h. (tt, h), λ h. h.1)
both_is false t = (λ h. absurd h, λ h. h.0)

pub either_is : (s t : Bool) → T (s || t) ↔ (T s ⊎ T t)
either_is true t = (λ h. inl tt, λ h. tt)
either_is false t = (λ h. inr h, elim [ inl h ↦ absurd h | inr h ↦ h ])

pub not_is : (t : Bool) → T (not t) ↔ (T t → ⊥)
not_is true = (λ h g. h, λ h. h tt)
not_is false = (λ h g. g, λ h. tt)

pub neither_is : (s t : Bool) → T (not (s || t)) ↔ (T (not s) × T (not t))
neither_is true t = (λ h. absurd h, λ h. h.0)
neither_is false t = (λ h. (tt, h), λ h. h.1)

pub holds_is : (t : Bool) → T (not (not t)) ↔ T t
holds_is true = Iff.rfl
holds_is false = Iff.rfl

pub all_is : (ts : List Bool) → T (all ts) ↔ AllHold ts
unfolding all
all_is [] = Iff.rfl
all_is (t ∷ ts) = Iff.trans (both_is t (all ts)) (Iff.and Iff.rfl (all_is ts))

pub any_is : (ts : List Bool) → T (any ts) ↔ SomeHolds ts
unfolding any
any_is [] = Iff.rfl
any_is (t ∷ ts) = Iff.trans (either_is t (any ts)) (
  elim [ inl h ↦ inl h | inr h ↦ inr ((any_is ts).0 h) ],
  elim [ inl h ↦ inl h | inr h ↦ inr ((any_is ts).1 h) ],
)

pub none_is : (ts : List Bool) → T (not (any ts)) ↔ NoneHolds ts
unfolding any
none_is [] = Iff.rfl
none_is (t ∷ ts) = Iff.trans (neither_is t (any ts)) (Iff.and Iff.rfl (none_is ts))

pub same_test : (s t : Bool) → T s ↔ T t → s ≡ t
same_test true true h = refl
same_test true false h = absurd (h.0 tt)
same_test false true h = absurd (h.1 tt)
same_test false false h = refl

pub test_fails : (t : Bool) → T (not t) → t ≡ false
test_fails true h = absurd h
test_fails false h = refl

pub test_holds : (t : Bool) → (T (not t) → ⊥) → t ≡ true
test_holds true h = refl
test_holds false h = absurd (h tt)

pub not_both : {A : Type 0} {t : Bool} → t ≡ true → t ≡ false → A
not_both {t = true} y n = absurd (subst (λ (t : Bool). T t) n tt)
not_both {t = false} y n = absurd (subst (λ (t : Bool). T t) (sym y) tt)
