-- Laws of kinds.
--   not_a_kind           == a number other than 1 to 4 is no kind
--   number_byte          == the number of a kind is a byte
--   no_settings, no_cycle == what is no kind has neither settings nor the cycle
--   settings_none, cycle_none == the kinds without settings, and those without the cycle, by their cases
--   by_kind              == what holds of the four kinds holds of every kind that there is
--   settings_of, cycle_of == what the kind is that has settings or not, and the cycle or not; kind_of that it is the only one; kind_taken
--                           that it is one of all, and kind_byte that it is a byte
--   old_is, new_is       == the old kinds are those without the cycle, and the new ones those with it
--   by_answer            == what a kind has that a number may tell, the number has: for code that asks the kind, where there is one
--   cycle_not_old        == no kind with the cycle is an old one
use Rattle.std.specs.Prelude.{◌≡◌, refl, ◌↔◌, Bool, true, false, ℕ, ◌≤◌, ◌<◌, T, Result, Ok, Err, MatchResult}
use Rattle.std.proofs.Math.Decide.{ℕ_discrete}
use Rattle.std.proofs.Common.{sym, ap, ◌∙◌, subst, arith, ne_eqb}
use Rattle.ground.specs.Truth.{all, any}
use Rattle.ground.specs.TruthLaws.{not_is, all_is, test_fails, not_both}
use Rattle.ground.specs.Numbers.{leb_is}
use Rattle.trailer.specs.declared.Kinds.{Kinds}
use Rattle.trailer.specs.declared.kind.Kind.{Kind}
use Rattle.trailer.specs.declared.kind.Kind.TheVariants.{CallsOnly, Planned, CallsWithCycle, PlannedWithCycle}
use Rattle.trailer.specs.declared.kind.UnknownKind.{UnknownKind}
use Rattle.trailer.specs.File.{calls_only, planned, calls_with_cycle, planned_with_cycle, kind_number, has_settings, has_cycle, kind_with, takes, old_kinds, new_kinds, all_kinds, Decodes}

pub takes_is : (kinds : Kinds) (kind : ℕ) → T (takes kinds kind) ↔ ((kinds.first ≤ kind) × (kind ≤ kinds.last))
unfolding takes
takes_is kinds kind = (
  λ h. let (low, (high, _)) = (all_is _).0 h in ((leb_is kinds.first kind).0 low, (leb_is kind kinds.last).0 high),
  λ h. (all_is _).1 ((leb_is kinds.first kind).1 h.0, ((leb_is kind kinds.last).1 h.1, tt)),
)

pub not_a_kind : (kind : ℕ) → (kind ≡ 1 → ⊥) → (kind ≡ 2 → ⊥) → (kind ≡ 3 → ⊥) → (kind ≡ 4 → ⊥) → takes all_kinds kind ≡ false
unfolding all_kinds calls_only planned_with_cycle
not_a_kind kind a b c d = test_fails _ ((not_is (takes all_kinds kind)).1 (λ h. let between = (takes_is all_kinds kind).0 h in omega arith))

pub number_byte : (kind : Kind) → kind_number kind < 256
unfolding calls_only planned calls_with_cycle planned_with_cycle
number_byte CallsOnly = omega arith
number_byte Planned = omega arith
number_byte CallsWithCycle = omega arith
number_byte PlannedWithCycle = omega arith

untaken : (kind : ℕ) → takes all_kinds kind ≡ false → (1 ≤ kind) × (kind ≤ 4) → ⊥
unfolding all_kinds calls_only planned_with_cycle
untaken kind none h = subst (λ (b : Bool). T b) none ((takes_is all_kinds kind).1 h)

pub no_settings : (kind : ℕ) → takes all_kinds kind ≡ false → has_settings kind ≡ false
unfolding has_settings any all_kinds calls_only planned planned_with_cycle
no_settings kind none =
    rw (ne_eqb kind 2 (λ e. untaken kind none (omega arith, omega arith)), ne_eqb kind 4 (λ e. untaken kind none (omega arith, omega arith))) refl

pub no_cycle : (kind : ℕ) → takes all_kinds kind ≡ false → has_cycle kind ≡ false
unfolding has_cycle any all_kinds calls_only calls_with_cycle planned_with_cycle
no_cycle kind none =
    rw (ne_eqb kind 3 (λ e. untaken kind none (omega arith, omega arith)), ne_eqb kind 4 (λ e. untaken kind none (omega arith, omega arith))) refl

pub settings_none : (kind : Kind) → (kind ≡ Planned → ⊥) → (kind ≡ PlannedWithCycle → ⊥) → has_settings (kind_number kind) ≡ false
unfolding has_settings any calls_only planned calls_with_cycle planned_with_cycle
settings_none CallsOnly a b = refl
settings_none Planned a b = absurd (a refl)
settings_none CallsWithCycle a b = refl
settings_none PlannedWithCycle a b = absurd (b refl)

pub cycle_none : (kind : Kind) → (kind ≡ CallsWithCycle → ⊥) → (kind ≡ PlannedWithCycle → ⊥) → has_cycle (kind_number kind) ≡ false
unfolding has_cycle any calls_only planned calls_with_cycle planned_with_cycle
cycle_none CallsOnly a b = refl
cycle_none Planned a b = refl
cycle_none CallsWithCycle a b = absurd (a refl)
cycle_none PlannedWithCycle a b = absurd (b refl)

pub by_kind : (P : ℕ → Type 0) → P calls_only → P planned → P calls_with_cycle → P planned_with_cycle → (kind : ℕ) → T (takes all_kinds kind) → P kind
unfolding all_kinds calls_only planned calls_with_cycle planned_with_cycle
by_kind P one two three four kind h =
    let between = (takes_is all_kinds kind).0 h in
    elim (ℕ_discrete kind 1) [
      | yes e ↦ rw e one
      | no a ↦ elim (ℕ_discrete kind 2) [
        | yes e ↦ rw e two
        | no b ↦ elim (ℕ_discrete kind 3) [
          | yes e ↦ rw e three
          | no c ↦ let e : kind ≡ 4 = omega arith in rw e four
        ]
      ]
    ]

-- ---- the two facts and the kind

pub settings_of : (settings cycle : Bool) → has_settings (kind_with settings cycle) ≡ settings
unfolding has_settings kind_with calls_only planned calls_with_cycle planned_with_cycle any
settings_of true true = refl
settings_of true false = refl
settings_of false true = refl
settings_of false false = refl

pub cycle_of : (settings cycle : Bool) → has_cycle (kind_with settings cycle) ≡ cycle
unfolding has_cycle kind_with calls_only planned calls_with_cycle planned_with_cycle any
cycle_of true true = refl
cycle_of true false = refl
cycle_of false true = refl
cycle_of false false = refl

pub kind_taken : (settings cycle : Bool) → T (takes all_kinds (kind_with settings cycle))
unfolding takes all all_kinds kind_with calls_only planned calls_with_cycle planned_with_cycle
kind_taken true true = tt
kind_taken true false = tt
kind_taken false true = tt
kind_taken false false = tt

pub kind_byte : (settings cycle : Bool) → kind_with settings cycle < 256
unfolding all_kinds planned_with_cycle
kind_byte settings cycle = omega (arith, ((takes_is all_kinds (kind_with settings cycle)).0 (kind_taken settings cycle)).1)

pub kind_of : (kind : ℕ) → T (takes all_kinds kind) → kind_with (has_settings kind) (has_cycle kind) ≡ kind
unfolding has_settings has_cycle kind_with calls_only planned calls_with_cycle planned_with_cycle any
kind_of = by_kind (λ (kind : ℕ). kind_with (has_settings kind) (has_cycle kind) ≡ kind) refl refl refl refl

-- ---- the kinds that readers take

pub old_is : (kind : ℕ) → T (takes old_kinds kind) ↔ (T (takes all_kinds kind) × (has_cycle kind ≡ false))
unfolding takes all old_kinds all_kinds has_cycle any calls_only planned calls_with_cycle planned_with_cycle
old_is kind = (
  λ h.
      let of_all_kinds = (takes_is all_kinds kind).1 (let b = (takes_is old_kinds kind).0 h in omega arith) in
      (of_all_kinds, by_kind (λ (k : ℕ). T (takes old_kinds k) → has_cycle k ≡ false) (λ t. refl) (λ t. refl) (λ t. absurd t) (λ t. absurd t) kind of_all_kinds h),
  λ h. by_kind (λ (k : ℕ). has_cycle k ≡ false → T (takes old_kinds k)) (λ e. tt) (λ e. tt) (λ e. not_both refl e) (λ e. not_both refl e) kind h.0 h.1,
)

pub new_is : (kind : ℕ) → T (takes new_kinds kind) ↔ (T (takes all_kinds kind) × (has_cycle kind ≡ true))
unfolding takes all new_kinds all_kinds has_cycle any calls_only planned calls_with_cycle planned_with_cycle
new_is kind = (
  λ h.
      let of_all_kinds = (takes_is all_kinds kind).1 (let b = (takes_is new_kinds kind).0 h in omega arith) in
      (of_all_kinds, by_kind (λ (k : ℕ). T (takes new_kinds k) → has_cycle k ≡ true) (λ t. absurd t) (λ t. absurd t) (λ t. refl) (λ t. refl) kind of_all_kinds h),
  λ h. by_kind (λ (k : ℕ). has_cycle k ≡ true → T (takes new_kinds k)) (λ e. not_both e refl) (λ e. not_both e refl) (λ e. tt) (λ e. tt) kind h.0 h.1,
)

pub cycle_not_old : (kind : ℕ) → has_cycle kind ≡ true → T (takes old_kinds kind) → ⊥
cycle_not_old kind e h = not_both e ((old_is kind).0 h).1

-- ---- the kind that a number tells

pub by_answer : (has : ℕ → Bool) → ((number : ℕ) → takes all_kinds number ≡ false → has number ≡ false)
    → (answer : Result Kind UnknownKind) (number : ℕ) (b : Bool) {P : Kind → Type 0} {Q : UnknownKind → Type 0} → Decodes number answer → MatchResult answer P Q
    → ((kind : Kind) → P kind → b ≡ has (kind_number kind)) → ((unknown : UnknownKind) → Q unknown → b ≡ false) → b ≡ has number
by_answer has none (Ok kind) number b d e p q = p kind e ∙ ap has d
by_answer has none (Err unknown) number b d e p q = q unknown e ∙ sym (none number d.1)
