-- Answers, and the order in which refusals are tried.
--   passed               == nothing is refused
--   success k            == number 0, with K in the place of the row
--   refused_if number row bad == refusal `number` with this row where `bad`
--   v ⨾ w                == v where it refuses, else w
--   in_turn vs            == verdicts tried in order: the first that refuses, or else the last
--   answer vs k          == an entry's answer: the first refusal of the list, or else success with k
--   Each P vs            == P holds of the number of each verdict, one part for each from the front; AllPass vs, each is 0
--   seek_rows k judge     == the refusal of the first row below k that is refused
use Rattle.std.specs.Prelude.{◌≡◌, Bool, cond, List, [], ◌∷◌, ℕ, zero, suc, eqb}
use Rattle.calls.specs.declared.Verdict.{Verdict}

-- "An answer is a number, a row .. Success is 0, with K in the place of the row"
unfoldable pub success : ℕ → Verdict
success k = record { number = 0; row = k }

unfoldable pub passed : Verdict
passed = record { number = 0; row = 0 }

unfoldable pub refused_if : ℕ → ℕ → Bool → Verdict
refused_if number row bad = cond bad (record { number = number; row = row }) passed

infixr 30 ◌⨾◌
unfoldable pub ◌⨾◌ : Verdict → Verdict → Verdict
v ⨾ w = cond (eqb v.number 0) w v

unfoldable pub in_turn : List Verdict → Verdict
in_turn [] = passed
in_turn (v ∷ []) = v
in_turn (v ∷ w ∷ vs) = v ⨾ in_turn (w ∷ vs)

unfoldable pub answer : List Verdict → ℕ → Verdict
answer vs k = in_turn vs ⨾ success k

abbrev pub Each : (ℕ → Type 0) → List Verdict → Type 0
Each P [] = Unit {0}
Each P (v ∷ vs) = P v.number × Each P vs

abbrev pub AllPass : List Verdict → Type 0
AllPass = Each (λ n. n ≡ 0)

-- "A refusal sought row by row tells the first such row, any other row 0."
unfoldable pub seek_rows : ℕ → (ℕ → Verdict) → Verdict
seek_rows zero judge = passed
seek_rows (suc k) judge = seek_rows k judge ⨾ judge k
