-- What acceptance answers, as a function of its input.
--   has_numbers net x γ y  == the shelf has wavelengths and a central of these numbers; else 9
--   light_verdict net i ρ  == 9, 10 and 11 of row i, in this order
--   row_verdict net calls settings i == 9 to 13 of row i, in this order
--   unlawful_row net calls settings == the refusal of the first row that 9 to 13 refuse
--   row_checks net calls settings == acceptance from 5 on
--   acceptance net calls settings == the answer
--   Accepts net calls settings v  == what the entry guarantees of its answer v
use Rattle.std.specs.Prelude.{◌≡◌, ◌↔◌, Bool, not, List, [], ◌∷◌, ℕ, eqb, length}
use Rattle.ground.specs.Truth.{all}
use Rattle.ground.specs.Below.{used_earlier}
use Rattle.grating.specs.Grating.{exit_port}
use Rattle.shelf.specs.declared.Network.{Network}
use Rattle.shelf.specs.Network.{cycle, own_wavelength, has_central}
use Rattle.shelf.specs.Rows.{row_count, α, β, γ}
use Rattle.shelf.specs.Light.{Row, row_at, Lawful}
use Rattle.calls.specs.declared.Verdict.{Verdict}
use Rattle.calls.specs.Verdict.{refused_if, in_turn, answer, seek_rows}
use Rattle.calls.specs.Table.{size_checks, call_checks, InOrder}

-- 9: "x ≥ Λ, y ≥ Λ or γ ≥ m"
unfoldable pub has_numbers : Network → (x γ y : ℕ) → Bool
has_numbers net x γ y = all (own_wavelength net x ∷ own_wavelength net y ∷ has_central net γ ∷ [])

-- 10: "[x − α] is not γ"; 11: "[y − γ] is not β"
unfoldable pub light_verdict : Network → ℕ → Row → Verdict
light_verdict net i ρ =
    in_turn
    (refused_if 9 i (not (has_numbers net ρ.x ρ.γ ρ.y))
    ∷ refused_if 10 i (not (eqb (exit_port (cycle net) ρ.x ρ.α) ρ.γ))
    ∷ refused_if 11 i (not (eqb (exit_port (cycle net) ρ.y ρ.γ) ρ.β))
    ∷ [])

-- 12: "an earlier row has the same α and γ"; 13: "an earlier row has the same γ and β"
unfoldable pub row_verdict : Network → List ℕ → List ℕ → ℕ → Verdict
row_verdict net calls settings i =
    in_turn
    (light_verdict net i (row_at calls settings i)
    ∷ refused_if 12 i (used_earlier (α calls) (γ settings) i)
    ∷ refused_if 13 i (used_earlier (β calls) (γ settings) i)
    ∷ [])

-- "then rows from 0 on, each tried for 9 to 13 in turn"
unfoldable pub unlawful_row : Network → List ℕ → List ℕ → Verdict
unlawful_row net calls settings = seek_rows (row_count calls) (row_verdict net calls settings)

-- "Acceptance: 1, 2, 3, 5, 6, 7, then rows from 0 on .. it never gives 8." Given settings have 3 bytes per call.
unfoldable pub row_checks : Network → List ℕ → List ℕ → Verdict
row_checks net calls settings = in_turn (call_checks net calls ∷ unlawful_row net calls settings ∷ [])

unfoldable pub acceptance : Network → List ℕ → List ℕ → Verdict
acceptance net calls settings = answer (size_checks net (length calls) (length settings) 3 ∷ row_checks net calls settings ∷ []) (row_count calls)

pub record Accepts (net : Network) (calls settings : List ℕ) (v : Verdict) : Type 0 where
  -- number and row, for every input
  pub answer : v ≡ acceptance net calls settings
  -- "For any call table in order and any settings, acceptance says yes exactly when" they are lawful
  pub exactly : InOrder net calls → (v.number ≡ 0) ↔ Lawful net calls settings
  -- "Success is 0, with K in the place of the row"
  pub tells_k : v.number ≡ 0 → v.row ≡ row_count calls
