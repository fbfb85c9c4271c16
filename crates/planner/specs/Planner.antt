-- What the planner answers and writes, as functions of its input.
--   settings_row W α β γ i       == the three bytes of settings row i: the central γ i, and the wavelengths by the grating rule
--   settings_rows W α β γ k      == the settings of the rows below k, with gratings of cycle W
--   overfull net calls i        == with row i, its input module or its output module has more calls than there are centrals
--   room_refused calls room      == 4, output buffer too short
--   overfull_at, overfull_row net calls == 8, of one row, and sought over the whole table
--   planner_checks, planner_verdict net calls room == the checks in their order; number and row
--   chosen net calls            == the centrals and the chains, by the choice rule
--   planned_settings, planned_moved net calls == the settings, and how many calls were moved
--   plan_answer, plan_buffer      == the answer, and the output buffer afterwards
--   NoneOverfull, SomeOverfull  == no module, or some module, has more calls than there are centrals
--   Plans net calls before after a == what the entry guarantees
use Rattle.std.specs.Prelude.{◌≡◌, ◌↔◌, Bool, cond, List, [], ◌∷◌, ◌++◌, ℕ, zero, suc, ◌*◌, ◌≤◌, ◌<◌, eqb, ltb, length, take, drop}
use Rattle.ground.specs.Truth.{any}
use Rattle.grating.specs.Grating.{wavelength_between}
use Rattle.shelf.specs.declared.Network.{Network}
use Rattle.shelf.specs.Network.{cycle}
use Rattle.shelf.specs.Rows.{row_count, α, β, module_of}
use Rattle.shelf.specs.Light.{Lawful}
use Rattle.shelf.specs.Order.{order}
use Rattle.calls.specs.declared.Verdict.{Verdict}
use Rattle.calls.specs.Verdict.{refused_if, answer, seek_rows}
use Rattle.calls.specs.Table.{size_checks, call_checks, InOrder}
use Rattle.choice.specs.Rule.{at, Plan, plan, moved_by}
use Rattle.choice.specs.Colouring.{at_module}
use Rattle.planner.specs.declared.Planned.{Planned}

-- "a call through γ needs x = [α + γ] and y = [γ + β]"
abbrev pub settings_row : (W : ℕ) (α β γ : ℕ → ℕ) → ℕ → List ℕ
settings_row W α β γ i = wavelength_between W (α i) (γ i) ∷ γ i ∷ wavelength_between W (γ i) (β i) ∷ []

unfoldable pub settings_rows : (W : ℕ) (α β γ : ℕ → ℕ) → ℕ → List ℕ
settings_rows W α β γ zero = []
settings_rows W α β γ (suc k) = settings_rows W α β γ k ++ settings_row W α β γ k

-- 8: "with this row, α or β has m+1 calls"
unfoldable pub overfull : Network → List ℕ → ℕ → Bool
overfull net calls i = any (
    ltb (length (order net)) (length (at_module (α calls) (suc i) (α calls i)))
    ∷ ltb (length (order net)) (length (at_module (β calls) (suc i) (β calls i)))
    ∷ []
    )

abbrev pub overfull_at : Network → List ℕ → ℕ → Verdict
overfull_at net calls i = refused_if 8 i (overfull net calls i)

unfoldable pub overfull_row : Network → List ℕ → Verdict
overfull_row net calls = seek_rows (row_count calls) (overfull_at net calls)

-- 4: "output buffer too short"
unfoldable pub room_refused : List ℕ → ℕ → Verdict
room_refused calls room = refused_if 4 0 (ltb room (3 * row_count calls))

-- "Planner: 1, 2, 3, 4, 5, 6, 7, 8." No settings are given.
unfoldable pub planner_checks : Network → List ℕ → ℕ → List Verdict
planner_checks net calls room = size_checks net (length calls) 0 0 ∷ room_refused calls room ∷ call_checks net calls ∷ overfull_row net calls ∷ []

unfoldable pub planner_verdict : Network → List ℕ → ℕ → Verdict
planner_verdict net calls room = answer (planner_checks net calls room) (row_count calls)

-- "The planner's settings are these and no others."
unfoldable pub chosen : Network → List ℕ → Plan
chosen net calls = plan (α calls) (β calls) (order net) (row_count calls)

unfoldable pub planned_settings : Network → List ℕ → List ℕ
planned_settings net calls = settings_rows (cycle net) (α calls) (β calls) (at (chosen net calls).centrals) (row_count calls)

unfoldable pub planned_moved : Network → List ℕ → ℕ
planned_moved net calls = moved_by (chosen net calls).chains

-- "All refusals have moved 0 and write nothing anywhere. Success writes the first 3K bytes (planner) ..; bytes beyond keep
-- their values."
unfoldable pub plan_answer : Network → List ℕ → ℕ → Planned
plan_answer net calls room =
    let v = planner_verdict net calls room in
    record { number = v.number; row = v.row; moved = cond (eqb v.number 0) (planned_moved net calls) 0 }

unfoldable pub plan_buffer : Network → List ℕ → List ℕ → List ℕ
plan_buffer net calls before =
    cond (eqb (planner_verdict net calls (length before)).number 0)
    (planned_settings net calls ++ drop (3 * row_count calls) before)
    before

abbrev pub NoneOverfull : Network → List ℕ → Type 0
NoneOverfull net calls = (output : Bool) (v : ℕ) → length (at_module (module_of calls output) (row_count calls) v) ≤ length (order net)

abbrev pub SomeOverfull : Network → List ℕ → Type 0
SomeOverfull net calls = (output : Bool) × (v : ℕ) × (length (order net) < length (at_module (module_of calls output) (row_count calls) v))

pub record Plans (net : Network) (calls before after : List ℕ) (a : Planned) : Type 0 where
  -- number, row and moved count, and every byte of the buffer, for every input
  pub answer : a ≡ plan_answer net calls (length before)
  pub buffer : after ≡ plan_buffer net calls before
  -- "The planner yields accepted settings whenever no module has more calls than there are centrals"
  pub owed : InOrder net calls → 3 * row_count calls ≤ length before → NoneOverfull net calls → (a.number ≡ 0) × Lawful net calls (take (3 * row_count calls) after)
  -- "when one has more it refuses": with 8, and 8 is told of no other tables
  pub eight : (a.number ≡ 8) ↔ (InOrder net calls × (3 * row_count calls ≤ length before) × SomeOverfull net calls)
  -- "and then no settings exist that would be accepted", whatever room is lent
  pub impossible : InOrder net calls → SomeOverfull net calls → (settings : List ℕ) → Lawful net calls settings → ⊥
  -- a refused call has moved 0 and changes no byte
  pub unchanged : (a.number ≡ 0 → ⊥) → (a.moved ≡ 0) × (after ≡ before)
  -- "Success is 0, with K in the place of the row"
  pub tells_k : a.number ≡ 0 → a.row ≡ row_count calls
