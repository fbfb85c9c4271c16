-- What an add answers and writes, as functions of its input. The table that is made is `calls ++ call`, and its last row is K.
--   Lent                        == the three buffers that are lent
--   not_one_call call             == 2, the new call is not 4 bytes
--   short, no_room K c s m       == 4, buffers of c, s and m bytes lack room for K + 1 calls, K + 1 settings and K moved rows; Room, that
--                                  they have it
--   new_row_checks net table K    == 5, 6, 7, 8 of row K
--   add_checks, add_verdict       == the checks in their order; number and row
--   add_step net calls settings call == the step of the choice rule that places the new call
--   added_settings               == the settings of the table that is made
--   row_bytes rows               == numbers of rows, two bytes each
--   add_answer, add_buffers       == the answer, and the buffers afterwards
--   SameRow i s t               == row i has the same settings in both
--   AddsCall net calls settings call before after a == what the entry guarantees
use Rattle.std.specs.Prelude.{◌≡◌, ◌↔◌, Bool, true, false, not, cond, List, [], ◌∷◌, ◌++◌, ℕ, suc, ◌*◌, ◌≤◌, ◌<◌, eqb, ltb, length, take}
use Rattle.ground.specs.Truth.{any}
use Rattle.ground.specs.Bytes.{high_byte, low_byte, front}
use Rattle.ground.specs.Lists.{In, Distinct}
use Rattle.shelf.specs.declared.Network.{Network}
use Rattle.shelf.specs.Network.{cycle}
use Rattle.shelf.specs.Rows.{row_count, α, β, x, γ, y}
use Rattle.shelf.specs.Light.{Lawful}
use Rattle.shelf.specs.Order.{order}
use Rattle.calls.specs.declared.Verdict.{Verdict}
use Rattle.calls.specs.Verdict.{refused_if, answer}
use Rattle.calls.specs.Table.{too_many_calls, outside_at, point_at, InOrder}
use Rattle.choice.specs.Rule.{at, step, Step}
use Rattle.choice.specs.Rows.{centrals_of}
use Rattle.acceptance.specs.Acceptance.{acceptance}
use Rattle.planner.specs.declared.Planned.{Planned}
use Rattle.planner.specs.Planner.{settings_rows, overfull_at, NoneOverfull, SomeOverfull}

-- "the new tables go to lent buffers, the moved rows .. to a third"
pub record Lent : Type 0 where
  pub calls : List ℕ
  pub settings : List ℕ
  pub moved : List ℕ

-- 2: "for a new call that isn't 4 bytes"
unfoldable pub not_one_call : List ℕ → Verdict
not_one_call call = refused_if 2 0 (not (eqb (length call) 4))

-- 4: "room is for K+1 calls, K+1 settings and K moved rows"
unfoldable pub short : (K c s m : ℕ) → Bool
short K c s m = any (ltb c (4 * suc K) ∷ ltb s (3 * suc K) ∷ ltb m (2 * K) ∷ [])

abbrev pub no_room : (K c s m : ℕ) → Verdict
no_room K c s m = refused_if 4 0 (short K c s m)

pub record Room (K : ℕ) (before : Lent) : Type 0 where
  pub for_calls : 4 * suc K ≤ length before.calls
  pub for_settings : 3 * suc K ≤ length before.settings
  pub for_moved : 2 * K ≤ length before.moved

-- "then 5, 6, 7, 8 with the new row's number": each is the table's own check, of this row
unfoldable pub new_row_checks : Network → List ℕ → ℕ → List Verdict
new_row_checks net table K = outside_at net table K ∷ point_at table false 6 K ∷ point_at table true 7 K ∷ overfull_at net table K ∷ []

-- "acceptance of what is given comes first; then for an add 2 for a new call that isn't 4 bytes, 3 when K is 1,024, 4 .., then 5,
-- 6, 7, 8"
unfoldable pub add_checks : Network → (calls settings call : List ℕ) (c s m : ℕ) → List Verdict
add_checks net calls settings call c s m =
    let K = row_count calls in
    acceptance net calls settings ∷ not_one_call call ∷ too_many_calls (suc K) ∷ no_room K c s m ∷ new_row_checks net (calls ++ call) K

-- Success tells the K of the table written.
unfoldable pub add_verdict : Network → (calls settings call : List ℕ) → Lent → Verdict
add_verdict net calls settings call before =
    answer (add_checks net calls settings call (length before.calls) (length before.settings) (length before.moved)) (suc (row_count calls))

-- "Adding takes lawful settings and one new call, does a single step of the choice rule and appends the row"
unfoldable pub add_step : Network → (calls settings call : List ℕ) → Step
add_step net calls settings call = step (α (calls ++ call)) (β (calls ++ call)) (order net) (centrals_of settings) (row_count calls)

unfoldable pub added_settings : Network → (calls settings call : List ℕ) → List ℕ
added_settings net calls settings call =
    settings_rows (cycle net) (α (calls ++ call)) (β (calls ++ call)) (at (add_step net calls settings call).centrals) (suc (row_count calls))

-- "the moved rows, two bytes each, high first, .. in chain order"
unfoldable pub row_bytes : List ℕ → List ℕ
row_bytes [] = []
row_bytes (row ∷ rows) = high_byte row ∷ low_byte row ∷ row_bytes rows

-- "moved is their number"
unfoldable pub add_answer : Network → (calls settings call : List ℕ) → Lent → Planned
add_answer net calls settings call before =
    let v = add_verdict net calls settings call before in
    record { number = v.number; row = v.row; moved = cond (eqb v.number 0) (length (add_step net calls settings call).moved) 0 }

unfoldable pub add_buffers : Network → (calls settings call : List ℕ) → Lent → Lent
add_buffers net calls settings call before =
    cond (eqb (add_verdict net calls settings call before).number 0)
    (record {
      calls = front before.calls (calls ++ call);
      settings = front before.settings (added_settings net calls settings call);
      moved = front before.moved (row_bytes (add_step net calls settings call).moved);
    })
    before

pub record SameRow (i : ℕ) (s t : List ℕ) : Type 0 where
  pub same_x : x s i ≡ x t i
  pub same_γ : γ s i ≡ γ t i
  pub same_y : y s i ≡ y t i

pub record AddsCall (net : Network) (calls settings call : List ℕ) (before after : Lent) (a : Planned) : Type 0 where
  -- number, row and moved count, and every byte of the buffers, for every input
  pub answer : a ≡ add_answer net calls settings call before
  pub buffers : after ≡ add_buffers net calls settings call before
  -- a call is added exactly where lawful settings are given, the table with the call is in order, no module is overfull, and there
  -- is room
  pub exactly : (a.number ≡ 0)
      ↔ (Lawful net calls settings × (length call ≡ 4) × InOrder net (calls ++ call) × Room (row_count calls) before × NoneOverfull net (calls ++ call))
  -- 8 is told exactly where all but the last of these holds, and then no settings exist for the table with the call
  pub eight : (a.number ≡ 8)
      ↔ (Lawful net calls settings × (length call ≡ 4) × InOrder net (calls ++ call) × Room (row_count calls) before × SomeOverfull net (calls ++ call))
  pub impossible : a.number ≡ 8 → (any-settings : List ℕ) → Lawful net (calls ++ call) any-settings → ⊥
  -- what is written are the two tables and the moved rows, as many as are told, and the settings are lawful
  pub written : a.number ≡ 0
      → (take (4 * a.row) after.calls ≡ calls ++ call)
      × (take (3 * a.row) after.settings ≡ added_settings net calls settings call)
      × (take (2 * a.moved) after.moved ≡ row_bytes (add_step net calls settings call).moved)
  pub lawful : a.number ≡ 0 → Lawful net (calls ++ call) (added_settings net calls settings call)
  -- a row that is told is told once and has changed its central, and every other row keeps its settings
  pub told_once : a.number ≡ 0 → Distinct (add_step net calls settings call).moved
  pub told_moved : a.number ≡ 0 → (i : ℕ) → In i (add_step net calls settings call).moved → (i < row_count calls) × (γ (added_settings net calls settings call) i ≡ γ settings i → ⊥)
  pub others_kept : a.number ≡ 0 → (i : ℕ) → i < row_count calls → (In i (add_step net calls settings call).moved → ⊥) → SameRow i (added_settings net calls settings call) settings
  -- a refused call has moved 0 and changes no byte
  pub unchanged : (a.number ≡ 0 → ⊥) → (a.moved ≡ 0) × (after ≡ before)
  -- one row more
  pub tells_k : a.number ≡ 0 → (a.row ≡ suc (row_count calls)) × (a.row ≡ row_count (calls ++ call))
