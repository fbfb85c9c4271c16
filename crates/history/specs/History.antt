-- The history of a shelf: any sequence of accepted adds and drops on one network record from an empty table, each given what the last
-- one wrote; and what is counted from it. In a list of events the latest stands first.
--   Move, Event          == the centrals that a moved call left and took; a call added, with its central and the moves, or a row dropped
--   rows_read bytes       == rows, read from two bytes each
--   moves_of rows s t     == what rows left and took, between the settings s and t
--   History net events calls settings == these tables come of these events
--   Entry, ledger events == every call that was added, in order of adding: it stands, or it is gone
--   drop_standing row es  == the call of this row, counted among those that are not gone, is gone
--   standing es          == the rows of the calls that are not gone, in order of adding
--   times c xs           == how often c stands in a list
--   on_central c settings == the calls on a central
--   first_placed, moved_in, moved_away, dropped_there c events == calls first placed there, moved in, moved away, dropped there
--   Held net events calls settings == what holds after any history
use Rattle.std.specs.Prelude.{◌≡◌, cond, List, [], ◌∷◌, ◌++◌, map, ℕ, zero, suc, ◌+◌, ◌*◌, ◌-◌, ◌≤◌, T, eqb, take}
use Rattle.shelf.specs.declared.Network.{Network}
use Rattle.shelf.specs.Network.{within_limits}
use Rattle.shelf.specs.Rows.{row_count, γ}
use Rattle.shelf.specs.Light.{Lawful}
use Rattle.calls.specs.declared.Verdict.{Verdict}
use Rattle.calls.specs.Table.{InOrder}
use Rattle.choice.specs.Rows.{centrals_of}
use Rattle.planner.specs.declared.Planned.{Planned}
use Rattle.adding.specs.Adding as adding
use Rattle.adding.specs.Adding.{AddsCall}
use Rattle.dropping.specs.Dropping as dropping
use Rattle.dropping.specs.Dropping.{DropsCall}

-- An event tells what can be seen of a step: the call with the central that it was first placed on, and of each moved call the central
-- that it left and the one that it took; or the row that was dropped and its central.
pub record Move : Type 0 where
  pub left : ℕ
  pub took : ℕ

pub data Event : Type 0 where
  added : (call : List ℕ) (placed : ℕ) (moves : List Move) → Event
  dropped : (row central : ℕ) → Event

-- "the moved rows, two bytes each, high first"
unfoldable pub rows_read : List ℕ → List ℕ
rows_read [] = []
rows_read (byte ∷ []) = []
rows_read (high ∷ low ∷ bytes) = (high * 256 + low) ∷ rows_read bytes

unfoldable pub moves_of : (rows s t : List ℕ) → List Move
moves_of rows s t = map (λ row. record { left = γ s row; took = γ t row }) rows

-- "Over any sequence of accepted adds and drops on one network record from an empty table, each given what the last one wrote": whatever
-- satisfies the two guarantees. What was written are the front bytes of the buffers, of as many rows as were told.
pub data History (net : Network) : List Event → (calls settings : List ℕ) → Type 0 where
  empty : History net [] [] []
  then_added : {events : List Event} {calls settings : List ℕ} → History net events calls settings
      → (call : List ℕ) (before after : adding.Lent) (a : Planned) → AddsCall net calls settings call before after a → a.number ≡ 0
      → History net
      (added call (γ (take (3 * a.row) after.settings) (row_count calls)) (moves_of (rows_read (take (2 * a.moved) after.moved)) settings (take (3 * a.row) after.settings)) ∷ events)
      (take (4 * a.row) after.calls) (take (3 * a.row) after.settings)
  then_dropped : {events : List Event} {calls settings : List ℕ} → History net events calls settings
      → (row : ℕ) (before after : dropping.Lent) (v : Verdict) → DropsCall net calls settings row before after v → v.number ≡ 0
      → History net (dropped row (γ settings row) ∷ events) (take (4 * v.row) after.calls) (take (3 * v.row) after.settings)

-- "the table is the calls added and not dropped, in order of adding"
pub data Entry : Type 0 where
  stands : (call : List ℕ) → Entry
  gone : (call : List ℕ) → Entry

unfoldable pub drop_standing : ℕ → List Entry → List Entry
drop_standing row [] = []
drop_standing row (gone call ∷ es) = gone call ∷ drop_standing row es
drop_standing zero (stands call ∷ es) = gone call ∷ es
drop_standing (suc row) (stands call ∷ es) = stands call ∷ drop_standing row es

unfoldable pub ledger : List Event → List Entry
ledger [] = []
ledger (added call placed moves ∷ events) = ledger events ++ (stands call ∷ [])
ledger (dropped row central ∷ events) = drop_standing row (ledger events)

unfoldable pub standing : List Entry → List ℕ
standing [] = []
standing (gone call ∷ es) = standing es
standing (stands call ∷ es) = call ++ standing es

-- "For each central, the calls on it equal those first placed there, plus moved in, less moved away, less dropped there, counted from
-- the history."
unfoldable pub times : ℕ → List ℕ → ℕ
times c [] = 0
times c (x ∷ xs) = cond (eqb x c) 1 0 + times c xs

unfoldable pub on_central : ℕ → List ℕ → ℕ
on_central c settings = times c (centrals_of settings)

unfoldable pub first_placed : ℕ → List Event → ℕ
first_placed c [] = 0
first_placed c (added call placed moves ∷ events) = times c (placed ∷ []) + first_placed c events
first_placed c (dropped row central ∷ events) = first_placed c events

unfoldable pub moved_in : ℕ → List Event → ℕ
moved_in c [] = 0
moved_in c (added call placed moves ∷ events) = times c (map (λ m. m.took) moves) + moved_in c events
moved_in c (dropped row central ∷ events) = moved_in c events

unfoldable pub moved_away : ℕ → List Event → ℕ
moved_away c [] = 0
moved_away c (added call placed moves ∷ events) = times c (map (λ m. m.left) moves) + moved_away c events
moved_away c (dropped row central ∷ events) = moved_away c events

unfoldable pub dropped_there : ℕ → List Event → ℕ
dropped_there c [] = 0
dropped_there c (added call placed moves ∷ events) = dropped_there c events
dropped_there c (dropped row central ∷ events) = times c (central ∷ []) + dropped_there c events

pub record Held (net : Network) (events : List Event) (calls settings : List ℕ) : Type 0 where
  pub table : calls ≡ standing (ledger events)
  -- the first event judges the record; before it nothing has
  pub in_order : T (within_limits net) → InOrder net calls
  pub lawful : Lawful net calls settings
  pub counted : (c : ℕ) → on_central c settings ≡ first_placed c events + moved_in c events - moved_away c events - dropped_there c events
  -- and no more than these ever left it
  pub covered : (c : ℕ) → moved_away c events + dropped_there c events ≤ first_placed c events + moved_in c events
