-- What the functions of an add rest on and leave.
--   NewRow net calls call       == calls of whole rows, between modules and channels of the largest network, and one call more
--   Entered calls rows k rows'  == the modules of the calls below k stand in their rows, and every central is as it was
--   Addable net table settings rows moved == the last call of the table can be placed: a table in order, a proper colouring of the rows
--                                  before it, room at its modules, and room for what is written
--   last_row settings, placing net table settings == its row, behind those that have settings, and the step that places it
--   SettingsAdded net table settings rows' told told' moved == what was written
--   rows_told chain start n      == n rows of a chain, told from the place below `start` down
--   Tellable chain start moved out == they stand in the chain, and there is room for two bytes each
use Rattle.std.specs.Prelude.{◌≡◌, Bool, List, [], ◌∷◌, ◌++◌, ℕ, zero, suc, ◌+◌, ◌*◌, ◌-◌, ◌/◌, ◌≤◌, ◌<◌, T, length, get_or}
use Rattle.ground.specs.Bytes.{front}
use Rattle.shelf.specs.declared.Network.{Network}
use Rattle.shelf.specs.Network.{within_limits, cycle, most_calls}
use Rattle.shelf.specs.Rows.{row_count, α, β, module_of}
use Rattle.shelf.specs.Order.{order}
use Rattle.calls.specs.Table.{Inside, InOrder}
use Rattle.choice.specs.Rule.{at, step, Step}
use Rattle.choice.specs.Colouring.{at_module, Fine}
use Rattle.choice.specs.Rows.{module_in, centrals_of}
use Rattle.choice.specs.Agree.{Agree}
use Rattle.choice.specs.Placement.{chain_places}
use Rattle.planner.specs.Planner.{settings_rows}
use Rattle.adding.specs.Adding.{row_bytes}

pub record NewRow (net : Network) (calls call : List ℕ) : Type 0 where
  pub limits : T (within_limits net)
  pub whole : length calls ≡ 4 * row_count calls
  pub few : row_count calls < most_calls
  pub inside : (i : ℕ) → i < row_count calls → Inside net calls i
  pub one : length call ≡ 4

pub record Entered (calls rows : List ℕ) (k : ℕ) (rows' : List ℕ) : Type 0 where
  pub below : k ≤ row_count calls
  pub size : length rows' ≡ length rows
  pub modules : (output : Bool) → Agree (module_in rows' output) (module_of calls output) k
  pub centrals : (i : ℕ) → get_or rows' (3 * i + 1) 0 ≡ get_or rows (3 * i + 1) 0

abbrev pub last_row : List ℕ → ℕ
last_row settings = length settings / 3

abbrev pub placing : Network → (table settings : List ℕ) → Step
placing net table settings = step (α table) (β table) (order net) (centrals_of settings) (last_row settings)

pub record Addable (net : Network) (table settings rows moved : List ℕ) : Type 0 where
  pub table_whole : row_count table ≡ suc (last_row settings)
  pub settings_whole : length settings ≡ 3 * last_row settings
  pub rows_whole : length rows ≡ 3 * suc (last_row settings)
  pub moved_room : 2 * last_row settings ≤ length moved
  pub in_order : InOrder net table
  pub fine : Fine (α table) (β table) (order net) (at (centrals_of settings)) (last_row settings)
  pub room : (output : Bool) → length (at_module (module_of table output) (last_row settings) (module_of table output (last_row settings))) < length (order net)

pub record SettingsAdded (net : Network) (table settings rows' told told' : List ℕ) (moved : ℕ) : Type 0 where
  pub rows_are : rows' ≡ settings_rows (cycle net) (α table) (β table) (at (placing net table settings).centrals) (suc (last_row settings))
  pub moved_is : moved ≡ length (placing net table settings).moved
  pub told_are : told' ≡ front told (row_bytes (placing net table settings).moved)

unfoldable pub rows_told : (chain : List ℕ) (start n : ℕ) → List ℕ
rows_told chain start zero = []
rows_told chain start (suc n) = rows_told chain start n ++ (get_or chain (start - 1 - n) 0 ∷ [])

pub record Tellable (chain : List ℕ) (start moved : ℕ) (out : List ℕ) : Type 0 where
  pub places : start ≤ chain_places
  pub all_there : moved ≤ start
  pub room : 2 * moved ≤ length out
