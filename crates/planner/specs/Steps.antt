-- What the planner's own functions rest on and leave.
--   refusals net calls room     == all refusals in their order, as a check that passes or refuses
--   Counted t t' p c            == the count at the place p is one more, and c
--   AllFit net calls            == no row overfills a module
--   Plannable net calls rows    == the calls can be placed: a table in order, no module overfull, and a row for each call
--   plan_on α β order centrals first k == the plan of the rows below k, when those below `first` have these centrals; planned, that of a
--                                  table's calls
--   Ready net calls rows first used chain == the calls of the rows from `first` on can be placed, whatever colours the rows before
--   Told net calls centrals first k chain == of the last row placed, the chain is told
--   AllPlaced net calls rows rows' first chain moved == every row holds its call's modules and the central that the choice rule gives it
--   Passable W rows i           == the modules and the central of row i are ports of gratings of cycle W
--   Writable W rows             == so it is of every row
use Rattle.std.specs.Prelude.{◌≡◌, Bool, cond, List, [], ◌∷◌, ◌++◌, ℕ, zero, suc, ◌+◌, ◌*◌, ◌-◌, ◌≤◌, ◌<◌, ltb, length, get_or, set}
use Rattle.shelf.specs.declared.Network.{Network}
use Rattle.shelf.specs.Network.{most_wavelengths}
use Rattle.shelf.specs.Rows.{row_count, α, β, module_of}
use Rattle.shelf.specs.Order.{order}
use Rattle.calls.specs.declared.Verdict.{Verdict}
use Rattle.calls.specs.Verdict.{in_turn}
use Rattle.calls.specs.Table.{InOrder}
use Rattle.choice.specs.Rule.{at, step, Plan, moved_by}
use Rattle.choice.specs.Colouring.{Fine, Fits}
use Rattle.choice.specs.Rows.{module_in, centrals_of}
use Rattle.choice.specs.Record.{Recorded}
use Rattle.choice.specs.Placement.{chain_places, telling, earlier}
use Rattle.choice.specs.Agree.{Agree}
use Rattle.planner.specs.Planner.{planner_checks}

unfoldable pub refusals : Network → List ℕ → ℕ → Verdict
refusals net calls room = in_turn (planner_checks net calls room)

pub record Counted (tally tally' : List ℕ) (p c : ℕ) : Type 0 where
  pub count : c ≡ get_or tally p 0 + 1
  pub stored : tally' ≡ set tally p (get_or tally p 0 + 1)

abbrev pub AllFit : Network → List ℕ → Type 0
AllFit net calls = (i : ℕ) → i < row_count calls → Fits (α calls) (order net) i × Fits (β calls) (order net) i

pub record Plannable (net : Network) (calls rows : List ℕ) : Type 0 where
  pub table : InOrder net calls
  pub fits : AllFit net calls
  pub whole : length rows ≡ 3 * row_count calls

-- "Calls are taken in row order", from row `first` on
unfoldable pub plan_on : (α β : ℕ → ℕ) (order centrals : List ℕ) (first k : ℕ) → Plan
plan_on α β order centrals first zero = record { centrals = centrals; chains = [] }
plan_on α β order centrals first (suc k) =
    let before = plan_on α β order centrals first k in
    let after = step α β order before.centrals k in
    cond (ltb k first) (record { centrals = centrals; chains = [] }) (record { centrals = after.centrals; chains = before.chains ++ (after.moved ∷ []) })

abbrev pub planned : Network → (calls centrals : List ℕ) (first k : ℕ) → Plan
planned net calls centrals first k = plan_on (α calls) (β calls) (order net) centrals first k

pub record Ready (net : Network) (calls rows : List ℕ) (first : ℕ) (used chain : List ℕ) : Type 0 where
  pub table : InOrder net calls
  pub start : first ≤ row_count calls
  pub fits : (i : ℕ) → first ≤ i → i < row_count calls → Fits (α calls) (order net) i × Fits (β calls) (order net) i
  pub whole : length rows ≡ 3 * row_count calls
  pub modules : (output : Bool) → Agree (module_in rows output) (module_of calls output) first
  pub fine : Fine (α calls) (β calls) (order net) (at (earlier rows first)) first
  pub recorded : Recorded (module_of calls) (at (earlier rows first)) first used
  pub places : length chain ≡ chain_places

abbrev pub Told : Network → (calls centrals : List ℕ) (first k : ℕ) (chain : List ℕ) → Type 0
Told net calls centrals first k chain =
    (j : ℕ) → k ≡ suc j → first ≤ j
    → (before : List ℕ) × (length before ≡ chain_places) × (chain ≡ telling before (2 * net.r - 1) (step (α calls) (β calls) (order net) (planned net calls centrals first j).centrals j).moved)

pub record AllPlaced (net : Network) (calls rows rows' : List ℕ) (first : ℕ) (chain : List ℕ) (moved : ℕ) : Type 0 where
  pub size : length rows' ≡ length rows
  pub modules : (output : Bool) (i : ℕ) → i < row_count calls → module_in rows' output i ≡ module_of calls output i
  pub centrals : centrals_of rows' ≡ (planned net calls (earlier rows first) first (row_count calls)).centrals
  pub moved_is : moved ≡ moved_by (planned net calls (earlier rows first) first (row_count calls)).chains
  pub told : Told net calls (earlier rows first) first (row_count calls) chain

pub record Passable (W : ℕ) (rows : List ℕ) (i : ℕ) : Type 0 where
  pub small : W ≤ most_wavelengths
  pub input : get_or rows (3 * i) 0 < W
  pub central : get_or rows (3 * i + 1) 0 < W
  pub output : get_or rows (3 * i + 2) 0 < W

pub record Writable (W : ℕ) (rows : List ℕ) : Type 0 where
  pub K : ℕ
  pub whole : length rows ≡ 3 * K
  pub passable : (i : ℕ) → i < K → Passable W rows i
