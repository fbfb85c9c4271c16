-- `planner::write_wavelengths` meets its contract. The loop's invariant: the rows passed so far stand at the front with their
-- wavelengths, and behind them the bytes are as they were.
use Rattle.std.proofs.Common.{◌≡◌, true, false, ◌++◌, ◌*◌, drop}
use Rattle.choice.specs.Rule.{at}
use Rattle.choice.specs.Rows.{module_in, centrals_of}
use Rattle.planner.specs.Planner.{settings_rows}
use Rattle.planner.proofs.write_wavelengths.Given as goal

abbrev pub invariant-loop-row : goal.invariant-loop-row
invariant-loop-row l = l.rows ≡ settings_rows l.cycle (module_in l.initial.rows false) (module_in l.initial.rows true) (at (centrals_of l.initial.rows)) l.row ++ drop (3 * l.row) l.initial.rows
