-- `planner::seek_overfull` meets its contract. The loop's invariant: the counts are those of the rows passed so far, and none of
-- those rows overfills a module.
use Rattle.std.proofs.Common.{◌≡◌}
use Rattle.calls.specs.Verdict.{passed, refused_if, seek_rows}
use Rattle.planner.specs.Planner.{overfull}
use Rattle.planner.proofs.Tally.{Tally}
use Rattle.planner.proofs.seek_overfull.Given as goal

abbrev pub invariant-loop-row : goal.invariant-loop-row
invariant-loop-row l = Tally l.calls l.tally l.row × (seek_rows l.row (λ i. refused_if 8 i (overfull l.net l.calls i)) ≡ passed)
