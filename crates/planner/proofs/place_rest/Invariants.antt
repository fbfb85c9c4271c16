-- `planner::place_rest` meets its contract. The loop's invariant: the calls of the rows passed so far are placed.
use Rattle.choice.specs.Placement.{earlier}
use Rattle.planner.proofs.Placing.{SoFar}
use Rattle.planner.proofs.place_rest.Given as goal

abbrev pub invariant-loop-row : goal.invariant-loop-row
invariant-loop-row l = SoFar l.net l.calls (earlier l.initial.rows l.first) l.first l.row l.rows l.used.words l.chain l.moved
