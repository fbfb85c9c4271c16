-- `adding::enter_calls` meets its contract. The loop's invariant: the modules of the calls passed so far are entered.
use Rattle.adding.specs.Steps.{Entered}
use Rattle.adding.proofs.enter_calls.Given as goal

abbrev pub invariant-loop-row : goal.invariant-loop-row
invariant-loop-row l = Entered l.calls l.initial.rows l.row l.rows
