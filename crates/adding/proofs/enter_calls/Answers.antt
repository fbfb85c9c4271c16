-- `adding::enter_calls` meets its contract. The loop's invariant: the modules of the calls passed so far are entered.
use Rattle.std.proofs.Common.{◌<◌}
use Rattle.shelf.specs.Rows.{row_count}
use Rattle.adding.proofs.Entering.{one_entered}
use Rattle.adding.proofs.enter_calls.Goals as goal
use Rattle.adding.proofs.enter_calls.Goals.{In-loop-row}

below : (c : In-loop-row) → c.loop-row.row < row_count c.args.calls.now
unfolding row_count
below c = c.loop-row-test.true

pub loop-row-preserved : goal.loop-row-preserved
loop-row-preserved c =
    rw c.enter_call.ensures (one_entered _ _ c.requires.1 (below (goal.at.loop-row-preserved c).In-loop-row) c.loop-row.invariant)
