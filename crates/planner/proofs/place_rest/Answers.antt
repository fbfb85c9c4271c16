-- `planner::place_rest` meets its contract.
use Rattle.std.proofs.Common.{◌<◌, arith}
use Rattle.shelf.specs.Network.{most_modules, most_calls}
use Rattle.shelf.specs.Rows.{row_count}
use Rattle.planner.proofs.Placing.{none_so_far, placeable, next_so_far, moved_small, all_so_far}
use Rattle.planner.proofs.place_rest.Goals as goal
use Rattle.planner.proofs.place_rest.Goals.{In-loop-row}

-- the row of the loop
below : (c : In-loop-row) → c.loop-row.row < row_count c.args.calls.now
unfolding row_count
below c = omega (arith, c.loop-row-test.true)

pub loop-row-init : goal.loop-row-init
loop-row-init c = none_so_far c.requires

pub place-moved-requires : goal.place-moved-requires
place-moved-requires c =
    rw c.enter_call.ensures (placeable c.requires c.loop-row.invariant (below (goal.at.place-moved-requires c).In-loop-row))

pub overflow_add-moved : goal.overflow_add-moved
unfolding most_calls most_modules
overflow_add-moved c =
    record { fits = omega (arith, moved_small c.requires c.loop-row.invariant (below (goal.at.overflow_add-moved c).In-loop-row) (rw c.enter_call.ensures at c.place-moved.ensures)) }

pub loop-row-preserved : goal.loop-row-preserved
loop-row-preserved c =
    rw c.enter_call.ensures (next_so_far c.requires c.loop-row.invariant (below (goal.at.loop-row-preserved c).In-loop-row) (rw c.enter_call.ensures at c.place-moved.ensures))

pub returns : goal.returns
unfolding row_count
returns c = all_so_far c.requires c.loop-row.invariant (omega (arith, c.loop-row.auto.row-end, c.requires.start, c.loop-row-test.false))
