-- `dropping::drop` meets its contract: where a check refuses the buffers are as they were, else both tables are put at their front without the row.
use Rattle.std.proofs.Common.{List, ℕ, ◌+◌, ◌*◌, ◌<◌, arith, length}
use Rattle.shelf.specs.Rows.{row_count}
use Rattle.calls.specs.Verdict.{success}
use Rattle.calls.specs.VerdictLaws.{passed_zero}
use Rattle.calls.specs.RefusalLaws.{passed_on, refuses}
use Rattle.dropping.specs.Dropping.{Lent}
use Rattle.dropping.proofs.WithoutRow.{ClosesUp}
use Rattle.dropping.proofs.DroppingLaws.{can_drop, calls_close_up, settings_close_up, refused_drops, done_drops}
use Rattle.dropping.proofs.drop.Goals as goal
use Rattle.dropping.proofs.drop.Goals.{In_ok-check}

abbrev buffers : (calls settings : List ℕ) → Lent
buffers calls settings = record { calls = calls; settings = settings }

-- what is known when all checks passed
row_there : (c : In_ok-check) → c.args.row < row_count c.args.calls.now
row_there c = (can_drop _ _ _ _ (buffers c.args.calls_after.now c.args.settings_after.now) _ c.in_ok-check.ensures passed_zero).2

calls_close : (c : In_ok-check) → ClosesUp (4 * c.args.row) (4 * c.args.row + 4) (length c.args.calls.now) (length c.args.calls_after.now)
calls_close c = calls_close_up _ _ _ _ (buffers c.args.calls_after.now c.args.settings_after.now) _ c.in_ok-check.ensures passed_zero

settings_close : (c : In_ok-check) → ClosesUp (3 * c.args.row) (3 * c.args.row + 3) (length c.args.settings.now) (length c.args.settings_after.now)
settings_close c = settings_close_up _ _ _ _ (buffers c.args.calls_after.now c.args.settings_after.now) _ c.in_ok-check.ensures passed_zero

pub returns-in_err-check : goal.returns-in_err-check
returns-in_err-check c =
    rw (passed_on _ c.from_residual.ensures.1) (refused_drops _ _ _ _ (buffers _ _) _ c.in_err-check.ensures (refuses _))

pub overflow_sub-left : goal.overflow_sub-left
unfolding row_count
overflow_sub-left c = omega (arith, row_there (goal.at.overflow_sub-left c).In_ok-check)

pub close_up-requires : goal.close_up-requires
close_up-requires c = omega (arith, calls_close (goal.at.close_up-requires c).In_ok-check)

pub close_up-requires-2 : goal.close_up-requires-2
close_up-requires-2 c = omega (arith, settings_close (goal.at.close_up-requires-2 c).In_ok-check)

pub returns : goal.returns
unfolding success row_count
returns c =
    done_drops _ _ _ _ (buffers _ _) _ c.in_ok-check.ensures passed_zero _ _ c.close_up.ensures c.close_up-2.ensures
