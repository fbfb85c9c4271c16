-- `planner::plan` meets its contract: the answer and the buffer are the definitions'; what is owed follows by the law `plans`.
use Rattle.std.proofs.Common.{sym, ap, List, ◌++◌, ℕ, ◌*◌, drop}
use Rattle.shelf.specs.Rows.{row_count}
use Rattle.calls.specs.VerdictLaws.{passed_zero}
use Rattle.calls.specs.RefusalLaws.{passed_on, refuses}
use Rattle.planner.proofs.PlannerLaws.{plans_refused, room, plannable, plans_placed}
use Rattle.planner.proofs.plan.Goals as goal

pub returns-in_err-check : goal.returns-in_err-check
returns-in_err-check c =
    rw (passed_on _ c.from_residual.ensures.1) (plans_refused _ _ _ _ c.in_err-check.ensures (refuses _))

pub slice_bounds-place_and_write-end : goal.slice_bounds-place_and_write-end
unfolding row_count
slice_bounds-place_and_write-end c = room _ c.args.calls.now c.args.settings.now _ c.in_ok-check.ensures passed_zero

pub slice_bounds-place_and_write-end-2 : goal.slice_bounds-place_and_write-end-2
unfolding row_count
slice_bounds-place_and_write-end-2 c = sym (plannable _ _ _ _ c.in_ok-check.ensures passed_zero).whole

pub place_and_write-moved-requires : goal.place_and_write-moved-requires
unfolding row_count
place_and_write-moved-requires c = plannable _ _ _ _ c.in_ok-check.ensures passed_zero

pub returns : goal.returns
unfolding row_count
returns c =
    plans_placed _ _ _ _ c.in_ok-check.ensures passed_zero _ _
    (ap (λ (settings : List ℕ). settings ++ drop (3 * row_count c.args.calls.now) c.args.settings.now) c.place_and_write-moved.ensures.settings) c.place_and_write-moved.ensures.moved
