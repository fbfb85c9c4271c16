-- `planner::check` meets its contract: the first check that refuses is the answer.
use Rattle.std.proofs.Common.{lt-ltb, le-ltb, refl, rules}
use Rattle.shelf.specs.Rows.{row_count}
use Rattle.calls.specs.Verdict.{passed}
use Rattle.calls.specs.VerdictLaws.{test_stops, test_goes_on, turn_last}
use Rattle.calls.specs.RefusalLaws.{passed_on, err_stops, ok_goes_on}
use Rattle.calls.specs.TableLaws.{size_checks_pass, call_checks_pass}
use Rattle.planner.specs.Planner.{room_refused, planner_checks}
use Rattle.planner.specs.Steps.{refusals}
use Rattle.planner.proofs.check.Goals as goal

pub returns-in_err-check_sizes : goal.returns-in_err-check_sizes
unfolding refusals planner_checks
returns-in_err-check_sizes c = search (rules, err_stops)

pub returns-then-room-needed : goal.returns-then-room-needed
unfolding refusals planner_checks room_refused row_count
returns-then-room-needed c = ok_goes_on _ _ c.in_ok-check_sizes.ensures (test_stops 3 0 _ (lt-ltb _ _ c.if-room-needed.true))

pub check_calls-requires : goal.check_calls-requires
unfolding passed
check_calls-requires c = ((size_checks_pass _ c.args.calls.now 0 0).0 (rw (← c.in_ok-check_sizes.ensures) refl)).0

pub returns-in_err-check_calls : goal.returns-in_err-check_calls
unfolding refusals planner_checks room_refused row_count
returns-in_err-check_calls c =
    rw (passed_on _ c.from_residual-in_err-check_calls.ensures.1) (ok_goes_on _ _ c.in_ok-check_sizes.ensures (test_goes_on 4 0 _ _ (le-ltb _ _ c.if-room-needed.false) (err_stops _ _ c.in_err-check_calls.ensures)))

pub seek_overfull-requires : goal.seek_overfull-requires
unfolding passed
seek_overfull-requires c =
    (((size_checks_pass _ c.args.calls.now 0 0).0 (rw (← c.in_ok-check_sizes.ensures) refl)).0, ((call_checks_pass _ _).0 (rw (← c.in_ok-check_calls.ensures) refl)).0)

pub returns : goal.returns
unfolding refusals planner_checks room_refused row_count
returns c =
    ok_goes_on _ _ c.in_ok-check_sizes.ensures
    (test_goes_on 4 0 _ _ (le-ltb _ _ c.if-room-needed.false) (ok_goes_on _ _ c.in_ok-check_calls.ensures (turn_last c.seek_overfull.ensures)))
