-- `calls::check_calls` meets its contract: the first search that refuses is the answer.
use Rattle.std.proofs.Common.{Bool, ℕ, ◌<◌, refl, rules}
use Rattle.shelf.specs.Rows.{row_count}
use Rattle.calls.specs.Verdict.{passed}
use Rattle.calls.specs.VerdictLaws.{turn_last}
use Rattle.calls.specs.RefusalLaws.{err_stops, ok_goes_on}
use Rattle.calls.specs.Table.{call_checks, PointFits}
use Rattle.calls.specs.TableLaws.{inside_points}
use Rattle.calls.proofs.check_calls.Goals as goal
use Rattle.calls.proofs.check_calls.Goals.{In_ok-seek_outside}

fits : (c : In_ok-seek_outside) (outlets : Bool) (i : ℕ) → i < row_count c.args.calls.now → PointFits c.args.calls.now outlets i
unfolding passed
fits c outlets = inside_points _ _ _ c.requires (rw (← c.in_ok-seek_outside.ensures) refl)

pub returns-in_err-seek_outside : goal.returns-in_err-seek_outside
unfolding call_checks
returns-in_err-seek_outside c = search (rules, err_stops)

pub seek_repeat-requires : goal.seek_repeat-requires
seek_repeat-requires c = fits (goal.at.seek_repeat-requires c).In_ok-seek_outside _

pub returns-in_err-seek_repeat : goal.returns-in_err-seek_repeat
unfolding call_checks
returns-in_err-seek_repeat c =
    search (rules, err_stops, ok_goes_on)

pub seek_repeat-requires-2 : goal.seek_repeat-requires-2
seek_repeat-requires-2 c = fits (goal.at.seek_repeat-requires-2 c).In_ok-seek_outside _

pub returns : goal.returns
unfolding call_checks
returns c = ok_goes_on _ _ c.in_ok-seek_outside.ensures (ok_goes_on _ _ c.in_ok-seek_repeat.ensures (turn_last c.seek_repeat-2.ensures))
