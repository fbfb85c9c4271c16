-- `acceptance::check_rows` meets its contract: the call checks first, and the rows where they pass.
use Rattle.std.proofs.Common.{refl, rules}
use Rattle.calls.specs.Verdict.{passed}
use Rattle.calls.specs.VerdictLaws.{turn_last}
use Rattle.calls.specs.RefusalLaws.{err_stops, ok_goes_on}
use Rattle.calls.specs.TableLaws.{call_checks_pass}
use Rattle.acceptance.specs.Acceptance.{row_checks}
use Rattle.acceptance.proofs.check_rows.Goals as goal

pub returns-in_err-check_calls : goal.returns-in_err-check_calls
unfolding row_checks
returns-in_err-check_calls c = search (rules, err_stops)

pub seek_unlawful-requires : goal.seek_unlawful-requires
unfolding passed
seek_unlawful-requires c =
    let pre = c.requires in
    (pre.0, pre.1, ((call_checks_pass _ _).0 (rw (← c.in_ok-check_calls.ensures) refl)).0)

pub returns : goal.returns
unfolding row_checks
returns c = ok_goes_on _ _ c.in_ok-check_calls.ensures (turn_last c.seek_unlawful.ensures)
