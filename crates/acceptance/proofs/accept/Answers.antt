-- `acceptance::accept` meets its contract: the first check that refuses is the answer; that it is 0 exactly for lawful
-- settings is the law `accepts`.
use Rattle.std.proofs.Common.{refl, length}
use Rattle.shelf.specs.Rows.{row_count}
use Rattle.calls.specs.Verdict.{passed}
use Rattle.calls.specs.VerdictLaws.{turn_last}
use Rattle.calls.specs.RefusalLaws.{passed_on, err_stops, ok_goes_on, err_answers, ok_answers}
use Rattle.calls.specs.TableLaws.{size_checks_pass}
use Rattle.acceptance.specs.Acceptance.{acceptance}
use Rattle.acceptance.proofs.Exactly.{accepts}
use Rattle.acceptance.proofs.accept.Goals as goal

pub returns-in_err-check_sizes : goal.returns-in_err-check_sizes
unfolding acceptance
returns-in_err-check_sizes c =
    rw (passed_on _ c.from_residual.ensures.1) (accepts _ _ _ _ (err_answers _ _ _ (err_stops _ _ c.in_err-check_sizes.ensures)))

pub check_rows-requires : goal.check_rows-requires
unfolding passed
check_rows-requires c =
    let args = c.args in
    let p = (size_checks_pass args.net args.calls.now (length args.settings.now) 3).0 (rw (← c.in_ok-check_sizes.ensures) refl) in
    (p.0, p.2)

pub returns-in_err-check_rows : goal.returns-in_err-check_rows
unfolding acceptance
returns-in_err-check_rows c =
    rw (passed_on _ c.from_residual-in_err-check_rows.ensures.1) (accepts _ _ _ _ (err_answers _ _ _ (ok_goes_on _ _ c.in_ok-check_sizes.ensures (turn_last c.in_err-check_rows.ensures))))

pub returns : goal.returns
unfolding acceptance row_count
returns c = accepts _ _ _ _ (ok_answers _ _ (ok_goes_on _ _ c.in_ok-check_sizes.ensures (turn_last c.in_ok-check_rows.ensures)))
