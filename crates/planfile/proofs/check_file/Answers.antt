-- `planfile::check_file` meets its contract: the trailer's refusal, or that of the rows at the positions it tells, or the whole layout.
use Rattle.std.proofs.Common.{◌≡◌, refl, ap, ◌∙◌, Ok}
use Rattle.calls.specs.Verdict.{passed}
use Rattle.calls.specs.RefusalLaws.{passed_on, refuses}
use Rattle.calls.specs.Refusal.{with_verdict}
use Rattle.trailer.specs.Trailer.{trailer_verdict, layout_of, trailer_answer}
use Rattle.trailer.proofs.TrailerLaws.{trailer_passes, whole_case}
use Rattle.planfile.specs.Reader.{layout_checks}
use Rattle.planfile.proofs.ReaderLaws.{laid_out, trailer_refuses, rows_refuse, rows_pass}
use Rattle.planfile.proofs.check_file.Goals as goal
use Rattle.planfile.proofs.check_file.Goals.{In-Ok}

-- the layout is the one that the trailer tells, and the rows are those at its positions
told : (c : In-Ok) → ((trailer_verdict c.args.kinds c.args.file.now).number ≡ 0) × (c.in-Ok.layout ≡ layout_of c.args.file.now)
unfolding trailer_answer
told c = whole_case _ _ _ c.in-Ok.ensures.is_answer

pub returns-in_default : goal.returns-in_default
returns-in_default c = trailer_refuses _ _ _ c.take_trailer-answer.ensures.is_answer (ap with_verdict c.in_default.is)

pub check_layout-requires : goal.check_layout-requires
check_layout-requires c =
    let t = told (goal.at.check_layout-requires c).In-Ok in
    rw t.1 (laid_out _ _ ((trailer_passes _ _).0 t.0))

pub returns-in_err-check_layout : goal.returns-in_err-check_layout
returns-in_err-check_layout c =
    let t = told (goal.at.returns-in_err-check_layout c).In-Ok in
    rw (passed_on _ c.from_residual.ensures.1) (rows_refuse _ _ t.0 _ (c.in_err-check_layout.ensures ∙ ap (layout_checks c.args.file.now) t.1) (refuses _))

pub returns : goal.returns
unfolding passed
returns c =
    let t = told (goal.at.returns c).In-Ok in
    ap Ok t.1 ∙ rows_pass _ _ t.0 _ (c.in_ok-check_layout.ensures ∙ ap (layout_checks c.args.file.now) t.1) refl
