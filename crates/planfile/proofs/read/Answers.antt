-- `planfile::read` meets its contract: it tells what a reader of all kinds answers. What a file is that is not refused is the law `reads`.
use Rattle.std.proofs.Common.{◌≡◌, ap, rules}
use Rattle.trailer.specs.File.{all_kinds}
use Rattle.calls.specs.Refusal.{with_verdict}
use Rattle.trailer.specs.Trailer.{told_by}
use Rattle.planfile.specs.Reader.{file_answer, read_answer}
use Rattle.planfile.proofs.ReaderLaws.{reads}
use Rattle.planfile.proofs.read.Goals as goal

pub returns-clause-told : goal.returns-clause-told
unfolding read_answer
returns-clause-told c =
    let file = c.args.file.now in
    let checked : with_verdict c.check_file.result ≡ file_answer all_kinds file = search rules in
    reads _ _ (λ i. (c.type_inv.file i).fits) _ (ap told_by checked)
