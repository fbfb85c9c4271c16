-- `planwriter::write` meets its contract: where a check refuses the buffer is as it was, else the file is put at its front.
use Rattle.std.proofs.Common.{refl}
use Rattle.shelf.specs.Rows.{row_count}
use Rattle.calls.specs.Verdict.{success, passed}
use Rattle.calls.specs.RefusalLaws.{passed_on, refuses}
use Rattle.trailer.proofs.KindLaws.{number_byte}
use Rattle.planwriter.proofs.WriterLaws.{has_room, refused_writes, done_writes}
use Rattle.planwriter.proofs.write.Goals as goal

pub returns-in_err-check_parts : goal.returns-in_err-check_parts
returns-in_err-check_parts c =
    rw (passed_on _ c.from_residual.ensures.1, ← c.number-kind.ensures) (refused_writes _ _ _ _ _ _ _ c.in_err-check_parts.ensures (refuses _))

pub put_file-requires : goal.put_file-requires
unfolding passed
put_file-requires c = (rw c.number-kind.ensures (number_byte c.args.kind), has_room _ _ _ _ _ c.args.out.now _ c.in_ok-check_parts.ensures refl)

pub returns : goal.returns
unfolding success row_count passed
returns c = rw (← c.number-kind.ensures) (done_writes _ _ _ _ _ _ _ c.in_ok-check_parts.ensures refl _ c.put_file.ensures)
