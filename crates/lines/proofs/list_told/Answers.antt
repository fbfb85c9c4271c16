-- `lines::list_told` meets its contract: the reader's refusal, or the listing of the layout that it tells.
use Rattle.std.proofs.Common.{arith}
use Rattle.calls.specs.RefusalLaws.{refuses}
use Rattle.trailer.specs.Trailer.{refused_told}
use Rattle.lines.specs.Listing.{told_refused}
use Rattle.lines.specs.TextLaws.{first_line_room}
use Rattle.lines.specs.WritingLaws.{writes_same}
use Rattle.lines.proofs.list_told.Goals as goal

pub write_refusal-requires : goal.write_refusal-requires
write_refusal-requires c = omega (arith, first_line_room)

pub returns-in-Err : goal.returns-in-Err
unfolding refused_told
returns-in-Err c = writes_same c.write_refusal.ensures (told_refused _ _ c.in-Err.ensures.told.answer (refuses c.in-Err.refusal))
