-- `lines::write_table` meets its contract: the first line and the lines of the rows stand one behind the other.
use Rattle.std.proofs.Common.{arith}
use Rattle.shelf.specs.Rows.{row_count}
use Rattle.lines.specs.Text.{table_text}
use Rattle.lines.specs.TextLaws.{listing_room, first_line_room}
use Rattle.lines.specs.WritingLaws.{writes_both}
use Rattle.lines.proofs.write_table.Goals as goal

pub write_first_line-requires : goal.write_first_line-requires
write_first_line-requires c = omega (arith, first_line_room)

pub write_rows-requires : goal.write_rows-requires
write_rows-requires c = (omega (arith, listing_room _ c.requires.1.few), c.requires.1)

pub returns : goal.returns
unfolding table_text row_count
returns c = writes_both c.write_first_line.ensures.written c.write_rows.ensures
