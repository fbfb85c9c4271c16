-- `lines::write_row` meets its contract: the numbers are those of the call row and the settings row.
use Rattle.std.proofs.Common.{arith, length-append}
use Rattle.lines.specs.TextLaws.{RowWidths, row_line_told, row_widths}
use Rattle.lines.specs.Writing.{most_row_line, spaced}
use Rattle.lines.specs.WritingLaws.{writes_same}
use Rattle.lines.proofs.write_row.Goals as goal
use Rattle.lines.proofs.write_row.Goals.{After-at-light}

widths : (c : After-at-light) → RowWidths c.args.row c.at-call.result c.at-light.result
widths c = row_widths _ _ _ c.requires.1.below _ _ c.at-call.ensures c.at-light.ensures

pub line-requires : goal.line-requires
unfolding most_row_line spaced
line-requires c = simp length-append (omega (arith, widths (goal.at.line-requires c).After-at-light))

pub returns : goal.returns
unfolding most_row_line spaced
returns c = record {
  written = writes_same c.line.ensures (row_line_told _ _ _ c.requires.1.below _ _ c.at-call.ensures c.at-light.ensures);
  short = omega (arith, simp length-append at c.line.ensures.adds.is_next, widths (goal.at.returns c).After-at-light);
}
