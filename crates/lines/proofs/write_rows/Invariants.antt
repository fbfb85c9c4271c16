-- `lines::write_rows` meets its contract. The loop's invariant: the lines of the rows passed so far are written.
use Rattle.std.proofs.Common.{◌+◌, ◌*◌, ◌≤◌}
use Rattle.lines.specs.Text.{row_lines}
use Rattle.lines.specs.Writing.{most_row_line, WritesText}
use Rattle.lines.proofs.write_rows.Given as goal

abbrev pub invariant-loop-row : goal.invariant-loop-row
invariant-loop-row l =
    WritesText l.initial.text l.text (row_lines l.calls l.settings l.row) × (l.text.end ≤ l.initial.text.end + most_row_line * l.row)
