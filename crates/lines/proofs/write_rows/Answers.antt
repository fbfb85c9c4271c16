-- `lines::write_rows` meets its contract.
use Rattle.std.proofs.Common.{sym, add-one, arith}
use Rattle.std.proofs.Math.Nat.{le_antisymm}
use Rattle.shelf.specs.Rows.{row_count}
use Rattle.lines.specs.Text.{row_lines}
use Rattle.lines.specs.Writing.{byte_digits, row_digits, most_row_line}
use Rattle.lines.specs.WritingLaws.{writes_none, writes_both, writes_same}
use Rattle.lines.proofs.write_rows.Goals as goal

pub loop-row-init : goal.loop-row-init
unfolding row_lines
loop-row-init c = (writes_none _ (omega arith), omega arith)

pub write_row-requires : goal.write_row-requires
unfolding most_row_line row_digits byte_digits row_count
write_row-requires c =
    (omega arith, record { below = omega arith; a_call = omega arith; its_settings = omega arith })

pub loop-row-preserved : goal.loop-row-preserved
unfolding row_lines most_row_line
loop-row-preserved c =
    (writes_same (writes_both c.loop-row.invariant.0 c.write_row.ensures.written) (sym (rw (add-one c.loop-row.row))), omega arith)

pub returns : goal.returns
unfolding row_count
returns c = rw (← le_antisymm c.loop-row.auto.row-end c.loop-row-test.false) c.loop-row.invariant.0
