-- `lines::write_refusal` meets its contract: the words and numbers of a refusal stand one behind the other.
use Rattle.std.proofs.Common.{sym, ◌≤◌, arith, length}
use Rattle.calls.specs.Refusal.{number_of, row_of}
use Rattle.lines.specs.Text.{newline, decimal}
use Rattle.lines.specs.TextLaws.{number_length, refused_is}
use Rattle.lines.specs.Writing.{number_digits, most_sizes, most_first_line}
use Rattle.lines.specs.WritingLaws.{writes_both, writes_same}
use Rattle.lines.proofs.write_refusal.Goals as goal
use Rattle.lines.proofs.write_refusal.Goals.{After-row-row}

-- the digits of the two numbers
digits : (c : After-row-row) → (length (decimal c.number-number.result) ≤ number_digits) × (length (decimal c.row-row.result) ≤ number_digits)
digits c = (number_length _ c.number-number.type_inv, number_length _ c.row-row.type_inv)

pub bytes-requires : goal.bytes-requires
unfolding most_first_line most_sizes number_digits
bytes-requires c = omega arith

pub number-requires : goal.number-requires
unfolding most_first_line most_sizes number_digits
number-requires c = omega (arith, digits (goal.at.number-requires c).After-row-row)

pub bytes-requires-2 : goal.bytes-requires-2
unfolding most_first_line most_sizes number_digits
bytes-requires-2 c = omega (arith, digits (goal.at.bytes-requires-2 c).After-row-row)

pub number-requires-2 : goal.number-requires-2
unfolding most_first_line most_sizes number_digits
number-requires-2 c = omega (arith, digits (goal.at.number-requires-2 c).After-row-row)

pub byte-requires : goal.byte-requires
unfolding most_first_line most_sizes number_digits
byte-requires c = omega (arith, digits (goal.at.byte-requires c).After-row-row)

pub returns : goal.returns
unfolding newline
returns c =
    let two = writes_both c.bytes.ensures c.number.ensures in
    let four = writes_both (writes_both two c.bytes-2.ensures) c.number-2.ensures in
    let text = sym (refused_is (number_of c.args.refusal) (row_of c.args.refusal)) in
    writes_same (writes_both four c.byte.ensures) (rw (c.number-number.ensures, c.row-row.ensures) text)
