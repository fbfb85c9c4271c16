-- `lines::write_first_line` meets its contract: the sizes, K and the moved count stand one behind the other.
use Rattle.std.proofs.Common.{◌≤◌, sym, arith, [], ◌∷◌, length}
use Rattle.lines.specs.Text.{newline}
use Rattle.lines.specs.TextLaws.{number_length, sizes_length, first_line_is}
use Rattle.lines.specs.Writing.{most_sizes, most_first_line, spaced}
use Rattle.lines.specs.WritingLaws.{writes_both, writes_same}
use Rattle.lines.proofs.write_first_line.Goals as goal
use Rattle.lines.proofs.write_first_line.Goals.{Start}

sizes : (c : Start) → length (spaced (c.args.net.n ∷ c.args.net.m ∷ c.args.net.r ∷ c.args.count ∷ [])) ≤ most_sizes
sizes c =
    let w = c.well_formed in
    sizes_length _ _ _ _ (number_length _ (omega (arith, w))) (number_length _ (omega (arith, w))) (number_length _ (omega (arith, w))) (number_length _ (omega (arith, w)))

pub numbers-requires : goal.numbers-requires
unfolding most_first_line
numbers-requires c = omega (arith, sizes (goal.at.numbers-requires c).Start)

pub write_moved-requires : goal.write_moved-requires
unfolding most_first_line
write_moved-requires c = omega (arith, sizes (goal.at.write_moved-requires c).Start)

pub byte-requires : goal.byte-requires
unfolding most_first_line
byte-requires c = omega (arith, sizes (goal.at.byte-requires c).Start)

pub returns : goal.returns
unfolding most_first_line newline
returns c =
    let text = writes_both (writes_both c.numbers.ensures c.write_moved.ensures.written) c.byte.ensures in
    record { written = writes_same text (sym (first_line_is _ _ _)); short = omega (arith, sizes (goal.at.returns c).Start) }
