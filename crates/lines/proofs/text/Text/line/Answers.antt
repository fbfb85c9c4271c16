-- `lines::text::Text::line` meets its contract: the numbers, the last one and the newline stand one behind the other.
use Rattle.lines.specs.Text.{newline}
use Rattle.lines.specs.WritingLaws.{writes_both}
use Rattle.lines.proofs.text.Text.line.Goals as goal

pub returns : goal.returns
unfolding newline
returns c = writes_both (writes_both c.numbers.ensures c.number.ensures) c.byte.ensures
