-- `lines::text::Text::numbers` meets its contract.
use Rattle.std.proofs.Common.{sym, add-one, arith}
use Rattle.lines.specs.Text.{space}
use Rattle.lines.specs.TextLaws.{spaced_more, spaced_room}
use Rattle.lines.specs.Writing.{spaced}
use Rattle.lines.specs.WritingLaws.{writes_none, writes_both, writes_same}
use Rattle.lines.proofs.text.Text.numbers.Goals as goal

pub loop-number-init : goal.loop-number-init
unfolding spaced
loop-number-init c = writes_none _ (omega arith)

pub number-requires : goal.number-requires
number-requires c = omega (arith, spaced_room _ _ c.loop-number-test.true)

pub byte-requires : goal.byte-requires
byte-requires c = omega (arith, spaced_room _ _ c.loop-number-test.true)

pub loop-number-preserved : goal.loop-number-preserved
unfolding space
loop-number-preserved c =
    let text = writes_both (writes_both c.loop-number.invariant c.number.ensures) c.byte.ensures in
    writes_same text (sym (rw (add-one c.loop-number.number-index) (spaced_more _ _ c.loop-number-test.true)))
