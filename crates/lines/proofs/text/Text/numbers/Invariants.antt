-- `lines::text::Text::numbers` meets its contract. The loop's invariant: the numbers passed so far are written, each with a space
-- behind it.
use Rattle.std.proofs.Common.{take}
use Rattle.lines.specs.Writing.{spaced, WritesText}
use Rattle.lines.proofs.text.Text.numbers.Given as goal

abbrev pub invariant-loop-number : goal.invariant-loop-number
invariant-loop-number l = WritesText l.initial.self l.self (spaced (take l.number-index l.numbers))
