-- `lines::text::write_number` meets its contract: the bytes of one digit and of two are those of `decimal`, and so are the library's digits.
use Rattle.std.specs.Prelude.{◌≡◌, [], ◌∷◌, ℕ, ◌+◌, ◌/◌, ◌%◌, ◌≤◌, ◌<◌}
use Rattle.std.proofs.Common.{sym, arith}
use Rattle.ground.specs.BytesLaws.{adds_both, adds_same, adds_length}
use Rattle.lines.specs.Text.{decimal}
use Rattle.lines.specs.TextLaws.{decimal_one, decimal_more, decimal_printed}
use Rattle.lines.proofs.text.write_number.Goals as goal

decimal_two : (n : ℕ) → 10 ≤ n → n < 100 → decimal n ≡ (48 + n / 10) ∷ (48 + n % 10) ∷ []
decimal_two n h k = rw (decimal_more n h, decimal_one (n / 10) (omega arith))

pub write_byte-requires : goal.write_byte-requires
write_byte-requires c = omega (arith, rw (decimal_one _ c.if-value-lt10.true) at c.requires)

pub returns-then-value-lt10 : goal.returns-then-value-lt10
returns-then-value-lt10 c = adds_same c.write_byte.ensures (sym (decimal_one _ c.if-value-lt10.true))

pub write_byte-last-requires : goal.write_byte-last-requires
write_byte-last-requires c = omega (arith, rw (decimal_two _ c.if-value-lt10.false c.if-value-lt100.true) at c.requires)

pub write_byte-requires-then-value-lt100 : goal.write_byte-requires-then-value-lt100
write_byte-requires-then-value-lt100 c =
    let room = rw (decimal_two _ c.if-value-lt10.false c.if-value-lt100.true) at c.requires in
    omega (arith, room, adds_length c.write_byte-last.ensures, c.write_byte-last.ensures.is_next)

pub returns-then-value-lt100 : goal.returns-then-value-lt100
returns-then-value-lt100 c =
    adds_same (adds_both c.write_byte-last.ensures c.write_byte-then-value-lt100.ensures) (sym (decimal_two _ c.if-value-lt10.false c.if-value-lt100.true))

pub write_bytes-requires : goal.write_bytes-requires
write_bytes-requires c = rw (c.as_bytes.ensures.value, c.format.ensures.text, decimal_printed _ c.ranges.value.fits) c.requires

pub returns : goal.returns
returns c = adds_same c.write_bytes.ensures (rw (c.as_bytes.ensures.value, c.format.ensures.text) (decimal_printed _ c.ranges.value.fits))
