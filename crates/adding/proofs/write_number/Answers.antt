-- `adding::write_number` meets its contract: the bytes of a number, the high one first.
use Rattle.std.proofs.Common.{refl}
use Rattle.ground.specs.Bytes.{high_byte, low_byte}
use Rattle.ground.specs.BytesLaws.{adds_same}
use Rattle.adding.specs.Adding.{row_bytes}
use Rattle.adding.proofs.write_number.Goals as goal

pub returns : goal.returns
unfolding row_bytes high_byte low_byte
returns c = adds_same c.write_bytes.ensures (rw c.to_be_bytes.ensures refl)
