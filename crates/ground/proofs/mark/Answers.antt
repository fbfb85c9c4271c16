-- `ground::mark` meets its contract: the bit is read before it is set.
use Rattle.ground.specs.Words.{bit_at, put_at}
use Rattle.ground.proofs.mark.Goals as goal

pub returns : goal.returns
unfolding bit_at put_at
returns c = record { told = c.has_bit.ensures; set_there = rw c.put_bit.ensures }
