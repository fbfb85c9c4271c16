-- `Record::swap` meets its contract: two bits of a word change places.
use Rattle.ground.specs.Words.{bit_at}
use Rattle.shelf.specs.NetworkLaws.{central_bit}
use Rattle.choice.specs.Record.{swapping}
use Rattle.choice.proofs.Record.swap.Goals as goal

pub returns : goal.returns
unfolding swapping bit_at
returns c = rw (c.put-2.ensures, c.put.ensures, c.has_bit.ensures, c.has_bit-2.ensures)

pub has_bit-requires : goal.has_bit-requires
has_bit-requires c = central_bit c.requires.2

pub has_bit-requires-2 : goal.has_bit-requires-2
has_bit-requires-2 c = central_bit c.requires.1
