-- `Record::put` meets its contract: the bit of the central is put in the word of the module.
use Rattle.ground.specs.Words.{put_at}
use Rattle.shelf.specs.NetworkLaws.{central_bit}
use Rattle.choice.proofs.Record.put.Goals as goal

pub put_bit-requires : goal.put_bit-requires
put_bit-requires c = central_bit c.requires.1

pub returns : goal.returns
unfolding put_at
returns c = rw c.put_bit.ensures
