-- `Record::take` meets its contract: the central is put as one in use.
use Rattle.choice.specs.Record.{taking}
use Rattle.choice.proofs.Record.take.Goals as goal

pub returns : goal.returns
unfolding taking
returns c = c.put.ensures
