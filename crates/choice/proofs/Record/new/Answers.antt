-- `Record::new` meets its contract: no central is in use.
use Rattle.std.proofs.Common.{refl}
use Rattle.shelf.specs.Network.{most_modules}
use Rattle.choice.specs.Record.{modules_of_both, record_size, nothing_used}
use Rattle.choice.proofs.Record.new.Goals as goal

pub returns : goal.returns
unfolding nothing_used record_size modules_of_both most_modules
returns c = refl
