-- `choice::module_number` meets its contract: output modules stand behind the input modules.
use Rattle.std.proofs.Common.{arith}
use Rattle.shelf.specs.Network.{most_modules}
use Rattle.choice.specs.Record.{module_number}
use Rattle.choice.proofs.module_number.Goals as goal

pub returns-in-Input : goal.returns-in-Input
unfolding module_number most_modules
returns-in-Input c = rw (← c.module_at.ensures, ← c.from-module.ensures, c.in-Input.is) (omega (arith, c.requires.1, c.module_at.ensures, c.from-module.ensures))

pub returns-in-Output : goal.returns-in-Output
unfolding module_number most_modules
returns-in-Output c = rw (← c.module_at.ensures, ← c.from-module.ensures, c.in-Output.is) (omega (arith, c.requires.1, c.module_at.ensures, c.from-module.ensures))
