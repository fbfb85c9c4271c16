-- `choice::module_at` meets its contract: the third byte of a row is its output module, the first its input module.
use Rattle.choice.specs.Rows.{module_in}
use Rattle.choice.proofs.module_at.Goals as goal

pub returns-in-Input : goal.returns-in-Input
unfolding module_in
returns-in-Input c = rw c.in-Input.is

pub returns-in-Output : goal.returns-in-Output
unfolding module_in
returns-in-Output c = rw c.in-Output.is
