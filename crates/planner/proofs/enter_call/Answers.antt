-- `planner::enter_call` meets its contract: two stores.
use Rattle.std.proofs.Common.{rules}
use Rattle.shelf.specs.Rows.{α, β}
use Rattle.planner.proofs.enter_call.Goals as goal

pub returns : goal.returns
unfolding α β
returns c = search rules
