-- `Record::first_common` meets its contract: the lowest bit of the free word is the first central of the order that is free at both
-- modules, if the shelf has it.
use Rattle.ground.specs.Words.{First}
use Rattle.shelf.specs.Network.{most_centrals}
use Rattle.shelf.specs.NetworkLaws.{limits_are}
use Rattle.choice.specs.Record.{both_free}
use Rattle.choice.proofs.Search.{first_found, first_over}
use Rattle.choice.proofs.RecordLaws.{free_first}
use Rattle.choice.proofs.Record.first_common.Goals as goal
use Rattle.choice.proofs.Record.first_common.Goals.{After-lowest_bit-central}

found : (c : After-lowest_bit-central) → First most_centrals (both_free c.args.self.now.words c.args.p c.args.q) c.lowest_bit-central.result
found c = free_first c.args.self.now.words c.args.p c.args.q c.neither-free.result c.neither-free.ensures c.lowest_bit-central.ensures

pub returns-then-central-net : goal.returns-then-central-net
returns-then-central-net c = first_found _ _ most_centrals _ (found (goal.at.returns-then-central-net c).After-lowest_bit-central) ((limits_are _).0 c.requires.2).most_m c.if-central-net.true

pub returns-else-central-net : goal.returns-else-central-net
returns-else-central-net c = first_over _ _ most_centrals _ (found (goal.at.returns-else-central-net c).After-lowest_bit-central) c.if-central-net.false
