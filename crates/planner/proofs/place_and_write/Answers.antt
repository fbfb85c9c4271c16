-- `planner::place_and_write` meets its contract: the rows, all placed, become the settings.
use Rattle.std.proofs.Common.{refl, ◌∙◌}
use Rattle.shelf.specs.Network.{most_modules}
use Rattle.choice.specs.Placement.{chain_places}
use Rattle.planner.proofs.PlannerLaws.{ready, writable, moved_planned, written_planned}
use Rattle.planner.proofs.place_and_write.Goals as goal

pub place_rest-moved-requires : goal.place_rest-moved-requires
unfolding chain_places most_modules
place_rest-moved-requires c = rw c.new-used.ensures (ready c.requires refl)

pub write_wavelengths-requires : goal.write_wavelengths-requires
write_wavelengths-requires c = rw c.cycle.ensures (writable c.requires c.place_rest-moved.ensures)

pub returns-clause-settings : goal.returns-clause-settings
returns-clause-settings c = c.write_wavelengths.ensures ∙ rw c.cycle.ensures (written_planned c.requires c.place_rest-moved.ensures)

pub returns-clause-moved : goal.returns-clause-moved
returns-clause-moved c = moved_planned c.requires c.place_rest-moved.ensures
