-- `choice::place` meets its contract: a common central that is found is the rule's, and the new call takes it at both modules.
use Rattle.std.proofs.Common.{◌≡◌, true, false, arith}
use Rattle.std.proofs.Math.Option.{some}
use Rattle.shelf.specs.Network.{most_centrals}
use Rattle.shelf.specs.Order.{order}
use Rattle.choice.specs.Rule.{first_of}
use Rattle.choice.specs.Rows.{module_in}
use Rattle.choice.specs.Record.{module_number, both_free}
use Rattle.choice.proofs.PlacementLaws.{small_modules, small_common, recordable_common, recorded_so_far, placed_common}
use Rattle.choice.proofs.place.Goals as goal
use Rattle.choice.proofs.place.Goals.{In-Some}

pub module_number-input-requires : goal.module_number-input-requires
module_number-input-requires c = (omega (arith, c.requires.whole), small_modules c.requires false _ (omega arith))

pub module_number-output-requires : goal.module_number-output-requires
module_number-output-requires c = (omega (arith, c.requires.whole), small_modules c.requires true _ (omega arith))

-- what the search found
found : (c : In-Some) →
    let s = c.args in
    first_of (order s.net) (both_free s.used.now.words (module_number false (module_in s.rows.now false s.row)) (module_number true (module_in s.rows.now true s.row))) ≡ some c.in-Some.common
found c = rw (← c.module_number-input.ensures.0, ← c.module_number-output.ensures.0) c.in-Some.ensures

pub overflow_cast-rows : goal.overflow_cast-rows
unfolding most_centrals
overflow_cast-rows c = record { fits = omega (arith, small_common c.requires _ (found (goal.at.overflow_cast-rows c).In-Some)) }

pub record_row-requires : goal.record_row-requires
record_row-requires c =
    let h = c.requires in
    (recordable_common h _ (found (goal.at.record_row-requires c).In-Some), recorded_so_far h _)

pub returns : goal.returns
returns c = placed_common c.requires _ (found (goal.at.returns c).In-Some) c.record_row.ensures
