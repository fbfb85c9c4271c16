-- `choice::place_by_chain` meets its contract: what the chain steps changed, and where they ended, is the rule's; the record follows.
use Rattle.std.proofs.Common.{true, false, ◌<◌, arith}
use Rattle.shelf.specs.Network.{most_modules, most_centrals}
use Rattle.shelf.specs.NetworkLaws.{limits_are}
use Rattle.choice.specs.Placement.{chain_places}
use Rattle.choice.proofs.PlacementLaws.{Searched, small_modules, one_free, small_a, small_b, mendable, chain_room, left_few, last_held, end_small, placed_by_chain}
use Rattle.choice.proofs.place_by_chain.Goals as goal
use Rattle.choice.proofs.place_by_chain.Goals.{After-unwrap-b, After-chain_from_output-left}

pub module_number-input-requires : goal.module_number-input-requires
module_number-input-requires c = let h = c.requires.0 in (omega (arith, h.whole), small_modules h false _ (omega arith))

pub module_number-output-requires : goal.module_number-output-requires
module_number-output-requires c = let h = c.requires.0 in (omega (arith, h.whole), small_modules h true _ (omega arith))

pub unwrap-a-requires : goal.unwrap-a-requires
unwrap-a-requires c = one_free c.requires.0 false _ (rw c.module_number-input.ensures.0 at c.first_common.ensures)

pub unwrap-b-requires : goal.unwrap-b-requires
unwrap-b-requires c = one_free c.requires.0 true _ (rw c.module_number-output.ensures.0 at c.first_common-2.ensures)

-- what the two searches found
searched : (c : After-unwrap-b) →
    let s = c.args in
    Searched s.net s.rows.now s.row s.used.now.words s.chain.now c.unwrap-a.result c.unwrap-b.result
searched c = record {
  placeable = c.requires.0;
  nothing_common = c.requires.1;
  first_a = rw (c.module_number-input.ensures.0, c.unwrap-a.ensures) at c.first_common.ensures;
  first_b = rw (c.module_number-output.ensures.0, c.unwrap-b.ensures) at c.first_common-2.ensures;
}

pub overflow_cast-rows : goal.overflow_cast-rows
unfolding most_centrals
overflow_cast-rows c = record { fits = omega (arith, small_b (searched (goal.at.overflow_cast-rows c).After-unwrap-b)) }

pub overflow_mul-start : goal.overflow_mul-start
unfolding most_modules
overflow_mul-start c = let l = (limits_are _).0 c.requires.0.limits in record { fits = omega (arith, l.most_r) }

pub overflow_cast-a : goal.overflow_cast-a
unfolding most_centrals
overflow_cast-a c = record { fits = omega (arith, small_a (searched (goal.at.overflow_cast-a c).After-unwrap-b)) }

pub chain_from_output-left-requires : goal.chain_from_output-left-requires
chain_from_output-left-requires c = mendable (searched (goal.at.chain_from_output-left-requires c).After-unwrap-b)

pub overflow_sub-moved : goal.overflow_sub-moved
overflow_sub-moved c = omega (arith, left_few (searched (goal.at.overflow_sub-moved c).After-unwrap-b) c.chain_from_output-left.ensures)

-- the chain steps are done
left_small : (c : After-chain_from_output-left) → c.chain_from_output-left.result < chain_places
left_small c =
    let s = searched (goal.at.After-chain_from_output-left c).After-unwrap-b in
    omega (arith, left_few s c.chain_from_output-left.ensures, chain_room s)

pub offset_bounds-chain-left : goal.offset_bounds-chain-left
unfolding chain_places most_modules
offset_bounds-chain-left c = record { fits = omega (arith, left_small (goal.at.offset_bounds-chain-left c).After-chain_from_output-left) }

pub bounds-chain-left : goal.bounds-chain-left
unfolding chain_places most_modules
bounds-chain-left c = omega (arith, left_small (goal.at.bounds-chain-left c).After-chain_from_output-left)

pub module_number-end-requires : goal.module_number-end-requires
module_number-end-requires c =
    let s = searched (goal.at.module_number-end-requires c).After-unwrap-b in
    rw (c.from.ensures, c.end_side.ensures) (last_held s c.chain_from_output-left.ensures, end_small s c.chain_from_output-left.ensures)

pub swap-requires : goal.swap-requires
swap-requires c =
    let s = searched (goal.at.swap-requires c).After-unwrap-b in
    (c.module_number-end.ensures.1, small_a s, small_b s)

pub take-requires : goal.take-requires
take-requires c = (c.module_number-output.ensures.1, small_b (searched (goal.at.take-requires c).After-unwrap-b))

pub take-requires-2 : goal.take-requires-2
take-requires-2 c = (c.module_number-input.ensures.1, small_a (searched (goal.at.take-requires-2 c).After-unwrap-b))

pub returns : goal.returns
returns c =
    rw (c.take-2.ensures, c.take.ensures, c.swap.ensures)
    (placed_by_chain (searched (goal.at.returns c).After-unwrap-b) c.chain_from_output-left.ensures c.module_number-input.ensures.0 c.module_number-output.ensures.0
    (rw (c.from.ensures, c.end_side.ensures) at c.module_number-end.ensures.0))
