-- `choice::tell` meets its contract: one store.
use Rattle.std.proofs.Common.{arith}
use Rattle.shelf.specs.Network.{most_modules, most_calls}
use Rattle.choice.specs.Placement.{chain_places}
use Rattle.choice.proofs.tell.Goals as goal

pub overflow_cast-chain : goal.overflow_cast-chain
unfolding chain_places most_modules most_calls
overflow_cast-chain c = record { fits = omega arith }

pub offset_bounds-chain-place : goal.offset_bounds-chain-place
unfolding chain_places most_modules most_calls
offset_bounds-chain-place c = omega arith

pub bounds-chain-place : goal.bounds-chain-place
unfolding chain_places most_modules most_calls
bounds-chain-place c = omega arith
