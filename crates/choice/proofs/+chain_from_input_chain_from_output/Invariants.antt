-- The two chain steps meet their contracts: each calls the other, and the modules not yet met, `left`, fall with each call. What
-- holds of a step on either side is in proofs/Mending.antt; here it is said of each.
use Rattle.choice.proofs.+chain_from_input_chain_from_output.Given as goal

abbrev pub decreases-chain_from_input : goal.decreases-chain_from_input
decreases-chain_from_input l = l.left

abbrev pub decreases-chain_from_output : goal.decreases-chain_from_output
decreases-chain_from_output l = l.left
