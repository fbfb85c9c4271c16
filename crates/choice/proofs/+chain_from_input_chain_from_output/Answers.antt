use Rattle.std.proofs.Common.{ℕ, refl, true, false, arith}
use Rattle.std.proofs.Math.Option.{none, some}
use Rattle.choice.proofs.Mending.{Stepping, mended_end, mended_on, mendable_on, some_left, tell_room}
use Rattle.choice.proofs.+chain_from_input_chain_from_output.Goals as goal
use Rattle.choice.proofs.+chain_from_input_chain_from_output.Goals.{chain_from_input-In-Some}
use Rattle.choice.proofs.+chain_from_input_chain_from_output.Goals.{chain_from_output-In-Some}

-- ---- from the input module

pub chain_from_input-returns-in_default : goal.chain_from_input-returns-in_default
chain_from_input-returns-in_default t c =
    let ended : Stepping false c.args.rows.now c.args.from c.args.central c.args.left none = record { mendable = c.requires; searched = c.in_default.ensures } in
    rw c.change-other.ensures.0 (mended_end ended refl)

-- a call stands there
input_on : {t : ℕ} (c : chain_from_input-In-Some t) → Stepping false c.args.rows.now c.args.from c.args.central c.args.left (some c.in-Some.row)
input_on c = record { mendable = c.requires; searched = c.in-Some.ensures }

pub chain_from_input-tell-requires : goal.chain_from_input-tell-requires
chain_from_input-tell-requires t c = tell_room (input_on (goal.at.chain_from_input-tell-requires t c).In-Some) refl

pub chain_from_input-chain_from_output-requires : goal.chain_from_input-chain_from_output-requires
chain_from_input-chain_from_output-requires t c =
    let on = input_on (goal.at.chain_from_input-chain_from_output-requires t c).In-Some in
    (omega (arith, c.decreases, some_left on refl), mendable_on on refl c.change-other.ensures.0 c.change-other.ensures.1)

pub chain_from_input-returns : goal.chain_from_input-returns
chain_from_input-returns t c = mended_on (input_on (goal.at.chain_from_input-returns t c).In-Some) refl c.change-other.ensures.0 c.change-other.ensures.1 c.tell.ensures c.chain_from_output.ensures

-- ---- from the output module

pub chain_from_output-returns-in_default : goal.chain_from_output-returns-in_default
chain_from_output-returns-in_default t c =
    let ended : Stepping true c.args.rows.now c.args.from c.args.central c.args.left none = record { mendable = c.requires; searched = c.in_default.ensures } in
    rw c.change-other.ensures.0 (mended_end ended refl)

-- a call stands there
output_on : {t : ℕ} (c : chain_from_output-In-Some t) → Stepping true c.args.rows.now c.args.from c.args.central c.args.left (some c.in-Some.row)
output_on c = record { mendable = c.requires; searched = c.in-Some.ensures }

pub chain_from_output-tell-requires : goal.chain_from_output-tell-requires
chain_from_output-tell-requires t c = tell_room (output_on (goal.at.chain_from_output-tell-requires t c).In-Some) refl

pub chain_from_output-chain_from_input-requires : goal.chain_from_output-chain_from_input-requires
chain_from_output-chain_from_input-requires t c =
    let on = output_on (goal.at.chain_from_output-chain_from_input-requires t c).In-Some in
    (omega (arith, c.decreases, some_left on refl), mendable_on on refl c.change-other.ensures.0 c.change-other.ensures.1)

pub chain_from_output-returns : goal.chain_from_output-returns
chain_from_output-returns t c = mended_on (output_on (goal.at.chain_from_output-returns t c).In-Some) refl c.change-other.ensures.0 c.change-other.ensures.1 c.tell.ensures c.chain_from_input.ensures
