-- `adding::tell_rows` meets its contract.
use Rattle.std.proofs.Common.{◌≡◌, ap, ◌∙◌, ℕ, length, get_or, ◌+◌, ◌-◌, arith}
use Rattle.std.specs.Slice.Iter.{iter_rest}
use Rattle.std.specs.Iterator.Adapters.{rev_source}
use Rattle.ground.specs.BytesLaws.{adds_front, adds_length}
use Rattle.choice.specs.Placement.{chain_places}
use Rattle.shelf.specs.Network.{most_modules}
use Rattle.adding.specs.Steps.{rows_told}
use Rattle.adding.proofs.Telling.{row_bytes_length, told_length, told_none, told_next, part_left, left_size, left_row, left_next}
use Rattle.adding.proofs.tell_rows.Goals as goal
use Rattle.adding.proofs.tell_rows.Goals.{In-Some}

pub offset_bounds-chain-start : goal.offset_bounds-chain-start
unfolding chain_places most_modules
offset_bounds-chain-start c = record { fits = omega (arith, c.requires.places) }

pub slice_bounds-iter-end : goal.slice_bounds-iter-end
unfolding chain_places most_modules
slice_bounds-iter-end c = omega (arith, c.requires.places)

pub loop-row-init : goal.loop-row-init
unfolding chain_places most_modules
loop-row-init c =
    let rest = ap (λ s. iter_rest (rev_source s)) c.into_iter-row-iterator.ensures.into_iter_gives ∙ ap iter_rest c.rev-row-items.ensures.source ∙ c.iter.ensures.rest in
    let part = part_left c.args.chain.now c.args.start c.args.moved _ _ c.requires.all_there (omega (arith, c.told-chain, c.requires.places)) (omega (arith, c.requires.all_there)) rest in
    (part.0, told_none _ _ (omega (arith, part.1)))

pub write_number-end-requires : goal.write_number-end-requires
write_number-end-requires c =
    let inv = c.loop-row.invariant in
    let left = iter_rest (rev_source c.loop-row.row-iterator) in
    let told = rows_told c.args.chain.now c.args.start (c.args.moved - length left) in
    omega (arith, inv.0.few, left_size _ _ c.in-Some.ensures.steps inv.0, inv.1.is_next, row_bytes_length told, told_length c.args.chain.now c.args.start (c.args.moved - length left), c.requires.room, adds_length inv.1)

pub loop-row-preserved : goal.loop-row-preserved
loop-row-preserved c =
    let (part, written) = c.loop-row.invariant in
    let rest = iter_rest (rev_source c.next.new.self) in
    let left = iter_rest (rev_source c.loop-row.row-iterator) in
    let size = left_size rest c.in-Some.row.now c.in-Some.ensures.steps part in
    let more : c.args.moved - length rest ≡ c.args.moved - length left + 1 = omega (arith, size, part.few) in
    let place : c.args.start - c.args.moved + length rest ≡ c.args.start - 1 - (c.args.moved - length left) = omega (arith, size, part.few, c.requires.all_there) in
    let row = left_row rest c.in-Some.row.now c.in-Some.ensures.steps part ∙ ap (λ (i : ℕ). get_or c.args.chain.now i 0) place in
    (left_next rest c.in-Some.row.now c.in-Some.ensures.steps part, rw more (told_next _ c.args.start _ _ row written c.write_number-end.ensures))

pub returns : goal.returns
returns c =
    let all : c.args.moved - length (iter_rest (rev_source c.loop-row.row-iterator)) ≡ c.args.moved = omega (arith, c.in-None.ensures.steps) in
    rw (← all) (adds_front c.loop-row.invariant.1)
