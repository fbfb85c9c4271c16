-- `adding::place_and_write` meets its contract: the given centrals and the modules of the calls, one placement, and the wavelengths.
use Rattle.std.proofs.Common.{refl, arith}
use Rattle.shelf.specs.Network.{most_modules}
use Rattle.shelf.specs.NetworkLaws.{limits_are}
use Rattle.choice.specs.Placement.{chain_places}
use Rattle.adding.proofs.Entering.{prepared, recordable, ready, tellable, writable, added}
use Rattle.adding.proofs.place_and_write.Goals as goal

pub record_rows-requires : goal.record_rows-requires
record_rows-requires c = (c.new-used.ensures, recordable c.requires (prepared c.requires c.write_bytes.ensures c.enter_calls.ensures))

pub place_rest-moved-requires : goal.place_rest-moved-requires
unfolding chain_places most_modules
place_rest-moved-requires c = ready c.requires (prepared c.requires c.write_bytes.ensures c.enter_calls.ensures) c.record_rows.ensures refl

pub overflow_mul-net : goal.overflow_mul-net
unfolding most_modules
overflow_mul-net c = record { fits = omega (arith, ((limits_are _).0 c.requires.in_order.limits).most_r) }

pub tell_rows-requires : goal.tell_rows-requires
tell_rows-requires c = tellable c.requires (prepared c.requires c.write_bytes.ensures c.enter_calls.ensures) c.place_rest-moved.ensures

pub write_wavelengths-requires : goal.write_wavelengths-requires
write_wavelengths-requires c =
    rw c.cycle.ensures (writable c.requires (prepared c.requires c.write_bytes.ensures c.enter_calls.ensures) c.place_rest-moved.ensures)

pub returns : goal.returns
returns c =
    added c.requires (prepared c.requires c.write_bytes.ensures c.enter_calls.ensures) c.place_rest-moved.ensures c.cycle.ensures
    c.write_wavelengths.ensures c.tell_rows.ensures
