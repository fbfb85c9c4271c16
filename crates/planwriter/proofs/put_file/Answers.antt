-- `planwriter::put_file` meets its contract: each part is written right behind those before it, and the last is the trailer.
use Rattle.std.proofs.Common.{◌≡◌, ap, ◌+◌, ◌-◌, ◌≤◌, ℕ, List, arith, length, length-append}
use Rattle.ground.specs.Bytes.{part}
use Rattle.ground.specs.BytesLaws.{adds_both, adds_length, adds_front, adds_same}
use Rattle.shelf.specs.declared.Network.{Network}
use Rattle.shelf.specs.Rows.{row_count}
use Rattle.trailer.specs.File.{long_trailer, trailer_length, trailer_of, file_of}
use Rattle.trailer.proofs.FileLaws.{trailer_most, length_trailer, trailer_rest, length_file}
use Rattle.planwriter.specs.Writer.{HasRoom}
use Rattle.planwriter.proofs.put_file.Goals as goal
use Rattle.planwriter.proofs.put_file.Goals.{After-trailer_length-shorter}

-- the room that the parts take, one by one
room : {kind : ℕ} {net : Network} {note calls settings : List ℕ} {size : ℕ} → HasRoom kind net note calls settings size
    → length note + length calls + length settings + trailer_length kind ≤ size
room h = rw length_file at h.enough

-- what is written last is the kind's own trailer
trailer : (c : After-trailer_length-shorter)
    → part c.trailer_of-longer.result (14 - c.trailer_length-shorter.result) 14
    ≡ trailer_of c.args.net c.args.kind
    (row_count c.args.parts.calls.now)
unfolding row_count long_trailer
trailer c = trailer_rest _ _ _ c.trailer_of-longer.ensures c.trailer_length-shorter.ensures

pub trailer_of-longer-requires : goal.trailer_of-longer-requires
unfolding row_count
trailer_of-longer-requires c = (c.requires.1.limits, c.requires.0, c.requires.1.few)

pub write_bytes-calls_at-requires : goal.write_bytes-calls_at-requires
write_bytes-calls_at-requires c = omega (arith, room c.requires.1)

pub write_bytes-settings_at-requires : goal.write_bytes-settings_at-requires
write_bytes-settings_at-requires c =
    let one = c.write_bytes-calls_at.ensures in
    omega (arith, room c.requires.1, one.is_next, adds_length one)

pub write_bytes-trailer_at-requires : goal.write_bytes-trailer_at-requires
write_bytes-trailer_at-requires c =
    let two = adds_both c.write_bytes-calls_at.ensures c.write_bytes-settings_at.ensures in
    omega (arith, room c.requires.1, simp length-append at two.is_next, adds_length two)

pub overflow_sub-shorter : goal.overflow_sub-shorter
unfolding long_trailer
overflow_sub-shorter c = omega (arith, c.trailer_length-shorter.ensures, (trailer_most c.args.kind).1)

pub write_bytes-requires : goal.write_bytes-requires
unfolding part
write_bytes-requires c =
    let three = adds_both (adds_both c.write_bytes-calls_at.ensures c.write_bytes-settings_at.ensures) c.write_bytes-trailer_at.ensures in
    omega (arith, room c.requires.1, ap length (trailer (goal.at.write_bytes-requires c).After-trailer_length-shorter), length_trailer c.args.net c.args.kind (row_count c.args.parts.calls.now), simp length-append at three.is_next, adds_length three)

pub returns : goal.returns
unfolding file_of part
returns c =
    let three = adds_both (adds_both c.write_bytes-calls_at.ensures c.write_bytes-settings_at.ensures) c.write_bytes-trailer_at.ensures in
    adds_front (adds_both three (adds_same c.write_bytes.ensures (trailer (goal.at.returns c).After-trailer_length-shorter)))
