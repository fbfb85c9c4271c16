-- `planwriter::check_parts` meets its contract: the first check that refuses is the answer. The file's length fits, since calls and
-- settings have passed 1, 2 and 3.
use Rattle.std.proofs.Common.{◌≡◌, refl, [], ◌∷◌, ◌≤◌, length, arith, lt-ltb, le-ltb}
use Rattle.shelf.specs.Network.{most_calls}
use Rattle.calls.specs.Verdict.{passed, refused_if, ◌⨾◌, in_turn}
use Rattle.calls.specs.VerdictLaws.{turn_last}
use Rattle.calls.specs.RefusalLaws.{passed_on, err_stops, ok_goes_on}
use Rattle.trailer.specs.File.{long_trailer, most_note}
use Rattle.trailer.proofs.FileLaws.{trailer_most}
use Rattle.planfile.specs.Checks.{table_checks}
use Rattle.planfile.proofs.ChecksLaws.{Measured, measured, most_rows}
use Rattle.planwriter.specs.Writer.{long_note, short_buffer, untold_cycle, part_checks}
use Rattle.planwriter.proofs.WriterLaws.{room_test}
use Rattle.planwriter.proofs.check_parts.Goals as goal
use Rattle.planwriter.proofs.check_parts.Goals.{In_ok-check_sizes, Else-room-size}

-- what sizes and lengths are that passed
known : (c : In_ok-check_sizes) → Measured c.args.kind c.args.net c.args.parts.calls.now c.args.parts.settings.now
unfolding passed
known c = (measured _ _ _ _).0 (rw (← c.settings_per_call.ensures.0, ← c.in_ok-check_sizes.ensures) refl)

-- past 1, 2, 3, 16 and 4, what all checks find is what those of the rows and 18 find
from_5 : (c : Else-room-size)
    → in_turn (part_checks c.args.kind c.args.net c.args.parts.note.now c.args.parts.calls.now c.args.parts.settings.now c.args.room)
    ≡ in_turn (table_checks c.args.net c.args.kind c.args.parts.calls.now c.args.parts.settings.now ∷ untold_cycle c.args.kind c.args.net ∷ [])
unfolding part_checks in_turn ◌⨾◌ refused_if passed long_note most_note short_buffer
from_5 c =
    let short : length c.args.parts.note.now ≤ 255 = omega arith in
    rw (← c.settings_per_call.ensures.0, ← c.in_ok-check_sizes.ensures, le-ltb _ _ short, room_test, ← c.trailer_length.ensures, le-ltb _ _ c.if-room-size.false)

pub returns-in_err-check_sizes : goal.returns-in_err-check_sizes
unfolding part_checks
returns-in_err-check_sizes c =
    rw (passed_on _ c.from_residual.ensures.1, ← c.settings_per_call.ensures.0) (err_stops _ _ c.in_err-check_sizes.ensures)

pub overflow_add-size-2 : goal.overflow_add-size-2
unfolding most_calls
overflow_add-size-2 c = omega (arith, most_rows _ _ _ _ (known (goal.at.overflow_add-size-2 c).In_ok-check_sizes))

pub overflow_add-size-3 : goal.overflow_add-size-3
unfolding most_calls long_trailer
overflow_add-size-3 c =
    omega (arith, most_rows _ _ _ _ (known (goal.at.overflow_add-size-3 c).In_ok-check_sizes), c.trailer_length.ensures, (trailer_most c.args.kind).1)

pub returns-then-note-gt-MOST_NOTE : goal.returns-then-note-gt-MOST_NOTE
unfolding part_checks in_turn ◌⨾◌ refused_if passed long_note most_note
returns-then-note-gt-MOST_NOTE c =
    rw (← c.settings_per_call.ensures.0, ← c.in_ok-check_sizes.ensures, lt-ltb _ _ c.if-note-gt-MOST_NOTE.true)

pub returns-then-room-size : goal.returns-then-room-size
unfolding part_checks in_turn ◌⨾◌ refused_if passed long_note most_note short_buffer
returns-then-room-size c =
    let short : length c.args.parts.note.now ≤ 255 = omega arith in
    rw (← c.settings_per_call.ensures.0, ← c.in_ok-check_sizes.ensures, le-ltb _ _ short, room_test, ← c.trailer_length.ensures, lt-ltb _ _ c.if-room-size.true)

pub check_table-requires : goal.check_table-requires
check_table-requires c = let k = known (goal.at.check_table-requires c).In_ok-check_sizes in (k.limits, k.settings_length)

pub returns-in_err-check_table : goal.returns-in_err-check_table
returns-in_err-check_table c =
    rw (passed_on _ c.from_residual-in_err-check_table.ensures.1, from_5 (goal.at.returns-in_err-check_table c).Else-room-size) (err_stops _ _ c.in_err-check_table.ensures)

pub returns : goal.returns
returns c = rw (from_5 (goal.at.returns c).Else-room-size) (ok_goes_on _ _ c.in_ok-check_table.ensures (turn_last c.check_cycle.ensures))
