-- `conversion::recast` meets its contract: 18, then 4, and else the parts are put into the file of the other kind.
use Rattle.std.proofs.Common.{◌≡◌, refl, List, ℕ, ap, ◌∙◌, ◌+◌, ◌≤◌, arith, ltb, take, length, length-take, lt-ltb, le-ltb}
use Rattle.std.proofs.Math.Nat.{sub-zero}
use Rattle.ground.specs.Bytes.{part, front}
use Rattle.calls.specs.Verdict.{success, passed, refused_if, ◌⨾◌, in_turn}
use Rattle.trailer.specs.File.{has_settings, kind_with, long_trailer, trailer_length}
use Rattle.trailer.proofs.FileLaws.{trailer_most}
use Rattle.planwriter.specs.Writer.{short_buffer, other_cycle}
use Rattle.conversion.specs.Conversion.{cycle_for, recast_file, recast_checks}
use Rattle.conversion.proofs.ConversionLaws.{recast_length, recast_room, recast_fits, recast_is, recast_kept, recast_done}
use Rattle.conversion.proofs.recast.Goals as goal
use Rattle.conversion.proofs.recast.Goals.{After-trailer_length}

-- the note is what stands in front of the calls
front_part : (bytes : List ℕ) (to : ℕ) → take to bytes ≡ part bytes 0 to
unfolding part
front_part bytes to = rw sub-zero

-- the other kind, and the bytes of its trailer
kind : (c : After-trailer_length) → c.number-kind.result ≡ kind_with (has_settings c.args.layout.kind) (cycle_for c.args.to)
kind c = cc

size : (c : After-trailer_length) → c.trailer_length.result ≡ trailer_length (kind_with (has_settings c.args.layout.kind) (cycle_for c.args.to))
size c = c.trailer_length.ensures ∙ ap trailer_length (kind c)

-- 4 goes by the trailer of the other kind
room : (c : After-trailer_length)
    → ltb (length c.args.out.now) (length (recast_file (cycle_for c.args.to) c.args.layout c.args.file.now))
    ≡ ltb (length c.args.out.now) (c.args.layout.trailer_at + c.trailer_length.result)
room c = recast_room _ _ _ c.requires.0 _ (size c) _

pub returns-then-not-has_least_cycle : goal.returns-then-not-has_least_cycle
unfolding recast_checks in_turn ◌⨾◌ refused_if passed other_cycle
returns-then-not-has_least_cycle c = recast_kept _ _ _ _ _ (rw (← c.if-not-has_least_cycle.ensures)) (λ z. omega arith)

pub overflow_add-layout : goal.overflow_add-layout
unfolding long_trailer
overflow_add-layout c = record { fits = omega (arith, c.requires.0.inside, c.trailer_length.ensures, (trailer_most c.number-kind.result).1, c.well_formed.1.1.0.0) }

pub returns-then-out-layout : goal.returns-then-out-layout
unfolding recast_checks in_turn ◌⨾◌ refused_if passed other_cycle short_buffer
returns-then-out-layout c =
    recast_kept _ _ _ _ _ (rw (← c.if-not-has_least_cycle.ensures, room (goal.at.returns-then-out-layout c).After-trailer_length, lt-ltb _ _ c.if-out-layout.true)) (λ z. omega arith)

pub put_file-requires : goal.put_file-requires
unfolding part
put_file-requires c =
    let after = (goal.at.put_file-requires c).After-trailer_length in
    let enough : length (recast_file (cycle_for c.args.to) c.args.layout c.args.file.now) ≤ length c.args.out.now = omega (arith, recast_length (cycle_for c.args.to) c.args.layout c.args.file.now c.requires.0, size after) in
    recast_fits _ c.args.layout c.args.file.now _ (kind after) c.requires.0 c.requires.1 (length c.args.out.now) enough _ (simp length-take (omega arith))

pub returns : goal.returns
unfolding recast_checks in_turn ◌⨾◌ refused_if passed other_cycle short_buffer success part
returns c =
    let after = (goal.at.returns c).After-trailer_length in
    recast_done _ c.args.layout _ _ passed (rw (← c.if-not-has_least_cycle.ensures, room after, le-ltb _ _ c.if-out-layout.false)) refl _
    (rw (front_part c.args.file.now c.args.layout.calls_at) at c.put_file.ensures ∙ ap (front _) (recast_is _ c.args.layout _ _ (kind after)))
