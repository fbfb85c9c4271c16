-- `acceptance::seek_unlawful` meets its contract. The loop's invariant: the records hold the pairs of the rows passed so far,
-- and none of those rows is refused.
use Rattle.std.proofs.Common.{◌≡◌, refl, sym, true, false, le_antisymm, arith}
use Rattle.ground.specs.Marks.{blank, marks}
use Rattle.ground.specs.MarksLaws.{length_marks}
use Rattle.shelf.specs.Network.{most_modules}
use Rattle.shelf.specs.Rows.{row_count}
use Rattle.shelf.specs.Light.{row_of}
use Rattle.calls.specs.declared.Verdict.{Verdict}
use Rattle.calls.specs.Verdict.{passed, seek_rows}
use Rattle.calls.specs.VerdictLaws.{passed_zero}
use Rattle.calls.specs.RefusalLaws.{passed_on, refuses}
use Rattle.acceptance.specs.Acceptance.{light_verdict, unlawful_row}
use Rattle.acceptance.proofs.Pairs.{Judged, light_refuses, pair_room, pair_tells, twelve, thirteen, next_passes}
use Rattle.acceptance.proofs.seek_unlawful.Goals as goal
use Rattle.acceptance.proofs.seek_unlawful.Goals.{After-at-set}

-- the row as it was read, and its light
judged : (c : After-at-set) {light : Verdict} → light ≡ light_verdict c.args.net c.loop-row.row (row_of c.at-call.result c.at-set.result)
    → Judged c.args.net c.args.calls.now c.args.settings.now c.loop-row.row c.at-call.result c.at-set.result light
unfolding row_count
judged c told =
    let pre = c.requires in
    let below = c.loop-row-test.true in
    record {
      limits = pre.0;
      below = below;
      so_far = c.loop-row.invariant.2;
      call_read = c.at-call.ensures;
      settings_read = c.at-set.ensures;
      inside = pre.2 _ below;
      told = told;
    }

pub loop-row-init : goal.loop-row-init
unfolding seek_rows marks blank most_modules
loop-row-init c = (refl, refl, refl)

pub at-set-requires : goal.at-set-requires
unfolding row_count
at-set-requires c = omega arith

pub judge_light-requires : goal.judge_light-requires
unfolding row_count
judge_light-requires c =
    let pre = c.requires in
    (pre.0, rw c.at-call.ensures.input_module (pre.2 _ c.loop-row-test.true).own_α)

pub returns-in_err-judge_light : goal.returns-in_err-judge_light
returns-in_err-judge_light c =
    rw (passed_on _ c.from_residual.ensures.1) (light_refuses (judged (goal.at.returns-in_err-judge_light c).After-at-set c.in_err-judge_light.ensures) (refuses _))

pub mark-requires : goal.mark-requires
mark-requires c =
    let room = pair_room (judged (goal.at.mark-requires c).After-at-set c.in_ok-judge_light.ensures) passed_zero false in
    (rw (c.loop-row.invariant.0, length_marks) room.0, room.1)

pub returns-then-mark : goal.returns-then-mark
returns-then-mark c =
    let j = judged (goal.at.returns-then-mark c).After-at-set c.in_ok-judge_light.ensures in
    twelve j passed_zero (pair_tells j passed_zero false c.loop-row.invariant.0 c.mark.ensures).0 c.if-mark.true

pub mark-requires-in-loop-row : goal.mark-requires-in-loop-row
mark-requires-in-loop-row c =
    let room = pair_room (judged (goal.at.mark-requires-in-loop-row c).After-at-set c.in_ok-judge_light.ensures) passed_zero true in
    (rw (c.loop-row.invariant.1, length_marks) room.0, room.1)

pub returns-then-mark-2 : goal.returns-then-mark-2
returns-then-mark-2 c =
    let inv = c.loop-row.invariant in
    let j = judged (goal.at.returns-then-mark-2 c).After-at-set c.in_ok-judge_light.ensures in
    thirteen j passed_zero (pair_tells j passed_zero false inv.0 c.mark.ensures).0 (pair_tells j passed_zero true inv.1 c.mark-in-loop-row.ensures).0 c.if-mark.false c.if-mark-2.true

pub loop-row-preserved : goal.loop-row-preserved
loop-row-preserved c =
    let inv = c.loop-row.invariant in
    let j = judged (goal.at.loop-row-preserved c).After-at-set c.in_ok-judge_light.ensures in
    let input = pair_tells j passed_zero false inv.0 c.mark.ensures in
    let output = pair_tells j passed_zero true inv.1 c.mark-in-loop-row.ensures in
    (input.1, output.1, next_passes j passed_zero input.0 output.0 c.if-mark.false c.if-mark-2.false)

pub returns : goal.returns
unfolding unlawful_row row_count passed
returns c =
    let q = le_antisymm c.loop-row.auto.row-end c.loop-row-test.false in rw (← q) (sym c.loop-row.invariant.2)
