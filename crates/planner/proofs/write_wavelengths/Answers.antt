-- `planner::write_wavelengths` meets its contract.
use Rattle.std.proofs.Common.{refl, ◌∙◌, ◌+◌, ◌*◌, ◌≤◌, ◌<◌, arith, length}
use Rattle.planner.specs.Planner.{settings_rows}
use Rattle.planner.proofs.SettingsLaws.{passable_now, written_length, written_next}
use Rattle.planner.proofs.write_wavelengths.Goals as goal
use Rattle.planner.proofs.write_wavelengths.Goals.{In-loop-row}

held : (c : In-loop-row) → 3 * c.loop-row.row + 3 ≤ length c.args.rows.now
held c = omega (arith, c.loop-row-test.true)

pub loop-row-init : goal.loop-row-init
unfolding settings_rows
loop-row-init c = refl

pub write_row-requires : goal.write_row-requires
write_row-requires c =
    let w = c.requires in
    let e = c.loop-row.invariant in
    let h = held (goal.at.write_row-requires c).In-loop-row in
    let l : c.loop-row.row < w.K = omega (arith, h, w.whole) in
    (omega (arith, h, written_length _ _ _ _ e (omega (arith, h))), passable_now _ _ _ _ e (w.passable _ l))

pub loop-row-preserved : goal.loop-row-preserved
loop-row-preserved c = c.write_row.ensures ∙ written_next _ _ _ _ c.loop-row.invariant (held (goal.at.loop-row-preserved c).In-loop-row)
