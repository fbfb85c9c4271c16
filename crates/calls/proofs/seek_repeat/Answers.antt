-- `calls::seek_repeat` meets its contract. The loop's invariant: the record holds the points of the rows passed so far, and
-- none of those rows is refused.
use Rattle.std.proofs.Common.{◌≡◌, refl, sym, ◌∙◌, ◌+◌}
use Rattle.ground.specs.Below.{used_earlier}
use Rattle.ground.specs.Marks.{blank, marks}
use Rattle.ground.specs.MarksLaws.{length_marks}
use Rattle.shelf.specs.Network.{most_modules}
use Rattle.shelf.specs.NetworkLaws.{channel_bit}
use Rattle.shelf.specs.Rows.{row_count, is_output}
use Rattle.calls.specs.Verdict.{passed, seek_rows}
use Rattle.calls.specs.VerdictLaws.{seek_bad, seek_good, seek_end}
use Rattle.calls.specs.Table.{point_used, point_twice, point_marks}
use Rattle.calls.specs.TableLaws.{point_tells, twice_refuses}
use Rattle.calls.proofs.seek_repeat.Goals as goal
use Rattle.calls.proofs.seek_repeat.Goals.{After-mark}

told : (c : After-mark) → (c.mark.result ≡ point_used c.args.calls.now (is_output c.args.side) c.loop-row.row)
    × (c.mark.new.used ≡ point_marks c.args.calls.now (is_output c.args.side) (c.loop-row.row + 1))
unfolding row_count
told c = point_tells _ _ _ c.requires c.loop-row-test.true c.loop-row.invariant.0 c.point_at-point.ensures c.mark.ensures

pub loop-row-init : goal.loop-row-init
unfolding seek_rows marks blank most_modules
loop-row-init c = (refl, refl)

pub mark-requires : goal.mark-requires
unfolding row_count
mark-requires c =
    let fits = c.requires _ c.loop-row-test.true in
    let read = c.point_at-point.ensures in
    (rw (c.loop-row.invariant.0, length_marks, read.module_is) fits.own_module, rw read.channel_is (channel_bit fits.own_channel))

pub returns-then-mark : goal.returns-then-mark
unfolding point_twice row_count
returns-then-mark c =
    c.twice.ensures
    ∙ seek_bad _ (used_earlier _ _) _ _ (twice_refuses _) c.loop-row.invariant.1 (sym (told (goal.at.returns-then-mark c).After-mark).0 ∙ c.if-mark.true) c.loop-row-test.true

pub loop-row-preserved : goal.loop-row-preserved
unfolding row_count
loop-row-preserved c =
    let t = told (goal.at.loop-row-preserved c).After-mark in
    (t.1, seek_good _ (used_earlier _ _) _ c.loop-row.invariant.1 (sym t.0 ∙ c.if-mark.false))

pub returns : goal.returns
unfolding point_twice row_count passed
returns c = seek_end _ (used_earlier _ _) _ _ c.loop-row.auto.row-end c.loop-row-test.false c.loop-row.invariant.1
