-- `lines::list_layout` meets its contract: the planned file's own settings, or the calls with the settings of the planner.
use Rattle.std.proofs.Common.{refl, sym, ◌∙◌, T, arith}
use Rattle.ground.specs.Bytes.{part}
use Rattle.shelf.specs.Network.{most_calls}
use Rattle.trailer.specs.File.{has_settings}
use Rattle.trailer.specs.Trailer.{whole_told}
use Rattle.planfile.specs.Reader.{calls_in, settings_in, net_of}
use Rattle.lines.specs.Text.{planned_text}
use Rattle.lines.specs.Listing.{Held, held, calls_few, planned_rows, told_planned, told_calls}
use Rattle.lines.specs.WritingLaws.{writes_same}
use Rattle.lines.proofs.list_layout.Goals as goal
use Rattle.lines.proofs.list_layout.Goals.{Start, Then-has_settings}

-- the positions follow one another within the file, and the planned one has settings
holds : (c : Start) → Held c.args.file.now (whole_told c.args.layout)
unfolding whole_told
holds c = held _ _ c.requires.1.answer refl

with_settings : (c : Then-has_settings) → T (has_settings c.args.layout.kind)
with_settings c = rw (sym c.has_settings.ensures ∙ c.if-has_settings.true) tt

pub slice_bounds-calls-count : goal.slice_bounds-calls-count
unfolding whole_told
slice_bounds-calls-count c = omega (arith, (holds (goal.at.slice_bounds-calls-count c).Start).calls_end)

pub slice_bounds-calls-start : goal.slice_bounds-calls-start
unfolding whole_told
slice_bounds-calls-start c = omega (arith, (holds (goal.at.slice_bounds-calls-start c).Start).calls_end)

pub slice_bounds-calls-end : goal.slice_bounds-calls-end
unfolding whole_told
slice_bounds-calls-end c = omega (arith, holds (goal.at.slice_bounds-calls-end c).Start)

pub overflow_mul-end : goal.overflow_mul-end
unfolding whole_told most_calls
overflow_mul-end c = omega (arith, (holds (goal.at.overflow_mul-end c).Start).few)

pub overflow_add-end : goal.overflow_add-end
unfolding whole_told
overflow_add-end c =
    let h = holds (goal.at.overflow_add-end c).Start in
    omega (arith, h.settings_end (with_settings (goal.at.overflow_add-end c).Then-has_settings), h.inside)

pub slice_bounds-settings-end : goal.slice_bounds-settings-end
unfolding whole_told
slice_bounds-settings-end c =
    let h = holds (goal.at.slice_bounds-settings-end c).Start in
    omega (arith, h.settings_end (with_settings (goal.at.slice_bounds-settings-end c).Then-has_settings), h.inside)

pub write_table-requires : goal.write_table-requires
unfolding whole_told calls_in settings_in part
write_table-requires c =
    let k = with_settings (goal.at.write_table-requires c).Then-has_settings in
    (c.requires.0, rw ((holds (goal.at.write_table-requires c).Start).settings_end k) (planned_rows _ _ c.requires.1.answer refl k))

pub returns-then-has_settings : goal.returns-then-has_settings
unfolding whole_told calls_in settings_in net_of part planned_text
returns-then-has_settings c =
    let k = with_settings (goal.at.returns-then-has_settings c).Then-has_settings in
    writes_same c.write_table.ensures (rw ((holds (goal.at.returns-then-has_settings c).Start).settings_end k) (told_planned _ _ c.requires.1.answer refl k))

pub plan_and_list-requires : goal.plan_and_list-requires
unfolding whole_told calls_in part
plan_and_list-requires c = (c.requires.0, calls_few _ _ c.requires.1.answer refl)

pub returns-else-has_settings : goal.returns-else-has_settings
unfolding whole_told calls_in net_of part
returns-else-has_settings c =
    writes_same c.plan_and_list.ensures (told_calls _ _ c.requires.1.answer refl (sym c.has_settings.ensures ∙ c.if-has_settings.false))
