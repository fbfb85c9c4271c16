-- `lines::plan_and_list` meets its contract: the planner's refusal, or the table with the settings that the planner wrote.
use Rattle.std.proofs.Common.{◌≡◌, refl, arith, length-take}
use Rattle.calls.specs.RefusalLaws.{refuses}
use Rattle.shelf.specs.Network.{most_calls}
use Rattle.shelf.specs.Rows.{row_count}
use Rattle.lines.specs.Listing.{refused_calls, placed_rows, placed_calls}
use Rattle.lines.specs.TextLaws.{first_line_room}
use Rattle.lines.specs.WritingLaws.{writes_same}
use Rattle.lines.proofs.plan_and_list.Goals as goal
use Rattle.lines.proofs.plan_and_list.Goals.{In-Ok}

-- success tells K
tells_k : (c : In-Ok) → c.in-Ok.plan.count ≡ row_count c.args.calls.now
tells_k c = c.in-Ok.ensures.tells_k refl

pub overflow_mul-end : goal.overflow_mul-end
unfolding most_calls
overflow_mul-end c = omega (arith, tells_k (goal.at.overflow_mul-end c).In-Ok)

pub slice_bounds-settings-end : goal.slice_bounds-settings-end
unfolding most_calls
slice_bounds-settings-end c = omega (arith, tells_k (goal.at.slice_bounds-settings-end c).In-Ok)

pub slice_bounds-write_table-end : goal.slice_bounds-write_table-end
unfolding most_calls
slice_bounds-write_table-end c = simp length-take (omega (arith, tells_k (goal.at.slice_bounds-write_table-end c).In-Ok))

pub write_table-requires : goal.write_table-requires
unfolding most_calls
write_table-requires c =
    (c.requires.0, rw (tells_k (goal.at.write_table-requires c).In-Ok) (placed_rows _ _ _ _ _ c.in-Ok.ensures refl refl c.requires.1))

pub returns-in-Ok : goal.returns-in-Ok
unfolding most_calls
returns-in-Ok c =
    writes_same c.write_table.ensures (rw (tells_k (goal.at.returns-in-Ok c).In-Ok) (placed_calls _ _ _ _ _ c.in-Ok.ensures refl refl))

pub write_refusal-requires : goal.write_refusal-requires
write_refusal-requires c = omega (arith, first_line_room)

pub returns-in-Err : goal.returns-in-Err
unfolding most_calls
returns-in-Err c =
    writes_same c.write_refusal.ensures (refused_calls _ _ _ _ _ c.in-Err.ensures refl (refuses c.in-Err.refusal))
