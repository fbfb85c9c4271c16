-- What the planner tells: "An answer is a number, a row, and for the planner the moved count. Success is 0, with K in the place of the row .. All refusals have moved 0".
--   planned_by answer    == success with K and the number of calls moved, or a refusal with nothing moved
use Rattle.std.specs.Prelude.{Result, Ok, Err}
use Rattle.calls.specs.declared.refusal.Refusal.{Refusal}
use Rattle.calls.specs.Refusal.{number_of, row_of}
use Rattle.planner.specs.declared.answer.Plan.{Plan}
use Rattle.planner.specs.declared.Planned.{Planned}

abbrev pub planned_by : Result Plan Refusal → Planned
planned_by (Ok plan) = record { number = 0; row = plan.count; moved = plan.moved }
planned_by (Err refusal) = record { number = number_of refusal; row = row_of refusal; moved = 0 }
