-- The program's own table, part by part.
--   asked_of entry   == who answers, and the room or the settings that are given
--   outcome_of entry == what comes back: the numbers that the answer tells, the bytes written to the room's front, and beyond those that the program takes for blank
--   part_of part     == the whole part
use Rattle.std.specs.Prelude.{◌++◌, ◌-◌, length, replicate}
use Rattle.shelf.specs.Network.{of_sizes}
use Rattle.calls.specs.Refusal.{answered_by}
use Rattle.planner.specs.Answer.{planned_by}
use Rattle.bench.specs.declared.Entry.{Entry}
use Rattle.bench.specs.declared.Entry.TheVariants.{Planner, Acceptance}
use Rattle.bench.specs.declared.Part.{Part}
use Rattle.bench.specs.declared.TheConstants.{BLANK}
use Rattle.bench.specs.Bench as bench
use Rattle.bench.specs.Bench.{planner, acceptor, by_planner, by_acceptance}

unfoldable pub asked_of : Entry → bench.Asked
asked_of (Planner room answer written) = planner room
asked_of (Acceptance settings answer) = acceptor settings.now

unfoldable pub outcome_of : Entry → bench.Outcome
outcome_of (Planner room answer written) = by_planner (planned_by answer) (written.now ++ replicate (room - length written.now) BLANK)
outcome_of (Acceptance settings answer) = by_acceptance (answered_by answer)

unfoldable pub part_of : Part → bench.Part
part_of part = record {
  case = part.case;
  net = of_sizes part.n part.m part.r;
  calls = part.calls.now;
  asked = asked_of part.entry;
  outcome = outcome_of part.entry;
}
