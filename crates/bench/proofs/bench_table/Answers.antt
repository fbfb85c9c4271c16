-- The program's table is the bench table, part by part: computed by the checker.
use Rattle.std.proofs.Common.{refl}
use Rattle.shelf.specs.Network.{of_sizes}
use Rattle.calls.specs.Verdict.{success}
use Rattle.bench.specs.Bench.{call, setting, blank, plans, accepts, calls_of3, settings_of3, bench_table, by_planner, by_acceptance}
use Rattle.bench.specs.Program.{asked_of, outcome_of, part_of}
use Rattle.bench.proofs.bench_table.Goals as goal

pub returns : goal.returns
unfolding of_sizes success call setting blank plans accepts calls_of3 settings_of3 bench_table by_planner by_acceptance asked_of outcome_of part_of
returns c = refl
