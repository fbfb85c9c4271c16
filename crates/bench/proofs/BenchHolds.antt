-- "These twelve are proved of the written rules by a single statement over a list of them": here it is, computed by the checker.
--   bench_holds == the written rules give every part its outcome
use Rattle.std.specs.Prelude.{◌≡◌, refl, map}
use Rattle.ground.specs.Truth.{all, any}
use Rattle.ground.specs.Below.{some_below, used_earlier}
use Rattle.ground.specs.Lists.{up_from}
use Rattle.grating.specs.Grating.{exit_port, wavelength_between, remainder}
use Rattle.shelf.specs.Network.{most_channels, most_centrals, most_modules, most_calls, most_wavelengths, within, cycle, cycle_within, within_limits, least_cycle, of_sizes, own_wavelength, has_central}
use Rattle.shelf.specs.Order.{order}
use Rattle.shelf.specs.Rows.{row_count, α, ω, β, ω', x, γ, y}
use Rattle.shelf.specs.Light.{row_at}
use Rattle.calls.specs.Verdict.{success, passed, refused_if, ◌⨾◌, in_turn, answer, seek_rows}
use Rattle.calls.specs.Table.{bad_sizes, bad_lengths, too_many_calls, outside_call, outside_row, point_twice, size_checks, call_checks}
use Rattle.acceptance.specs.Acceptance.{has_numbers, light_verdict, row_verdict, unlawful_row, row_checks, acceptance}
use Rattle.choice.specs.Rule.{first_below, first_of, is_none, chain, exchange, exchanged, by_chain, step, plan, moved_by}
use Rattle.choice.specs.Colouring.{rows_below}
use Rattle.planner.specs.Planner.{settings_rows, overfull, overfull_row, room_refused, planner_checks, planner_verdict, chosen, planned_settings, planned_moved, plan_answer, plan_buffer}
use Rattle.bench.specs.Bench.{call, setting, blank, plans, accepts, calls_of3, settings_of3, bench_table, by_planner, by_acceptance, ruled_by, ruled}

pub bench_holds : map ruled bench_table ≡ map (λ part. part.outcome) bench_table
unfolding all any some_below used_earlier up_from exit_port wavelength_between remainder most_channels most_centrals most_modules most_calls most_wavelengths within cycle cycle_within within_limits least_cycle of_sizes own_wavelength has_central order row_count α ω β ω' x γ y row_at success passed refused_if ◌⨾◌ in_turn answer seek_rows bad_sizes bad_lengths too_many_calls outside_call outside_row point_twice size_checks call_checks has_numbers light_verdict row_verdict unlawful_row row_checks acceptance first_below first_of is_none chain exchange exchanged by_chain step plan moved_by rows_below settings_rows overfull overfull_row room_refused planner_checks planner_verdict chosen planned_settings planned_moved plan_answer plan_buffer call setting blank plans accepts calls_of3 settings_of3 bench_table by_planner by_acceptance ruled_by ruled
bench_holds = refl
