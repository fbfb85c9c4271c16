-- `acceptance::judge_light` meets its contract: the first test that fails gives the number.
use Rattle.std.proofs.Common.{◌≡◌, sym, ◌∙◌, true, arith}
use Rattle.shelf.specs.NetworkLaws.{modules_in_cycle}
use Rattle.calls.specs.Verdict.{passed}
use Rattle.acceptance.specs.Acceptance.{has_numbers}
use Rattle.acceptance.proofs.Tests.{numbers_below, light_nine, light_ten, light_eleven, light_passed}
use Rattle.acceptance.proofs.judge_light.Goals as goal
use Rattle.acceptance.proofs.judge_light.Goals.{Else-not-has_numbers}

known : (c : Else-not-has_numbers) → has_numbers c.args.net c.args.set.to_central c.args.set.central c.args.set.from_central ≡ true
known c = sym c.has_numbers.ensures ∙ c.if-not-has_numbers.false

pub returns-then-not-has_numbers : goal.returns-then-not-has_numbers
returns-then-not-has_numbers c = light_nine _ _ _ (sym c.has_numbers.ensures ∙ c.if-not-has_numbers.true)

pub exit_port-requires : goal.exit_port-requires
exit_port-requires c =
    let pre = c.requires in
    omega (arith, c.cycle-cycle.ensures, numbers_below _ _ _ _ pre.0 (known (goal.at.exit_port-requires c).Else-not-has_numbers), modules_in_cycle _ pre.0)

pub returns-then-exit_port-set : goal.returns-then-exit_port-set
returns-then-exit_port-set c = light_ten _ _ _ (known (goal.at.returns-then-exit_port-set c).Else-not-has_numbers) c.cycle-cycle.ensures c.exit_port.ensures c.if-exit_port-set.true

pub exit_port-requires-2 : goal.exit_port-requires-2
exit_port-requires-2 c =
    omega (arith, c.cycle-cycle.ensures, numbers_below _ _ _ _ c.requires.0 (known (goal.at.exit_port-requires-2 c).Else-not-has_numbers))

pub returns-then-exit_port-call : goal.returns-then-exit_port-call
returns-then-exit_port-call c =
    light_eleven _ _ _ (known (goal.at.returns-then-exit_port-call c).Else-not-has_numbers) c.cycle-cycle.ensures c.exit_port.ensures c.if-exit_port-set.false c.exit_port-2.ensures c.if-exit_port-call.true

pub returns : goal.returns
unfolding passed
returns c =
    light_passed _ _ _ (known (goal.at.returns c).Else-not-has_numbers) c.cycle-cycle.ensures c.exit_port.ensures c.if-exit_port-set.false c.exit_port-2.ensures c.if-exit_port-call.false
