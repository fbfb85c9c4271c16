-- `planner::seek_overfull` meets its contract.
use Rattle.std.proofs.Common.{◌≡◌, refl, true, false, suc, ◌+◌, ◌<◌, arith, length}
use Rattle.shelf.specs.Network.{most_modules, most_centrals}
use Rattle.shelf.specs.NetworkLaws.{limits_are}
use Rattle.shelf.specs.Rows.{row_count, α, β}
use Rattle.calls.specs.Verdict.{passed, seek_rows}
use Rattle.calls.specs.VerdictLaws.{seek_bad, seek_good, seek_end}
use Rattle.choice.specs.Colouring.{at_module}
use Rattle.choice.specs.Record.{modules_of_both, module_number}
use Rattle.planner.specs.Planner.{overfull, overfull_row}
use Rattle.planner.proofs.Tally.{Tally, number_below, no_calls, outputs_kept, inputs_now, outputs_now, tally_next, counts_small, overfull_larger, not_overfull}
use Rattle.planner.proofs.seek_overfull.Goals as goal
use Rattle.planner.proofs.seek_overfull.Goals.{After-at-call, After-one_more-outputs}

-- the row's modules are those of the largest network
small_modules : (c : After-at-call) → (α c.args.calls.now c.loop-row.row < most_modules) × (β c.args.calls.now c.loop-row.row < most_modules)
unfolding row_count
small_modules c =
    let l = (limits_are _).0 c.requires.0 in
    let i = c.requires.1 _ c.loop-row-test.true in
    omega arith

-- counted at both its modules
counted : (c : After-one_more-outputs) →
    let calls = c.args.calls.now in
    let row = c.loop-row.row in
    (c.one_more-inputs.result ≡ length (at_module (α calls) (suc row) (α calls row)))
    × (c.one_more-outputs.result ≡ length (at_module (β calls) (suc row) (β calls row)))
    × Tally calls c.one_more-outputs.new.tally (row + 1)
unfolding module_number most_modules
counted c =
    let t = c.loop-row.invariant.0 in
    let small = small_modules (goal.at.After-one_more-outputs c).After-at-call in
    let m = rw c.at-call.ensures.input_module at c.one_more-inputs.ensures in
    let n = rw c.at-call.ensures.output_module at c.one_more-outputs.ensures in
    (inputs_now _ _ _ _ _ _ _ t small.0 small.1 m n, outputs_now _ _ _ _ _ _ _ t small.0 small.1 m n, tally_next _ _ _ _ _ _ _ t small.0 small.1 m n)

pub loop-row-init : goal.loop-row-init
unfolding seek_rows modules_of_both most_modules
loop-row-init c = (no_calls _, refl)

pub one_more-inputs-requires : goal.one_more-inputs-requires
unfolding module_number modules_of_both most_modules most_centrals
one_more-inputs-requires c =
    let small = (small_modules (goal.at.one_more-inputs-requires c).After-at-call).0 in
    let inv = c.loop-row.invariant in
    let count = counts_small _ _ _ c.requires.0 inv.1 false (α c.args.calls.now c.loop-row.row) in
    rw c.at-call.ensures.input_module (number_below false _ small, omega (arith, inv.0.counts false _ small))

pub one_more-outputs-requires : goal.one_more-outputs-requires
unfolding module_number modules_of_both most_modules most_centrals
one_more-outputs-requires c =
    let small = small_modules (goal.at.one_more-outputs-requires c).After-at-call in
    let inv = c.loop-row.invariant in
    let count = counts_small _ _ _ c.requires.0 inv.1 true (β c.args.calls.now c.loop-row.row) in
    rw c.at-call.ensures.output_module
    (number_below true _ small.1, omega (arith, outputs_kept _ _ _ _ _ inv.0 small.0 (rw c.at-call.ensures.input_module at c.one_more-inputs.ensures) _ small.1))

pub returns-then-centrals-max : goal.returns-then-centrals-max
unfolding overfull_row row_count
returns-then-centrals-max c =
    let n = counted (goal.at.returns-then-centrals-max c).After-one_more-outputs in
    seek_bad 8 (overfull _ _) _ _ (λ e. omega arith) c.loop-row.invariant.1 (overfull_larger _ _ _ _ _ _ c.centrals.ensures n.0 n.1 (rw c.max.ensures at c.if-centrals-max.true)) c.loop-row-test.true

pub loop-row-preserved : goal.loop-row-preserved
loop-row-preserved c =
    let n = counted (goal.at.loop-row-preserved c).After-one_more-outputs in
    (n.2, seek_good 8 (overfull _ _) _ c.loop-row.invariant.1 (not_overfull _ _ _ _ _ _ c.centrals.ensures n.0 n.1 (omega arith) (omega arith)))

pub returns : goal.returns
unfolding overfull_row row_count passed
returns c = seek_end 8 (overfull _ _) _ _ c.loop-row.auto.row-end c.loop-row-test.false c.loop-row.invariant.1
