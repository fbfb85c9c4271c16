-- `acceptance::seek_unlawful` meets its contract. The loop's invariant: the records hold the pairs of the rows passed so far,
-- and none of those rows is refused.
use Rattle.std.proofs.Common.{◌≡◌, true, false}
use Rattle.calls.specs.Verdict.{passed, seek_rows}
use Rattle.acceptance.specs.Acceptance.{row_verdict}
use Rattle.acceptance.proofs.Pairs.{pair_marks}
use Rattle.acceptance.proofs.seek_unlawful.Given as goal

abbrev pub invariant-loop-row : goal.invariant-loop-row
invariant-loop-row l =
    (l.inputs ≡ pair_marks l.calls l.settings false l.row)
    × (l.outputs ≡ pair_marks l.calls l.settings true l.row)
    × (seek_rows l.row (row_verdict l.net l.calls l.settings) ≡ passed)
