-- `calls::seek_repeat` meets its contract. The loop's invariant: the record holds the points of the rows passed so far, and
-- none of those rows is refused.
use Rattle.std.proofs.Common.{◌≡◌}
use Rattle.shelf.specs.Rows.{is_output}
use Rattle.calls.specs.Verdict.{passed, refused_if, seek_rows}
use Rattle.calls.specs.Table.{point_used, point_marks, twice_number}
use Rattle.calls.proofs.seek_repeat.Given as goal

abbrev pub invariant-loop-row : goal.invariant-loop-row
invariant-loop-row l =
    (l.used ≡ point_marks l.calls (is_output l.side) l.row)
    × (seek_rows l.row (λ i. refused_if (twice_number l.side) i (point_used l.calls (is_output l.side) i)) ≡ passed)
