-- `calls::seek_outside` meets its contract. The loop's invariant: no row passed so far is refused.
use Rattle.std.proofs.Common.{◌≡◌}
use Rattle.calls.specs.Verdict.{passed, refused_if, seek_rows}
use Rattle.calls.specs.Table.{outside}
use Rattle.calls.proofs.seek_outside.Given as goal

abbrev pub invariant-loop-row : goal.invariant-loop-row
invariant-loop-row l = seek_rows l.row (λ i. refused_if 5 i (outside l.net l.calls i)) ≡ passed
