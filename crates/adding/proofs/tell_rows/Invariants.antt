-- `adding::tell_rows` meets its contract. The loop's invariant: what is left of the part of the chain stands at its front, and the rows
-- behind that are written.
use Rattle.std.proofs.Common.{length, ◌-◌}
use Rattle.std.specs.Slice.Iter.{iter_rest}
use Rattle.std.specs.Iterator.Adapters.{rev_source}
use Rattle.ground.specs.Bytes.{Adds}
use Rattle.adding.specs.Adding.{row_bytes}
use Rattle.adding.specs.Steps.{rows_told}
use Rattle.adding.proofs.Telling.{Left}
use Rattle.adding.proofs.tell_rows.Given as goal

abbrev pub invariant-loop-row : goal.invariant-loop-row
invariant-loop-row l =
    let left = iter_rest (rev_source l.row-iterator) in
    Left l.chain l.start l.moved left × Adds l.initial.out l.out 0 l.end (row_bytes (rows_told l.chain l.start (l.moved - length left)))
