-- `Record::record_rows` meets its contract. The loop's invariant: the record is that of the rows passed so far.
use Rattle.choice.specs.Rule.{at}
use Rattle.choice.specs.Rows.{module_in, centrals_of}
use Rattle.choice.specs.Record.{Recorded}
use Rattle.choice.proofs.Record.record_rows.Given as goal

abbrev pub invariant-loop-row : goal.invariant-loop-row
invariant-loop-row l = Recorded (module_in l.rows) (at (centrals_of l.rows)) l.row l.self.words
