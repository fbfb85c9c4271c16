-- `Record::record_rows` meets its contract.
use Rattle.choice.proofs.RecordLaws.{nothing_recorded}
use Rattle.choice.proofs.Record.record_rows.Goals as goal

pub loop-row-init : goal.loop-row-init
loop-row-init c = rw c.requires.0 (nothing_recorded _ _)
