-- `Record::record_row` meets its contract: the row's central is taken at both its modules.
use Rattle.std.proofs.Common.{add-one, arith}
use Rattle.choice.specs.Rule.{at}
use Rattle.choice.specs.Rows.{module_in, centrals_of}
use Rattle.choice.proofs.RecordLaws.{recorded_next}
use Rattle.choice.proofs.Record.record_row.Goals as goal

pub returns : goal.returns
returns c =
    rw (c.take-2.ensures, c.take.ensures, c.module_number-2.ensures.0, c.module_number.ensures.0, c.from-central.ensures, c.central_at.ensures, add-one c.args.row)
    (recorded_next (module_in c.args.rows.now) (at (centrals_of c.args.rows.now)) c.args.row c.args.self.now.words c.requires.1
    (λ output. c.requires.0.modules output c.args.row (omega arith)) (c.requires.0.centrals c.args.row (omega arith)))
