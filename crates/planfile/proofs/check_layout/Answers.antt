-- `planfile::check_layout` meets its contract: the parts at the layout's positions are K call rows and their settings.
use Rattle.std.proofs.Common.{arith}
use Rattle.ground.specs.Bytes.{part}
use Rattle.ground.specs.BytesLaws.{length_part}
use Rattle.trailer.proofs.FileLaws.{rows_part}
use Rattle.planfile.specs.Reader.{layout_checks}
use Rattle.planfile.proofs.check_layout.Goals as goal

pub check_table-requires : goal.check_table-requires
unfolding part
check_table-requires c =
    let file = c.args.file.now in
    let layout = c.args.layout in
    let laid = c.requires in (
      laid.limits,
      rw (rows_part file layout.calls_at layout.settings_at layout.count (omega arith) laid.calls_end) (omega (arith, length_part file layout.settings_at layout.trailer_at laid.inside)),
    )

pub returns : goal.returns
unfolding layout_checks part
returns c = c.check_table.ensures
