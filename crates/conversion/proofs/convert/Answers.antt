-- `conversion::convert` meets its contract: the reader's refusal, or what the last step answers of the layout that it tells.
use Rattle.calls.specs.RefusalLaws.{passed_on}
use Rattle.conversion.specs.Conversion.{cycle_for}
use Rattle.conversion.proofs.ConversionLaws.{kept_converts, whole_laid, recast_converts}
use Rattle.conversion.proofs.convert.Goals as goal

pub returns-in_err-layout : goal.returns-in_err-layout
returns-in_err-layout c =
    rw (passed_on _ c.from_residual.ensures.1) (kept_converts _ _ _ _ _ (rw c.kinds.ensures at c.in_err-layout.ensures))

pub recast-requires : goal.recast-requires
recast-requires c = whole_laid _ (cycle_for c.args.to) _ c.args.file.now _ c.in_ok-layout.ensures

pub returns : goal.returns
returns c = recast_converts _ _ _ _ _ (rw c.kinds.ensures at c.in_ok-layout.ensures) _ _ c.recast.ensures
