-- `calls::seek_outside` meets its contract. The loop's invariant: no row passed so far is refused.
use Rattle.std.proofs.Common.{refl, sym, ◌∙◌, arith}
use Rattle.shelf.specs.Rows.{row_count}
use Rattle.calls.specs.Verdict.{passed, seek_rows}
use Rattle.calls.specs.VerdictLaws.{seek_bad, seek_good, seek_end}
use Rattle.calls.specs.Table.{outside, outside_row}
use Rattle.calls.specs.TableLaws.{outside_read}
use Rattle.calls.proofs.seek_outside.Goals as goal

pub loop-row-init : goal.loop-row-init
unfolding seek_rows
loop-row-init c = refl

pub returns-then-is_outside : goal.returns-then-is_outside
unfolding outside_row row_count
returns-then-is_outside c = seek_bad 5 (outside _ _) _ _ (λ e. omega arith) c.loop-row.invariant (sym (outside_read _ _ _ _ c.at.ensures) ∙ sym c.is_outside.ensures ∙ c.if-is_outside.true) c.loop-row-test.true

pub loop-row-preserved : goal.loop-row-preserved
loop-row-preserved c = seek_good 5 (outside _ _) _ c.loop-row.invariant (sym (outside_read _ _ _ _ c.at.ensures) ∙ sym c.is_outside.ensures ∙ c.if-is_outside.false)

pub returns : goal.returns
unfolding outside_row row_count passed
returns c = seek_end 5 (outside _ _) _ _ c.loop-row.auto.row-end c.loop-row-test.false c.loop-row.invariant
