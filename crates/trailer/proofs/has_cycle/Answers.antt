-- `trailer::has_cycle` meets its contract: what the kind of this number has, and what is no kind has nothing.
use Rattle.std.proofs.Common.{rules}
use Rattle.trailer.specs.File.{has_cycle}
use Rattle.trailer.proofs.KindLaws.{no_cycle, by_answer}
use Rattle.trailer.proofs.has_cycle.Goals as goal

pub returns : goal.returns
returns c = by_answer has_cycle no_cycle _ _ _ c.try_from.ensures c.is_ok_and.ensures (λ kind h. search rules) (λ unknown h. h)
