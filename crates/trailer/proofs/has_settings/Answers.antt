-- `trailer::has_settings` meets its contract: what the kind of this number has, and what is no kind has nothing.
use Rattle.std.proofs.Common.{rules}
use Rattle.trailer.specs.File.{has_settings}
use Rattle.trailer.proofs.KindLaws.{no_settings, by_answer}
use Rattle.trailer.proofs.has_settings.Goals as goal

pub returns : goal.returns
returns c = by_answer has_settings no_settings _ _ _ c.try_from.ensures c.is_ok_and.ensures (λ kind h. search rules) (λ unknown h. h)
