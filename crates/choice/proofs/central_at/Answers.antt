-- `choice::central_at` meets its contract: the second byte of a row is its central.
use Rattle.std.proofs.Common.{sym}
use Rattle.choice.proofs.RowsLaws.{central_at}
use Rattle.choice.proofs.central_at.Goals as goal

pub returns : goal.returns
returns c = sym (central_at _ _ c.requires)
