-- `shelf::CallRow::at` meets its contract: the four bytes of the row, four fields.
use Rattle.std.proofs.Common.{rules}
use Rattle.shelf.specs.Rows.{α, ω, β, ω'}
use Rattle.shelf.proofs.Chunks.{chunk_byte}
use Rattle.shelf.proofs.CallRow.at.Goals as goal

pub returns : goal.returns
unfolding α ω β ω'
returns c = search (rules, chunk_byte)
