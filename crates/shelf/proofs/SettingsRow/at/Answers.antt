-- `shelf::SettingsRow::at` meets its contract: the three bytes of the row, three fields.
use Rattle.std.proofs.Common.{rules}
use Rattle.shelf.specs.Rows.{x, γ, y}
use Rattle.shelf.proofs.Chunks.{chunk_byte}
use Rattle.shelf.proofs.SettingsRow.at.Goals as goal

pub returns : goal.returns
unfolding x γ y
returns c = search (rules, chunk_byte)
