-- What reading a file answers, as a function of its bytes and of the kinds that the reader takes.
--   note_in, calls_in, settings_in == the parts of a file at the positions told, and net_of the network told
--   layout_checks file layout == the checks of the rows at the layout's positions
--   reader_checks kinds file == 14, 1, 3 and 15, then the checks of the rows
--   reader_verdict kinds file == the number and row of a reader of these kinds, file_answer kinds file the case of its answer, and
--                            read_answer kinds file all that it tells
--   WholeFile, Reads      == what the reader guarantees
use Rattle.std.specs.Prelude.{◌≡◌, false, List, [], ◌∷◌, ℕ, ◌≤◌, T, length, Result}
use Rattle.ground.specs.Bytes.{part}
use Rattle.shelf.specs.declared.Network.{Network}
use Rattle.shelf.specs.Network.{has_least_cycle}
use Rattle.shelf.specs.Rows.{row_count}
use Rattle.shelf.specs.Light.{Lawful}
use Rattle.calls.specs.declared.Verdict.{Verdict}
use Rattle.calls.specs.Verdict.{answer}
use Rattle.calls.specs.Table.{InOrder}
use Rattle.trailer.specs.declared.Kinds.{Kinds}
use Rattle.trailer.specs.declared.Told.{Told}
use Rattle.trailer.specs.File.{has_settings, has_cycle, takes, most_note, settings_distance, file_of}
use Rattle.trailer.specs.declared.Layout.{Layout}
use Rattle.trailer.specs.Trailer.{trailer_place, trailer_verdict, layout_of, refused_told, told_by, answer_of}
use Rattle.planfile.specs.Checks.{table_checks}

-- the parts of a file at the positions told
unfoldable pub note_in : List ℕ → Told → List ℕ
note_in file told = part file told.note_at told.calls_at

unfoldable pub calls_in : List ℕ → Told → List ℕ
calls_in file told = part file told.calls_at told.settings_at

unfoldable pub settings_in : List ℕ → Told → List ℕ
settings_in file told = part file told.settings_at (trailer_place file)

unfoldable pub net_of : Told → Network
net_of told = record { n = told.n; m = told.m; r = told.r; w = told.w }

-- the rows of a file with this layout
unfoldable pub layout_checks : List ℕ → Layout → Verdict
layout_checks file layout =
    table_checks layout.net layout.kind (part file layout.calls_at layout.settings_at) (part file layout.settings_at layout.trailer_at)

-- "File reader: 14, 1, 3, 15, then as acceptance from 5."
unfoldable pub reader_checks : Kinds → List ℕ → List Verdict
reader_checks kinds file = trailer_verdict kinds file ∷ layout_checks file (layout_of file) ∷ []

unfoldable pub reader_verdict : Kinds → List ℕ → Verdict
reader_verdict kinds file = answer (reader_checks kinds file) (layout_of file).count

unfoldable pub file_answer : Kinds → List ℕ → Result Layout Verdict
file_answer kinds file = answer_of (reader_verdict kinds file) (layout_of file)

unfoldable pub read_answer : Kinds → List ℕ → Told
read_answer kinds file = told_by (file_answer kinds file)

-- ---- what is guaranteed

-- a file that was read: it is the file of the parts at the positions told
pub record WholeFile (kinds : Kinds) (file : List ℕ) (told : Told) : Type 0 where
  pub is_file : file ≡ file_of (net_of told) told.kind (note_in file told) (calls_in file told) (settings_in file told)
  pub tells_k : (told.row ≡ row_count (calls_in file told)) × (told.count ≡ row_count (calls_in file told))
  pub a_kind : T (takes kinds told.kind)
  -- "Old files .. take W as the larger of r and m."
  pub least_cycle : has_cycle told.kind ≡ false → T (has_least_cycle (net_of told))
  pub short_note : length (note_in file told) ≤ most_note
  pub in_order : InOrder (net_of told) (calls_in file told)
  pub settings_length : length (settings_in file told) ≡ settings_distance told.kind told.count
  -- "for kind 1, settings begin at the trailer"; kind 3 is as 1, and 4 as 2
  pub no_settings : has_settings told.kind ≡ false → told.settings_at ≡ trailer_place file
  pub lawful : T (has_settings told.kind) → Lawful (net_of told) (calls_in file told) (settings_in file told)

pub record Reads (kinds : Kinds) (file : List ℕ) (told : Told) : Type 0 where
  -- number, row and all that is told, for every input
  pub answer : told ≡ read_answer kinds file
  -- "A refused read tells zero for all of these."
  pub zeros : (told.number ≡ 0 → ⊥) → told ≡ refused_told (record { number = told.number; row = told.row })
  pub whole : told.number ≡ 0 → WholeFile kinds file told
