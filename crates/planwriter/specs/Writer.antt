-- What the writers answer and what they leave in the buffer, as functions of their input: one definition for all kinds.
--   long_note note, short_buffer size room == 16 and 4, for a file of `size` bytes and a buffer of `room` bytes
--   other_cycle net, untold_cycle kind net == 18: W is not the larger of r and m, and the kind has no place for it
--   part_checks kind net note calls settings room == 1, 2, 3, 16, 4, then the checks of the rows, then 18
--   writer_verdict ..      == the answer
--   write_buffer ..        == the buffer afterwards
--   HasRoom kind ..       == what has to hold for the file to be put into the buffer
--   Writes kind ..        == what the entries guarantee
--   layout_with net kind note calls settings == the layout of the file of these parts
--   GivenBack ..          == what a reader tells is this layout, its network is this, and the parts there are these
use Rattle.std.specs.Prelude.{◌≡◌, false, not, cond, List, [], ◌∷◌, ℕ, ◌+◌, ◌≤◌, T, eqb, ltb, length}
use Rattle.ground.specs.Bytes.{front}
use Rattle.shelf.specs.declared.Network.{Network}
use Rattle.shelf.specs.Network.{within_limits, has_least_cycle, most_calls}
use Rattle.shelf.specs.Rows.{row_count}
use Rattle.shelf.specs.Light.{Lawful}
use Rattle.calls.specs.declared.Verdict.{Verdict}
use Rattle.calls.specs.Verdict.{passed, refused_if, answer}
use Rattle.calls.specs.Table.{size_checks, InOrder}
use Rattle.trailer.specs.declared.Layout.{Layout}
use Rattle.trailer.specs.declared.Told.{Told}
use Rattle.trailer.specs.File.{has_settings, has_cycle, most_note, settings_per_call, file_of}
use Rattle.trailer.specs.Trailer.{whole_told}
use Rattle.planfile.specs.Checks.{table_checks}
use Rattle.planfile.specs.Reader.{note_in, calls_in, settings_in, net_of}

-- 16: "note to be written above 255 bytes"
unfoldable pub long_note : List ℕ → Verdict
long_note note = refused_if 16 0 (ltb most_note (length note))

-- 4: "output buffer too short"
unfoldable pub short_buffer : ℕ → ℕ → Verdict
short_buffer size room = refused_if 4 0 (ltb room size)

-- 18: "when a file of kind 1 or 2 is asked for and W isn't the larger of r and m"
unfoldable pub other_cycle : Network → Verdict
other_cycle net = refused_if 18 0 (not (has_least_cycle net))

unfoldable pub untold_cycle : ℕ → Network → Verdict
untold_cycle kind net = cond (has_cycle kind) passed (other_cycle net)

-- "File writer: 1, 2, 3, 16, 4, then as acceptance from 5."; 18 comes "after a writer's other checks". Of calls-only files "the writer of one is given settings of
-- no bytes, else 2".
unfoldable pub part_checks : ℕ → Network → List ℕ → List ℕ → List ℕ → ℕ → List Verdict
part_checks kind net note calls settings room =
    size_checks net (length calls) (length settings) (settings_per_call kind)
    ∷ long_note note
    ∷ short_buffer (length (file_of net kind note calls settings)) room
    ∷ table_checks net kind calls settings
    ∷ untold_cycle kind net
    ∷ []

unfoldable pub writer_verdict : ℕ → Network → List ℕ → List ℕ → List ℕ → ℕ → Verdict
writer_verdict kind net note calls settings room = answer (part_checks kind net note calls settings room) (row_count calls)

-- "All refusals .. write nothing anywhere. Success writes .. exactly the file (writer); bytes beyond keep their values."
unfoldable pub write_buffer : ℕ → Network → List ℕ → List ℕ → List ℕ → List ℕ → List ℕ
write_buffer kind net note calls settings before =
    cond (eqb (writer_verdict kind net note calls settings (length before)).number 0) (front before (file_of net kind note calls settings)) before

-- sizes within their limits, no more rows than a file can have, and room for the file
pub record HasRoom (kind : ℕ) (net : Network) (note calls settings : List ℕ) (room : ℕ) : Type 0 where
  pub limits : T (within_limits net)
  pub few : row_count calls ≤ most_calls
  pub enough : length (file_of net kind note calls settings) ≤ room

pub record Writes (kind : ℕ) (net : Network) (note calls settings before after : List ℕ) (v : Verdict) : Type 0 where
  -- number and row, and every byte of the buffer, for every input
  pub answer : v ≡ writer_verdict kind net note calls settings (length before)
  pub buffer : after ≡ write_buffer kind net note calls settings before
  -- a refusal changes no byte; success writes exactly the file, and bytes beyond keep their values
  pub unchanged : (v.number ≡ 0 → ⊥) → after ≡ before
  pub written : v.number ≡ 0 → after ≡ front before (file_of net kind note calls settings)
  -- "Success is 0, with K in the place of the row"
  pub tells_k : v.number ≡ 0 → v.row ≡ row_count calls
  -- what is written is a table in order, and if planned its settings are lawful
  pub in_order : v.number ≡ 0 → InOrder net calls
  pub lawful : v.number ≡ 0 → T (has_settings kind) → Lawful net calls settings
  -- where what is written has no place for the cycle, W is the one that a reader takes
  pub least_cycle : v.number ≡ 0 → has_cycle kind ≡ false → T (has_least_cycle net)

-- ---- what writing then reading gives back: n, m, r, W, kind, K and where note, calls and settings begin

unfoldable pub layout_with : Network → ℕ → List ℕ → List ℕ → List ℕ → Layout
layout_with net kind note calls settings = record {
  net = net;
  kind = kind;
  count = row_count calls;
  trailer_at = length note + length calls + length settings;
  calls_at = length note;
  settings_at = length note + length calls;
}

pub record GivenBack (net : Network) (kind : ℕ) (note calls settings file : List ℕ) (told : Told) : Type 0 where
  pub tells : told ≡ whole_told (layout_with net kind note calls settings)
  pub net_back : net_of told ≡ net
  pub note_back : note_in file told ≡ note
  pub calls_back : calls_in file told ≡ calls
  pub settings_back : settings_in file told ≡ settings
