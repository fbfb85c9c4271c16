-- "Writing then reading gives these back; reading then writing, given room, gives the same bytes." One statement each, for all
-- kinds, about any answers that satisfy the entries' guarantees.
--   kind_back, stated, layout_back, rows_back == what the trailer of a written file tells: its kind, where its parts begin, and that the
--                           checks of its trailer pass; and the checks of its rows
--   note_part, calls_part, settings_part == the parts there
--   given_back           == a reader that takes its kind tells just this of it, where the rows pass
--   write_then_read, read_then_write == the two round trips
--   new_unread           == a reader of the first issue shows nothing of a file with the cycle
use Rattle.std.specs.Prelude.{◌≡◌, Bool, ℕ, ◌+◌, ◌-◌, ◌≤◌, T, take}
use Rattle.std.proofs.Math.Path.{refl, sym, ap}
use Rattle.std.proofs.Common.{◌∙◌, add-zero, arith}
use Rattle.std.proofs.Math.Bool.{true, false, cond}
use mathlib.Core.List.{List, [], ◌∷◌, ◌++◌, append_assoc}
use Rattle.std.proofs.Math.ListN.{length, get_or, length-append}
use Rattle.ground.specs.Bytes.{high_byte, low_byte, number_at, part}
use Rattle.ground.specs.BytesLaws.{number_of_bytes, part_at, part_middle, take_front}
use Rattle.shelf.specs.declared.Network.{Network}
use Rattle.shelf.specs.Network.{least_cycle, of_sizes, has_least_cycle, most_calls}
use Rattle.shelf.specs.NetworkLaws.{least_cycle_sizes}
use Rattle.shelf.specs.Rows.{row_count}
use Rattle.calls.specs.declared.Verdict.{Verdict}
use Rattle.trailer.specs.declared.Kinds.{Kinds}
use Rattle.trailer.specs.declared.Told.{Told}
use Rattle.trailer.specs.File.{has_cycle, takes, old_kinds, short_trailer, most_note, mark, settings_distance, calls_distance, cycle_bytes, last_twelve, trailer_of, file_of}
use Rattle.trailer.proofs.FileLaws.{settings_most, length_file}
use Rattle.trailer.specs.Trailer.{twelve_in, told_kind, told_count, told_settings_back, told_calls_back, told_mark, kind_in, trailer_place, cycle_in, spare_in, told_net, layout_of, whole_told, refused_told}
use Rattle.trailer.proofs.TrailerLaws.{Stated}
use Rattle.planfile.specs.Checks.{table_checks}
use Rattle.planfile.proofs.ChecksLaws.{Measured, table_lawful}
use Rattle.planfile.specs.Reader.{note_in, calls_in, settings_in, net_of, layout_checks, Reads}
use Rattle.planfile.proofs.ReaderLaws.{reader_passes, read_whole, whole_measured, first_issue}
use Rattle.planwriter.specs.Writer.{Writes, layout_with, GivenBack}
use Rattle.planwriter.proofs.WriterLaws.{parts_pass, writer_passes, written_passes}

-- ---- what a trailer tells that was written

-- the last twelve bytes
record Tells (t : List ℕ) (kind K : ℕ) : Type 0 where
  of_kind : told_kind t ≡ kind
  of_k : told_count t ≡ K
  of_settings : told_settings_back t ≡ settings_distance kind K
  of_calls : told_calls_back t ≡ calls_distance kind K
  of_mark : told_mark t ≡ mark

twelve_tell : (net : Network) (kind K : ℕ) → K ≤ most_calls → Tells (last_twelve net kind K) kind K
unfolding last_twelve told_kind told_count told_settings_back told_calls_back told_mark number_at high_byte low_byte mark calls_distance most_calls
twelve_tell net kind K h = record {
  of_kind = refl;
  of_k = number_of_bytes K (omega arith);
  of_settings = number_of_bytes (settings_distance kind K) (omega (arith, settings_most kind K));
  of_calls = number_of_bytes (calls_distance kind K) (omega (arith, settings_most kind K));
  of_mark = refl;
}

module _ (net : Network) (kind : ℕ) (note calls settings : List ℕ) where
  abbrev file : List ℕ
  file = file_of net kind note calls settings

  abbrev rows_end : ℕ
  rows_end = length note + length calls + length settings

  rows_length : length (note ++ calls ++ settings) ≡ rows_end
  rows_length = simp length-append

  twelve_back : twelve_in file ≡ last_twelve net kind (row_count calls)
  unfolding twelve_in file_of trailer_of last_twelve short_trailer
  twelve_back =
      part_middle (note ++ calls ++ settings ++ cycle_bytes net kind) (last_twelve net kind (row_count calls)) []
      (simp append_assoc) (simp length-append (omega arith)) (simp length-append (omega arith))

  pub kind_back : kind_in file ≡ kind
  unfolding kind_in told_kind last_twelve
  kind_back = rw twelve_back

  starts : trailer_place file ≡ rows_end
  unfolding trailer_place
  starts = rw kind_back (omega (arith, length_file net kind note calls settings))

  -- the two bytes of a longer trailer
  cycle_back : part file rows_end (rows_end + length (cycle_bytes net kind)) ≡ cycle_bytes net kind
  unfolding file_of trailer_of
  cycle_back =
      part_middle (note ++ calls ++ settings) (cycle_bytes net kind) (last_twelve net kind (row_count calls)) refl (sym rows_length) (ap (λ (k : ℕ). k + length (cycle_bytes net kind)) (sym rows_length))

  cycle_at : (i : ℕ) → i + 1 ≤ length (cycle_bytes net kind) → get_or file (rows_end + i) 0 ≡ get_or (cycle_bytes net kind) i 0
  cycle_at i l = sym (part_at file rows_end (rows_end + length (cycle_bytes net kind)) i (omega arith)) ∙ ap (λ (bytes : List ℕ). get_or bytes i 0) cycle_back

  module _ (e : has_cycle kind ≡ true) where
    two : cycle_bytes net kind ≡ net.w ∷ 0 ∷ []
    unfolding cycle_bytes
    two = rw e

    told_cycle : cycle_in file ≡ net.w
    unfolding cycle_in
    told_cycle = ap (λ (k : ℕ). get_or file k 0) (starts ∙ sym (add-zero rows_end)) ∙ cycle_at 0 (rw two (omega arith)) ∙ rw two

    told_spare : spare_in file ≡ 0
    unfolding spare_in
    told_spare = ap (λ (k : ℕ). get_or file (k + 1) 0) starts ∙ cycle_at 1 (rw two (omega arith)) ∙ rw two

  -- the network with its cycle: W stands there, or is the larger of r and m
  net_back : (has_cycle kind ≡ false → T (has_least_cycle net)) → told_net file ≡ net
  unfolding told_net last_twelve of_sizes
  net_back least = rw (twelve_back, kind_back) (go (has_cycle kind) refl)
    where
      go : (b : Bool) → has_cycle kind ≡ b → record { n = net.n; m = net.m; r = net.r; w = cond b (cycle_in file) (least_cycle net.m net.r) } ≡ net
      go true e = λ t. record { n = net.n; m = net.m; r = net.r; w = told_cycle e t }
      go false e = sym (least_cycle_sizes net (least e))

  module _ (h : Measured kind net calls settings) (least : has_cycle kind ≡ false → T (has_least_cycle net)) where
    tells : Tells (twelve_in file) kind (row_count calls)
    tells = rw twelve_back (twelve_tell net kind (row_count calls) h.few)

    -- its distances are the lengths of what stands before it
    calls_distance_lem : told_calls_back (twelve_in file) ≡ length calls + length settings
    unfolding calls_distance
    calls_distance_lem = omega (arith, tells.of_calls, h.whole, h.settings_length)

    settings_distance_lem : told_settings_back (twelve_in file) ≡ length settings
    settings_distance_lem = tells.of_settings ∙ sym h.settings_length

    -- the trailer of a written file is not refused
    pub stated : (kinds : Kinds) → T (takes kinds kind) → length note ≤ most_note → Stated kinds file
    stated kinds a l = record {
      ended = record {
        marked = tells.of_mark;
        a_kind = rw kind_back a;
        long = rw kind_back (omega (arith, length_file net kind note calls settings));
        spare = λ e. told_spare (rw kind_back at e);
      };
      limits = rw (net_back least) h.limits;
      few = rw tells.of_k h.few;
      distances = record {
        settings_back = rw (kind_back, tells.of_k) tells.of_settings;
        calls_back = rw (kind_back, tells.of_k) tells.of_calls;
        held = omega (arith, calls_distance_lem, starts);
        short_note = omega (arith, calls_distance_lem, starts);
      };
    }

    -- where it says that the parts begin, and the parts there
    pub layout_back : layout_of file ≡ layout_with net kind note calls settings
    unfolding layout_of layout_with
    layout_back =
        let c : trailer_place file - told_calls_back (twelve_in file) ≡ length note = omega (arith, calls_distance_lem, starts) in
        let s : trailer_place file - told_settings_back (twelve_in file) ≡ length note + length calls = omega (arith, settings_distance_lem, starts) in
        rw (c, s, starts, net_back least, kind_back, tells.of_k)

    pub note_part : part file 0 (length note) ≡ note
    unfolding file_of
    note_part = part_middle [] note (calls ++ settings ++ trailer_of net kind (row_count calls)) (simp append_assoc) refl (omega arith)

    pub calls_part : part file (length note) (length note + length calls) ≡ calls
    unfolding file_of
    calls_part = part_middle note calls (settings ++ trailer_of net kind (row_count calls)) (simp append_assoc) refl refl

    pub settings_part : part file (length note + length calls) rows_end ≡ settings
    unfolding file_of
    settings_part =
        part_middle (note ++ calls) settings (trailer_of net kind (row_count calls)) (simp append_assoc) (sym (length-append note calls)) (simp length-append)

    pub rows_back : layout_checks file (layout_of file) ≡ table_checks net kind calls settings
    unfolding layout_checks layout_with
    rows_back = rw (layout_back, calls_part, settings_part)

    -- so a reader that takes the kind tells just this of it, where the rows pass
    pub given_back : (kinds : Kinds) → T (takes kinds kind) → length note ≤ most_note → (table_checks net kind calls settings).number ≡ 0
        → (told : Told) → Reads kinds file told → GivenBack net kind note calls settings file told
    unfolding note_in calls_in settings_in net_of whole_told layout_with
    given_back kinds a l z told r =
        let e = r.answer ∙ read_whole kinds file ((reader_passes kinds file).1 (stated kinds a l, rw rows_back z)) ∙ ap whole_told layout_back in
        record { tells = e; net_back = rw e; note_back = rw e note_part; calls_back = rw e calls_part; settings_back = rw (e, starts) settings_part }

-- ---- the two round trips

module _ (kind : ℕ) (net : Network) (note calls settings before after : List ℕ) (v : Verdict) (w : Writes kind net note calls settings before after v) where
  -- what a writer leaves that does not refuse: the file, and behind it the bytes that were there
  file_written : v.number ≡ 0 → take (length (file_of net kind note calls settings)) after ≡ file_of net kind note calls settings
  file_written z = rw (w.written z) (take_front before (file_of net kind note calls settings) _ refl)

  -- "Writing then reading gives these back"
  pub write_then_read : (kinds : Kinds) → T (takes kinds kind) → v.number ≡ 0 → (told : Told) → Reads kinds (take (length (file_of net kind note calls settings)) after) told
      → GivenBack net kind note calls settings (take (length (file_of net kind note calls settings)) after) told
  write_then_read kinds a z told r =
      let file-is = file_written z in
      let p = written_passes kind net note calls settings before after v w z in
      rw file-is (given_back net kind note calls settings p.sizes p.least kinds a p.short_note p.rows told (rw file-is at r))

  -- "A reader of the first issue meets kinds 3 and 4 with 14 and shows nothing."
  pub new_unread : has_cycle kind ≡ true → v.number ≡ 0 → (told : Told) → Reads old_kinds (take (length (file_of net kind note calls settings)) after) told
      → told ≡ refused_told (record { number = 14; row = 0 })
  new_unread e z told r =
      let file-is = file_written z in
      r.answer ∙ first_issue _ (rw (file-is, kind_back net kind note calls settings) e)

-- "reading then writing, given room, gives the same bytes"
pub read_then_write : (kinds : Kinds) (file before after : List ℕ) (told : Told) (v : Verdict) → Reads kinds file told → told.number ≡ 0
    → Writes told.kind (net_of told) (note_in file told) (calls_in file told) (settings_in file told) before after v
    → length file ≤ length before
    → (v.number ≡ 0) × (v.row ≡ told.row) × (take (length file) after ≡ file)
read_then_write kinds file before after told v r z w room =
    let whole = r.whole z in
    let is_file = whole.is_file in
    let sizes = whole_measured kinds file told whole in
    let rows = (table_lawful _ _ _ _ sizes).1 (whole.in_order, whole.lawful) in
    let parts = (parts_pass _ _ _ _ _ (length before)).1 (record { sizes = sizes; short_note = whole.short_note; enough = rw is_file at room; rows = rows; least = whole.least_cycle }) in
    let number = ap (λ (u : Verdict). u.number) w.answer ∙ (writer_passes _ _ _ _ _ (length before)).1 parts in
    (number, w.tells_k number ∙ sym whole.tells_k.0, ap (λ (k : ℕ). take k after) (ap length is_file) ∙ file_written _ _ _ _ _ _ _ _ w number ∙ sym is_file)
