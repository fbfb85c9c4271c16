-- "Old files convert to new and new to old, each there-and-back giving the first file's bytes." About any answers that satisfy the entries'
-- guarantees.
--   made .., made_layout, made_passes, made_told == of the file that is made: it is the file of the same parts, with the other kind; its trailer
--                           tells where they are; a reader that takes its kind takes it, and tells the same but for the kind
--   made_back            == converted again it is the first file
--   to_new_reads, to_old_reads == a converted file reads as the first did, but for the kind
--   new_and_back, old_and_back == there and back gives the first file's bytes
--   to_new_unread        == a reader of the first issue shows nothing of a file that was converted to a new one
--   old_converts, new_converts == given room, an old file that is read is converted, and so is a new one whose cycle is the larger of r and m
use Rattle.std.specs.Prelude.{◌≡◌, Bool, ℕ, ◌+◌, ◌≤◌, take}
use Rattle.std.proofs.Math.Path.{refl, sym, ap, subst}
use Rattle.std.proofs.Common.{◌∙◌}
use Rattle.std.proofs.Math.Bool.{true, false}
use mathlib.Core.List.{List}
use native.Mathlib.Omega.{arith}
use Rattle.std.proofs.Math.Dec.{T}
use Rattle.std.proofs.Math.ListN.{length}
use Rattle.ground.specs.Bytes.{AllBytes, front}
use Rattle.ground.specs.BytesLaws.{length_part, take_front}
use Rattle.shelf.specs.declared.Network.{Network}
use Rattle.shelf.specs.Network.{has_least_cycle}
use Rattle.calls.specs.declared.Verdict.{Verdict}
use Rattle.trailer.specs.declared.Kinds.{Kinds}
use Rattle.trailer.specs.declared.Layout.{Layout}
use Rattle.trailer.specs.declared.Told.{Told}
use Rattle.trailer.specs.File.{has_settings, has_cycle, kind_with, takes, old_kinds, new_kinds, all_kinds, short_trailer, long_trailer, trailer_length, settings_per_call, settings_distance, file_of}
use Rattle.trailer.proofs.FileLaws.{short_length, long_length, length_file}
use Rattle.trailer.proofs.KindLaws.{settings_of, cycle_of, kind_of, kind_taken, old_is, new_is}
use Rattle.trailer.specs.Trailer.{kind_in, told_net, layout_of, whole_told, refused_told, told_by}
use Rattle.planfile.specs.Checks.{table_checks}
use Rattle.planfile.proofs.ChecksLaws.{Measured, table_lawful}
use Rattle.planfile.specs.Reader.{note_in, calls_in, settings_in, net_of, reader_verdict, read_answer, WholeFile, Reads}
use Rattle.planfile.proofs.ReaderLaws.{laid_out, reader_passes, read_passes, read_whole, reads, whole_measured, same_read, first_issue}
use Rattle.planwriter.specs.Writer.{layout_with}
use Rattle.planwriter.proofs.RoundTrips.{kind_back, stated, layout_back, note_part, calls_part, settings_part, rows_back}
use Rattle.conversion.specs.Conversion.{recast_file, converted_file, as_kind, Converts}
use Rattle.conversion.proofs.ConversionLaws.{Convertible, conversion_passes}

-- ---- the file that is made

-- a file that a reader of these kinds takes, with the larger of r and m for its cycle
module _ (kinds : Kinds) (cycle : Bool) (file : List ℕ) (bytes : AllBytes file) (passes : (reader_verdict kinds file).number ≡ 0) (least : T (has_least_cycle (told_net file))) where
  abbrev told : Told
  told = whole_told (layout_of file)

  abbrev note : List ℕ
  note = note_in file told

  abbrev calls : List ℕ
  calls = calls_in file told

  abbrev settings : List ℕ
  settings = settings_in file told

  abbrev net : Network
  net = net_of told

  abbrev other : ℕ
  other = kind_with (has_settings told.kind) cycle

  whole : WholeFile kinds file told
  unfolding whole_told
  whole =
      let e = read_whole kinds file passes in
      subst (WholeFile kinds file) e ((reads kinds file bytes (read_answer kinds file) refl).whole (ap (λ (t : Told). t.number) e))

  -- the other kind has settings where the kind has
  same_settings : has_settings other ≡ has_settings told.kind
  same_settings = settings_of (has_settings told.kind) cycle

  sizes : Measured other net calls settings
  unfolding settings_distance settings_per_call
  sizes =
      let m = whole_measured kinds file told whole in
      record { limits = m.limits; whole = m.whole; settings_length = rw same_settings m.settings_length; few = m.few }

  rows : (table_checks net other calls settings).number ≡ 0
  unfolding table_checks
  rows = rw same_settings ((table_lawful told.kind net calls settings (whole_measured kinds file told whole)).1 (whole.in_order, whole.lawful))

  made : converted_file cycle file ≡ file_of net other note calls settings
  unfolding converted_file recast_file whole_told note_in calls_in settings_in net_of layout_of
  made = refl

  least_told : has_cycle other ≡ false → T (has_least_cycle net)
  unfolding whole_told net_of layout_of
  least_told e = least

  -- what its trailer tells: the same network, the same K, and the same positions
  made_layout : layout_of (converted_file cycle file) ≡ layout_with net other note calls settings
  made_layout = ap layout_of made ∙ layout_back net other note calls settings sizes least_told

  -- every reader that takes its kind takes it
  made_passes : (others : Kinds) → T (takes others other) → (reader_verdict others (converted_file cycle file)).number ≡ 0
  made_passes others t =
      rw made ((reader_passes others (file_of net other note calls settings)).1 (
        stated net other note calls settings sizes least_told others t whole.short_note,
        rw (rows_back net other note calls settings sizes least_told) rows,
      ))

  made_kind : kind_in (converted_file cycle file) ≡ other
  made_kind = ap kind_in made ∙ kind_back net other note calls settings

  -- its cycle is the same
  made_least : T (has_least_cycle (told_net (converted_file cycle file)))
  unfolding layout_of layout_with whole_told net_of
  made_least = subst (λ (l : Layout). T (has_least_cycle l.net)) (sym made_layout) least

  -- converted again, it is the file of the same parts again
  made_again : (again : Bool) → converted_file again (converted_file cycle file) ≡ file_of net (kind_with (has_settings told.kind) again) note calls settings
  unfolding converted_file recast_file layout_with file_of
  made_again again =
      ap (λ (l : Layout). recast_file again l (converted_file cycle file)) made_layout
      ∙ rw (
        made,
        note_part net other note calls settings sizes least_told,
        calls_part net other note calls settings sizes least_told,
        settings_part net other note calls settings sizes least_told,
        same_settings,
      )

  -- and with the cycle or without it as at first, it is the first file
  made_back : T (takes all_kinds (kind_in file)) → converted_file (has_cycle (kind_in file)) (converted_file cycle file) ≡ file
  unfolding whole_told layout_of
  made_back a = made_again (has_cycle (kind_in file)) ∙ rw (kind_of (kind_in file) a) (sym whole.is_file)

  -- it is as much longer as its trailer is
  made_length : length (converted_file cycle file) + trailer_length told.kind ≡ length file + trailer_length other
  made_length = omega (arith, ap length made ∙ length_file net other note calls settings, ap length whole.is_file ∙ length_file net told.kind note calls settings)

  -- a reader tells of it what it told of the first file, but for the kind
  made_told : whole_told (layout_with net other note calls settings) ≡ as_kind other told
  unfolding whole_told layout_with as_kind net_of note_in calls_in layout_of
  made_told =
      let laid = laid_out kinds file ((reader_passes kinds file).0 passes).0 in
      let held : told.settings_at ≤ length file = omega (arith, laid.settings_end, laid.inside) in
      let note-end : length note ≡ told.calls_at = omega (arith, length_part file 0 told.calls_at (omega (arith, laid.calls_end))) in
      let calls_end : length note + length calls ≡ told.settings_at = omega (arith, laid.calls_end, length_part file told.calls_at told.settings_at held) in
      let K = sym whole.tells_k.1 in
      λ t. record {
        number = 0;
        row = K t;
        n = told.n;
        m = told.m;
        r = told.r;
        w = told.w;
        kind = other;
        count = K t;
        note_at = 0;
        calls_at = note-end t;
        settings_at = calls_end t;
      }

-- ---- over the guarantees

module _ (kinds : Kinds) (cycle : Bool) (file before after : List ℕ) (v : Verdict) (g : Converts kinds cycle file before after v) (z : v.number ≡ 0) (bytes : AllBytes file)
    (own : T (takes all_kinds (kind_in file))) where
  -- what is left in the buffer: the file, and behind it the bytes that were there
  abbrev new : List ℕ
  new = take (length (converted_file cycle file)) after

  file_made : new ≡ converted_file cycle file
  file_made = rw (g.written z) (take_front before (converted_file cycle file) _ refl)

  passed : Convertible kinds cycle file before
  passed = (conversion_passes kinds cycle file before).0 (rw g.answer at z)

  -- a converted file reads as the first did, but for the kind: W is the same, since a conversion loses none
  reads_alike : (told told' : Told) → Reads all_kinds file told → Reads all_kinds new told' → told' ≡ as_kind (kind_with (has_settings told.kind) cycle) told
  unfolding read_answer whole_told layout_of
  reads_alike told told' r r' =
      let first : told ≡ whole_told (layout_of file) = r.answer ∙ ap told_by (same_read all_kinds kinds file own (g.taken z)) ∙ read_whole kinds file passed.whole in
      let of-made = subst (λ (made : List ℕ). Reads all_kinds made told') file_made r' in
      let taken = made_passes kinds cycle file bytes passed.whole passed.least all_kinds (kind_taken (has_settings (kind_in file)) cycle) in
      of-made.answer
      ∙ read_whole all_kinds (converted_file cycle file) taken
      ∙ ap whole_told (made_layout kinds cycle file bytes passed.whole passed.least)
      ∙ made_told kinds cycle file bytes passed.whole passed.least
      ∙ ap (λ (t : Told). as_kind (kind_with (has_settings t.kind) cycle) t) (sym first)

  -- there and back
  back : (others : Kinds) (again : Bool) → T (takes others (kind_with (has_settings (kind_in file)) cycle)) → has_cycle (kind_in file) ≡ again → (before' after' : List ℕ) (v' : Verdict)
      → Converts others again new before' after' v' → length file ≤ length before'
      → (v'.number ≡ 0) × (v'.row ≡ v.row) × (take (length file) after' ≡ file)
  unfolding whole_told layout_of layout_with
  back others again t e before' after' v' g' room =
      let of-made = subst (λ (made : List ℕ). Converts others again made before' after' v') file_made g' in
      let first = subst (λ (b : Bool). converted_file b (converted_file cycle file) ≡ file) e (made_back kinds cycle file bytes passed.whole passed.least own) in
      let passes : Convertible others again (converted_file cycle file) before' = record {
        whole = made_passes kinds cycle file bytes passed.whole passed.least others t;
        least = made_least kinds cycle file bytes passed.whole passed.least;
        enough = rw first room;
      } in
      let number = ap (λ (u : Verdict). u.number) of-made.answer ∙ (conversion_passes others again (converted_file cycle file) before').1 passes in
      let K = ap (λ (l : Layout). l.count) (made_layout kinds cycle file bytes passed.whole passed.least) ∙ sym (whole kinds cycle file bytes passed.whole passed.least).tells_k.1 in
      (number, of-made.tells_k number ∙ K ∙ sym (g.tells_k z), rw (of-made.written number ∙ ap (front before') first) (take_front before' file _ refl))

-- ---- the two conversions, there and back

module _ (file before after : List ℕ) (v : Verdict) (z : v.number ≡ 0) (bytes : AllBytes file) where
  module _ (g : Converts old_kinds true file before after v) where
    old_kind : T (takes all_kinds (kind_in file)) × (has_cycle (kind_in file) ≡ false)
    old_kind = (old_is (kind_in file)).0 (g.taken z)

    pub to_new_reads : (told told' : Told) → Reads all_kinds file told → Reads all_kinds (take (length (converted_file true file)) after) told'
        → told' ≡ as_kind (kind_with (has_settings told.kind) true) told
    to_new_reads = reads_alike old_kinds true file before after v g z bytes old_kind.0

    pub new_and_back : (before' after' : List ℕ) (v' : Verdict) → Converts new_kinds false (take (length (converted_file true file)) after) before' after' v' → length file ≤ length before'
        → (v'.number ≡ 0) × (v'.row ≡ v.row) × (take (length file) after' ≡ file)
    new_and_back =
        back old_kinds true file before after v g z bytes old_kind.0 new_kinds false
        ((new_is _).1 (kind_taken (has_settings (kind_in file)) true, cycle_of (has_settings (kind_in file)) true)) old_kind.1

    -- "A reader of the first issue meets kinds 3 and 4 with 14 and shows nothing."
    pub to_new_unread : (told : Told) → Reads old_kinds (take (length (converted_file true file)) after) told → told ≡ refused_told (record { number = 14; row = 0 })
    unfolding whole_told layout_of
    to_new_unread told r =
        let is_made = file_made old_kinds true file before after v g z bytes old_kind.0 in
        let p = passed old_kinds true file before after v g z bytes old_kind.0 in
        let kind = ap kind_in is_made ∙ made_kind old_kinds true file bytes p.whole p.least in
        r.answer ∙ first_issue _ (rw kind (cycle_of (has_settings (kind_in file)) true))

  module _ (g : Converts new_kinds false file before after v) where
    new_kind : T (takes all_kinds (kind_in file)) × (has_cycle (kind_in file) ≡ true)
    new_kind = (new_is (kind_in file)).0 (g.taken z)

    pub to_old_reads : (told told' : Told) → Reads all_kinds file told → Reads all_kinds (take (length (converted_file false file)) after) told'
        → told' ≡ as_kind (kind_with (has_settings told.kind) false) told
    to_old_reads = reads_alike new_kinds false file before after v g z bytes new_kind.0

    pub old_and_back : (before' after' : List ℕ) (v' : Verdict) → Converts old_kinds true (take (length (converted_file false file)) after) before' after' v' → length file ≤ length before'
        → (v'.number ≡ 0) × (v'.row ≡ v.row) × (take (length file) after' ≡ file)
    old_and_back =
        back new_kinds false file before after v g z bytes new_kind.0 old_kinds true
        ((old_is _).1 (kind_taken (has_settings (kind_in file)) false, cycle_of (has_settings (kind_in file)) false)) new_kind.1

-- ---- when a conversion succeeds

-- a file that is read is converted where its cycle is the larger of r and m, given room for a trailer of the other length
module _ (kinds : Kinds) (cycle : Bool) (file : List ℕ) (bytes : AllBytes file) (told : Told) (r : Reads kinds file told) (z : told.number ≡ 0) where
  read_is : ((reader_verdict kinds file).number ≡ 0) × (told ≡ whole_told (layout_of file))
  read_is = let p = read_passes kinds file (sym (ap (λ (t : Told). t.number) r.answer) ∙ z) in (p, r.answer ∙ read_whole kinds file p)

  converts_given : T (has_least_cycle (net_of told)) → (before after : List ℕ) (v : Verdict) → Converts kinds cycle file before after v
      → length file + trailer_length (kind_with (has_settings told.kind) cycle) ≤ length before + trailer_length told.kind → v.number ≡ 0
  unfolding net_of whole_told layout_of
  converts_given least before after v g room =
      let own = subst (λ (t : Told). T (has_least_cycle (net_of t))) read_is.1 least in
      let given = subst (λ (t : Told). length file + trailer_length (kind_with (has_settings t.kind) cycle) ≤ length before + trailer_length t.kind) read_is.1 room in
      let size = made_length kinds cycle file bytes read_is.0 own in
      ap (λ (u : Verdict). u.number) g.answer
      ∙ (conversion_passes kinds cycle file before).1 (record { whole = read_is.0; least = own; enough = omega arith })

module _ (file : List ℕ) (bytes : AllBytes file) (told : Told) (before after : List ℕ) (v : Verdict) where
  -- an old file that is read is converted, given room for two bytes more: 18 is never given
  pub old_converts : Reads old_kinds file told → told.number ≡ 0 → Converts old_kinds true file before after v → length file + 2 ≤ length before → v.number ≡ 0
  unfolding long_trailer short_trailer
  old_converts r z g room =
      let whole = r.whole z in
      let short = ((old_is told.kind).0 whole.a_kind).1 in
      converts_given old_kinds true file bytes told r z (whole.least_cycle short) before after v g
      (omega (arith, short_length told.kind short, long_length _ (cycle_of (has_settings told.kind) true)))

  -- a new file that is read is converted where its cycle is the larger of r and m, given room for two bytes less
  pub new_converts : Reads new_kinds file told → told.number ≡ 0 → T (has_least_cycle (net_of told)) → Converts new_kinds false file before after v → length file ≤ length before + 2 → v.number ≡ 0
  unfolding long_trailer short_trailer
  new_converts r z least g room =
      let long = ((new_is told.kind).0 (r.whole z).a_kind).1 in
      converts_given new_kinds false file bytes told r z least before after v g
      (omega (arith, long_length told.kind long, short_length _ (cycle_of (has_settings told.kind) false)))
