-- What a file is that the reader does not refuse, and that two answers coincide.
--   laid_out             == the positions that a trailer tells which is not refused follow one another, within the file
--   reader_passes        == what it means that none of the reader's checks refuses, and read_passes that its number says so
--   read_whole           == what it tells where none refuses
--   trailer_refuses, rows_refuse, rows_pass == the answer from the reader's two steps: the trailer, and the rows at its positions
--   reads                == the guarantee from the answer alone
--   whole_measured, longest_read == a file that was read passed 1, 2 and 3, and is no longer than the longest of its kind
--   one_answer           == two answers that satisfy the guarantee are the same
--   same_read            == readers of different kinds tell the same of a file whose kind both take
--   not_read, first_issue == a reader meets a kind that it does not take with 14 and shows nothing; so does a reader of the first issue
--                           with kinds 3 and 4
use Rattle.std.specs.Prelude.{◌≡◌, ◌↔◌, Bool, ℕ, ◌+◌, ◌-◌, ◌≤◌, T, take, Result, Ok, Err}
use Rattle.std.proofs.Math.Path.{refl, sym, ap}
use Rattle.std.proofs.Common.{◌∙◌, le_refl, add-zero}
use Rattle.std.proofs.Math.Logic.Iff
use Rattle.std.proofs.Math.Bool.{true, false, cond}
use mathlib.Core.List.{List, [], ◌∷◌, append_assoc}
use Rattle.std.proofs.Math.Decide.{ℕ_discrete}
use native.Mathlib.Omega.{arith}
use Rattle.std.proofs.Math.ListN.{length}
use Rattle.std.proofs.Math.Seq.{take-length}
use Rattle.ground.specs.TruthLaws.{same_test}
use Rattle.ground.specs.Bytes.{AllBytes, part}
use Rattle.ground.specs.BytesLaws.{high_number, low_number, part_at, part_none, part_bytes, length_part, take_part, listed, listed_all}
use Rattle.shelf.specs.Network.{of_sizes, has_least_cycle}
use Rattle.shelf.specs.NetworkLaws.{sizes_least_cycle}
use Rattle.shelf.specs.Rows.{row_count}
use Rattle.shelf.specs.Light.{Lawful}
use Rattle.calls.specs.declared.Verdict.{Verdict}
use Rattle.calls.specs.VerdictLaws.{turn_stops, turn_goes_on, turn_last, answer_passes, answer_refused}
use Rattle.calls.specs.Table.{InOrder}
use Rattle.trailer.specs.declared.Kinds.{Kinds}
use Rattle.trailer.specs.declared.Told.{Told}
use Rattle.trailer.specs.File.{has_settings, has_cycle, takes, old_kinds, short_trailer, long_trailer, trailer_length, settings_distance, calls_distance, cycle_bytes, last_twelve, trailer_of, file_of, longest_of}
use Rattle.trailer.proofs.FileLaws.{no_distance, short_length, long_length, trailer_most, rows_part}
use Rattle.trailer.proofs.KindLaws.{cycle_not_old}
use Rattle.trailer.specs.declared.Layout.{Layout}
use Rattle.trailer.specs.Trailer.{twelve_in, told_kind, told_count, told_settings_back, told_calls_back, told_mark, kind_in, trailer_place, cycle_in, spare_in, told_net, has_trailer, no_trailer, trailer_verdict, layout_of, whole_told, refused_told, told_by, answer_of, trailer_answer, LaidOut}
use Rattle.trailer.proofs.TrailerLaws.{settings_held, ended_is, Stated, trailer_passes, not_taken, whole_answer, refused_answer, refused_case}
use Rattle.planfile.proofs.ChecksLaws.{Measured, table_lawful, longest_file_lem}
use Rattle.planfile.specs.Reader.{note_in, calls_in, settings_in, net_of, layout_checks, reader_checks, reader_verdict, file_answer, read_answer, WholeFile, Reads}

module _ (kinds : Kinds) (file : List ℕ) (h : Stated kinds file) where
  pub laid_out : LaidOut (length file) (layout_of file)
  unfolding layout_of trailer_place calls_distance
  laid_out =
      let d = h.distances in
      let held = settings_held d in
      record { limits = h.limits; calls_end = omega arith; settings_end = omega arith; inside = omega arith }

  calls_k : row_count (part file (layout_of file).calls_at (layout_of file).settings_at) ≡ (layout_of file).count
  calls_k = rows_part file _ _ _ (omega (arith, laid_out.settings_end, laid_out.inside)) laid_out.calls_end

  -- the trailer's bytes are those of what they tell: the last twelve, and the cycle before them
  long : (short_trailer ≤ length file) × (trailer_length (kind_in file) ≤ length file)
  long = (omega (arith, h.ended.long, (trailer_most (kind_in file)).0), h.ended.long)

  twelve : length (twelve_in file) ≡ 12
  unfolding twelve_in short_trailer
  twelve = omega (arith, length_part file (length file - 12) (length file) (le_refl (length file)), long.0)

  twelve_told : AllBytes file → twelve_in file ≡ last_twelve (told_net file) (kind_in file) (told_count (twelve_in file))
  unfolding listed last_twelve told_net kind_in told_kind told_count told_settings_back told_calls_back told_mark twelve_in
  twelve_told b =
      let t = twelve_in file in
      let small = part_bytes file b (length file - short_trailer) (length file) in
      listed_all 12 t twelve
      ∙ rw (
        ← h.distances.settings_back,
        ← h.distances.calls_back,
        ← h.ended.marked,
        high_number t small 4,
        low_number t small 4,
        high_number t small 6,
        low_number t small 6,
        high_number t small 8,
        low_number t small 8,
        high_number t small 10,
        low_number t small 10,
      )

  -- with the cycle the trailer starts two bytes before these twelve, and else right there
  two_before : has_cycle (kind_in file) ≡ true → trailer_place file + 2 ≡ length file - short_trailer
  unfolding trailer_place long_trailer short_trailer
  two_before e = omega (arith, long_length (kind_in file) e, long.1)

  none_before : has_cycle (kind_in file) ≡ false → trailer_place file ≡ length file - short_trailer
  unfolding trailer_place
  none_before e = rw (short_length (kind_in file) e)

  starts : trailer_place file ≤ length file - short_trailer
  unfolding trailer_place
  starts = omega (arith, (trailer_most (kind_in file)).0)

  cycle_told : part file (trailer_place file) (length file - short_trailer) ≡ cycle_bytes (told_net file) (kind_in file)
  unfolding cycle_bytes listed told_net cycle_in spare_in
  cycle_told = go (has_cycle (kind_in file)) refl
    where
      go : (b : Bool) → has_cycle (kind_in file) ≡ b → part file (trailer_place file) (length file - short_trailer) ≡ cond b ((told_net file).w ∷ 0 ∷ []) []
      go true e =
          let two : trailer_place file + 2 ≡ length file - short_trailer = two_before e in
          let size = length_part file (trailer_place file) (length file - short_trailer) (omega arith) in
          listed_all 2 (part file (trailer_place file) (length file - short_trailer)) (omega arith)
          ∙ rw (part_at file (trailer_place file) (length file - short_trailer) 0 (omega arith), part_at file (trailer_place file) (length file - short_trailer) 1 (omega arith), e, h.ended.spare e, add-zero)
      go false e = part_none file _ _ (omega (arith, none_before e))

  -- the parts at the positions told, with the trailer of what is told, are the file
  is_file_of : AllBytes file → file ≡ file_of (layout_of file).net (layout_of file).kind (part file 0 (layout_of file).calls_at)
      (part file (layout_of file).calls_at (layout_of file).settings_at) (part file (layout_of file).settings_at (layout_of file).trailer_at)
  unfolding file_of trailer_of layout_of twelve_in
  is_file_of b =
      let d = h.distances in
      let held = settings_held d in
      let note = take_part file 0 (layout_of file).calls_at (omega arith) in
      let calls = take_part file (layout_of file).calls_at (layout_of file).settings_at (omega arith) in
      let settings = take_part file (layout_of file).settings_at (layout_of file).trailer_at (omega arith) in
      let cycle = take_part file (layout_of file).trailer_at (length file - short_trailer) (omega (arith, starts)) in
      let twelve = take_part file (length file - short_trailer) (length file) (omega arith) in
      let trailer = append_assoc (take (trailer_place file) file) (part file (trailer_place file) (length file - short_trailer)) (part file (length file - short_trailer) (length file)) in
      sym (rw (calls_k, ← twelve_told b, ← cycle_told, note, calls, settings) (sym trailer ∙ rw cycle (twelve ∙ take-length file)))

-- without the cycle W is the larger of r and m
least_told : (file : List ℕ) → has_cycle (kind_in file) ≡ false → T (has_least_cycle (told_net file))
unfolding told_net of_sizes
least_told file e = rw e (sizes_least_cycle _ _ _)

module _ (kinds : Kinds) (file : List ℕ) where
  pub reader_passes : ((reader_verdict kinds file).number ≡ 0) ↔ (Stated kinds file × ((layout_checks file (layout_of file)).number ≡ 0))
  unfolding reader_verdict reader_checks
  reader_passes = Iff.trans (answer_passes _ (layout_of file).count) (
    λ (trailer, (rows, _)). ((trailer_passes kinds file).0 trailer, rows),
    λ h. ((trailer_passes kinds file).1 h.0, (h.1, tt)),
  )

  -- what the reader tells, by its number
  pub read_whole : (reader_verdict kinds file).number ≡ 0 → read_answer kinds file ≡ whole_told (layout_of file)
  unfolding read_answer file_answer
  read_whole z = ap told_by (whole_answer _ _ z)

  pub read_refused : ((reader_verdict kinds file).number ≡ 0 → ⊥) → read_answer kinds file ≡ refused_told (reader_verdict kinds file)
  unfolding read_answer file_answer
  read_refused n = ap told_by (refused_answer _ _ n)

  pub read_passes : (read_answer kinds file).number ≡ 0 → (reader_verdict kinds file).number ≡ 0
  unfolding refused_told
  read_passes z =
      elim (ℕ_discrete (reader_verdict kinds file).number 0) [ yes e ↦ e | no n ↦ absurd (n (sym (ap (λ (told : Told). told.number) (read_refused n)) ∙ z)) ]

  -- the same, for the answers of the reader's two steps
  pub trailer_refuses : {answer : Result Layout Verdict} (v : Verdict) → answer ≡ trailer_answer kinds file → answer ≡ Err v → answer ≡ file_answer kinds file
  unfolding trailer_answer reader_verdict reader_checks file_answer
  trailer_refuses v a e =
      let n = (refused_case _ _ v (sym e ∙ a)).0 in
      a ∙ ap (λ (w : Verdict). answer_of w (layout_of file)) (answer_refused _ _ (turn_stops _ refl n) n)

  module _ (z : (trailer_verdict kinds file).number ≡ 0) (v : Verdict) (e : v ≡ layout_checks file (layout_of file)) where
    pub rows_refuse : (v.number ≡ 0 → ⊥) → Err v ≡ file_answer kinds file
    unfolding reader_verdict reader_checks file_answer
    rows_refuse n =
        let s : v ≡ reader_verdict kinds file = answer_refused _ _ (turn_goes_on _ _ refl z (turn_last e)) n in
        ap (λ (w : Verdict). Err w) s ∙ sym (refused_answer _ _ (rw (← s) n))

    pub rows_pass : v.number ≡ 0 → Ok (layout_of file) ≡ file_answer kinds file
    unfolding file_answer
    rows_pass y = sym (whole_answer _ _ (reader_passes.1 ((trailer_passes kinds file).0 z, rw e at y)))

  -- a file that is not refused is the file of its parts, in order, and if planned lawful
  whole_file : AllBytes file → (reader_verdict kinds file).number ≡ 0 → WholeFile kinds file (whole_told (layout_of file))
  unfolding whole_told note_in calls_in settings_in net_of layout_checks layout_of
  whole_file b z = record {
    is_file = is_file_of kinds file stated b;
    tells_k = (sym K, sym K);
    a_kind = stated.ended.a_kind;
    least_cycle = λ e. least_told file e;
    short_note = omega (arith, length_part file 0 (layout_of file).calls_at (omega (arith, laid.calls_end, laid.settings_end, laid.inside)), stated.distances.short_note);
    in_order = table.0;
    settings_length = settings_length;
    no_settings = λ k. omega (arith, laid.settings_end, no_distance (layout_of file).kind (layout_of file).count k);
    lawful = table.1;
  }
    where
      stated : Stated kinds file
      stated = (reader_passes.0 z).0

      laid : LaidOut (length file) (layout_of file)
      laid = laid_out kinds file stated

      calls : List ℕ
      calls = part file (layout_of file).calls_at (layout_of file).settings_at

      settings : List ℕ
      settings = part file (layout_of file).settings_at (layout_of file).trailer_at

      K : row_count calls ≡ (layout_of file).count
      K = calls_k kinds file stated

      settings_length : length settings ≡ settings_distance (layout_of file).kind (layout_of file).count
      settings_length = omega (arith, length_part file (layout_of file).settings_at (layout_of file).trailer_at laid.inside, laid.settings_end)

      measured : Measured (layout_of file).kind (layout_of file).net calls settings
      measured =
          let whole = length_part file (layout_of file).calls_at (layout_of file).settings_at (omega (arith, laid.settings_end, laid.inside)) in
          record { limits = laid.limits; whole = omega (arith, whole, K, laid.calls_end); settings_length = rw K settings_length; few = omega (arith, K, stated.few) }

      table : InOrder (layout_of file).net calls × (T (has_settings (layout_of file).kind) → Lawful (layout_of file).net calls settings)
      table = (table_lawful (layout_of file).kind (layout_of file).net calls settings measured).0 (reader_passes.0 z).1

  -- the guarantee, from the answer alone
  pub reads : AllBytes file → (told : Told) → told ≡ read_answer kinds file → Reads kinds file told
  unfolding whole_told refused_told
  reads b told e = record {
    answer = e;
    zeros = λ n. rw (e ∙ read_refused (λ z. n (ap (λ (t : Told). t.number) (e ∙ read_whole z))));
    whole = λ z. let p = read_passes (rw e at z) in rw (e, read_whole p) (whole_file b p);
  }

  -- a file that was read passed 1, 2 and 3, and is no longer than the longest file
  pub whole_measured : (told : Told) → WholeFile kinds file told → Measured told.kind (net_of told) (calls_in file told) (settings_in file told)
  whole_measured told whole = record {
    limits = whole.in_order.limits;
    whole = whole.in_order.whole;
    settings_length = whole.settings_length ∙ ap (settings_distance told.kind) whole.tells_k.1;
    few = whole.in_order.few;
  }

  pub longest_read : (told : Told) → Reads kinds file told → told.number ≡ 0 → length file ≤ longest_of told.kind
  longest_read told g z =
      let whole = g.whole z in
      let most = longest_file_lem told.kind (net_of told) (calls_in file told) (settings_in file told) (whole_measured told whole) (note_in file told) whole.short_note in
      omega (arith, ap length whole.is_file)

  -- two answers that satisfy the guarantee are the same
  pub one_answer : (told told' : Told) → Reads kinds file told → Reads kinds file told' → told ≡ told'
  one_answer told told' g h = g.answer ∙ sym h.answer

-- ---- readers of different kinds

-- "in 14 the kinds are now 1 to 4, or those the conversion takes": nothing else hangs on the kinds that a reader takes
pub same_read : (kinds other : Kinds) (file : List ℕ) → T (takes kinds (kind_in file)) → T (takes other (kind_in file)) → file_answer kinds file ≡ file_answer other file
unfolding file_answer reader_verdict reader_checks trailer_verdict no_trailer
same_read kinds other file h g =
    let same : has_trailer kinds file ≡ has_trailer other file = same_test _ _ (
      λ t. let e = (ended_is kinds file).0 t in (ended_is other file).1 (record { marked = e.marked; a_kind = g; long = e.long; spare = e.spare }),
      λ t. let e = (ended_is other file).0 t in (ended_is kinds file).1 (record { marked = e.marked; a_kind = h; long = e.long; spare = e.spare }),
    ) in
    rw same

pub not_read : (kinds : Kinds) (file : List ℕ) → (T (takes kinds (kind_in file)) → ⊥) → read_answer kinds file ≡ refused_told (record { number = 14; row = 0 })
unfolding reader_verdict reader_checks
not_read kinds file n =
    let e = not_taken kinds file n in
    let refused : record { number = 14; row = 0 } ≡ reader_verdict kinds file = answer_refused _ _ (turn_stops _ (sym e) (λ z. omega arith)) (λ z. omega arith) in
    read_refused kinds file (rw (← refused) (λ z. omega arith)) ∙ ap refused_told (sym refused)

-- "A reader of the first issue meets kinds 3 and 4 with 14 and shows nothing."
pub first_issue : (file : List ℕ) → has_cycle (kind_in file) ≡ true → read_answer old_kinds file ≡ refused_told (record { number = 14; row = 0 })
first_issue file e = not_read old_kinds file (cycle_not_old (kind_in file) e)
