-- From what the reader tells and what the planner answers to the text of the listing: for the code of the entry.
--   Held file told == the positions that a whole read tells follow one another within the file, and held that they do
--   calls_few, planned_rows == the rows at these positions stand in calls and settings
--   told_refused, told_planned, told_calls == what is printed where the reader refuses, of a planned file, and of one of calls only
--   long_listing, told_listing == the listing of a file that is too long, and of any other
--   lists, listed_length == a text at the buffer's front is the listing, and the buffer keeps its length
--   refused_calls, placed_calls == what is printed of calls where the planner refuses, and where it places them
--   placed_rows    == all rows stand in the settings that it wrote
--   one_answer     == two answers that satisfy the entry's guarantee are the same
use Rattle.std.specs.Prelude.{◌≡◌, false, List, ℕ, ◌+◌, ◌*◌, ◌≤◌, ◌<◌, T, length, take, drop}
use Rattle.std.proofs.Math.Path.{sym, ap}
use Rattle.std.proofs.Common.{◌∙◌, arith, length-append, length-drop}
use Rattle.std.proofs.Math.Seq.{take_at}
use borrow.Author.Tests.{eq-eqb, ne_eqb, lt-ltb, le-ltb}
use Rattle.ground.specs.TruthLaws.{not_is, test_holds}
use Rattle.ground.specs.Bytes.{front, Adds}
use Rattle.ground.specs.BytesLaws.{length_part, adds_front, adds_same}
use Rattle.shelf.specs.declared.Network.{Network}
use Rattle.shelf.specs.Network.{most_calls}
use Rattle.shelf.specs.Rows.{row_count}
use Rattle.planner.specs.declared.Planned.{Planned}
use Rattle.planner.specs.Planner.{planner_verdict, planned_settings, plan_answer, plan_buffer, Plans}
use Rattle.planner.proofs.SettingsLaws.{planned_length}
use Rattle.trailer.specs.declared.Told.{Told}
use Rattle.trailer.specs.File.{has_settings, all_kinds, longest_file}
use Rattle.trailer.proofs.FileLaws.{settings_distance_lem, settings_most, rows_part}
use Rattle.trailer.specs.Trailer.{trailer_place, layout_of, whole_told}
use Rattle.planfile.specs.Reader.{read_answer, calls_in, settings_in, net_of}
use Rattle.planfile.proofs.ReaderLaws.{laid_out, reader_passes, read_whole, read_passes}
use Rattle.lines.specs.Text.{decimal, too_long_text, refused_text, table_text, planned_text, calls_text, told_text, listing}
use Rattle.lines.specs.Writing.{Lists, HasRows}

pub record Held (file : List ℕ) (told : Told) : Type 0 where
  pub calls_end : told.calls_at + 4 * told.count ≡ told.settings_at
  pub settings_end : T (has_settings told.kind) → told.settings_at + 3 * told.count ≡ trailer_place file
  pub settings_inside : told.settings_at ≤ trailer_place file
  pub inside : trailer_place file ≤ length file
  pub few : told.count ≤ most_calls

module _ (file : List ℕ) (told : Told) (e : told ≡ read_answer all_kinds file) where
  -- a refused read
  pub told_refused : (told.number ≡ 0 → ⊥) → refused_text told.number told.row ≡ told_text file (read_answer all_kinds file)
  unfolding told_text
  told_refused n = rw (← e, ne_eqb told.number 0 n)

  module _ (z : told.number ≡ 0) where
    pub held : Held file told
    unfolding whole_told layout_of
    held =
        let p = read_passes all_kinds file (sym (ap (λ (t : Told). t.number) e) ∙ z) in
        let stated = ((reader_passes all_kinds file).0 p).0 in
        let laid = laid_out all_kinds file stated in
        let most = settings_most (layout_of file).kind (layout_of file).count in
        rw (e, read_whole all_kinds file p) (record {
          calls_end = laid.calls_end;
          settings_end = λ k. ap (λ (d : ℕ). (layout_of file).settings_at + d) (sym (settings_distance_lem (layout_of file).kind (layout_of file).count k)) ∙ laid.settings_end;
          settings_inside = omega (arith, laid.settings_end);
          inside = laid.inside;
          few = stated.few;
        })

    calls_count : row_count (calls_in file told) ≡ told.count
    unfolding calls_in
    calls_count = rows_part file _ _ _ (omega (arith, held.settings_inside, held.inside)) held.calls_end

    pub calls_few : row_count (calls_in file told) ≤ most_calls
    calls_few = omega (arith, calls_count, held.few)

    -- a planned file, with its own settings
    module _ (k : T (has_settings told.kind)) where
      pub planned_rows : HasRows (calls_in file told) (settings_in file told)
      unfolding settings_in
      planned_rows = record {
        few = calls_few;
        settings_length = omega (arith, calls_count, held.settings_end k, length_part file told.settings_at (trailer_place file) held.inside);
      }

      pub told_planned : planned_text (net_of told) (calls_in file told) (settings_in file told) ≡ told_text file (read_answer all_kinds file)
      unfolding told_text
      told_planned = rw (← e, eq-eqb told.number 0 z, test_holds (has_settings told.kind) (λ n. (not_is (has_settings told.kind)).0 n k))

    -- a file of calls only
    pub told_calls : has_settings told.kind ≡ false → calls_text (net_of told) (calls_in file told) ≡ told_text file (read_answer all_kinds file)
    unfolding told_text
    told_calls n = rw (← e, eq-eqb told.number 0 z, n)

-- a file that is too long, and any other
module _ (file : List ℕ) where
  pub long_listing : longest_file < length file → too_long_text ≡ listing file
  unfolding listing
  long_listing h = rw (lt-ltb longest_file (length file) h)

  pub told_listing : length file ≤ longest_file → told_text file (read_answer all_kinds file) ≡ listing file
  unfolding listing
  told_listing h = rw (le-ltb longest_file (length file) h)

-- a text at the front of the buffer is the listing
pub lists : {file before after : List ℕ} {size : ℕ} {text : List ℕ} → Adds before after 0 size text → text ≡ listing file → Lists file before after size
lists a e = let b = adds_same a e in record { buffer = adds_front b; is_size = omega (arith, b.is_next); inside = omega (arith, b.is_next, b.fits) }

-- the buffer keeps its length, for the programs that print the text out of it
pub listed_length : {file before after : List ℕ} {size : ℕ} → Lists file before after size → length after ≡ length before
unfolding front
listed_length l = let s = l.is_size in let i = l.inside in rw l.buffer (simp (length-append, length-drop) (omega arith))

module _ (net : Network) (calls before after : List ℕ) (a : Planned) (p : Plans net calls before after a) (l : length before ≡ 3 * most_calls) where
  told_answer : a ≡ plan_answer net calls (3 * most_calls)
  told_answer = p.answer ∙ ap (plan_answer net calls) l

  -- the planner refuses
  pub refused_calls : (a.number ≡ 0 → ⊥) → refused_text a.number a.row ≡ calls_text net calls
  unfolding calls_text
  refused_calls n = rw (← told_answer, ne_eqb a.number 0 n)

  module _ (z : a.number ≡ 0) where
    -- the settings stand at the front of the planner's buffer
    placed_settings : take (3 * row_count calls) after ≡ planned_settings net calls
    unfolding plan_buffer plan_answer
    placed_settings =
        let v : (planner_verdict net calls (length before)).number ≡ 0 = sym (ap (λ (b : Planned). b.number) p.answer) ∙ z in
        ap (take (3 * row_count calls)) (p.buffer ∙ rw (eq-eqb (planner_verdict net calls (length before)).number 0 v))
        ∙ take_at _ (drop (3 * row_count calls) before) (3 * row_count calls) (planned_length net calls)

    pub placed_rows : row_count calls ≤ most_calls → HasRows calls (take (3 * row_count calls) after)
    placed_rows few = record {
      few = few;
      settings_length = rw placed_settings (omega (arith, planned_length net calls));
    }

    pub placed_calls : table_text net calls (take (3 * row_count calls) after) (decimal a.moved) ≡ calls_text net calls
    unfolding calls_text
    placed_calls = rw (placed_settings, ← told_answer, eq-eqb a.number 0 z)

-- two answers that satisfy the entry's guarantee are the same
pub one_answer : (file before after after' : List ℕ) (size size' : ℕ) → Lists file before after size → Lists file before after' size' → (after ≡ after') × (size ≡ size')
one_answer file before after after' size size' g h = (g.buffer ∙ sym h.buffer, g.is_size ∙ sym h.is_size)
