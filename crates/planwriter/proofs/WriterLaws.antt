-- What it means that a writer's checks pass, what it then writes, and that two answers coincide.
--   PartsPass ..         == what parts are that none of a writer's checks refuses: parts_pass, and writer_passes that its number says so
--   room_test            == 4 goes by the sum of the lengths
--   has_room, refused_writes, done_writes == the guarantee, where a check refused and where all passed
--   written_passes, longest_written == what was written passed the checks, and is no longer than the longest file
--   one_answer           == two answers that satisfy it are the same, with the buffers that they leave
use Rattle.std.specs.Prelude.{◌≡◌, refl, ◌↔◌, Bool, true, false, cond, List, ℕ, ◌+◌, ◌≤◌, T, ltb, length}
use Rattle.std.proofs.Common.{sym, ◌∙◌}
use borrow.Author.Tests.{ne_eqb}
use Rattle.ground.specs.TruthLaws.{holds_is, not_both}
use Rattle.ground.specs.Numbers.{at_most_is}
use Rattle.ground.specs.Bytes.{front}
use Rattle.shelf.specs.declared.Network.{Network}
use Rattle.shelf.specs.Network.{has_least_cycle}
use Rattle.shelf.specs.Rows.{row_count}
use Rattle.calls.specs.declared.Verdict.{Verdict}
use Rattle.calls.specs.Verdict.{passed, success, in_turn, AllPass}
use Rattle.calls.specs.VerdictLaws.{turn_passes, answer_passes, answer_refused, answer_passed, refused_zero}
use Rattle.trailer.specs.File.{has_cycle, trailer_length, most_note, file_of, longest_of}
use Rattle.trailer.proofs.FileLaws.{length_file}
use Rattle.planfile.specs.Checks.{table_checks}
use Rattle.planfile.proofs.ChecksLaws.{Measured, measured, table_lawful, longest_file_lem}
use Rattle.planwriter.specs.Writer.{long_note, short_buffer, other_cycle, untold_cycle, part_checks, writer_verdict, write_buffer, HasRoom, Writes}

pub record PartsPass (kind : ℕ) (net : Network) (note calls settings : List ℕ) (room : ℕ) : Type 0 where
  pub sizes : Measured kind net calls settings
  pub short_note : length note ≤ most_note
  pub enough : length (file_of net kind note calls settings) ≤ room
  pub rows : (table_checks net kind calls settings).number ≡ 0
  pub least : has_cycle kind ≡ false → T (has_least_cycle net)

-- 18 refuses no W that the trailer holds, nor the larger of r and m
told_or_least : (kind : ℕ) (net : Network) → ((untold_cycle kind net).number ≡ 0) ↔ (has_cycle kind ≡ false → T (has_least_cycle net))
unfolding untold_cycle other_cycle passed
told_or_least kind net = go (has_cycle kind)
  where
    go : (b : Bool) → ((cond b passed (other_cycle net)).number ≡ 0) ↔ (b ≡ false → T (has_least_cycle net))
    go true = (λ z e. not_both refl e, λ h. refl)
    go false = (λ z e. (holds_is (has_least_cycle net)).0 ((refused_zero 17 0 _).0 z), λ h. (refused_zero 17 0 _).1 ((holds_is (has_least_cycle net)).1 (h refl)))

module _ (kind : ℕ) (net : Network) (note calls settings : List ℕ) where
  module _ (room : ℕ) where
    pub parts_pass : AllPass (part_checks kind net note calls settings room) ↔ PartsPass kind net note calls settings room
    unfolding part_checks long_note short_buffer
    parts_pass = (
      λ (sizes, (sixteen, (four, (table, (eighteen, _))))).
          record {
            sizes = (measured kind net calls settings).0 sizes;
            short_note = (at_most_is (length note) most_note).0 ((refused_zero 15 0 _).0 sixteen);
            enough = (at_most_is (length (file_of net kind note calls settings)) room).0 ((refused_zero 3 0 _).0 four);
            rows = table;
            least = (told_or_least kind net).0 eighteen;
          },
      λ h. (
        (measured kind net calls settings).1 h.sizes,
        (
          (refused_zero 15 0 _).1 ((at_most_is (length note) most_note).1 h.short_note),
          (
            (refused_zero 3 0 _).1 ((at_most_is (length (file_of net kind note calls settings)) room).1 h.enough),
            (h.rows, ((told_or_least kind net).1 h.least, tt)),
          ),
        ),
      ),
    )

    pub writer_passes : ((writer_verdict kind net note calls settings room).number ≡ 0) ↔ AllPass (part_checks kind net note calls settings room)
    unfolding writer_verdict
    writer_passes = answer_passes _ (row_count calls)

    pub room_test : ltb room (length (file_of net kind note calls settings)) ≡ ltb room (length note + length calls + length settings + trailer_length kind)
    room_test = rw length_file

  -- what the checks found is the answer where they refuse, and else the file is put at the buffer's front
  module _ (before : List ℕ) (u : Verdict) (e : u ≡ in_turn (part_checks kind net note calls settings (length before))) where
    pub refused_writes : (u.number ≡ 0 → ⊥) → Writes kind net note calls settings before before u
    unfolding write_buffer writer_verdict
    refused_writes n =
        let answer = answer_refused _ (row_count calls) e n in
        record {
          answer = answer;
          buffer = rw (← answer, ne_eqb u.number 0 n);
          unchanged = λ m. refl;
          written = λ z. absurd (n z);
          tells_k = λ z. absurd (n z);
          in_order = λ z. absurd (n z);
          lawful = λ z. absurd (n z);
          least_cycle = λ z. absurd (n z);
        }

    module _ (z : u.number ≡ 0) where
      passed_parts : PartsPass kind net note calls settings (length before)
      passed_parts = (parts_pass (length before)).0 ((turn_passes _).0 (rw e at z))

      pub has_room : HasRoom kind net note calls settings (length before)
      has_room = let p = passed_parts in record { limits = p.sizes.limits; few = p.sizes.few; enough = p.enough }

      pub done_writes : (after : List ℕ) → after ≡ front before (file_of net kind note calls settings) → Writes kind net note calls settings before after (success (row_count calls))
      unfolding write_buffer writer_verdict success
      done_writes after f =
          let answer = answer_passed _ (row_count calls) e z in
          let table = (table_lawful kind net calls settings passed_parts.sizes).0 passed_parts.rows in
          record {
            answer = answer;
            buffer = rw (← answer) f;
            unchanged = λ n. absurd (n refl);
            written = λ y. f;
            tells_k = λ y. refl;
            in_order = λ y. table.0;
            lawful = λ y. table.1;
            least_cycle = λ y. passed_parts.least;
          }

-- what was written passed the checks, and is no longer than the longest file
module _ (kind : ℕ) (net : Network) (note calls settings before after : List ℕ) (v : Verdict) (w : Writes kind net note calls settings before after v) (z : v.number ≡ 0) where
  pub written_passes : PartsPass kind net note calls settings (length before)
  written_passes = (parts_pass kind net note calls settings (length before)).0 ((writer_passes kind net note calls settings (length before)).0 (rw w.answer at z))

  pub longest_written : length (file_of net kind note calls settings) ≤ longest_of kind
  longest_written = longest_file_lem kind net calls settings written_passes.sizes note written_passes.short_note

-- two answers that satisfy the guarantee are the same, and so are the buffers that they leave
pub one_answer : (kind : ℕ) (net : Network) (note calls settings before after after' : List ℕ) (v w : Verdict)
    → Writes kind net note calls settings before after v → Writes kind net note calls settings before after' w → (v ≡ w) × (after ≡ after')
one_answer kind net note calls settings before after after' v w g h = (g.answer ∙ sym h.answer, g.buffer ∙ sym h.buffer)
