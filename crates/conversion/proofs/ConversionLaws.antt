-- The conversions' guarantee, from the answers of the steps, and that two answers coincide.
--   recast_length, recast_room == how long the file is that is made, so that 4 goes by that
--   recast_fits, recast_is == there is room for it, and what is put there is it
--   recast_kept, recast_done == what the last step guarantees, where it refuses and where it writes
--   kept_converts, recast_converts == what a conversion guarantees: where the reader refuses, and else from its last step
--   Convertible ..        == what it means that a conversion does not refuse: a reader of its kinds does not, the cycle is the larger of r and m, and
--                            there is room: conversion_passes
--   whole_laid            == what the last step asks of a layout, where the reader does not refuse
--   with_kinds            == the guarantee for equal kinds
--   one_answer            == two answers that satisfy the guarantee are the same, with the buffers that they leave
use Rattle.std.specs.Prelude.{◌≡◌, ◌↔◌, Bool, List, ℕ, ◌+◌, ◌≤◌, ◌<◌, T, ltb, length, Ok, Err}
use Rattle.std.proofs.Math.Path.{refl, ap, subst}
use Rattle.std.proofs.Common.{sym, ◌∙◌}
use Rattle.std.proofs.Math.Logic.Iff
use Rattle.std.proofs.Math.Decide.{ℕ_discrete}
use native.Mathlib.Omega.{arith}
use borrow.Author.Tests.{eq-eqb, ne_eqb}
use Rattle.ground.specs.TruthLaws.{holds_is}
use Rattle.ground.specs.Numbers.{at_most_is}
use Rattle.ground.specs.Bytes.{part, front}
use Rattle.ground.specs.BytesLaws.{length_part}
use Rattle.shelf.specs.Network.{has_least_cycle, most_calls}
use Rattle.calls.specs.declared.Verdict.{Verdict}
use Rattle.calls.specs.Verdict.{success, ◌⨾◌, in_turn, answer}
use Rattle.calls.specs.VerdictLaws.{turn_stops, turn_goes_on, answer_passes, answer_refused, answer_passed, answer_success, refused_zero}
use Rattle.trailer.specs.declared.Kinds.{Kinds}
use Rattle.trailer.specs.declared.Layout.{Layout}
use Rattle.trailer.specs.File.{has_settings, kind_with, trailer_length, file_of}
use Rattle.trailer.proofs.FileLaws.{rows_part, length_file}
use Rattle.trailer.proofs.KindLaws.{kind_byte}
use Rattle.trailer.specs.Trailer.{layout_of, told_net, LaidOut}
use Rattle.trailer.proofs.TrailerLaws.{whole_case, refused_case}
use Rattle.planfile.specs.Reader.{reader_verdict, file_answer}
use Rattle.planfile.proofs.ReaderLaws.{laid_out, reader_passes}
use Rattle.planwriter.specs.Writer.{short_buffer, other_cycle, HasRoom}
use Rattle.conversion.specs.Conversion.{recast_file, recast_checks, converted_file, conversion_checks, conversion_verdict, conversion_buffer, Recasts, Converts}

-- ---- the last step: 18, 4, and the file

module _ (cycle : Bool) (layout : Layout) (file : List ℕ) where
  pub recast_length : LaidOut (length file) layout → length (recast_file cycle layout file) ≡ layout.trailer_at + trailer_length (kind_with (has_settings layout.kind) cycle)
  unfolding recast_file
  recast_length laid =
      let c = laid.calls_end in
      let s = laid.settings_end in
      let i = laid.inside in
      rw length_file (omega (
        arith,
        length_part file 0 layout.calls_at (omega arith),
        length_part file layout.calls_at layout.settings_at (omega arith),
        length_part file layout.settings_at layout.trailer_at i,
      ))

  pub recast_room : LaidOut (length file) layout → (size : ℕ) → size ≡ trailer_length (kind_with (has_settings layout.kind) cycle) → (room : ℕ)
      → ltb room (length (recast_file cycle layout file)) ≡ ltb room (layout.trailer_at + size)
  recast_room laid size e room = ap (ltb room) (rw e (recast_length laid))

  -- for the code: the other kind, and the parts of the file
  module _ (kind : ℕ) (k : kind ≡ kind_with (has_settings layout.kind) cycle) where
    -- a note that is no longer than the file's own
    pub recast_fits : LaidOut (length file) layout → layout.count ≤ most_calls → (room : ℕ) → length (recast_file cycle layout file) ≤ room → (note : List ℕ) → length note ≤ layout.calls_at
        → (kind < 256) × HasRoom kind layout.net note (part file layout.calls_at layout.settings_at) (part file layout.settings_at layout.trailer_at) room
    recast_fits laid few room enough note short =
        let c = laid.calls_end in
        let s = laid.settings_end in
        let i = laid.inside in
        let rows = rows_part file layout.calls_at layout.settings_at layout.count (omega arith) c in
        rw k (
          kind_byte (has_settings layout.kind) cycle,
          record {
            limits = laid.limits;
            few = rw rows few;
            enough = rw length_file (omega (
              arith,
              recast_length laid,
              length_part file layout.calls_at layout.settings_at (omega arith),
              length_part file layout.settings_at layout.trailer_at i,
            ));
          },
        )

    pub recast_is : file_of layout.net kind (part file 0 layout.calls_at) (part file layout.calls_at layout.settings_at) (part file layout.settings_at layout.trailer_at) ≡ recast_file cycle layout file
    unfolding recast_file
    recast_is = rw k

  module _ (before : List ℕ) (u : Verdict) (e : u ≡ in_turn (recast_checks cycle layout file (length before))) where
    pub recast_kept : (u.number ≡ 0 → ⊥) → Recasts cycle layout file before before u
    recast_kept n = record { answer = answer_refused _ layout.count e n; unchanged = λ m. refl; written = λ z. absurd (n z) }

    pub recast_done : u.number ≡ 0 → (after : List ℕ) → after ≡ front before (recast_file cycle layout file) → Recasts cycle layout file before after (success layout.count)
    unfolding success
    recast_done z after f = record { answer = answer_passed _ layout.count e z; unchanged = λ n. absurd (n refl); written = λ y. f }

-- ---- the whole conversion

module _ (kinds : Kinds) (cycle : Bool) (file before : List ℕ) where
  -- what a conversion was that did not refuse
  pub record Convertible : Type 0 where
    pub whole : (reader_verdict kinds file).number ≡ 0
    pub least : T (has_least_cycle (told_net file))
    pub enough : length (converted_file cycle file) ≤ length before

  pub conversion_passes : ((conversion_verdict kinds cycle file (length before)).number ≡ 0) ↔ Convertible
  unfolding conversion_verdict conversion_checks recast_checks converted_file other_cycle short_buffer layout_of
  conversion_passes = Iff.trans (answer_passes _ (layout_of file).count) (
    λ (reader, (eighteen, (four, _))).
        record {
          whole = reader;
          least = (holds_is (has_least_cycle (told_net file))).0 ((refused_zero 17 0 _).0 eighteen);
          enough = (at_most_is (length (converted_file cycle file)) (length before)).0 ((refused_zero 3 0 _).0 four);
        },
    λ h. (
      h.whole,
      (
        (refused_zero 17 0 _).1 ((holds_is (has_least_cycle (told_net file))).1 h.least),
        ((refused_zero 3 0 _).1 ((at_most_is (length (converted_file cycle file)) (length before)).1 h.enough), tt),
      ),
    ),
  )

  pub kept_converts : (v : Verdict) → Err v ≡ file_answer kinds file → Converts kinds cycle file before before v
  unfolding file_answer conversion_verdict conversion_checks conversion_buffer
  kept_converts v e =
      let is-reader = (refused_case _ _ v e).1 in
      let m : v.number ≡ 0 → ⊥ = λ z. (refused_case _ _ v e).0 (rw is-reader at z) in
      let told = answer_refused _ (layout_of file).count (turn_stops _ is-reader m) m in
      record {
        answer = told;
        buffer = rw (← told, ne_eqb v.number 0 m);
        unchanged = λ k. refl;
        written = λ z. absurd (m z);
        tells_k = λ z. absurd (m z);
        taken = λ z. absurd (m z);
        least_cycle = λ z. absurd (m z);
      }

  module _ (layout : Layout) (e : Ok layout ≡ file_answer kinds file) where
    is_whole : ((reader_verdict kinds file).number ≡ 0) × (layout ≡ layout_of file)
    unfolding file_answer
    is_whole = whole_case _ _ layout e

    -- its positions follow one another, and it has no more calls than a table can have
    pub whole_laid : LaidOut (length file) layout × (layout.count ≤ most_calls)
    unfolding layout_of
    whole_laid = let stated = ((reader_passes kinds file).0 is_whole.0).0 in rw is_whole.1 (laid_out kinds file stated, stated.few)

    -- where the reader passes, its answer leaves it to 18 and 4
    goes_on : answer (recast_checks cycle (layout_of file) file (length before)) (layout_of file).count ≡ conversion_verdict kinds cycle file (length before)
    unfolding conversion_verdict conversion_checks recast_checks answer
    goes_on = ap (λ (u : Verdict). u ⨾ success (layout_of file).count) (turn_goes_on _ _ refl is_whole.0 refl)

    pub recast_converts : (after : List ℕ) (v : Verdict) → Recasts cycle layout file before after v → Converts kinds cycle file before after v
    unfolding conversion_buffer converted_file layout_of success
    recast_converts after v g =
        let h = subst (λ (l : Layout). Recasts cycle l file before after v) is_whole.1 g in
        let told : v ≡ conversion_verdict kinds cycle file (length before) = h.answer ∙ goes_on in
        let passes : v.number ≡ 0 → Convertible = λ z. conversion_passes.0 (rw told at z) in
        record {
          answer = told;
          buffer = elim (ℕ_discrete v.number 0) [
            | yes z ↦ h.written z ∙ rw (← told, eq-eqb v.number 0 z)
            | no n ↦ h.unchanged n ∙ rw (← told, ne_eqb v.number 0 n)
          ];
          unchanged = h.unchanged;
          written = h.written;
          tells_k = λ z. ap (λ (u : Verdict). u.row) (h.answer ∙ answer_success _ _ (rw h.answer at z));
          taken = λ z. ((reader_passes kinds file).0 (passes z).whole).0.ended.a_kind;
          least_cycle = λ z. (passes z).least;
        }

pub with_kinds : {kinds other : Kinds} {cycle : Bool} {file before after : List ℕ} {v : Verdict} → kinds ≡ other → Converts kinds cycle file before after v → Converts other cycle file before after v
with_kinds {cycle = cycle} {file} {before} {after} {v} e g = subst (λ (kinds : Kinds). Converts kinds cycle file before after v) e g

-- two answers that satisfy the guarantee are the same, and so are the buffers that they leave
pub one_answer : (kinds : Kinds) (cycle : Bool) (file before after after' : List ℕ) (v w : Verdict)
    → Converts kinds cycle file before after v → Converts kinds cycle file before after' w → (v ≡ w) × (after ≡ after')
one_answer kinds cycle file before after after' v w g h = (g.answer ∙ sym h.answer, g.buffer ∙ sym h.buffer)
