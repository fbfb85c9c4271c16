-- Taking the trailer apart: what it means that none of its checks refuses, and what each case of the answer tells.
--   Distances ..         == distances that are as stated, one by one, and distances_are that this is what the test of 15 says
--   settings_held        == then the settings begin no further back than the calls
--   Ended kinds file     == the file ends in a trailer of one of these kinds: what the test of 14 says, by ended_is; not_ended, short_ended, long_ended for code that tests one thing after the other
--   Stated kinds file    == what a trailer says that is not refused, and trailer_passes that 14, 1, 3 and 15 refuse no other
--   whole_answer, refused_answer == the case of an answer, by the number; whole_case, refused_case, the number by the case
--   lacking              == for code that passes on a refusal where a value is lacking
--   whole_apart, refused_apart == the guarantee, of a layout and of a refusal
--   one_answer           == two answers that satisfy it are the same
--   not_taken            == a file of a kind that is not taken is refused 14, whatever its other bytes are
use Rattle.std.specs.Prelude.{◌≡◌, refl, ◌↔◌, Bool, true, false, not, List, [], ◌∷◌, ℕ, suc, ◌-◌, ◌≤◌, T, eqb, length, Option, Some, None, Result, Ok, Err, ok_or}
use Rattle.std.proofs.Math.Path.{sym, ap}
use Rattle.std.proofs.Common.{◌∙◌, arith, eq-eqb, ne_eqb}
use Rattle.std.proofs.Math.Logic.Iff
use Rattle.std.proofs.Math.Decide.{ℕ_discrete}
use Rattle.ground.specs.Truth.{any}
use Rattle.ground.specs.TruthLaws.{not_is, holds_is, all_is, same_test, test_fails, test_holds, not_both}
use Rattle.ground.specs.Numbers.{eqb_is, leb_is}
use Rattle.shelf.specs.declared.Network.{Network}
use Rattle.shelf.specs.Network.{within_limits, most_calls}
use Rattle.calls.specs.declared.Verdict.{Verdict}
use Rattle.calls.specs.declared.refusal.Refusal.{Refusal}
use Rattle.calls.specs.Verdict.{passed}
use Rattle.calls.specs.VerdictLaws.{turn_passes, test_stops, refused_zero}
use Rattle.calls.specs.TableLaws.{sizes_pass, count_passes}
use Rattle.trailer.specs.declared.Kinds.{Kinds}
use Rattle.trailer.specs.declared.Layout.{Layout}
use Rattle.trailer.specs.File.{has_cycle, takes, short_trailer, long_trailer, trailer_length, most_note, mark, settings_distance, calls_distance}
use Rattle.trailer.proofs.FileLaws.{short_length, long_length, trailer_most}
use Rattle.trailer.specs.Trailer.{twelve_in, told_count, told_settings_back, told_calls_back, told_mark, kind_in, trailer_place, spare_in, told_net, has_trailer, no_trailer, distances_stated, distances_told, bad_distances, trailer_verdict, layout_of, whole_told, refused_told, answer_of, trailer_answer, TakenApart}

pub record Distances (kind K settingsBack callsBack start : ℕ) : Type 0 where
  pub settings_back : settingsBack ≡ settings_distance kind K
  pub calls_back : callsBack ≡ calls_distance kind K
  pub held : callsBack ≤ start
  pub short_note : start - callsBack ≤ most_note

pub distances_are : (kind K settingsBack callsBack start : ℕ) → T (distances_stated kind K settingsBack callsBack start) ↔ Distances kind K settingsBack callsBack start
unfolding distances_stated
distances_are kind K settingsBack callsBack start = Iff.trans (all_is _) (
  λ (settings, (calls, (held, (note, _)))).
      record {
        settings_back = (eqb_is settingsBack _).0 settings;
        calls_back = (eqb_is callsBack _).0 calls;
        held = (leb_is callsBack start).0 held;
        short_note = (leb_is (start - callsBack) most_note).0 note;
      },
  λ h. (
    (eqb_is settingsBack _).1 h.settings_back,
    ((eqb_is callsBack _).1 h.calls_back, ((leb_is callsBack start).1 h.held, ((leb_is (start - callsBack) most_note).1 h.short_note, tt))),
  ),
)

pub settings_held : {kind K settingsBack callsBack start : ℕ} → Distances kind K settingsBack callsBack start → settingsBack ≤ callsBack
unfolding calls_distance
settings_held h = omega arith

-- ---- what it means that none of the checks refuses

pub record Ended (kinds : Kinds) (file : List ℕ) : Type 0 where
  pub marked : told_mark (twelve_in file) ≡ mark
  pub a_kind : T (takes kinds (kind_in file))
  pub long : trailer_length (kind_in file) ≤ length file
  pub spare : has_cycle (kind_in file) ≡ true → spare_in file ≡ 0

pub record Stated (kinds : Kinds) (file : List ℕ) : Type 0 where
  pub ended : Ended kinds file
  pub limits : T (within_limits (told_net file))
  pub few : told_count (twelve_in file) ≤ most_calls
  pub distances : Distances (kind_in file) (told_count (twelve_in file)) (told_settings_back (twelve_in file)) (told_calls_back (twelve_in file)) (trailer_place file)

-- a test that is asked only where another holds
asked_if : (s t : Bool) → T (any (not s ∷ t ∷ [])) ↔ (s ≡ true → T t)
unfolding any
asked_if true true = (λ h e. tt, λ h. tt)
asked_if true false = (λ h e. absurd h, λ h. h refl)
asked_if false t = (λ h e. not_both e refl, λ h. tt)

module _ (kinds : Kinds) (file : List ℕ) where
  pub ended_is : T (has_trailer kinds file) ↔ Ended kinds file
  unfolding has_trailer
  ended_is = Iff.trans (all_is _) (
    λ (_, (marked, (kind, (long, (spare, _))))).
        record {
          marked = (eqb_is _ mark).0 marked;
          a_kind = kind;
          long = (leb_is _ _).0 long;
          spare = λ e. (eqb_is _ 0).0 ((asked_if _ _).0 spare e);
        },
    λ h. (
      (leb_is short_trailer (length file)).1 (omega (arith, h.long, trailer_most (kind_in file))),
      (
        (eqb_is _ mark).1 h.marked,
        (h.a_kind, ((leb_is _ _).1 h.long, ((asked_if (has_cycle (kind_in file)) _).1 (λ e. (eqb_is _ 0).1 (h.spare e)), tt))),
      ),
    ),
  )

  -- for code that tests one after the other
  pub not_ended : (Ended kinds file → ⊥) → has_trailer kinds file ≡ false
  not_ended n = test_fails _ ((not_is (has_trailer kinds file)).1 (λ h. n (ended_is.0 h)))

  pub short_ended : told_mark (twelve_in file) ≡ mark → takes kinds (kind_in file) ≡ true → has_cycle (kind_in file) ≡ false → short_trailer ≤ length file → has_trailer kinds file ≡ true
  short_ended marked kind none long =
      test_holds _ (λ g. (not_is (has_trailer kinds file)).0 g (ended_is.1 (record {
        marked = marked;
        a_kind = rw kind tt;
        long = rw (short_length (kind_in file) none) long;
        spare = λ e. not_both e none;
      })))

  pub long_ended : told_mark (twelve_in file) ≡ mark → takes kinds (kind_in file) ≡ true → has_cycle (kind_in file) ≡ true → long_trailer ≤ length file
      → has_trailer kinds file ≡ eqb (spare_in file) 0
  long_ended marked kind cycle long =
      same_test _ _ (Iff.trans ended_is (
        λ h. (eqb_is _ 0).1 (h.spare cycle),
        λ h. record { marked = marked; a_kind = rw kind tt; long = rw (long_length (kind_in file) cycle) long; spare = λ e. (eqb_is _ 0).0 h },
      ))

  pub trailer_passes : ((trailer_verdict kinds file).number ≡ 0) ↔ Stated kinds file
  unfolding trailer_verdict no_trailer bad_distances distances_told
  trailer_passes = Iff.trans (turn_passes _) (
    λ (fourteen, (one, (three, (fifteen, _)))).
        record {
          ended = ended_is.0 ((holds_is (has_trailer kinds file)).0 ((refused_zero 13 0 _).0 fourteen));
          limits = (sizes_pass (told_net file)).0 one;
          few = (count_passes (told_count (twelve_in file))).0 three;
          distances = (distances_are _ _ _ _ _).0 ((holds_is (distances_told file)).0 ((refused_zero 14 0 _).0 fifteen));
        },
    λ h. (
      (refused_zero 13 0 _).1 ((holds_is (has_trailer kinds file)).1 (ended_is.1 h.ended)),
      (
        (sizes_pass (told_net file)).1 h.limits,
        (
          (count_passes (told_count (twelve_in file))).1 h.few,
          ((refused_zero 14 0 _).1 ((holds_is (distances_told file)).1 ((distances_are _ _ _ _ _).1 h.distances)), tt),
        ),
      ),
    ),
  )

-- ---- the answer

module _ (v : Verdict) (layout : Layout) where
  pub whole_answer : v.number ≡ 0 → answer_of v layout ≡ Ok layout
  unfolding answer_of
  whole_answer z = rw (eq-eqb v.number 0 z)

  pub refused_answer : (v.number ≡ 0 → ⊥) → answer_of v layout ≡ Err v
  unfolding answer_of
  refused_answer n = rw (ne_eqb v.number 0 n)

  pub refused_case : (w : Verdict) → Err w ≡ answer_of v layout → (v.number ≡ 0 → ⊥) × (w ≡ v)
  refused_case w e = elim (ℕ_discrete v.number 0) [
    | yes z ↦ let y : ◌≡◌ {A = ℕ} 0 1 = cc (whole_answer z) in absurd (omega arith)
    | no n ↦ (n, cc (refused_answer n))
  ]

  pub whole_case : (told : Layout) → Ok told ≡ answer_of v layout → (v.number ≡ 0) × (told ≡ layout)
  whole_case told e = elim (ℕ_discrete v.number 0) [
    | yes z ↦ (z, cc (whole_answer z))
    | no n ↦ let y : ◌≡◌ {A = ℕ} 0 1 = cc (refused_answer n) in absurd (omega arith)
  ]

pub lacking : {A : Type 0} (o : Option A) (d e : Refusal) → ◌≡◌ {A = Result A Refusal} (Err d) (ok_or o e) → (o ≡ None) × (d ≡ e)
lacking None d e h = (refl, grind arith)
lacking (Some x) d e h = absurd (grind arith)

module _ (kinds : Kinds) (file : List ℕ) where
  pub refused_apart : (number : ℕ) → record { number = suc number; row = 0 } ≡ trailer_verdict kinds file → TakenApart kinds file (Err (record { number = suc number; row = 0 }))
  unfolding trailer_answer refused_told
  refused_apart number e = record { is_answer = rw (← e) (sym (refused_answer _ _ (λ z. omega arith))); number = ap (λ (v : Verdict). v.number) e }

  pub whole_apart : (net : Network) (kind K settingsBack callsBack start : ℕ) → passed ≡ trailer_verdict kinds file → net ≡ told_net file → kind ≡ kind_in file
      → K ≡ told_count (twelve_in file) → settingsBack ≡ told_settings_back (twelve_in file) → callsBack ≡ told_calls_back (twelve_in file) → start ≡ trailer_place file
      → TakenApart kinds file (Ok (record {
        net = net;
        kind = kind;
        count = K;
        trailer_at = start;
        calls_at = start - callsBack;
        settings_at = start - settingsBack;
      }))
  unfolding trailer_answer layout_of whole_told passed
  whole_apart net kind K settingsBack callsBack start e a b d f g h =
      rw (a, b, d, f, g, h) (record { is_answer = rw (← e) (sym (whole_answer _ _ refl)); number = ap (λ (v : Verdict). v.number) e })

  pub one_answer : (answer other : Result Layout Verdict) → TakenApart kinds file answer → TakenApart kinds file other → answer ≡ other
  one_answer answer other g h = g.is_answer ∙ sym h.is_answer

  -- 14 for a kind that is not taken, in every file, however short or damaged
  pub not_taken : (T (takes kinds (kind_in file)) → ⊥) → trailer_verdict kinds file ≡ record { number = 14; row = 0 }
  unfolding trailer_verdict no_trailer
  not_taken n = sym (test_stops 13 0 _ (test_holds (not (has_trailer kinds file)) (λ g. n ((ended_is kinds file).0 ((holds_is (has_trailer kinds file)).0 g)).a_kind)))
