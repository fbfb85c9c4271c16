-- What a file's trailer tells, as a function of the file's bytes.
--   twelve_in file         == the twelve bytes that stand last in every trailer
--   told_kind, told_count, told_settings_back, told_calls_back, told_mark == what these twelve say
--   kind_in file           == the kind told; trailer_place file where the trailer starts
--   cycle_in file, spare_in file == the two bytes at the front of a longer trailer
--   told_net file          == the network told, with its cycle
--   has_trailer kinds file == the file is long enough, the mark stands at its end, the kind is one of these, and the spare byte is zero
--   front_stands file      == of these the last two: the kind's trailer is in the file, and its spare byte is zero
--   distances_stated ..    == the distances are as stated, no more than the file holds, and leave a note of at most 255 bytes;
--                            distances_told file is that of the distances in the trailer
--   no_trailer kinds file, bad_distances file == 14 and 15
--   trailer_verdict kinds file == 14, 1, 3 and 15, in this order
--   layout_of file         == the layout that the trailer tells
--   whole_told layout, refused_told v == what a reader tells of a whole file, and of a refusal
--   told_by answer         == the number and the values of each case of an answer
--   answer_of v layout     == the answer: a refusal where v is one, else the layout
--   trailer_answer kinds file == what taking the trailer apart answers
--   TakenApart, LaidOut   == what the function guarantees, and what a layout is whose positions follow one another
use Rattle.std.specs.Prelude.{◌≡◌, Bool, not, cond, List, [], ◌∷◌, ℕ, ◌+◌, ◌-◌, ◌*◌, ◌≤◌, T, eqb, leb, length, get_or, Result, Ok, Err}
use Rattle.ground.specs.Truth.{all, any}
use Rattle.ground.specs.Bytes.{number_at, part}
use Rattle.shelf.specs.declared.Network.{Network}
use Rattle.shelf.specs.Network.{within_limits, least_cycle}
use Rattle.calls.specs.declared.Verdict.{Verdict}
use Rattle.calls.specs.Verdict.{refused_if, in_turn}
use Rattle.calls.specs.Table.{bad_sizes, too_many_calls}
use Rattle.trailer.specs.declared.Kinds.{Kinds}
use Rattle.trailer.specs.declared.Layout.{Layout}
use Rattle.trailer.specs.declared.Told.{Told}
use Rattle.trailer.specs.File.{has_cycle, takes, short_trailer, trailer_length, most_note, mark, settings_distance, calls_distance}

-- "The other twelve are as before", and stand last whatever the kind
unfoldable pub twelve_in : List ℕ → List ℕ
twelve_in file = part file (length file - short_trailer) (length file)

unfoldable pub told_kind : List ℕ → ℕ
told_kind t = get_or t 3 0

unfoldable pub told_count : List ℕ → ℕ
told_count t = number_at t 4

unfoldable pub told_settings_back : List ℕ → ℕ
told_settings_back t = number_at t 6

unfoldable pub told_calls_back : List ℕ → ℕ
told_calls_back t = number_at t 8

unfoldable pub told_mark : List ℕ → ℕ
told_mark t = number_at t 10

unfoldable pub kind_in : List ℕ → ℕ
kind_in file = told_kind (twelve_in file)

-- "the trailer stands last and points back"
unfoldable pub trailer_place : List ℕ → ℕ
trailer_place file = length file - trailer_length (kind_in file)

-- "two more bytes at the front of the trailer: W and a zero"
unfoldable pub cycle_in : List ℕ → ℕ
cycle_in file = get_or file (trailer_place file) 0

unfoldable pub spare_in : List ℕ → ℕ
spare_in file = get_or file (trailer_place file + 1) 0

-- "Reading also tells W." "Old files .. take W as the larger of r and m."
unfoldable pub told_net : List ℕ → Network
told_net file =
    let t = twelve_in file in
    record { n = get_or t 0 0; m = get_or t 1 0; r = get_or t 2 0; w = cond (has_cycle (kind_in file)) (cycle_in file) (least_cycle (get_or t 1 0) (get_or t 2 0)) }

-- 14: "file under 12 bytes, wrong mark, or kind not 1 or 2"; "in 14 the kinds are now 1 to 4, or those the conversion takes; 14 also for a
-- kind 3 or 4 file under 14 bytes or a spare byte that isn't zero"
unfoldable pub has_trailer : Kinds → List ℕ → Bool
has_trailer kinds file =
    all
    (leb short_trailer (length file)
    ∷ eqb (told_mark (twelve_in file)) mark
    ∷ takes kinds (kind_in file)
    ∷ leb (trailer_length (kind_in file)) (length file)
    ∷ any (not (has_cycle (kind_in file)) ∷ eqb (spare_in file) 0 ∷ [])
    ∷ [])

-- "two more bytes at the front of the trailer: W and a zero"; "14 also for a kind 3 or 4 file under 14 bytes or a spare byte that isn't zero"
unfoldable pub front_stands : List ℕ → Bool
front_stands file = all (leb (trailer_length (kind_in file)) (length file) ∷ any (not (has_cycle (kind_in file)) ∷ eqb (spare_in file) 0 ∷ []) ∷ [])

unfoldable pub no_trailer : Kinds → List ℕ → Verdict
no_trailer kinds file = refused_if 14 0 (not (has_trailer kinds file))

-- 15: "distances not as stated, or more than the file holds, or a note above 255 bytes"
unfoldable pub distances_stated : ℕ → ℕ → ℕ → ℕ → ℕ → Bool
distances_stated kind K settingsBack callsBack start =
    all
    (eqb settingsBack (settings_distance kind K)
    ∷ eqb callsBack (calls_distance kind K)
    ∷ leb callsBack start
    ∷ leb (start - callsBack) most_note
    ∷ [])

unfoldable pub distances_told : List ℕ → Bool
distances_told file =
    let t = twelve_in file in
    distances_stated (kind_in file) (told_count t) (told_settings_back t) (told_calls_back t) (trailer_place file)

unfoldable pub bad_distances : List ℕ → Verdict
bad_distances file = refused_if 15 0 (not (distances_told file))

-- "The trailer is taken apart first; a file that lacks one is turned away before a row is touched." "File reader: 14, 1, 3, 15"
unfoldable pub trailer_verdict : Kinds → List ℕ → Verdict
trailer_verdict kinds file =
    in_turn
    (no_trailer kinds file
    ∷ bad_sizes (told_net file)
    ∷ too_many_calls (told_count (twelve_in file))
    ∷ bad_distances file
    ∷ [])

unfoldable pub layout_of : List ℕ → Layout
layout_of file = record {
  net = told_net file;
  kind = kind_in file;
  count = told_count (twelve_in file);
  trailer_at = trailer_place file;
  calls_at = trailer_place file - told_calls_back (twelve_in file);
  settings_at = trailer_place file - told_settings_back (twelve_in file);
}

-- "Reading tells n, m, r, kind, K and where note, calls and settings begin (for kind 1, settings begin at the trailer)." "Reading also tells W."
unfoldable pub whole_told : Layout → Told
whole_told layout = record {
  number = 0;
  row = layout.count;
  n = layout.net.n;
  m = layout.net.m;
  r = layout.net.r;
  w = layout.net.w;
  kind = layout.kind;
  count = layout.count;
  note_at = 0;
  calls_at = layout.calls_at;
  settings_at = layout.settings_at;
}

-- "A refused read tells zero for all of these."
unfoldable pub refused_told : Verdict → Told
refused_told v = record {
  number = v.number;
  row = v.row;
  n = 0;
  m = 0;
  r = 0;
  w = 0;
  kind = 0;
  count = 0;
  note_at = 0;
  calls_at = 0;
  settings_at = 0;
}

-- The number and the values of each case of an answer: a whole trailer is success, 0, with what its layout says; a refusal has its
-- own number and row.
abbrev pub told_by : Result Layout Verdict → Told
told_by (Ok layout) = whole_told layout
told_by (Err refusal) = refused_told refusal

unfoldable pub answer_of : Verdict → Layout → Result Layout Verdict
answer_of v layout = cond (eqb v.number 0) (Ok layout) (Err v)

unfoldable pub trailer_answer : Kinds → List ℕ → Result Layout Verdict
trailer_answer kinds file = answer_of (trailer_verdict kinds file) (layout_of file)

-- ---- what is guaranteed

pub record TakenApart (kinds : Kinds) (file : List ℕ) (answer : Result Layout Verdict) : Type 0 where
  pub is_answer : answer ≡ trailer_answer kinds file
  -- the number of its case: that of 14, 1, 3 and 15 in this order, else 0
  pub number : (told_by answer).number ≡ (trailer_verdict kinds file).number

-- a layout whose positions follow one another, within a file of this length
pub record LaidOut (size : ℕ) (layout : Layout) : Type 0 where
  pub limits : T (within_limits layout.net)
  pub calls_end : layout.calls_at + 4 * layout.count ≡ layout.settings_at
  pub settings_end : layout.settings_at + settings_distance layout.kind layout.count ≡ layout.trailer_at
  pub inside : layout.trailer_at ≤ size
