-- Laws of the layout.
--   settings_most, settings_distance_lem, no_distance == settings take at most 3 bytes for each call, so many where the kind has them, and else none
--   trailer_most, short_length, long_length == the bytes of a trailer: 12 to 14, 12 without the cycle, 14 with it
--   rows_part            == K rows of 4 bytes are K call rows
--   length_trailer, length_file == how long a trailer and a file are
--   trailer_rest         == a trailer is the last bytes of the longer one
--   longest_most         == no kind's longest file is longer than the longest file, which has 7,437 bytes: longest_is; that of the first issue
--                           has 7,435: longest_planned
use Rattle.std.specs.Prelude.{◌≡◌, refl, Bool, true, false, cond, List, [], ◌∷◌, ◌++◌, ℕ, ◌+◌, ◌-◌, ◌*◌, ◌≤◌, T, length}
use Rattle.std.proofs.Common.{arith, length-append}
use Rattle.ground.specs.Truth.{any}
use Rattle.ground.specs.Bytes.{part}
use Rattle.ground.specs.BytesLaws.{length_part}
use Rattle.shelf.specs.declared.Network.{Network}
use Rattle.shelf.specs.Network.{most_calls}
use Rattle.shelf.specs.Rows.{row_count}
use Rattle.trailer.specs.File.{planned, calls_with_cycle, planned_with_cycle, has_settings, has_cycle, short_trailer, long_trailer, trailer_length, most_note, settings_per_call, settings_distance, calls_distance, cycle_bytes, last_twelve, trailer_of, file_of, longest_of, longest_file}

pub settings_most : (kind K : ℕ) → settings_distance kind K ≤ 3 * K
unfolding settings_distance settings_per_call
settings_most kind K = go (has_settings kind)
  where
    go : (b : Bool) → cond b 3 0 * K ≤ 3 * K
    go true = omega arith
    go false = omega arith

pub settings_distance_lem : (kind K : ℕ) → T (has_settings kind) → settings_distance kind K ≡ 3 * K
unfolding settings_distance settings_per_call
settings_distance_lem kind K = go (has_settings kind)
  where
    go : (b : Bool) → T b → cond b 3 0 * K ≡ 3 * K
    go true h = refl
    go false h = absurd h

pub no_distance : (kind K : ℕ) → has_settings kind ≡ false → settings_distance kind K ≡ 0
unfolding settings_distance settings_per_call
no_distance kind K e = rw e (omega arith)

pub long_length : (kind : ℕ) → has_cycle kind ≡ true → trailer_length kind ≡ long_trailer
unfolding trailer_length
long_length kind e = rw e

pub short_length : (kind : ℕ) → has_cycle kind ≡ false → trailer_length kind ≡ short_trailer
unfolding trailer_length
short_length kind e = rw e

pub trailer_most : (kind : ℕ) → (short_trailer ≤ trailer_length kind) × (trailer_length kind ≤ long_trailer)
unfolding trailer_length short_trailer long_trailer
trailer_most kind = go (has_cycle kind)
  where
    go : (b : Bool) → (12 ≤ cond b 14 12) × (cond b 14 12 ≤ 14)
    go true = (omega arith, omega arith)
    go false = (omega arith, omega arith)

pub rows_part : (file : List ℕ) (from to K : ℕ) → to ≤ length file → from + 4 * K ≡ to → row_count (part file from to) ≡ K
unfolding row_count
rows_part file from to K h e = omega (arith, length_part file from to h)

pub length_cycle : (net : Network) (kind : ℕ) → length (cycle_bytes net kind) + short_trailer ≡ trailer_length kind
unfolding cycle_bytes trailer_length long_trailer short_trailer
length_cycle net kind = go (has_cycle kind)
  where
    go : (b : Bool) → length (cond b (net.w ∷ 0 ∷ []) []) + 12 ≡ cond b 14 12
    go true = refl
    go false = refl

pub length_trailer : (net : Network) (kind K : ℕ) → length (trailer_of net kind K) ≡ trailer_length kind
unfolding trailer_of last_twelve short_trailer
length_trailer net kind K = simp length-append (omega (arith, length_cycle net kind))

-- the last bytes of the longer trailer, as many as the kind's own has
pub trailer_rest : (net : Network) (kind K : ℕ) {bytes : List ℕ} {size : ℕ} → bytes ≡ net.w ∷ 0 ∷ last_twelve net kind K → size ≡ trailer_length kind
    → part bytes (long_trailer - size) long_trailer ≡ trailer_of net kind K
unfolding part trailer_of cycle_bytes last_twelve trailer_length long_trailer short_trailer
trailer_rest net kind K b s = rw (b, s) (go (has_cycle kind))
  where
    go : (b : Bool) → part (net.w ∷ 0 ∷ last_twelve net kind K) (14 - cond b 14 12) 14 ≡ cond b (net.w ∷ 0 ∷ []) [] ++ last_twelve net kind K
    go true = refl
    go false = refl

pub length_file : (net : Network) (kind : ℕ) (note calls settings : List ℕ)
    → length (file_of net kind note calls settings) ≡ length note + length calls + length settings + trailer_length kind
unfolding file_of
length_file net kind note calls settings = simp (length-append, length_trailer)

pub longest_most : (kind : ℕ) → longest_of kind ≤ longest_file
unfolding longest_file longest_of calls_distance has_settings has_cycle planned calls_with_cycle planned_with_cycle any
longest_most kind =
    omega (
      arith,
      settings_most kind most_calls,
      settings_distance_lem planned_with_cycle most_calls tt,
      (trailer_most kind).1,
      long_length planned_with_cycle refl,
    )

pub longest_is : longest_file ≡ 7437
unfolding longest_file longest_of most_note calls_distance settings_distance settings_per_call has_settings most_calls trailer_length has_cycle long_trailer any planned calls_with_cycle planned_with_cycle
longest_is = refl

pub longest_planned : longest_of planned ≡ 7435
unfolding longest_of most_note calls_distance settings_distance settings_per_call has_settings most_calls trailer_length has_cycle short_trailer any planned calls_with_cycle planned_with_cycle
longest_planned = refl
