-- The checks of a call table, each with its number. An entry's answer is these and its own, in its order.
--   bad_sizes net         == 1, n, m or r outside its limits
--   bad_lengths c s per   == 2, calls not a multiple of 4 bytes, or given settings not `per` bytes per call (c and s are their lengths)
--   too_many_calls K       == 3, K above 1,024
--   outside net calls i  == row i has a module or a channel that the network does not have, and outside_call net call that the
--                           code's own record of a row has one
--   outside_at, outside_row net calls == 5, α or β ≥ r, or ω or ω' ≥ n: of one row, and the first such
--   point_at, point_twice calls outlets number == the refusal of a row whose inlet or outlet an earlier row uses, and the first such
--   inlet_twice calls, outlet_twice calls == 6, inlet used by an earlier row; 7, outlet used by an earlier row
--   twice_number side    == 6 for inlets, 7 for outlets
--   size_checks, call_checks == 1, 2, 3 in this order; 5, 6, 7 in this order
--   Inside net calls i   == 5 does not refuse row i
--   InOrder net calls    == a call table in order: none of these refuses it
--   point_used calls outlets i == an earlier row uses the inlet, or with `outlets` the outlet, of row i
--   PointRead calls outlets i point == `point` is the inlet, or the outlet, of row i
--   point_marks, PointFits calls outlets i == the record of use after the rows below i, and that the point of row i has a place in it
use Rattle.std.specs.Prelude.{◌≡◌, Bool, true, false, not, List, [], ◌∷◌, ℕ, ◌*◌, ◌/◌, ◌%◌, ◌≤◌, ◌<◌, T, eqb, leb, ltb, length}
use Rattle.ground.specs.Truth.{any}
use Rattle.ground.specs.Below.{used_earlier, Once}
use Rattle.ground.specs.Marks.{marks}
use Rattle.shelf.specs.declared.Network.{Network}
use Rattle.shelf.specs.declared.CallRow.{CallRow}
use Rattle.shelf.specs.declared.Side.{Side}
use Rattle.shelf.specs.declared.Side.TheVariants.{Input, Output}
use Rattle.shelf.specs.Network.{within_limits, most_channels, most_modules, most_calls}
use Rattle.shelf.specs.Rows.{row_count, α, ω, β, ω', call_at, module_of, channel_of}
use Rattle.calls.specs.declared.Verdict.{Verdict}
use Rattle.calls.specs.declared.Point.{Point}
use Rattle.calls.specs.Verdict.{refused_if, in_turn, seek_rows}

unfoldable pub bad_sizes : Network → Verdict
bad_sizes net = refused_if 1 0 (not (within_limits net))

unfoldable pub bad_lengths : ℕ → ℕ → ℕ → Verdict
bad_lengths c s per = refused_if 2 0 (any (not (eqb (c % 4) 0) ∷ not (eqb s (per * (c / 4))) ∷ []))

unfoldable pub too_many_calls : ℕ → Verdict
too_many_calls K = refused_if 3 0 (ltb most_calls K)

unfoldable pub outside_call : Network → CallRow → Bool
outside_call net call =
    any
    (leb net.r call.input_module
    ∷ leb net.r call.output_module
    ∷ leb net.n call.input_channel
    ∷ leb net.n call.output_channel
    ∷ [])

abbrev pub outside : Network → List ℕ → ℕ → Bool
outside net calls i = outside_call net (call_at calls i)

abbrev pub outside_at : Network → List ℕ → ℕ → Verdict
outside_at net calls i = refused_if 5 i (outside net calls i)

unfoldable pub outside_row : Network → List ℕ → Verdict
outside_row net calls = seek_rows (row_count calls) (outside_at net calls)

abbrev pub point_used : List ℕ → Bool → ℕ → Bool
point_used calls outlets = used_earlier (module_of calls outlets) (channel_of calls outlets)

abbrev pub point_at : List ℕ → Bool → ℕ → ℕ → Verdict
point_at calls outlets number i = refused_if number i (point_used calls outlets i)

unfoldable pub point_twice : List ℕ → Bool → ℕ → Verdict
point_twice calls outlets number = seek_rows (row_count calls) (point_at calls outlets number)

abbrev pub twice_number : Side → ℕ
twice_number Input = 6
twice_number Output = 7

abbrev pub inlet_twice : List ℕ → Verdict
inlet_twice calls = point_twice calls false 6

abbrev pub outlet_twice : List ℕ → Verdict
outlet_twice calls = point_twice calls true 7

-- "Each of 5, 6, 7 and 8 is sought over the whole table before the next."
unfoldable pub size_checks : Network → ℕ → ℕ → ℕ → Verdict
size_checks net c s per = in_turn (bad_sizes net ∷ bad_lengths c s per ∷ too_many_calls (c / 4) ∷ [])

unfoldable pub call_checks : Network → List ℕ → Verdict
call_checks net calls = in_turn (outside_row net calls ∷ inlet_twice calls ∷ outlet_twice calls ∷ [])

pub record Inside (net : Network) (calls : List ℕ) (i : ℕ) : Type 0 where
  pub own_α : α calls i < net.r
  pub own_β : β calls i < net.r
  pub own_ω : ω calls i < net.n
  pub own_ω' : ω' calls i < net.n

pub record InOrder (net : Network) (calls : List ℕ) : Type 0 where
  pub limits : T (within_limits net)
  pub whole : length calls ≡ 4 * row_count calls
  pub few : row_count calls ≤ most_calls
  pub inside : (i : ℕ) → i < row_count calls → Inside net calls i
  pub inlets : Once (α calls) (ω calls) (row_count calls)
  pub outlets : Once (β calls) (ω' calls) (row_count calls)

pub record PointRead (calls : List ℕ) (outlets : Bool) (i : ℕ) (point : Point) : Type 0 where
  pub module_is : point.«module» ≡ module_of calls outlets i
  pub channel_is : point.channel ≡ channel_of calls outlets i

abbrev pub point_marks : List ℕ → Bool → ℕ → List ℕ
point_marks calls outlets = marks most_modules (module_of calls outlets) (channel_of calls outlets)

pub record PointFits (calls : List ℕ) (outlets : Bool) (i : ℕ) : Type 0 where
  pub own_module : module_of calls outlets i < most_modules
  pub own_channel : channel_of calls outlets i < most_channels
