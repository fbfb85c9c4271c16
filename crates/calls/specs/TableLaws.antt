-- What it means that a check passes, and what all of them together say: the table is in order.
--   sizes_pass, lengths_pass, count_passes == when 1, 2 and 3 pass
--   size_checks_is      == 1, 2 and 3 in their order, test by test
--   every_row, some_row == a check sought row by row passes where every row does, and else some row does not
--   inside_is           == when 5 passes for one row
--   outside_passes, points_pass == when 5, and 6 and 7 pass
--   outside_read        == a row read from the table is one that 5 refuses where the row of its bytes is
--   inside_points       == rows that 5 does not refuse have a place in a record of inlets and of outlets
--   twice_refuses       == 6 and 7 are refusals
--   point_tells         == what marking a row's inlet or outlet tells, and what it leaves
--   size_checks_pass, call_checks_pass, in_order_is == when all of them pass
--   own_modules         == a table in order is one between the shelf's own modules
--   size_number, row_number, call_number == which numbers they can tell
use Rattle.std.specs.Prelude.{◌≡◌, refl, ◌↔◌, Bool, true, false, cond, not, List, [], ◌∷◌, ℕ, suc, ◌+◌, ◌*◌, ◌/◌, ◌%◌, ◌≤◌, ◌<◌, T, eqb, ltb, length}
use Rattle.std.proofs.Math.Logic.Iff
use Rattle.std.proofs.Common.{arith}
use Rattle.ground.specs.Truth.{any}
use Rattle.ground.specs.TruthLaws.{not_is, holds_is, none_is}
use Rattle.ground.specs.Numbers.{less_is, at_most_is, equal_is}
use Rattle.ground.specs.Below.{some_below, Once}
use Rattle.ground.specs.BelowLaws.{some_is, once_is}
use Rattle.ground.specs.Marks.{Marked}
use Rattle.ground.specs.MarksLaws.{mark_tells}
use Rattle.shelf.specs.declared.Network.{Network}
use Rattle.shelf.specs.declared.CallRow.{CallRow}
use Rattle.shelf.specs.declared.Side.{Side}
use Rattle.shelf.specs.declared.Side.TheVariants.{Input, Output}
use Rattle.shelf.specs.Network.{within_limits, most_modules, most_calls}
use Rattle.shelf.specs.NetworkLaws.{limits_are, channel_bit}
use Rattle.shelf.specs.Rows.{row_count, α, ω, β, ω', module_of, channel_of, ModulesBelow, CallRead}
use Rattle.calls.specs.declared.Verdict.{Verdict}
use Rattle.calls.specs.declared.Point.{Point}
use Rattle.calls.specs.Verdict.{passed, refused_if, ◌⨾◌, in_turn, seek_rows}
use Rattle.calls.specs.VerdictLaws.{turn_passes, turn_number, test_number, seek_number, refused_zero, seek_passes}
use Rattle.calls.specs.Table.{bad_sizes, bad_lengths, too_many_calls, outside, outside_call, outside_row, point_twice, size_checks, call_checks, Inside, InOrder, point_used, twice_number, PointRead, point_marks, PointFits}

pub sizes_pass : (net : Network) → ((bad_sizes net).number ≡ 0) ↔ T (within_limits net)
unfolding bad_sizes
sizes_pass net = Iff.trans (refused_zero 0 0 (not (within_limits net))) (holds_is (within_limits net))

pub lengths_pass : (c s per : ℕ) → ((bad_lengths c s per).number ≡ 0) ↔ ((c % 4 ≡ 0) × (s ≡ per * (c / 4)))
unfolding bad_lengths
lengths_pass c s per =
    Iff.trans (refused_zero 1 0 _) (Iff.trans (none_is _) (
      λ (whole, (each, _)). ((equal_is (c % 4) 0).0 whole, (equal_is s (per * (c / 4))).0 each),
      λ h. ((equal_is (c % 4) 0).1 h.0, ((equal_is s (per * (c / 4))).1 h.1, tt)),
    ))

pub count_passes : (K : ℕ) → ((too_many_calls K).number ≡ 0) ↔ (K ≤ most_calls)
unfolding too_many_calls
count_passes K = Iff.trans (refused_zero 2 0 _) (at_most_is K most_calls)

-- 1, 2 and 3 in their order, test by test
abbrev refusal : ℕ → Verdict
refusal number = record { number = number; row = 0 }

pub size_checks_is : (net : Network) (c s per : ℕ) → size_checks net c s per
    ≡ cond (within_limits net) (cond (eqb (c % 4) 0) (cond (eqb s (per * (c / 4))) (cond (ltb most_calls (c / 4)) (refusal 3) passed) (refusal 2)) (refusal 2)) (refusal 1)
unfolding size_checks in_turn any bad_sizes bad_lengths too_many_calls refused_if passed ◌⨾◌
size_checks_is net c s per = by_tests (within_limits net) (eqb (c % 4) 0) (eqb s (per * (c / 4))) (ltb most_calls (c / 4))
  where
    by_tests : (sizes whole each many : Bool) → in_turn (refused_if 1 0 (not sizes) ∷ refused_if 2 0 (any (not whole ∷ not each ∷ [])) ∷ refused_if 3 0 many ∷ [])
        ≡ cond sizes (cond whole (cond each (cond many (refusal 3) passed) (refusal 2)) (refusal 2)) (refusal 1)
    by_tests false whole each many = refl
    by_tests true false each many = refl
    by_tests true true false many = refl
    by_tests true true true true = refl
    by_tests true true true false = refl

pub inside_is : (net : Network) (calls : List ℕ) (i : ℕ) → T (not (outside net calls i)) ↔ Inside net calls i
unfolding outside_call
inside_is net calls i = Iff.trans (none_is _) (
  λ (a, (b, (w, (w', _)))).
      record {
        own_α = (less_is (α calls i) net.r).0 a;
        own_β = (less_is (β calls i) net.r).0 b;
        own_ω = (less_is (ω calls i) net.n).0 w;
        own_ω' = (less_is (ω' calls i) net.n).0 w';
      },
  λ h. (
    (less_is (α calls i) net.r).1 h.own_α,
    ((less_is (β calls i) net.r).1 h.own_β, ((less_is (ω calls i) net.n).1 h.own_ω, ((less_is (ω' calls i) net.n).1 h.own_ω', tt))),
  ),
)

pub outside_read : (net : Network) (calls : List ℕ) (i : ℕ) (call : CallRow) → CallRead calls i call → outside_call net call ≡ outside net calls i
unfolding outside_call
outside_read net calls i call h = rw (h.input_module, h.input_channel, h.output_module, h.output_channel)

-- a check sought row by row passes where every row does
pub every_row : (number k : ℕ) (bad : ℕ → Bool) → ((seek_rows k (λ i. refused_if (suc number) i (bad i))).number ≡ 0) ↔ ((i : ℕ) → i < k → T (not (bad i)))
every_row number k bad = Iff.trans (seek_passes (λ i. refused_if (suc number) i (bad i)) k) (
  λ h i l. (refused_zero number i (bad i)).0 (h i l),
  λ h i l. (refused_zero number i (bad i)).1 (h i l),
)

pub some_row : (number k : ℕ) (bad : ℕ → Bool) → ((seek_rows k (λ i. refused_if (suc number) i (bad i))).number ≡ 0 → ⊥) → (i : ℕ) × (i < k) × T (bad i)
some_row number k bad n = go (some_below k bad) refl
  where
    go : (b : Bool) → some_below k bad ≡ b → (i : ℕ) × (i < k) × T (bad i)
    go true e = (some_is k bad).0 (rw e tt)
    go false e = absurd (n ((every_row number k bad).1 (λ i l. (not_is (bad i)).1 (λ t. rw e at ((some_is k bad).1 (i, l, t))))))

pub outside_passes : (net : Network) (calls : List ℕ) → ((outside_row net calls).number ≡ 0) ↔ ((i : ℕ) → i < row_count calls → Inside net calls i)
unfolding outside_row
outside_passes net calls = Iff.trans (every_row 4 (row_count calls) (outside net calls)) (
  λ h i l. (inside_is net calls i).0 (h i l),
  λ h i l. (inside_is net calls i).1 (h i l),
)

pub points_pass : (calls : List ℕ) (outlets : Bool) (number : ℕ) → ((point_twice calls outlets (suc number)).number ≡ 0)
    ↔ Once (module_of calls outlets) (channel_of calls outlets) (row_count calls)
unfolding point_twice
points_pass calls outlets number =
    Iff.trans (every_row number (row_count calls) (point_used calls outlets)) (once_is (module_of calls outlets) (channel_of calls outlets) (row_count calls))

pub inside_points : (net : Network) (calls : List ℕ) (outlets : Bool) → T (within_limits net) → (outside_row net calls).number ≡ 0
    → (i : ℕ) → i < row_count calls → PointFits calls outlets i
inside_points net calls true h e i l =
    let k = (limits_are net).0 h in
    let s = (outside_passes net calls).0 e i l in
    record { own_module = omega arith; own_channel = omega arith }
inside_points net calls false h e i l =
    let k = (limits_are net).0 h in
    let s = (outside_passes net calls).0 e i l in
    record { own_module = omega arith; own_channel = omega arith }

pub point_tells : (calls : List ℕ) (outlets : Bool) (i : ℕ) {used used' : List ℕ} {point : Point} {before : Bool} → ((j : ℕ) → j < row_count calls → PointFits calls outlets j)
    → i < row_count calls → used ≡ point_marks calls outlets i → PointRead calls outlets i point → Marked used used' point.«module» point.channel before
    → (before ≡ point_used calls outlets i) × (used' ≡ point_marks calls outlets (i + 1))
point_tells calls outlets i fits l e p m =
    mark_tells most_modules (module_of calls outlets) (channel_of calls outlets) i e p.module_is p.channel_is m (fits i l).own_module (λ j k. channel_bit (fits j (omega arith)).own_channel)

pub size_checks_pass : (net : Network) (calls : List ℕ) (s per : ℕ) → ((size_checks net (length calls) s per).number ≡ 0)
    ↔ (T (within_limits net) × (length calls ≡ 4 * row_count calls) × (s ≡ per * row_count calls) × (row_count calls ≤ most_calls))
unfolding size_checks row_count
size_checks_pass net calls s per = Iff.trans (turn_passes _) (
  λ (sizes, (lengths, (count, _))).
      let l = (lengths_pass (length calls) s per).0 lengths in
      ((sizes_pass net).0 sizes, omega arith, l.1, (count_passes (row_count calls)).0 count),
  λ h. ((sizes_pass net).1 h.0, ((lengths_pass (length calls) s per).1 (omega arith, h.2), ((count_passes (row_count calls)).1 h.3, tt))),
)

pub call_checks_pass : (net : Network) (calls : List ℕ) → ((call_checks net calls).number ≡ 0)
    ↔ (((i : ℕ) → i < row_count calls → Inside net calls i) × Once (α calls) (ω calls) (row_count calls) × Once (β calls) (ω' calls) (row_count calls))
unfolding call_checks
call_checks_pass net calls = Iff.trans (turn_passes _) (
  λ (rows, (inlets, (outlets, _))). ((outside_passes net calls).0 rows, (points_pass calls false 5).0 inlets, (points_pass calls true 6).0 outlets),
  λ h. ((outside_passes net calls).1 h.0, ((points_pass calls false 5).1 h.1, ((points_pass calls true 6).1 h.2, tt))),
)

-- both pass where the table is in order, and the settings have their length
pub in_order_is : (net : Network) (calls : List ℕ) (s per : ℕ)
    → (((size_checks net (length calls) s per).number ≡ 0) × ((call_checks net calls).number ≡ 0)) ↔ (InOrder net calls × (s ≡ per * row_count calls))
in_order_is net calls s per = (
  λ h.
      let a = (size_checks_pass net calls s per).0 h.0 in
      let b = (call_checks_pass net calls).0 h.1 in
      (record { limits = a.0; whole = a.1; few = a.3; inside = b.0; inlets = b.1; outlets = b.2 }, a.2),
  λ h. (
    (size_checks_pass net calls s per).1 (h.0.limits, h.0.whole, h.1, h.0.few),
    (call_checks_pass net calls).1 (h.0.inside, h.0.inlets, h.0.outlets),
  ),
)

pub own_modules : {net : Network} {calls : List ℕ} → InOrder net calls → ModulesBelow (α calls) (β calls) net.r (row_count calls)
own_modules table i l = ((table.inside i l).own_α, (table.inside i l).own_β)

-- the numbers that these checks can tell
module _ (P : ℕ → Type 0) (zero-holds : P 0) where
  pub size_number : (net : Network) (c s per : ℕ) → P 1 → P 2 → P 3 → P (size_checks net c s per).number
  unfolding size_checks bad_sizes bad_lengths too_many_calls
  size_number net c s per one two three =
      turn_number P _ zero-holds
      (test_number P 1 0 _ one zero-holds, (test_number P 2 0 _ two zero-holds, (test_number P 3 0 _ three zero-holds, tt)))

  pub row_number : (number k : ℕ) (bad : ℕ → Bool) → P number → P (seek_rows k (λ i. refused_if number i (bad i))).number
  row_number number k bad p = seek_number P k (λ i. refused_if number i (bad i)) (λ i. test_number P number i (bad i) p zero-holds) zero-holds

  pub call_number : (net : Network) (calls : List ℕ) → P 5 → P 6 → P 7 → P (call_checks net calls).number
  unfolding call_checks outside_row point_twice
  call_number net calls five six seven =
      turn_number P _ zero-holds
      (row_number 5 _ (outside net calls) five, (row_number 6 _ (point_used calls false) six, (row_number 7 _ (point_used calls true) seven, tt)))

pub twice_refuses : (side : Side) → twice_number side ≡ 0 → ⊥
twice_refuses Input e = omega (arith, e)
twice_refuses Output e = omega (arith, e)
