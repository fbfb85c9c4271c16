-- The table with one call more: its rows are those of the calls, and the new one. What makes it a table in order, and what its last row
-- is checked for.
--   count_appended      == it has one row more
--   module_before, channel_before, module_new, channel_new == the modules and channels of its rows, on each side
--   call_new            == the new row, as it is read from the new call alone
--   order_more          == it is in order where the calls are, and 3, 5, 6 and 7 pass of the new row
--   point_new           == what the points of the calls tell of the inlet, or the outlet, of the new row
--   overfull_side, overfull_none == what the counts of calls at its modules tell
use Rattle.std.specs.Prelude.{◌≡◌, ◌↔◌, Bool, not, ◌&&◌, List, ◌++◌, ℕ, suc, ◌+◌, ◌*◌, ◌≤◌, ◌<◌, T, length, get_or}
use Rattle.std.proofs.Math.Path.{sym}
use Rattle.std.proofs.Common.{ap, ◌∙◌, arith, get_or-append-add}
use Rattle.std.proofs.Math.Bool.{true, false}
use Rattle.std.proofs.Math.Dec.{eqb}
use Rattle.std.proofs.Math.ListN.{length-append, get_or-append}
use Rattle.ground.specs.TruthLaws.{test_fails, test_holds}
use Rattle.ground.specs.Numbers.{up_to}
use Rattle.ground.specs.Below.{some_below, used_earlier, Once}
use Rattle.ground.specs.BelowLaws.{some_same, once_more, once_same}
use Rattle.shelf.specs.declared.Network.{Network}
use Rattle.shelf.specs.declared.CallRow.{CallRow}
use Rattle.shelf.specs.Network.{most_calls}
use Rattle.shelf.specs.Rows.{row_count, α, ω, β, ω', module_of, channel_of, CallRead}
use Rattle.shelf.specs.Order.{order}
use Rattle.calls.specs.declared.Point.{Point}
use Rattle.calls.specs.Table.{outside, outside_call, point_used, PointRead, Inside, InOrder}
use Rattle.calls.specs.TableLaws.{outside_read}
use Rattle.choice.specs.Colouring.{at_module, Fits}
use Rattle.choice.proofs.Count.{count_here}
use Rattle.choice.specs.Agree.{Agree}
use Rattle.choice.proofs.Agree.{count_agree}
use Rattle.planner.specs.Planner.{overfull}
use Rattle.planner.proofs.Overfull.{fits_is}

module _ (calls call : List ℕ) (whole : length calls ≡ 4 * row_count calls) where
  abbrev K : ℕ
  K = row_count calls

  abbrev table : List ℕ
  table = calls ++ call

  byte_before : (i j : ℕ) → i < K → j < 4 → get_or table (4 * i + j) 0 ≡ get_or calls (4 * i + j) 0
  byte_before i j l m = get_or-append calls call 0 (4 * i + j) (omega arith)

  byte_new : (j : ℕ) → get_or table (4 * K + j) 0 ≡ get_or call j 0
  byte_new j = rw (← whole) (get_or-append-add calls call j 0)

  first_before : (i : ℕ) → i < K → get_or table (4 * i) 0 ≡ get_or calls (4 * i) 0
  first_before i l = let z : 4 * i ≡ 4 * i + 0 = omega arith in rw z (byte_before i 0 l (omega arith))

  first_new : get_or table (4 * K) 0 ≡ get_or call 0 0
  first_new = let z : 4 * K ≡ 4 * K + 0 = omega arith in rw z (byte_new 0)

  pub module_before : (output : Bool) → Agree (module_of table output) (module_of calls output) K
  unfolding α β
  module_before true i l = byte_before i 2 l (omega arith)
  module_before false i l = first_before i l

  pub channel_before : (output : Bool) → Agree (channel_of table output) (channel_of calls output) K
  unfolding ω ω'
  channel_before true i l = byte_before i 3 l (omega arith)
  channel_before false i l = byte_before i 1 l (omega arith)

  pub module_new : (output : Bool) → module_of table output K ≡ module_of call output 0
  unfolding α β
  module_new true = byte_new 2
  module_new false = first_new

  pub channel_new : (output : Bool) → channel_of table output K ≡ channel_of call output 0
  unfolding ω ω'
  channel_new true = byte_new 3
  channel_new false = byte_new 1

  pub call_new : (net : Network) (new : CallRow) → CallRead call 0 new → outside_call net new ≡ outside net table K
  unfolding outside_call
  call_new net new h = outside_read net call 0 new h ∙ rw (module_new false, module_new true, channel_new false, channel_new true)

  inside_before : (net : Network) (i : ℕ) → i < K → Inside net table i ↔ Inside net calls i
  inside_before net i l = (
    λ h. record { own_α = rw (← a) h.own_α; own_β = rw (← b) h.own_β; own_ω = rw (← w) h.own_ω; own_ω' = rw (← w') h.own_ω' },
    λ h. record { own_α = rw a h.own_α; own_β = rw b h.own_β; own_ω = rw w h.own_ω; own_ω' = rw w' h.own_ω' },
  )
    where
      a : α table i ≡ α calls i
      a = module_before false i l

      b : β table i ≡ β calls i
      b = module_before true i l

      w : ω table i ≡ ω calls i
      w = channel_before false i l

      w' : ω' table i ≡ ω' calls i
      w' = channel_before true i l

  once_before : (output : Bool) → Once (module_of table output) (channel_of table output) K ↔ Once (module_of calls output) (channel_of calls output) K
  once_before output = (
    once_same (module_before output) (channel_before output),
    once_same (λ i l. sym (module_before output i l)) (λ i l. sym (channel_before output i l)),
  )

  -- how many calls stand at the modules of the new row
  count_before : (output : Bool) (v : ℕ) → length (at_module (module_of table output) K v) ≡ length (at_module (module_of calls output) K v)
  count_before output v = ap length (count_agree K v (module_before output))

  count_new : (output : Bool) → length (at_module (module_of table output) (suc K) (module_of table output K)) ≡ suc (length (at_module (module_of calls output) K (module_of call output 0)))
  count_new output = count_here (module_of table output) K ∙ ap suc (count_before output (module_of table output K) ∙ rw (module_new output))

  pub point_new : (outlets : Bool) {point : Point} {used : Bool} → PointRead call outlets 0 point
      → used ≡ some_below K (λ j. eqb (module_of calls outlets j) point.«module» && eqb (channel_of calls outlets j) point.channel) → used ≡ point_used table outlets K
  unfolding used_earlier
  point_new outlets p u =
      u ∙ some_same K _ _ (λ j l t.
      eqb (sym (module_before outlets j l) t) ((p.module_is ∙ sym (module_new outlets)) t) && eqb (sym (channel_before outlets j l) t) ((p.channel_is ∙ sym (channel_new outlets)) t))

  module _ (one : length call ≡ 4) where
    pub count_appended : row_count table ≡ suc K
    unfolding row_count
    count_appended = omega (arith, length-append calls call, whole)

    pub order_more : (net : Network) → InOrder net table
        ↔ (InOrder net calls × (suc K ≤ most_calls) × Inside net table K × T (not (point_used table false K)) × T (not (point_used table true K)))
    order_more net = (
      λ h.
          let inlets = (once_more (α table) (ω table) K).0 (rw count_appended at h.inlets) in
          let outlets = (once_more (β table) (ω' table) K).0 (rw count_appended at h.outlets) in (
            record {
              limits = h.limits;
              whole = whole;
              few = omega (arith, h.few, count_appended);
              inside = λ i l. (inside_before net i l).0 (h.inside i (omega (arith, count_appended)));
              inlets = (once_before false).0 inlets.0;
              outlets = (once_before true).0 outlets.0;
            },
            rw (← count_appended) h.few,
            h.inside K (omega (arith, count_appended)),
            inlets.1,
            outlets.1,
          ),
      λ h. record {
        limits = h.0.limits;
        whole = length-append calls call ∙ omega (arith, count_appended, whole);
        few = rw count_appended h.1;
        inside = rw count_appended (up_to (λ i. Inside net table i) (λ i l. (inside_before net i l).1 (h.0.inside i l)) h.2);
        inlets = rw count_appended ((once_more (α table) (ω table) K).1 ((once_before false).1 h.0.inlets, h.3));
        outlets = rw count_appended ((once_more (β table) (ω' table) K).1 ((once_before true).1 h.0.outlets, h.4));
      },
    )

  -- the new row overfills a module of one side, or of none
  module _ (net : Network) where
    pub overfull_side : (output : Bool) → length (order net) ≤ length (at_module (module_of calls output) K (module_of call output 0)) → overfull net table K ≡ true
    overfull_side output l = test_holds (overfull net table K) (λ n. side output ((fits_is net table K).0 n) l)
      where
        side : (output : Bool) → Fits (α table) (order net) K × Fits (β table) (order net) K → length (order net) ≤ length (at_module (module_of calls output) K (module_of call output 0)) → ⊥
        side true h l = omega (arith, h.1, count_new true)
        side false h l = omega (arith, h.0, count_new false)

    pub overfull_none : ((output : Bool) → length (at_module (module_of calls output) K (module_of call output 0)) < length (order net)) → overfull net table K ≡ false
    overfull_none h = test_fails (overfull net table K) ((fits_is net table K).1 (omega (arith, h false, count_new false), omega (arith, h true, count_new true)))
