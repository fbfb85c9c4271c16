-- From what the refusals tell to the whole answer: for the code of the entry.
--   plans_refused       == a refusal has the guarantee where no byte changed
--   plannable, ready    == what passing all refusals leaves known; and then the calls can be placed from row 0 on
--   placed_writable, writable == rows of any fine colouring can be written, and so can the planner's rows
--   plans_placed        == success has the guarantee where the settings were written
--   moved_planned       == and the calls moved are those that the planner owes
--   room, written_planned == the buffer is long enough, and the rows become the settings
use Rattle.std.specs.Prelude.{◌≡◌, Bool, true, false, ℕ, ◌*◌, ◌/◌, ◌≤◌, take, drop}
use Rattle.std.proofs.Common.{sym, ◌∙◌, arith}
use Rattle.std.proofs.Math.Path.{ap}
use mathlib.Core.List.{List, ◌++◌}
use Rattle.std.proofs.Math.ListN.{length}
use Rattle.std.proofs.Math.Seq.{length-take-le}
use borrow.Author.Tests.{ne_eqb}
use Rattle.shelf.specs.declared.Network.{Network}
use Rattle.shelf.specs.Network.{cycle}
use Rattle.shelf.specs.NetworkLaws.{modules_in_cycle, centrals_in_cycle, cycle_most, own_central_below}
use Rattle.shelf.specs.Rows.{row_count, α, β, module_of}
use Rattle.shelf.specs.Order.{order}
use Rattle.shelf.specs.OrderLaws.{order_own, order_distinct}
use Rattle.calls.specs.declared.Verdict.{Verdict}
use Rattle.calls.specs.Verdict.{success}
use Rattle.calls.specs.VerdictLaws.{turn_passes, answer_refused, answer_passed}
use Rattle.calls.specs.Table.{InOrder}
use Rattle.choice.specs.Rule.{at, Plan, moved_by}
use Rattle.choice.specs.Placement.{chain_places, earlier}
use Rattle.choice.specs.Record.{nothing_used}
use Rattle.choice.proofs.RecordLaws.{nothing_recorded}
use Rattle.choice.specs.Colouring.{Fine}
use Rattle.choice.specs.Agree.{Agree}
use Rattle.choice.specs.Rows.{module_in, centrals_of}
use Rattle.choice.proofs.RowsLaws.{central_at}
use Rattle.planner.specs.Planner.{settings_rows, planner_checks, planner_verdict, chosen, planned_settings, planned_moved, plan_answer, plan_buffer, Plans}
use Rattle.planner.specs.Steps.{refusals, Plannable, planned, Ready, AllPlaced, Writable}
use Rattle.planner.proofs.Continuing.{on_plan, plan_fine}
use Rattle.planner.proofs.SettingsLaws.{settings_agree}
use Rattle.planner.proofs.Owed.{checks_pass, plans}

module _ (net : Network) (calls before : List ℕ) (v : Verdict) (e : v ≡ refusals net calls (length before)) where
  refused : (v.number ≡ 0 → ⊥) → v ≡ planner_verdict net calls (length before)
  unfolding planner_verdict refusals
  refused n = answer_refused (planner_checks net calls (length before)) (row_count calls) e n

  -- a refusal is the answer, with nothing moved and the buffer as it was
  pub plans_refused : (v.number ≡ 0 → ⊥) → Plans net calls before before (record { number = v.number; row = v.row; moved = 0 })
  unfolding plan_answer plan_buffer
  plans_refused n = plans net calls before before _ (rw (← refused n, ne_eqb _ 0 n)) (rw (← refused n, ne_eqb _ 0 n))

  module _ (z : v.number ≡ 0) where
    told : success (row_count calls) ≡ planner_verdict net calls (length before)
    unfolding planner_verdict refusals
    told = answer_passed (planner_checks net calls (length before)) (row_count calls) e z

    pub room : 3 * row_count calls ≤ length before
    unfolding refusals
    room = ((checks_pass net calls (length before)).0 ((turn_passes _).0 (rw e at z))).1

    -- the calls can be placed in the front of the buffer
    pub plannable : Plannable net calls (take (3 * row_count calls) before)
    unfolding refusals
    plannable =
        let p = (checks_pass net calls (length before)).0 ((turn_passes _).0 (rw e at z)) in
        record { table = p.0; fits = p.2; whole = length-take-le (3 * row_count calls) before p.1 }

    -- and what was written and told is the answer
    pub plans_placed : (after : List ℕ) (moved : ℕ) → after ≡ planned_settings net calls ++ drop (3 * row_count calls) before → moved ≡ planned_moved net calls
        → Plans net calls before after (record { number = 0; row = row_count calls; moved = moved })
    unfolding plan_answer plan_buffer success
    plans_placed after moved w m = plans net calls before after _ (rw (← told, m)) (w ∙ rw (← told))

-- ---- the rows, when all calls are placed

-- rows with the modules of the calls and centrals that colour them: all of these are ports of the gratings
pub placed_writable : {net : Network} {calls rows : List ℕ} → InOrder net calls → length rows ≡ 3 * row_count calls
    → ((output : Bool) → Agree (module_in rows output) (module_of calls output) (row_count calls)) → Fine (α calls) (β calls) (order net) (at (centrals_of rows)) (row_count calls)
    → Writable (cycle net) rows
unfolding module_in
placed_writable {net} {calls} {rows} table whole modules fine = record {
  K = row_count calls;
  whole = whole;
  passable = λ i l.
      let inside = table.inside i l in
      let m = modules_in_cycle net table.limits in
      let c = centrals_in_cycle net table.limits in
      let own = own_central_below net _ ((order_own net _).0 (fine.inside i l)) in
      record {
        small = cycle_most net table.limits;
        input = omega (arith, modules false i l, inside.own_α);
        central = omega (arith, sym (central_at rows i (omega (arith, whole))), own);
        output = omega (arith, modules true i l, inside.own_β);
      };
}

-- no row is placed, and none is recorded
pub ready : {net : Network} {calls rows chain : List ℕ} → Plannable net calls rows → length chain ≡ chain_places → Ready net calls rows 0 nothing_used chain
ready {calls = calls} h places = record {
  table = h.table;
  start = omega arith;
  fits = λ i p l. h.fits i l;
  whole = h.whole;
  modules = λ output i l. absurd (omega arith);
  fine = record { proper_α = λ i j l. absurd (omega arith); proper_β = λ i j l. absurd (omega arith); inside = λ i l. absurd (omega arith) };
  recorded = nothing_recorded (module_of calls) _;
  places = places;
}

module _ {net : Network} {calls rows rows' chain : List ℕ} {moved : ℕ} (h : Plannable net calls rows) (placed : AllPlaced net calls rows rows' 0 chain moved) where
  -- from no rows on, the plan is the planner's
  chosen_is : planned net calls (earlier rows 0) 0 (row_count calls) ≡ chosen net calls
  unfolding chosen
  chosen_is = on_plan (α calls) (β calls) (order net) (row_count calls)

  centrals_are : centrals_of rows' ≡ (chosen net calls).centrals
  centrals_are = placed.centrals ∙ ap (λ (p : Plan). p.centrals) chosen_is

  pub moved_planned : moved ≡ planned_moved net calls
  unfolding planned_moved
  moved_planned = placed.moved_is ∙ ap (λ (p : Plan). moved_by p.chains) chosen_is

  whole : length rows' ≡ 3 * row_count calls
  whole = placed.size ∙ h.whole

  pub writable : Writable (cycle net) rows'
  unfolding chosen
  writable = placed_writable h.table whole placed.modules (rw centrals_are (plan_fine (α calls) (β calls) (order net) (order_distinct net) (row_count calls) h.fits))

  -- the wavelengths of these rows are the planner's settings
  pub written_planned : settings_rows (cycle net) (module_in rows' false) (module_in rows' true) (at (centrals_of rows')) (length rows' / 3) ≡ planned_settings net calls
  unfolding planned_settings
  written_planned =
      let n : length rows' / 3 ≡ row_count calls = omega (arith, whole) in
      rw n (settings_agree (cycle net) (row_count calls) (placed.modules false) (placed.modules true) (λ i l. ap (λ (cs : List ℕ). at cs i) centrals_are))
