-- From given settings to rows that can be placed, and from the placed rows to settings.
--   none_entered, one_entered == the modules of the calls are entered, one row after the other
--   Prepared net table settings k rows == the modules of every call, and the given centrals of the rows before the last, stand in the rows
--   prepared            == so they do when the settings are copied and the modules entered
--   recordable, ready   == the record can be made, and the last call placed
--   tellable, all_told  == the moved rows can be told, and those told are the chain's
--   writable, added     == and then the settings are written
use Rattle.std.specs.Prelude.{◌≡◌, refl, Bool, true, false}
use Rattle.std.proofs.Common.{sym, ◌∙◌, arith, add-one, get_or-take}
use Rattle.std.proofs.Math.Path.{ap}
use mathlib.Core.List.{List, [], ◌∷◌}
use Prim.Native.Nat.{ℕ, suc, ◌+◌, ◌*◌, ◌-◌, ◌/◌, ◌≤◌, ◌<◌}
use Rattle.std.proofs.Math.ListN.{length, get_or, get_or-append}
use Rattle.std.proofs.Math.Seq.{take_all}
use Rattle.ground.specs.Bytes.{Adds, front}
use Rattle.ground.specs.BytesLaws.{adds_length, adds_front}
use Rattle.shelf.specs.declared.Network.{Network}
use Rattle.shelf.specs.Network.{cycle}
use Rattle.shelf.specs.NetworkLaws.{limits_are, own_central_below}
use Rattle.shelf.specs.Rows.{row_count, α, β, module_of}
use Rattle.shelf.specs.Order.{order}
use Rattle.shelf.specs.OrderLaws.{order_own, order_distinct}
use Rattle.choice.specs.Rule.{at, step, Step, Plan, moved_by}
use Rattle.choice.specs.Colouring.{Fine, Fits}
use Rattle.choice.proofs.Count.{count_here}
use Rattle.choice.specs.Rows.{module_in, centrals_of}
use Rattle.choice.proofs.RowsLaws.{centrals_length, front_centrals}
use Rattle.choice.specs.Record.{Recorded, Recordable}
use Rattle.choice.proofs.RecordLaws.{recorded_same}
use Rattle.choice.specs.Placement.{chain_places, telling, earlier}
use Rattle.choice.proofs.StepLaws.{step_fine, step_moved}
use Rattle.adding.specs.Moving.{step_moves, moves_few}
use Rattle.choice.specs.Agree.{Agree}
use Rattle.choice.proofs.Agree.{recorded_agree}
use Rattle.planner.specs.Planner.{settings_rows}
use Rattle.planner.specs.Steps.{planned, Ready, AllPlaced, Writable}
use Rattle.planner.proofs.Continuing.{on_start, on_next}
use Rattle.planner.proofs.SettingsLaws.{settings_agree}
use Rattle.planner.proofs.Placing.{entered, entered_length, entered_module, entered_central}
use Rattle.planner.proofs.PlannerLaws.{placed_writable}
use Rattle.adding.specs.Adding.{row_bytes}
use Rattle.adding.specs.Steps.{Entered, last_row, placing, Addable, SettingsAdded, Tellable, rows_told}
use Rattle.adding.proofs.Telling.{told_all}

pub none_entered : (calls rows : List ℕ) → Entered calls rows 0 rows
none_entered calls rows = record { below = omega arith; size = refl; modules = λ output i l. absurd (omega arith); centrals = λ i. refl }

pub one_entered : {calls rows : List ℕ} (k : ℕ) (now : List ℕ) → length rows ≡ 3 * row_count calls → k < row_count calls → Entered calls rows k now → Entered calls rows (k + 1) (entered now calls k)
one_entered {calls} {rows} k now whole l h = rw (add-one k) (record {
  below = l;
  size = entered_length now calls k room ∙ h.size;
  modules = λ output. entered_module now calls k room output (h.modules output);
  centrals = λ i. entered_central now calls k room i ∙ h.centrals i;
})
  where
    room : 3 * k + 3 ≤ length now
    room = omega (arith, h.size, whole)

pub record Prepared (net : Network) (table settings : List ℕ) (k : ℕ) (rows : List ℕ) : Type 0 where
  pub whole : length rows ≡ 3 * suc k
  pub modules : (output : Bool) → Agree (module_in rows output) (module_of table output) (suc k)
  pub earlier_is : earlier rows k ≡ centrals_of settings

module _ {net : Network} {table settings rows moved : List ℕ} (h : Addable net table settings rows moved) where
  abbrev k : ℕ
  k = last_row settings

  pub prepared : {copied rows₂ : List ℕ} {end : ℕ} → Adds rows copied 0 end settings → Entered table copied (row_count table) rows₂ → Prepared net table settings k rows₂
  unfolding front
  prepared {copied} {rows₂} a e = record {
    whole = long;
    modules = rw h.table_whole at e.modules;
    earlier_is =
        front_centrals rows₂ settings k (omega (arith, long)) (omega (arith, h.settings_whole)) (λ i l.
        e.centrals i ∙ ap (λ (r : List ℕ). get_or r (3 * i + 1) 0) (adds_front a) ∙ copied_byte i l)
        ∙ take_all k (centrals_of settings) (omega (arith, centrals_length settings k h.settings_whole));
  }
    where
      long : length rows₂ ≡ 3 * suc k
      long = e.size ∙ adds_length a ∙ h.rows_whole

      copied_byte : (i : ℕ) → i < k → get_or (front rows settings) (3 * i + 1) 0 ≡ get_or settings (3 * i + 1) 0
      copied_byte i l = get_or-append settings _ 0 (3 * i + 1) (omega (arith, h.settings_whole))

  module _ {rows₂ : List ℕ} (p : Prepared net table settings k rows₂) where
    -- the given centrals, row by row
    given : (i : ℕ) → i < k → at (centrals_of rows₂) i ≡ at (earlier rows₂ k) i
    given i l = sym (get_or-take k (centrals_of rows₂) i 0 l)

    inside : (i : ℕ) → i < suc k → (α table i < net.r) × (β table i < net.r)
    inside i l = let w = h.in_order.inside i (omega (arith, h.table_whole)) in (w.own_α, w.own_β)

    module_small : (output : Bool) (i : ℕ) → i < suc k → module_in rows₂ output i < net.r
    module_small true i l = rw (p.modules true i l) (inside i l).1
    module_small false i l = rw (p.modules false i l) (inside i l).0

    pub recordable : Recordable rows₂ k
    recordable =
        let most = (limits_are net).0 h.in_order.limits in
        record {
          rows_held = omega (arith, p.whole);
          modules = λ output i l. omega (arith, module_small output i (omega arith), most.most_r);
          centrals = λ i l.
              let own : at (centrals_of settings) i < net.m = own_central_below net _ ((order_own net _).0 (h.fine.inside i l)) in
              rw (given i l, p.earlier_is) (omega (arith, own, most.most_m));
        }

    agree_below : (output : Bool) → Agree (module_of table output) (module_in rows₂ output) k
    agree_below output i l = sym (p.modules output i (omega arith))

    -- the planner's loop has one row left to place
    pub ready : {used chain : List ℕ} → Recorded (module_in rows₂) (at (centrals_of rows₂)) k used → length chain ≡ chain_places → Ready net table rows₂ k used chain
    ready r places = record {
      table = h.in_order;
      start = omega (arith, h.table_whole);
      fits = λ i m l. let same : i ≡ k = omega (arith, h.table_whole) in rw same (fits false, fits true);
      whole = rw h.table_whole p.whole;
      modules = λ output i l. p.modules output i (omega arith);
      fine = rw p.earlier_is h.fine;
      recorded = recorded_agree (λ output i l. p.modules output i (omega arith)) (recorded_same (module_in rows₂) _ k _ r _ given);
      places = places;
    }
      where
        fits : (output : Bool) → Fits (module_of table output) (order net) k
        fits output = omega (arith, count_here (module_of table output) k, h.room output)

    -- and that takes the step
    start_is : (planned net table (earlier rows₂ k) k k).centrals ≡ centrals_of settings
    start_is = ap (λ (plan : Plan). plan.centrals) (on_start (α table) (β table) (order net) (earlier rows₂ k) k k (omega arith)) ∙ p.earlier_is

    step_is : step (α table) (β table) (order net) (planned net table (earlier rows₂ k) k k).centrals k ≡ placing net table settings
    step_is = ap (λ (cs : List ℕ). step (α table) (β table) (order net) cs k) start_is

    one_more : planned net table (earlier rows₂ k) k (row_count table) ≡ record { centrals = (placing net table settings).centrals; chains = (placing net table settings).moved ∷ [] }
    one_more =
        rw h.table_whole
        (on_next (α table) (β table) (order net) (earlier rows₂ k) k k (omega arith)
        ∙ rw (step_is, on_start (α table) (β table) (order net) (earlier rows₂ k) k k (omega arith)))

    module _ {rows₃ chain' : List ℕ} {told : ℕ} (q : AllPlaced net table rows₂ rows₃ k chain' told) where
      abbrev es : List ℕ
      es = (placing net table settings).moved

      told_is : told ≡ length es
      unfolding moved_by
      told_is = q.moved_is ∙ rw one_more (omega arith)

      few : (told ≤ k) × (told ≤ 2 * net.r - 1)
      few =
          let by-modules = step_moved (α table) (β table) (order net) (centrals_of settings) k h.fine net.r inside in
          let by_rows = moves_few (step_moves (α table) (β table) (centrals_of settings) k (centrals_length settings k h.settings_whole) (order net) h.fine) in
          (omega (arith, told_is, by_rows), omega (arith, told_is, by-modules))

      start_small : 2 * net.r - 1 ≤ chain_places
      unfolding chain_places
      start_small = omega (arith, ((limits_are net).0 h.in_order.limits).most_r)

      -- the rows of the chain can be told, and they are the chain's
      pub tellable : Tellable chain' (2 * net.r - 1) told moved
      tellable = record { places = start_small; all_there = few.1; room = omega (arith, few.0, h.moved_room) }

      pub all_told : rows_told chain' (2 * net.r - 1) told ≡ es
      all_told =
          let last = q.told k h.table_whole (omega arith) in
          rw (told_is, last.2 ∙ ap (λ (t : Step). telling last.0 (2 * net.r - 1) t.moved) step_is)
          (told_all last.0 (2 * net.r - 1) es (omega (arith, start_small, last.1)) (omega (arith, told_is, few.1)))

      agree_placed : (output : Bool) → Agree (module_in rows₃ output) (module_of table output) (suc k)
      agree_placed output i l = q.modules output i (omega (arith, h.table_whole))

      centrals_placed : centrals_of rows₃ ≡ (placing net table settings).centrals
      centrals_placed = q.centrals ∙ ap (λ (plan : Plan). plan.centrals) one_more

      whole_placed : length rows₃ ≡ 3 * suc k
      whole_placed = q.size ∙ p.whole

      pub writable : Writable (cycle net) rows₃
      writable = placed_writable h.in_order (rw h.table_whole whole_placed) (rw h.table_whole agree_placed) (rw (h.table_whole, centrals_placed) fine_placed)
        where
          fine_placed : Fine (α table) (β table) (order net) (at (placing net table settings).centrals) (suc k)
          fine_placed =
              step_fine (α table) (β table) (order net) (centrals_of settings) k (centrals_length settings k h.settings_whole) (order_distinct net) (h.room false) (h.room true) h.fine

      pub added : {W : ℕ} {rows₄ told' : List ℕ} → W ≡ cycle net → rows₄ ≡ settings_rows W (module_in rows₃ false) (module_in rows₃ true) (at (centrals_of rows₃)) (length rows₃ / 3)
          → told' ≡ front moved (row_bytes (rows_told chain' (2 * net.r - 1) told)) → SettingsAdded net table settings rows₄ moved told' told
      added e w t = record {
        rows_are =
            let count : length rows₃ / 3 ≡ suc k = omega (arith, whole_placed) in
            w ∙ rw (e, count) (settings_agree (cycle net) (suc k) (agree_placed false) (agree_placed true) (λ i l. ap (λ (cs : List ℕ). at cs i) centrals_placed));
        moved_is = told_is;
        told_are = t ∙ ap (λ (rows : List ℕ). front moved (row_bytes rows)) all_told;
      }
