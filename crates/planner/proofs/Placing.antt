-- Placing all calls, one after the other: what the loop rests on and keeps.
--   SoFar net calls centrals first k rows used chain moved == the calls of the rows below k are placed, from those below `first` on, and the
--                          record is theirs
--   entered, part rows calls k == the rows with the modules of call k in its row, and those up to that row
--   none_so_far         == the loop's start
--   placeable           == the next call can be placed
--   next_so_far         == and then one call more is placed
--   moved_small         == the moved count stays far below what its number can hold
--   all_so_far          == the loop's end
--   entered_length, entered_module, entered_central == the rows keep their length and their centrals, and the call's modules are there
use Rattle.std.specs.Prelude.{◌≡◌, Bool, List, ◌++◌, ℕ, suc, ◌+◌, ◌*◌, ◌-◌, ◌≤◌, ◌<◌, set, take, drop}
use Rattle.std.proofs.Common.{sym, ◌∙◌, le_trans, mul-le-mul, add-one, length-set, length-take-le}
use Rattle.std.proofs.Math.Path.{ap}
use Rattle.std.proofs.Math.Bool.{true, false}
use native.Mathlib.Omega.{arith}
use Rattle.std.proofs.Math.ListN.{length, get_or, length-append, length-drop, get_or-append}
use Rattle.std.proofs.Math.Seq.{get_or-set_same, get_or-set_other, get_or-take, take_all}
use Rattle.ground.specs.Numbers.{up_to}
use Rattle.shelf.specs.declared.Network.{Network}
use Rattle.shelf.specs.Network.{most_modules, most_calls}
use Rattle.shelf.specs.NetworkLaws.{limits_are}
use Rattle.shelf.specs.Rows.{row_count, α, β, module_of, ModulesBelow}
use Rattle.shelf.specs.Order.{order}
use Rattle.shelf.specs.OrderLaws.{order_distinct}
use Rattle.choice.specs.Rule.{at, step, Step, Plan, moved_by}
use Rattle.choice.specs.Colouring.{at_module, Fits}
use Rattle.choice.specs.Rows.{module_in, centrals_of}
use Rattle.choice.specs.Record.{Recorded}
use Rattle.choice.specs.Placement.{chain_places, telling, earlier, step_in, Placeable, Placed}
use Rattle.choice.proofs.Count.{count_here}
use Rattle.choice.proofs.PlanLaws.{moved_more}
use Rattle.choice.proofs.RowsLaws.{centrals_length, front_centrals}
use Rattle.choice.specs.Agree.{Agree}
use Rattle.choice.proofs.Agree.{count_agree, fine_agree, recorded_agree, step_agree}
use Rattle.choice.proofs.Mending.{telling_length}
use Rattle.planner.specs.Steps.{planned, Ready, Told, AllPlaced}
use Rattle.planner.proofs.Continuing.{on_start, on_next, on_fine, on_moved}

pub record SoFar (net : Network) (calls centrals : List ℕ) (first k : ℕ) (rows used chain : List ℕ) (moved : ℕ) : Type 0 where
  pub above : first ≤ k
  pub below : k ≤ row_count calls
  pub whole : length rows ≡ 3 * row_count calls
  pub modules : (output : Bool) → Agree (module_in rows output) (module_of calls output) k
  pub so_centrals : take k (centrals_of rows) ≡ (planned net calls centrals first k).centrals
  pub recorded : Recorded (module_of calls) (at (planned net calls centrals first k).centrals) k used
  pub places : length chain ≡ chain_places
  pub moved_is : moved ≡ moved_by (planned net calls centrals first k).chains
  pub told : Told net calls centrals first k chain

abbrev pub entered : (rows calls : List ℕ) → ℕ → List ℕ
entered rows calls k = set (set rows (3 * k) (α calls k)) (3 * k + 2) (β calls k)

abbrev pub part : (rows calls : List ℕ) → ℕ → List ℕ
part rows calls k = take (3 * k + 3) (entered rows calls k)

-- the modules of the call are in its row, and nothing else has changed
module _ (rows calls : List ℕ) (k : ℕ) (l : 3 * k + 3 ≤ length rows) where
  pub entered_length : length (entered rows calls k) ≡ length rows
  entered_length = length-set (set rows (3 * k) (α calls k)) (3 * k + 2) (β calls k) ∙ length-set rows (3 * k) (α calls k)

  pub entered_module : (output : Bool) → Agree (module_in rows output) (module_of calls output) k → Agree (module_in (entered rows calls k) output) (module_of calls output) (suc k)
  unfolding module_in
  entered_module true same = up_to (λ i. get_or (entered rows calls k) (3 * i + 2) 0 ≡ β calls i)
      (λ i m.
      get_or-set_other (set rows (3 * k) (α calls k)) (3 * k + 2) (3 * i + 2) (β calls k) 0 (λ e. omega arith)
      ∙ get_or-set_other rows (3 * k) (3 * i + 2) (α calls k) 0 (λ e. omega arith)
      ∙ same i m)
      (get_or-set_same (set rows (3 * k) (α calls k)) (3 * k + 2) (β calls k) 0 (rw (length-set rows (3 * k) (α calls k)) (omega arith)))
  entered_module false same = up_to (λ i. get_or (entered rows calls k) (3 * i) 0 ≡ α calls i)
      (λ i m.
      get_or-set_other (set rows (3 * k) (α calls k)) (3 * k + 2) (3 * i) (β calls k) 0 (λ e. omega arith)
      ∙ get_or-set_other rows (3 * k) (3 * i) (α calls k) 0 (λ e. omega arith)
      ∙ same i m)
      (get_or-set_other (set rows (3 * k) (α calls k)) (3 * k + 2) (3 * k) (β calls k) 0 (λ e. omega arith) ∙ get_or-set_same rows (3 * k) (α calls k) 0 (omega arith))

  pub entered_central : (i : ℕ) → get_or (entered rows calls k) (3 * i + 1) 0 ≡ get_or rows (3 * i + 1) 0
  entered_central i =
      get_or-set_other (set rows (3 * k) (α calls k)) (3 * k + 2) (3 * i + 1) (β calls k) 0 (λ e. omega arith)
      ∙ get_or-set_other rows (3 * k) (3 * i + 1) (α calls k) 0 (λ e. omega arith)

  part_length : length (part rows calls k) ≡ 3 * suc k
  part_length = length-take-le (3 * k + 3) (entered rows calls k) (rw entered_length l) ∙ omega arith

  part_module : (output : Bool) → Agree (module_in rows output) (module_of calls output) k → Agree (module_in (part rows calls k) output) (module_of calls output) (suc k)
  unfolding module_in
  part_module true same i m = get_or-take (3 * k + 3) (entered rows calls k) (3 * i + 2) 0 (omega arith) ∙ entered_module true same i m
  part_module false same i m = get_or-take (3 * k + 3) (entered rows calls k) (3 * i) 0 (omega arith) ∙ entered_module false same i m

  part_centrals : earlier (part rows calls k) k ≡ take k (centrals_of rows)
  part_centrals = front_centrals (part rows calls k) rows k (omega (arith, part_length)) (omega arith)
      (λ i m. get_or-take (3 * k + 3) (entered rows calls k) (3 * i + 1) 0 (omega arith) ∙ entered_central i)

module _ {net : Network} {calls start : List ℕ} {first : ℕ} {used₀ chain₀ : List ℕ} (h : Ready net calls start first used₀ chain₀) where
  -- the centrals given, and the plan from there
  abbrev given : List ℕ
  given = earlier start first

  abbrev P : ℕ → Plan
  P k = planned net calls given first k

  given_length : length given ≡ first
  given_length = length-take-le first (centrals_of start) (omega (arith, centrals_length start (row_count calls) h.whole, h.start))

  own : (k : ℕ) → k ≤ row_count calls → ModulesBelow (α calls) (β calls) net.r k
  own k l i m = let w = h.table.inside i (omega arith) in (w.own_α, w.own_β)

  pub none_so_far : SoFar net calls given first first start used₀ chain₀ 0
  unfolding moved_by
  none_so_far =
      let same = on_start (α calls) (β calls) (order net) given first first (omega arith) in
      record {
        above = omega arith;
        below = h.start;
        whole = h.whole;
        modules = h.modules;
        so_centrals = rw same;
        recorded = rw same h.recorded;
        places = h.places;
        moved_is = rw same;
        told = λ j e l. absurd (omega arith);
      }

  -- the end
  pub all_so_far : {k moved : ℕ} {rows used chain : List ℕ} → SoFar net calls given first k rows used chain moved → k ≡ row_count calls → AllPlaced net calls start rows first chain moved
  all_so_far {rows = rows} s e = record {
    size = s.whole ∙ sym h.whole;
    modules = rw e at s.modules;
    centrals = sym (take_all (row_count calls) (centrals_of rows) (omega (arith, centrals_length rows (row_count calls) s.whole))) ∙ (rw e at s.so_centrals);
    moved_is = rw e at s.moved_is;
    told = rw e at s.told;
  }

  module _ {k moved : ℕ} {rows used chain : List ℕ} (s : SoFar net calls given first k rows used chain moved) (l : k < row_count calls) where
    room : 3 * k + 3 ≤ length rows
    room = omega (arith, s.whole)

    abbrev rows' : List ℕ
    rows' = part rows calls k

    agree : (output : Bool) → Agree (module_in rows' output) (module_of calls output) (suc k)
    agree output = part_module rows calls k room output (s.modules output)

    agree_below : (output : Bool) → Agree (module_of calls output) (module_in rows' output) k
    agree_below output i m = sym (agree output i (omega arith))

    earlier_is : earlier rows' k ≡ (P k).centrals
    earlier_is = part_centrals rows calls k room ∙ s.so_centrals

    fits_below : (i : ℕ) → first ≤ i → i < k → Fits (α calls) (order net) i × Fits (β calls) (order net) i
    fits_below i p m = h.fits i p (omega arith)

    pub placeable : Placeable net rows' k used chain
    placeable = record {
      limits = h.table.limits;
      whole = part_length rows calls k room;
      small = omega (arith, h.table.few);
      modules = λ i m. let w = own (suc k) l i m in (rw (agree false i m) w.0, rw (agree true i m) w.1);
      fine = rw earlier_is (fine_agree (agree_below false) (agree_below true) (on_fine (α calls) (β calls) (order net) given first given_length (order_distinct net) h.fine k s.above fits_below));
      recorded = rw earlier_is (recorded_agree agree_below s.recorded);
      places = s.places;
      room = λ output. rw (agree output k (omega arith), ← count_agree k (module_of calls output k) (agree_below output)) (fits output);
    }
      where
        fits : (output : Bool) → length (at_module (module_of calls output) k (module_of calls output k)) < length (order net)
        fits true = omega (arith, count_here (β calls) k, (h.fits k s.above l).1)
        fits false = omega (arith, count_here (α calls) k, (h.fits k s.above l).0)

    step_is : step_in net rows' k ≡ step (α calls) (β calls) (order net) (P k).centrals k
    step_is = step_agree (order net) (earlier rows' k) (agree false) (agree true) ∙ ap (λ (cs : List ℕ). step (α calls) (β calls) (order net) cs k) earlier_is

    module _ {rows'' used' chain' : List ℕ} {more : ℕ} (p : Placed net rows' rows'' k used' chain chain' more) where
      abbrev after : List ℕ
      after = rows'' ++ drop (3 * k + 3) (entered rows calls k)

      long : length rows'' ≡ 3 * suc k
      long = p.by_the_rule.size ∙ part_length rows calls k room

      after_front : (j : ℕ) → j < 3 * suc k → get_or after j 0 ≡ get_or rows'' j 0
      after_front j m = get_or-append rows'' (drop (3 * k + 3) (entered rows calls k)) 0 j (omega (arith, long))

      pub next_so_far : SoFar net calls given first (k + 1) after used' chain' (moved + more)
      unfolding module_in
      next_so_far =
          let next = on_next (α calls) (β calls) (order net) given first k s.above in
          rw (add-one k) (record {
            above = omega (arith, s.above);
            below = l;
            whole = length-append rows'' (drop (3 * k + 3) (entered rows calls k)) ∙ omega (arith, long, length-drop (3 * k + 3) (entered rows calls k), entered_length rows calls k room, s.whole);
            modules = module_after;
            so_centrals =
                rw next
                (front_centrals after rows'' (suc k) (omega (arith, length-append rows'' (drop (3 * k + 3) (entered rows calls k)), long)) (omega (arith, long)) (λ i m. after_front (3 * i + 1) (omega arith))
                ∙ take_all (suc k) (centrals_of rows'') (omega (arith, centrals_length rows'' (suc k) long))
                ∙ p.by_the_rule.centrals
                ∙ ap (λ (t : Step). t.centrals) step_is);
            recorded = rw next (rw step_is at (recorded_agree agree p.recorded));
            places = ap length p.told ∙ telling_length chain _ _ ∙ s.places;
            moved_is = rw (next, moved_more (P k).chains, s.moved_is, p.moved_is, step_is);
            told = λ j e m. let same : j ≡ k = omega arith in rw same (chain, s.places, p.told ∙ ap (λ (t : Step). telling chain (2 * net.r - 1) t.moved) step_is);
          })
        where
          module_after : (output : Bool) → Agree (module_in after output) (module_of calls output) (suc k)
          module_after true i m = after_front (3 * i + 2) (omega arith) ∙ p.by_the_rule.modules true i ∙ agree true i m
          module_after false i m = after_front (3 * i) (omega arith) ∙ p.by_the_rule.modules false i ∙ agree false i m

      -- the count of moved calls stays small: for each of the calls, a chain of at most 2 * r - 2
      pub moved_small : moved + more ≤ most_calls * (2 * most_modules - 2)
      moved_small =
          let few = on_moved (α calls) (β calls) (order net) given first given_length (order_distinct net) h.fine (k + 1) (omega (arith, s.above)) (λ i q m. h.fits i q (omega arith)) net.r (own (k + 1) (omega arith)) in
          let rows_few : k + 1 ≤ most_calls = omega (arith, h.table.few) in
          let modules-few : 2 * net.r - 2 ≤ 2 * most_modules - 2 = omega (arith, ((limits_are net).0 h.table.limits).most_r) in
          rw next_so_far.moved_is (le_trans few (mul-le-mul {n₁ = k + 1} {m₁ = 2 * net.r - 2} rows_few modules-few))
