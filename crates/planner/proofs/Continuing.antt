-- A plan that goes on from centrals that are given: what is said of the whole plan, for any start.
--   on_start, on_next   == the rows below the first have the centrals given, and each row more takes a step
--   on_plan, plan_fine  == from no rows it is the plan, so the plan of a table that overfills no module is a proper colouring of every row
--   on_length, on_fine, on_moved == the centrals of the plan, how they colour, and how many calls it moved
use Rattle.std.specs.Prelude.{◌≡◌, List, [], ◌∷◌, ◌++◌, length}
use Rattle.std.proofs.Math.Path.{refl}
use Rattle.std.proofs.Common.{ap, ◌∙◌, arith, lt-ltb, le-ltb}
use Prim.Native.Nat.{ℕ, zero, suc, ◌*◌, ◌-◌, ◌≤◌, ◌<◌}
use Rattle.std.proofs.Math.Decide.{le_ind}
use Rattle.ground.specs.Lists.{Distinct}
use Rattle.shelf.specs.Rows.{ModulesBelow}
use Rattle.choice.specs.Rule.{at, step, Plan, plan, moved_by}
use Rattle.choice.specs.Colouring.{Fine, Fits}
use Rattle.choice.proofs.Count.{count_here}
use Rattle.choice.proofs.StepLaws.{step_length, step_fine, step_moved}
use Rattle.choice.proofs.PlanLaws.{moved_more}
use Rattle.planner.specs.Steps.{plan_on}

module _ (α β : ℕ → ℕ) (order centrals : List ℕ) (first : ℕ) where
  abbrev on : ℕ → Plan
  on k = plan_on α β order centrals first k

  pub on_start : (k : ℕ) → k ≤ first → on k ≡ record { centrals = centrals; chains = [] }
  unfolding plan_on
  on_start zero l = refl
  on_start (suc k) l = rw (lt-ltb k first l)

  pub on_next : (k : ℕ) → first ≤ k → on (suc k) ≡ record { centrals = (step α β order (on k).centrals k).centrals; chains = (on k).chains ++ ((step α β order (on k).centrals k).moved ∷ []) }
  unfolding plan_on
  on_next k l = rw (le-ltb k first l)

  module _ (size : length centrals ≡ first) where
    pub on_length : (k : ℕ) → first ≤ k → length (on k).centrals ≡ k
    on_length k l = le_ind (λ j. length (on j).centrals ≡ j) (rw (on_start first (omega arith)) size)
        (λ j m e. rw (on_next j m) (step_length α β order (on j).centrals j ∙ ap suc e)) k l

    module _ (d : Distinct order) (fine : Fine α β order (at centrals) first) where
      pub on_fine : (k : ℕ) → first ≤ k → ((i : ℕ) → first ≤ i → i < k → Fits α order i × Fits β order i) → Fine α β order (at (on k).centrals) k
      on_fine k l = le_ind (λ j. ((i : ℕ) → first ≤ i → i < j → Fits α order i × Fits β order i) → Fine α β order (at (on j).centrals) j)
          (λ fits. rw (on_start first (omega arith)) fine)
          (λ j m deep fits. rw (on_next j m) (step_fine α β order (on j).centrals j (on_length j m) d
          (omega (arith, count_here α j, (fits j m (omega arith)).0)) (omega (arith, count_here β j, (fits j m (omega arith)).1)) (deep (λ i p q. fits i p (omega arith)))))
          k l

      -- at most 2 * r - 2 calls were moved for each row
      pub on_moved : (k : ℕ) → first ≤ k → ((i : ℕ) → first ≤ i → i < k → Fits α order i × Fits β order i) → (r : ℕ) → ModulesBelow α β r k → moved_by (on k).chains ≤ k * (2 * r - 2)
      unfolding moved_by
      on_moved k l fits r below = le_ind (λ j. j ≤ k → moved_by (on j).chains ≤ j * (2 * r - 2))
          (λ m. rw (on_start first (omega arith)) (omega arith))
          (λ j m deep q.
          let few = step_moved α β order (on j).centrals j (on_fine j m (λ i p s. fits i p (omega arith))) r (λ i s. below i (omega arith)) in
          rw (on_next j m) (omega (arith, moved_more (on j).chains (step α β order (on j).centrals j).moved, few, deep (omega arith))))
          k l (omega arith)

-- from no rows
pub on_plan : (α β : ℕ → ℕ) (order : List ℕ) (k : ℕ) → plan_on α β order [] 0 k ≡ plan α β order k
unfolding plan_on plan
on_plan α β order zero = refl
on_plan α β order (suc k) = rw (le-ltb k 0 (omega arith), on_plan α β order k)

pub plan_fine : (α β : ℕ → ℕ) (order : List ℕ) → Distinct order → (K : ℕ) → ((i : ℕ) → i < K → Fits α order i × Fits β order i) → Fine α β order (at (plan α β order K).centrals) K
plan_fine α β order d K fits =
    let none : Fine α β order (at []) 0 = record { proper_α = λ i j l. absurd (omega arith); proper_β = λ i j l. absurd (omega arith); inside = λ i l. absurd (omega arith) } in
    rw (← on_plan α β order K) (on_fine α β order [] 0 refl d none K (omega arith) (λ i p l. fits i l))
