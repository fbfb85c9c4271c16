-- Planner and acceptance together: the planner's guarantee, told by what acceptance answers. Whatever satisfies the two guarantees
-- satisfies these laws; nothing here speaks of code.
--   planned_exactly     == the planner answers 0 exactly for tables in order, with room, and with no module overfull
--   planned_accepted    == settings that the planner wrote are accepted
--   overfull_accepts_none, eight_accepts_none == where a module is overfull, so also where the planner answers 8, acceptance says yes to no settings
--                          whatever
use Rattle.std.specs.Prelude.{◌≡◌, ◌↔◌, List, ℕ, ◌*◌, ◌≤◌, length, take}
use Rattle.std.proofs.Math.Path.{ap}
use Rattle.std.proofs.Common.{sym, ◌∙◌}
use Rattle.shelf.specs.declared.Network.{Network}
use Rattle.shelf.specs.Rows.{row_count}
use Rattle.calls.specs.declared.Verdict.{Verdict}
use Rattle.calls.specs.Table.{InOrder}
use Rattle.acceptance.specs.Acceptance.{Accepts}
use Rattle.planner.specs.declared.Planned.{Planned}
use Rattle.planner.specs.Planner.{planner_verdict, plan_answer, NoneOverfull, SomeOverfull, Plans}
use Rattle.planner.proofs.Owed.{verdict_passes}
use Rattle.planner.proofs.Overfull.{none_overfull}

module _ {net : Network} {calls before after : List ℕ} {a : Planned} (plans : Plans net calls before after a) where
  pub planned_exactly : (a.number ≡ 0) ↔ (InOrder net calls × (3 * row_count calls ≤ length before) × NoneOverfull net calls)
  unfolding plan_answer
  planned_exactly =
      let number : a.number ≡ (planner_verdict net calls (length before)).number = ap (λ (b : Planned). b.number) plans.answer in
      let passes = verdict_passes net calls (length before) in (
        λ zero. let h = passes.0 (sym number ∙ zero) in (h.0, h.1, (none_overfull net calls).0 h.2),
        λ h. number ∙ passes.1 (h.0, h.1, (none_overfull net calls).1 h.2),
      )

  -- "The planner yields accepted settings whenever no module has more calls than there are centrals"
  pub planned_accepted : a.number ≡ 0 → (v : Verdict) → Accepts net calls (take (3 * row_count calls) after) v → v.number ≡ 0
  planned_accepted zero v accepts =
      let h = planned_exactly.0 zero in
      (accepts.exactly h.0).1 (plans.owed h.0 h.1 h.2).1

  -- "when one has more it refuses, and then no settings exist that would be accepted": that it refuses is `eight` of `Plans`
  pub overfull_accepts_none : InOrder net calls → SomeOverfull net calls → (settings : List ℕ) (v : Verdict) → Accepts net calls settings v → v.number ≡ 0 → ⊥
  overfull_accepts_none in_order some settings v accepts zero = plans.impossible in_order some settings ((accepts.exactly in_order).0 zero)

  pub eight_accepts_none : a.number ≡ 8 → (settings : List ℕ) (v : Verdict) → Accepts net calls settings v → v.number ≡ 0 → ⊥
  eight_accepts_none e = let h = plans.eight.0 e in overfull_accepts_none h.0 h.2
