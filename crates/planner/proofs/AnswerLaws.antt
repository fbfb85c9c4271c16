-- Laws of what the planner tells.
--   one_plan             == two answers of the planner, or of an add, that tell the same number, row and moved count are the same
use Rattle.std.specs.Prelude.{◌≡◌, Result, Ok, Err}
use Rattle.std.proofs.Common.{sym, ap}
use Rattle.calls.specs.declared.refusal.Refusal.{Refusal}
use Rattle.calls.specs.RefusalLaws.{refuses, one_refusal}
use Rattle.planner.specs.declared.answer.Plan.{Plan}
use Rattle.planner.specs.declared.Planned.{Planned}
use Rattle.planner.specs.Answer.{planned_by}

same_number : {p q : Planned} → p ≡ q → p.number ≡ q.number
same_number h = ap (λ (p : Planned). p.number) h

same_row : {p q : Planned} → p ≡ q → p.row ≡ q.row
same_row h = ap (λ (p : Planned). p.row) h

same_moved : {p q : Planned} → p ≡ q → p.moved ≡ q.moved
same_moved h = ap (λ (p : Planned). p.moved) h

-- success is no refusal
apart : (plan : Plan) (e : Refusal) → planned_by (Ok plan) ≡ planned_by (Err e) → ⊥
apart plan e h = refuses e (sym (same_number h))

pub one_plan : (a b : Result Plan Refusal) → planned_by a ≡ planned_by b → a ≡ b
one_plan (Ok p) (Ok q) h = ap Ok (λ t. record { count = same_row h t; moved = same_moved h t })
one_plan (Ok p) (Err f) h = absurd (apart p f h)
one_plan (Err e) (Ok q) h = absurd (apart q e (sym h))
one_plan (Err e) (Err f) h = ap Err (one_refusal e f (λ t. record { number = same_number h t; row = same_row h t }))
