-- What the planner owes follows from its answer and its buffer: settings, lawful, whenever no module is overfull; and refusal 8
-- where one is, and then no settings whatever are lawful. Two answers that satisfy the guarantee are the same.
--   checks_pass         == each of its checks passes exactly for a table in order, with room, where no row overfills a module
--   verdict_passes      == so does the planner's verdict
--   verdict_told_eight, verdict_eight == it tells 8 exactly where only the last check refuses
--   lawful_colours, lawful_fits, overfull_unlawful == the centrals of lawful settings are a fine colouring, so a table that has lawful settings overfills no
--                          module, and one that overfills a module has none
--   plans, one_answer   == answer and buffer have the guarantee, and no others have it
use Rattle.std.specs.Prelude.{◌≡◌, refl, ◌⊎◌, ◌↔◌, List, [], ◌∷◌, ◌++◌, ltb, length, take, drop}
use Rattle.std.proofs.Common.{sym, ◌∙◌, inl, inr, ⊎_elim, arith, eq-eqb, ne_eqb}
use Rattle.std.proofs.Math.Path.{ap}
use Rattle.std.proofs.Math.Logic.Iff
use Prim.Native.Nat.{ℕ, ◌*◌, ◌≤◌}
use Rattle.std.proofs.Math.Seq.{take_at}
use Rattle.ground.specs.Numbers.{at_most_is}
use Rattle.shelf.specs.declared.Network.{Network}
use Rattle.shelf.specs.Rows.{row_count, α, β, γ}
use Rattle.shelf.specs.Light.{Lawful}
use Rattle.shelf.specs.Order.{order}
use Rattle.shelf.specs.OrderLaws.{order_distinct}
use Rattle.calls.specs.declared.Verdict.{Verdict}
use Rattle.calls.specs.Verdict.{success, AllPass}
use Rattle.calls.specs.VerdictLaws.{answer_passes, answer_success, answer_tells_last, answer_is_last, refused_zero, test_number}
use Rattle.calls.specs.Table.{size_checks, call_checks, InOrder}
use Rattle.calls.specs.TableLaws.{in_order_is, own_modules, size_number, row_number, call_number}
use Rattle.choice.specs.Rule.{at}
use Rattle.choice.specs.Colouring.{Fine}
use Rattle.choice.proofs.PlanLaws.{fits_all}
use Rattle.planner.specs.declared.Planned.{Planned}
use Rattle.planner.specs.Planner.{overfull, overfull_row, room_refused, planner_checks, planner_verdict, chosen, planned_settings, plan_answer, plan_buffer, NoneOverfull, SomeOverfull, Plans}
use Rattle.planner.specs.Steps.{AllFit}
use Rattle.planner.proofs.Continuing.{plan_fine}
use Rattle.planner.proofs.SettingsLaws.{planned_length, settings_lawful, lawful_fine}
use Rattle.planner.proofs.Overfull.{overfull_passes, none_overfull, some_overfull}

room_passes : (calls : List ℕ) (room : ℕ) → ((room_refused calls room).number ≡ 0) ↔ (3 * row_count calls ≤ room)
unfolding room_refused
room_passes calls room = Iff.trans (refused_zero 3 0 (ltb room (3 * row_count calls))) (at_most_is (3 * row_count calls) room)

module _ (net : Network) (calls : List ℕ) (room : ℕ) where
  pub checks_pass : AllPass (planner_checks net calls room) ↔ (InOrder net calls × (3 * row_count calls ≤ room) × AllFit net calls)
  unfolding planner_checks
  checks_pass = (
    λ h. (((in_order_is net calls 0 0).0 (h.0, h.1.1.0)).0, (room_passes calls room).0 h.1.0, (overfull_passes net calls).0 h.1.1.1.0),
    λ h.
        let t = (in_order_is net calls 0 0).1 (h.0, omega arith) in
        (t.0, ((room_passes calls room).1 h.1, (t.1, ((overfull_passes net calls).1 h.2, tt)))),
  )

  pub verdict_passes : ((planner_verdict net calls room).number ≡ 0) ↔ (InOrder net calls × (3 * row_count calls ≤ room) × AllFit net calls)
  unfolding planner_verdict
  verdict_passes = Iff.trans (answer_passes (planner_checks net calls room) (row_count calls)) checks_pass

  -- where it tells 8, all but 8 passed
  verdict_told_eight : (planner_verdict net calls room).number ≡ 8 → InOrder net calls × (3 * row_count calls ≤ room) × ((overfull_row net calls).number ≡ 0 → ⊥)
  unfolding planner_verdict planner_checks room_refused
  verdict_told_eight e =
      let h =
      answer_tells_last 8 (row_count calls) (overfull_row net calls) (size_checks net (length calls) 0 0 ∷ room_refused calls room ∷ call_checks net calls ∷ []) (λ q. omega arith) (
        size_number Other (λ q. omega arith) net (length calls) 0 0 (λ q. omega arith) (λ q. omega arith) (λ q. omega arith),
        (
          test_number Other 4 0 _ (λ q. omega arith) (λ q. omega arith),
          (call_number Other (λ q. omega arith) net calls (λ q. omega arith) (λ q. omega arith) (λ q. omega arith), tt),
        ),
      ) e in
      (((in_order_is net calls 0 0).0 (h.0.0, h.0.1.1.0)).0, (room_passes calls room).0 h.0.1.0, λ z. omega (arith, h.1))
    where
      Other : ℕ → Type 0
      Other n = n ≡ 8 → ⊥

  -- for a table in order with room, only 8 is left to tell
  verdict_eight : InOrder net calls → 3 * row_count calls ≤ room → (overfull_row net calls).number ≡ 8 → (planner_verdict net calls room).number ≡ 8
  unfolding planner_verdict planner_checks
  verdict_eight table l e =
      let t = (in_order_is net calls 0 0).1 (table, omega arith) in
      ap (λ (v : Verdict). v.number)
      (answer_is_last 8 (row_count calls) (overfull_row net calls) (size_checks net (length calls) 0 0 ∷ room_refused calls room ∷ call_checks net calls ∷ []) (t.0, ((room_passes calls room).1 l, (t.1, tt))) (λ z. omega arith))
      ∙ e

-- 8 is all that the search for overfull rows can tell
overfull_number : (net : Network) (calls : List ℕ) → ((overfull_row net calls).number ≡ 0) ⊎ ((overfull_row net calls).number ≡ 8)
unfolding overfull_row
overfull_number net calls = row_number (λ n. (n ≡ 0) ⊎ (n ≡ 8)) (inl refl) 8 (row_count calls) (overfull net calls) (inr refl)

-- the centrals of lawful settings colour the rows, so no row overfills a module
pub lawful_colours : {net : Network} {calls : List ℕ} → InOrder net calls → (settings : List ℕ) → Lawful net calls settings → Fine (α calls) (β calls) (order net) (γ settings) (row_count calls)
lawful_colours {net} {calls} table settings h = lawful_fine net calls settings table.limits (own_modules table) h

pub lawful_fits : {net : Network} {calls : List ℕ} → InOrder net calls → (settings : List ℕ) → Lawful net calls settings → AllFit net calls
lawful_fits {net} {calls} table settings h = fits_all (α calls) (β calls) (order net) (γ settings) (row_count calls) (lawful_colours table settings h)

-- "and then no settings exist that would be accepted"
pub overfull_unlawful : {net : Network} {calls : List ℕ} → InOrder net calls → SomeOverfull net calls → (settings : List ℕ) → Lawful net calls settings → ⊥
overfull_unlawful {net} {calls} table over settings h = omega (arith, (none_overfull net calls).0 (lawful_fits table settings h) over.0 over.1, over.2)

module _ (net : Network) (calls before after : List ℕ) (a : Planned) (answer : a ≡ plan_answer net calls (length before)) (buffer : after ≡ plan_buffer net calls before) where
  number_is : a.number ≡ (planner_verdict net calls (length before)).number
  unfolding plan_answer
  number_is = ap (λ (p : Planned). p.number) answer

  written : a.number ≡ 0 → after ≡ planned_settings net calls ++ drop (3 * row_count calls) before
  unfolding plan_buffer
  written z = buffer ∙ rw (eq-eqb _ 0 (sym number_is ∙ z))

  owed : InOrder net calls → 3 * row_count calls ≤ length before → NoneOverfull net calls → (a.number ≡ 0) × Lawful net calls (take (3 * row_count calls) after)
  unfolding chosen planned_settings
  owed table room none_over =
      let fits = (none_overfull net calls).1 none_over in
      let z : a.number ≡ 0 = number_is ∙ (verdict_passes net calls (length before)).1 (table, room, fits) in
      let fine = plan_fine (α calls) (β calls) (order net) (order_distinct net) (row_count calls) fits in (
        z,
        rw (written z, take_at (planned_settings net calls) (drop (3 * row_count calls) before) (3 * row_count calls) (planned_length net calls))
            (settings_lawful net calls (at (chosen net calls).centrals) table.limits (own_modules table) fine),
      )

  refused : InOrder net calls → 3 * row_count calls ≤ length before → SomeOverfull net calls → a.number ≡ 8
  refused table room over = ⊎_elim
      (λ z. absurd (omega (arith, (none_overfull net calls).0 ((overfull_passes net calls).0 z) over.0 over.1, over.2)))
      (λ e. number_is ∙ verdict_eight net calls (length before) table room e)
      (overfull_number net calls)

  eight : (a.number ≡ 8) ↔ (InOrder net calls × (3 * row_count calls ≤ length before) × SomeOverfull net calls)
  eight = (
    λ e. let p = verdict_told_eight net calls (length before) (sym number_is ∙ e) in (p.0, p.1, some_overfull net calls p.2),
    λ h. refused h.0 h.1 h.2,
  )

  unchanged : (a.number ≡ 0 → ⊥) → (a.moved ≡ 0) × (after ≡ before)
  unfolding plan_answer plan_buffer
  unchanged n =
      let m : (planner_verdict net calls (length before)).number ≡ 0 → ⊥ = λ z. n (number_is ∙ z) in
      (ap (λ (p : Planned). p.moved) answer ∙ rw (ne_eqb _ 0 m), buffer ∙ rw (ne_eqb _ 0 m))

  tells_k : a.number ≡ 0 → a.row ≡ row_count calls
  unfolding plan_answer planner_verdict success
  tells_k z = ap (λ (p : Planned). p.row) answer ∙ ap (λ (v : Verdict). v.row) (answer_success (planner_checks net calls (length before)) (row_count calls) (sym number_is ∙ z))

  pub plans : Plans net calls before after a
  plans = record { answer = answer; buffer = buffer; owed = owed; eight = eight; impossible = overfull_unlawful; unchanged = unchanged; tells_k = tells_k }

-- two answers that satisfy the guarantee are the same, and so are the buffers
pub one_answer : (net : Network) (calls before after after' : List ℕ) (a a' : Planned) → Plans net calls before after a → Plans net calls before after' a' → (a ≡ a') × (after ≡ after')
one_answer net calls before after after' a a' g h = (g.answer ∙ sym h.answer, g.buffer ∙ sym h.buffer)
