-- `adding::check_new_row` meets its contract: each check is that of the table's last row, and the first that refuses is the answer.
use Rattle.std.proofs.Common.{◌≡◌, sym, ap, ◌∙◌, ⊎_elim, Bool, true, false, List, [], ◌∷◌, ◌++◌, ℕ, ◌<◌, arith, length}
use Rattle.std.proofs.lemmas.Bool.{cases_lt}
use Rattle.shelf.specs.declared.Network.{Network}
use Rattle.shelf.specs.Rows.{row_count, module_of}
use Rattle.shelf.specs.Order.{order}
use Rattle.calls.specs.declared.Verdict.{Verdict}
use Rattle.calls.specs.Verdict.{passed, in_turn}
use Rattle.calls.specs.VerdictLaws.{test_stops, test_goes_on, test_passes}
use Rattle.calls.specs.Table.{outside, point_at, point_used}
use Rattle.choice.specs.Colouring.{at_module}
use Rattle.planner.specs.Planner.{overfull_at}
use Rattle.adding.specs.Adding.{new_row_checks}
use Rattle.adding.specs.Appending.{call_new, point_new, overfull_side, overfull_none}
use Rattle.adding.proofs.check_new_row.Goals as goal
use Rattle.adding.proofs.check_new_row.Goals.{After-is_outside, After-has_point, After-has_point-2, Else-has_point-2, After-calls_at-outputs}

-- The checks from 8, from 7, from 6 and from 5 on.
module _ (net : Network) (calls call : List ℕ) where
  abbrev K : ℕ
  K = row_count calls

  abbrev Table : List ℕ
  Table = calls ++ call

  abbrev From8 : List Verdict
  From8 = overfull_at net Table K ∷ []

  abbrev From7 : List Verdict
  From7 = point_at Table true 7 K ∷ From8

  abbrev From6 : List Verdict
  From6 = point_at Table false 6 K ∷ From7

  abbrev From5 : List Verdict
  From5 = new_row_checks net Table K

  module _ {v : Verdict} (five : outside net Table K ≡ false) where
    past_5 : v ≡ in_turn From6 → v ≡ in_turn From5
    unfolding new_row_checks
    past_5 = test_goes_on 5 _ _ _ five

    module _ (six : point_used Table false K ≡ false) where
      past_6 : v ≡ in_turn From7 → v ≡ in_turn From5
      past_6 f = past_5 (test_goes_on 6 _ _ _ six f)

      past_7 : point_used Table true K ≡ false → v ≡ in_turn From8 → v ≡ in_turn From5
      past_7 seven f = past_6 (test_goes_on 7 _ _ _ seven f)

  -- how many calls stand at the module of the new one
  abbrev Standing : Bool → ℕ
  Standing output = length (at_module (module_of calls output) K (module_of call output 0))

  room : Standing false < length (order net) → Standing true < length (order net) → (output : Bool) → Standing output < length (order net)
  room a b true = b
  room a b false = a

outside_here : (c : After-is_outside) → c.is_outside.result ≡ outside c.args.net (c.args.calls.now ++ c.args.call.now) (row_count c.args.calls.now)
outside_here c = c.is_outside.ensures ∙ call_new _ c.args.call.now c.requires.whole c.args.net _ c.at-new.ensures

inlet_here : (c : After-has_point) → c.has_point.result ≡ point_used (c.args.calls.now ++ c.args.call.now) false (row_count c.args.calls.now)
inlet_here c = point_new _ c.args.call.now c.requires.whole false c.point_at.ensures c.has_point.ensures

outlet_here : (c : After-has_point-2) → c.has_point-2.result ≡ point_used (c.args.calls.now ++ c.args.call.now) true (row_count c.args.calls.now)
outlet_here c = point_new _ c.args.call.now c.requires.whole true c.point_at-2.ensures c.has_point-2.ensures

-- past 7, where only 8 is left
only_8 : (c : Else-has_point-2) {v : Verdict} → v ≡ in_turn (From8 c.args.net c.args.calls.now c.args.call.now) → v ≡ in_turn (From5 c.args.net c.args.calls.now c.args.call.now)
only_8 c =
    let whole = c.requires.whole in
    past_7 c.args.net c.args.calls.now c.args.call.now
    (sym (c.is_outside.ensures ∙ call_new _ c.args.call.now whole c.args.net _ c.at-new.ensures) ∙ c.if-is_outside.false)
    (sym (point_new _ c.args.call.now whole false c.point_at.ensures c.has_point.ensures) ∙ c.if-has_point.false)
    (sym (point_new _ c.args.call.now whole true c.point_at-2.ensures c.has_point-2.ensures) ∙ c.if-has_point-2.false)

counts_here : (c : After-calls_at-outputs) → (c.calls_at-inputs.result ≡ Standing c.args.net c.args.calls.now c.args.call.now false)
    × (c.calls_at-outputs.result ≡ Standing c.args.net c.args.calls.now c.args.call.now true)
counts_here c =
    let standing : Bool → ℕ → ℕ = λ output v. length (at_module (module_of c.args.calls.now output) (row_count c.args.calls.now) v) in
    (c.calls_at-inputs.ensures.0 ∙ ap (standing false) c.at-new.ensures.input_module, c.calls_at-outputs.ensures.0 ∙ ap (standing true) c.at-new.ensures.output_module)

pub returns-then-is_outside : goal.returns-then-is_outside
unfolding new_row_checks row_count
returns-then-is_outside c = test_stops 4 _ _ (sym (outside_here (goal.at.returns-then-is_outside c).After-is_outside) ∙ c.if-is_outside.true)

pub returns-then-has_point : goal.returns-then-has_point
unfolding row_count
returns-then-has_point c =
    let at = goal.at.returns-then-has_point c in
    past_5 _ _ _ (sym (outside_here at.After-is_outside) ∙ c.if-is_outside.false) (test_stops 5 _ _ (sym (inlet_here at.After-has_point) ∙ c.if-has_point.true))

pub returns-then-has_point-2 : goal.returns-then-has_point-2
unfolding row_count
returns-then-has_point-2 c =
    let at = goal.at.returns-then-has_point-2 c in
    past_6 _ _ _ (sym (outside_here at.After-is_outside) ∙ c.if-is_outside.false) (sym (inlet_here at.After-has_point) ∙ c.if-has_point.false)
    (test_stops 6 _ _ (sym (outlet_here at.After-has_point-2) ∙ c.if-has_point-2.true))

pub returns-then-centrals-max : goal.returns-then-centrals-max
unfolding row_count
returns-then-centrals-max c =
    let at = goal.at.returns-then-centrals-max c in
    let here = counts_here at.After-calls_at-outputs in
    let side = overfull_side c.args.calls.now c.args.call.now c.requires.whole c.args.net in
    only_8 at.Else-has_point-2 (test_stops 7 _ _ (⊎_elim
    (λ l. side true (omega (arith, l, here.0, here.1, c.centrals.ensures, c.max.ensures, c.if-centrals-max.true)))
    (λ m. side false m)
    (cases_lt (Standing c.args.net c.args.calls.now c.args.call.now false) (length (order c.args.net)))))

pub returns : goal.returns
unfolding passed
returns c =
    let at = goal.at.returns c in
    let here = counts_here at.After-calls_at-outputs in
    only_8 at.Else-has_point-2 (test_passes 8 _ (overfull_none c.args.calls.now c.args.call.now c.requires.whole c.args.net
    (room c.args.net c.args.calls.now c.args.call.now (omega (arith, here.0, c.centrals.ensures, c.max.ensures, c.if-centrals-max.false)) (omega (arith, here.1, c.centrals.ensures, c.max.ensures, c.if-centrals-max.false)))))
