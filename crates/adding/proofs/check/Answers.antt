-- `adding::check` meets its contract: the first check that refuses is the answer.
use Rattle.std.proofs.Common.{◌≡◌, refl, false, sym, ◌∙◌, List, ◌∷◌, ◌++◌, ℕ, suc, ◌≤◌, arith, length, eq-eqb, ne_eqb, lt-ltb, le-ltb}
use Rattle.shelf.specs.declared.Network.{Network}
use Rattle.shelf.specs.Network.{most_calls}
use Rattle.shelf.specs.Rows.{row_count}
use Rattle.calls.specs.declared.Verdict.{Verdict}
use Rattle.calls.specs.Verdict.{success, in_turn}
use Rattle.calls.specs.VerdictLaws.{turn_goes_on, test_stops, test_goes_on}
use Rattle.calls.specs.RefusalLaws.{passed_on, err_stops}
use Rattle.calls.specs.Table.{too_many_calls, InOrder}
use Rattle.acceptance.specs.Acceptance.{acceptance}
use Rattle.acceptance.proofs.Exactly.{accepted_is}
use Rattle.adding.specs.Adding.{not_one_call, short, no_room, new_row_checks, add_checks}
use Rattle.adding.proofs.check.Goals as goal
use Rattle.adding.proofs.check.Goals.{In_ok-row, Else-row-gt-MOST_CALLS}

-- The checks from 5, from 4, from 3 and from 2 on, and all of them.
module _ (net : Network) (calls settings call : List ℕ) (calls_room settings_room moved_room : ℕ) where
  abbrev K : ℕ
  K = row_count calls

  abbrev From5 : List Verdict
  From5 = new_row_checks net (calls ++ call) K

  abbrev From4 : List Verdict
  From4 = no_room K calls_room settings_room moved_room ∷ From5

  abbrev From3 : List Verdict
  From3 = too_many_calls (suc K) ∷ From4

  abbrev From2 : List Verdict
  From2 = not_one_call call ∷ From3

  abbrev All : List Verdict
  All = add_checks net calls settings call calls_room settings_room moved_room

  module _ {u : Verdict} (given : u ≡ acceptance net calls settings) (z : u.number ≡ 0) {v : Verdict} where
    past_given : v ≡ in_turn From2 → v ≡ in_turn All
    unfolding add_checks
    past_given = turn_goes_on _ _ given z

    module _ (one : length call ≡ 4) where
      past_2 : v ≡ in_turn From3 → v ≡ in_turn All
      unfolding not_one_call
      past_2 f = past_given (test_goes_on 2 0 _ _ (rw (eq-eqb _ 4 one)) f)

      module _ (few : suc K ≤ most_calls) where
        past_3 : v ≡ in_turn From4 → v ≡ in_turn All
        unfolding too_many_calls
        past_3 f = past_2 (test_goes_on 3 0 _ _ (le-ltb most_calls (suc K) few) f)

        past_4 : short K calls_room settings_room moved_room ≡ false → v ≡ in_turn From5 → v ≡ in_turn All
        unfolding new_row_checks
        past_4 enough f = past_3 (test_goes_on 4 0 _ _ enough f)

-- what acceptance leaves known
accepted_order : {net : Network} {calls : List ℕ} (settings : List ℕ) (k : ℕ) → success k ≡ acceptance net calls settings → InOrder net calls
unfolding success
accepted_order settings k given = ((accepted_is _ _ settings).0 (rw (← given) refl)).0

-- what acceptance tells where it passes is K
counted : (c : In_ok-row) → c.in_ok-row.row ≡ row_count c.args.calls.now
unfolding success
counted c = c.in_ok-row.ensures.tells_k refl

pub returns-in_err-row : goal.returns-in_err-row
unfolding add_checks
returns-in_err-row c =
    rw (passed_on _ c.from_residual.ensures.1) (err_stops _ _ c.in_err-row.ensures.answer)

pub returns-then-call-ne4 : goal.returns-then-call-ne4
unfolding not_one_call success
returns-then-call-ne4 c = past_given _ _ _ _ _ _ _ c.in_ok-row.ensures.answer refl (test_stops 1 0 _ (rw (ne_eqb _ 4 c.if-call-ne4.true)))

pub overflow_add-row : goal.overflow_add-row
unfolding row_count
overflow_add-row c = omega (arith, counted (goal.at.overflow_add-row c).In_ok-row)

pub returns-then-row-gt-MOST_CALLS : goal.returns-then-row-gt-MOST_CALLS
unfolding too_many_calls most_calls success
returns-then-row-gt-MOST_CALLS c =
    past_2 _ _ _ _ _ _ _ c.in_ok-row.ensures.answer refl c.if-call-ne4.false
    (test_stops 2 0 _ (lt-ltb most_calls (suc (row_count c.args.calls.now)) (omega (arith, counted (goal.at.returns-then-row-gt-MOST_CALLS c).In_ok-row, c.if-row-gt-MOST_CALLS.true))))

-- K and one more are not too many
few : (c : Else-row-gt-MOST_CALLS) → suc (row_count c.args.calls.now) ≤ most_calls
unfolding most_calls
few c = omega (arith, counted (goal.at.Else-row-gt-MOST_CALLS c).In_ok-row, c.if-row-gt-MOST_CALLS.false)

pub returns-then-are_short : goal.returns-then-are_short
unfolding success
returns-then-are_short c =
    let f = few (goal.at.returns-then-are_short c).Else-row-gt-MOST_CALLS in
    past_3 _ _ _ _ _ _ _ c.in_ok-row.ensures.answer refl c.if-call-ne4.false f
    (test_stops 3 0 _ (rw (← counted (goal.at.returns-then-are_short c).In_ok-row) (sym c.are_short.ensures ∙ c.if-are_short.true)))

pub check_new_row-requires : goal.check_new_row-requires
check_new_row-requires c =
    let table = accepted_order c.args.settings.now _ c.in_ok-row.ensures.answer in
    let f = few (goal.at.check_new_row-requires c).Else-row-gt-MOST_CALLS in
    record { limits = table.limits; whole = table.whole; few = f; inside = table.inside; one = c.if-call-ne4.false }

pub returns : goal.returns
unfolding success
returns c =
    past_4 _ _ _ _ _ _ _ c.in_ok-row.ensures.answer refl c.if-call-ne4.false (few (goal.at.returns c).Else-row-gt-MOST_CALLS)
    (rw (← counted (goal.at.returns c).In_ok-row) (sym c.are_short.ensures ∙ c.if-are_short.false)) c.check_new_row.ensures
