-- `dropping::check` meets its contract: the first check that refuses is the answer.
use Rattle.std.proofs.Common.{◌≡◌, refl, List, ℕ, [], ◌∷◌, ◌-◌, ◌<◌, arith, rules, le-leb, lt-ltb, le-ltb}
use borrow.Author.Tests.{lt-leb}
use Rattle.ground.specs.Truth.{any}
use Rattle.shelf.specs.Rows.{row_count}
use Rattle.calls.specs.declared.Verdict.{Verdict}
use Rattle.calls.specs.Verdict.{success, passed, in_turn}
use Rattle.calls.specs.VerdictLaws.{turn_goes_on, test_stops, test_goes_on, test_passes}
use Rattle.calls.specs.RefusalLaws.{err_stops}
use Rattle.dropping.specs.Dropping.{no_such_row, no_room, drop_checks}
use Rattle.dropping.proofs.check.Goals as goal
use Rattle.dropping.proofs.check.Goals.{In_ok-count, then-calls_room-left-via-then-calls_room-left, then-calls_room-left-via-else-calls_room-left+then-settings_room-left}

-- The checks from 4 on, from 17 on, and all of them.
abbrev From4 : (calls : List ℕ) (calls_room settings_room : ℕ) → List Verdict
From4 calls calls_room settings_room = no_room (row_count calls - 1) calls_room settings_room ∷ []

abbrev From17 : (calls : List ℕ) (row calls_room settings_room : ℕ) → List Verdict
From17 calls row calls_room settings_room = no_such_row calls row ∷ From4 calls calls_room settings_room

-- what acceptance tells where it passes is K
counted : (c : In_ok-count) → c.in_ok-count.count ≡ row_count c.args.calls.now
unfolding success
counted c = c.in_ok-count.ensures.tells_k refl

past_acceptance : (c : In_ok-count) (v : Verdict) → v ≡ in_turn (From17 c.args.calls.now c.args.row c.args.calls_room c.args.settings_room)
    → v ≡ in_turn (drop_checks c.args.net c.args.calls.now c.args.settings.now c.args.row c.args.calls_room c.args.settings_room)
unfolding drop_checks success
past_acceptance c v = turn_goes_on _ _ c.in_ok-count.ensures.answer refl

past_17 : (c : In_ok-count) (v : Verdict) → c.args.row < c.in_ok-count.count → v ≡ in_turn (From4 c.args.calls.now c.args.calls_room c.args.settings_room)
    → v ≡ in_turn (drop_checks c.args.net c.args.calls.now c.args.settings.now c.args.row c.args.calls_room c.args.settings_room)
unfolding no_such_row
past_17 c v there f = past_acceptance c v (test_goes_on 17 0 _ _ (rw (← counted c) (lt-leb _ _ there)) f)

pub returns-in_err-count : goal.returns-in_err-count
unfolding drop_checks
returns-in_err-count c = search (rules, err_stops)

pub returns-then-count-row : goal.returns-then-count-row
unfolding no_such_row
returns-then-count-row c =
    let ok = (goal.at.returns-then-count-row c).In_ok-count in
    past_acceptance ok _ (test_stops 16 0 _ (rw (← counted ok) (le-leb _ _ c.if-count-row.true)))

pub overflow_mul-left : goal.overflow_mul-left
unfolding row_count
overflow_mul-left c = omega (arith, counted (goal.at.overflow_mul-left c).In_ok-count)

pub returns-then-calls_room-left : goal.returns-then-calls_room-left
unfolding no_room any
returns-then-calls_room-left c =
    let ok = (goal.at.returns-then-calls_room-left c).In_ok-count in
    past_17 ok _ c.if-count-row.false (test_stops 3 0 _ (elim c.then-calls_room-left.branch [
      | then-calls_room-left-via-then-calls_room-left w ↦ rw (← counted ok, lt-ltb _ _ w.if-calls_room-left.true)
      | then-calls_room-left-via-else-calls_room-left+then-settings_room-left w ↦ rw (← counted ok, le-ltb _ _ w.if-calls_room-left.false, lt-ltb _ _ w.if-settings_room-left.true)
    ]))

pub returns : goal.returns
unfolding no_room any passed
returns c =
    let ok = (goal.at.returns c).In_ok-count in
    past_17 ok _ c.if-count-row.false (test_passes 4 0 (rw (← counted ok, le-ltb _ _ c.if-calls_room-left.false, le-ltb _ _ c.if-settings_room-left.false)))
