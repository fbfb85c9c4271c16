-- `adding::add` meets its contract: where a check refuses the buffers are as they were; else the call is appended and placed.
use Rattle.std.proofs.Common.{◌≡◌, refl, sym, ◌∙◌, List, ◌++◌, ℕ, suc, ◌+◌, ◌*◌, ◌≤◌, arith, length, take, length-append, length-take-le}
use Rattle.ground.specs.BytesLaws.{adds_front, adds_taken}
use Rattle.shelf.specs.Rows.{row_count}
use Rattle.calls.specs.VerdictLaws.{passed_zero}
use Rattle.calls.specs.RefusalLaws.{passed_on, refuses}
use Rattle.adding.specs.Adding.{Lent}
use Rattle.adding.proofs.AddingLaws.{adds_refused, rooms, append_length, addable, adds_done}
use Rattle.adding.proofs.add.Goals as goal
use Rattle.adding.proofs.add.Goals.{In_ok-check}

abbrev buffers : (calls settings moved : List ℕ) → Lent
buffers calls settings moved = record { calls = calls; settings = settings; moved = moved }

-- what is known when all checks passed
module _ (c : In_ok-check) where
  abbrev before : Lent
  before = buffers c.args.calls_after.now c.args.settings_after.now c.args.moved_rows.now

  long : length (c.args.calls.now ++ c.args.call.now) ≡ 4 * suc (row_count c.args.calls.now)
  long = append_length _ _ _ _ before _ c.in_ok-check.ensures passed_zero

  calls_room : 4 * suc (row_count c.args.calls.now) ≤ length c.args.calls_after.now
  calls_room = (rooms _ _ _ _ before _ c.in_ok-check.ensures passed_zero).for_calls

  settings_room : 3 * suc (row_count c.args.calls.now) ≤ length c.args.settings_after.now
  settings_room = (rooms _ _ _ _ before _ c.in_ok-check.ensures passed_zero).for_settings

  -- the rows that are placed
  rows_length : (n : ℕ) → n ≡ 3 * row_count c.args.calls.now + 3 → length (take n c.args.settings_after.now) ≡ 3 * suc (row_count c.args.calls.now)
  rows_length n e = length-take-le n c.args.settings_after.now (omega (arith, settings_room)) ∙ omega arith

pub returns-in_err-check : goal.returns-in_err-check
returns-in_err-check c =
    rw (passed_on _ c.from_residual.ensures.1) (adds_refused _ _ _ _ (buffers _ _ _) _ c.in_err-check.ensures (refuses _))

pub append-end-requires : goal.append-end-requires
append-end-requires c =
    let passed = (goal.at.append-end-requires c).In_ok-check in
    omega (arith, calls_room passed, long passed, length-append c.args.calls.now c.args.call.now)

pub slice_bounds-place_and_write-end : goal.slice_bounds-place_and_write-end
unfolding row_count
slice_bounds-place_and_write-end c = omega (arith, settings_room (goal.at.slice_bounds-place_and_write-end c).In_ok-check)

pub slice_bounds-place_and_write-end-2 : goal.slice_bounds-place_and_write-end-2
unfolding row_count
slice_bounds-place_and_write-end-2 c = sym (rows_length (goal.at.slice_bounds-place_and_write-end-2 c).In_ok-check _ refl ∙ omega arith)

pub place_and_write-moved-requires : goal.place_and_write-moved-requires
unfolding row_count
place_and_write-moved-requires c =
    addable _ _ _ _ (buffers c.args.calls_after.now c.args.settings_after.now c.args.moved_rows.now) _ c.in_ok-check.ensures passed_zero
    (adds_taken c.append-end.ensures) (rows_length (goal.at.place_and_write-moved-requires c).In_ok-check _ refl)

pub returns : goal.returns
unfolding row_count
returns c =
    let written = c.append-end.ensures in
    adds_done _ _ _ _ (buffers _ _ _) _ c.in_ok-check.ensures passed_zero (adds_taken written) c.place_and_write-moved.ensures _ _ (adds_front written) refl
