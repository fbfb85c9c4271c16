-- What it means that a drop's checks pass, what it then writes, and that two answers coincide.
--   Droppable ..         == lawful settings are given, the row is there, and there is room: the row can be dropped
--   checks_pass, verdict_passes == the checks pass exactly there, and number 0 says so
--   drops                == answer and buffers have the guarantee
--   one_answer           == two answers that satisfy it are the same, with the buffers that they leave
--   can_drop, calls_close_up, settings_close_up == for the code of the entry: what is known where all checks passed
--   refused_drops, done_drops == and the guarantee, where a check refused and where all passed
use Rattle.std.specs.Prelude.{◌≡◌, ◌↔◌, Bool, List, ℕ, suc, ◌+◌, ◌*◌, ◌-◌, ◌<◌, leb, length, take}
use Rattle.std.proofs.Common.{sym, ◌∙◌, arith}
use Rattle.std.proofs.Math.Path.{ap}
use Rattle.std.proofs.Math.Logic.Iff
use borrow.Author.Tests.{eq-eqb, ne_eqb}
use Rattle.ground.specs.TruthLaws.{none_is}
use Rattle.ground.specs.Numbers.{less_is, at_most_is}
use Rattle.ground.specs.Bytes.{front}
use Rattle.ground.specs.BytesLaws.{take_front}
use Rattle.shelf.specs.declared.Network.{Network}
use Rattle.shelf.specs.Rows.{row_count, γ, module_of}
use Rattle.shelf.specs.Light.{Lawful}
use Rattle.shelf.proofs.LawfulLaws.{lawful_parts}
use Rattle.calls.specs.declared.Verdict.{Verdict}
use Rattle.calls.specs.Verdict.{success, in_turn, AllPass}
use Rattle.calls.specs.VerdictLaws.{turn_passes, answer_passes, answer_success, answer_refused, answer_passed, refused_zero}
use Rattle.calls.specs.Table.{InOrder}
use Rattle.choice.specs.Colouring.{Free}
use Rattle.acceptance.proofs.Exactly.{accepted_is}
use Rattle.dropping.specs.Dropping.{without_row, Lent, no_such_row, no_room, Room, drop_checks, drop_verdict, drop_buffers, DropsCall}
use Rattle.dropping.proofs.WithoutRow.{ClosesUp, length_without, closes_up, count_without, in_order_without, lawful_without, central_free}

-- ---- when each check passes

row_passes : (calls : List ℕ) (row : ℕ) → ((no_such_row calls row).number ≡ 0) ↔ (row < row_count calls)
unfolding no_such_row
row_passes calls row = Iff.trans (refused_zero 16 0 (leb (row_count calls) row)) (less_is row (row_count calls))

room_passes : (K : ℕ) (before : Lent) → ((no_room K (length before.calls) (length before.settings)).number ≡ 0) ↔ Room K before
unfolding no_room
room_passes K before = Iff.trans (refused_zero 3 0 _) (Iff.trans (none_is _) (
  λ (calls, (settings, _)). record { for_calls = (at_most_is (4 * K) _).0 calls; for_settings = (at_most_is (3 * K) _).0 settings },
  λ h. ((at_most_is (4 * K) _).1 h.for_calls, ((at_most_is (3 * K) _).1 h.for_settings, tt)),
))

abbrev pub Droppable : Network → (calls settings : List ℕ) (row : ℕ) → Lent → Type 0
Droppable net calls settings row before = InOrder net calls × Lawful net calls settings × (row < row_count calls) × Room (row_count calls - 1) before

module _ (net : Network) (calls settings : List ℕ) (row : ℕ) (before : Lent) where
  pub checks_pass : AllPass (drop_checks net calls settings row (length before.calls) (length before.settings)) ↔ Droppable net calls settings row before
  unfolding drop_checks
  checks_pass = (
    λ (given, (seventeen, (four, _))).
        let (table, lawful) = (accepted_is net calls settings).0 given in
        (table, lawful, (row_passes calls row).0 seventeen, (room_passes (row_count calls - 1) before).0 four),
    λ (table, lawful, there, room).
        ((accepted_is net calls settings).1 (table, lawful), ((row_passes calls row).1 there, ((room_passes (row_count calls - 1) before).1 room, tt))),
  )

  -- a drop is made exactly where lawful settings are given, the row is there, and there is room
  pub verdict_passes : ((drop_verdict net calls settings row before).number ≡ 0) ↔ Droppable net calls settings row before
  unfolding drop_verdict
  verdict_passes = Iff.trans (answer_passes _ (row_count calls - 1)) checks_pass

-- ---- the guarantee, from answer and buffers alone

module _ (net : Network) (calls settings : List ℕ) (row : ℕ) (before after : Lent) (v : Verdict) (answer : v ≡ drop_verdict net calls settings row before) (buffers : after ≡ drop_buffers net calls settings row before) where
  exactly : (v.number ≡ 0) ↔ Droppable net calls settings row before
  exactly = rw answer (verdict_passes net calls settings row before)

  tells : v.number ≡ 0 → v.row ≡ row_count calls - 1
  unfolding drop_verdict success
  tells z = ap (λ (u : Verdict). u.row) (answer ∙ answer_success _ (row_count calls - 1) (rw answer at z))

  made : v.number ≡ 0 → after ≡ record { calls = front before.calls (without_row 4 row calls); settings = front before.settings (without_row 3 row settings) }
  unfolding drop_buffers
  made z = buffers ∙ rw (← answer, eq-eqb v.number 0 z)

  unchanged : (v.number ≡ 0 → ⊥) → after ≡ before
  unfolding drop_buffers
  unchanged n = buffers ∙ rw (← answer, ne_eqb v.number 0 n)

  written : v.number ≡ 0 → (take (4 * v.row) after.calls ≡ without_row 4 row calls) × (take (3 * v.row) after.settings ≡ without_row 3 row settings)
  written z =
      let (table, lawful, there, _) = exactly.0 z in
      rw (made z, tells z) (
        take_front before.calls _ (4 * (row_count calls - 1)) (length_without 4 row (row_count calls) calls table.whole there),
        take_front before.settings _ (3 * (row_count calls - 1)) (length_without 3 row (row_count calls) settings ((lawful_parts net calls settings).0 lawful).whole there),
      )

  lawful_left : v.number ≡ 0 → InOrder net (without_row 4 row calls) × Lawful net (without_row 4 row calls) (without_row 3 row settings)
  lawful_left z =
      let (table, lawful, there, _) = exactly.0 z in
      (in_order_without net calls row table there, lawful_without net calls row table there settings lawful)

  freed : v.number ≡ 0 → (output : Bool) → Free (module_of (without_row 4 row calls) output) (γ (without_row 3 row settings)) v.row (module_of calls output row) (γ settings row)
  freed z =
      let (table, lawful, there, _) = exactly.0 z in
      rw (tells z) (central_free net calls row table there settings lawful)

  tells_k : v.number ≡ 0 → (v.row ≡ row_count (without_row 4 row calls)) × (suc v.row ≡ row_count calls)
  tells_k z =
      let (table, lawful, there, _) = exactly.0 z in
      (tells z ∙ sym (count_without calls row table.whole there), omega (arith, tells z))

  pub drops : DropsCall net calls settings row before after v
  drops = record {
    answer = answer;
    buffers = buffers;
    exactly = exactly;
    written = written;
    lawful = lawful_left;
    freed = freed;
    unchanged = unchanged;
    tells_k = tells_k;
  }

-- two answers that satisfy the guarantee are the same, and so are the buffers that they leave
pub one_answer : (net : Network) (calls settings : List ℕ) (row : ℕ) (before after after' : Lent) (v v' : Verdict)
    → DropsCall net calls settings row before after v → DropsCall net calls settings row before after' v' → (v ≡ v') × (after ≡ after')
one_answer net calls settings row before after after' v v' g h = (g.answer ∙ sym h.answer, g.buffers ∙ sym h.buffers)

-- ---- for the code: what the checks found is the answer where they refuse, and else the shorter tables are put at the buffers' front

module _ (net : Network) (calls settings : List ℕ) (row : ℕ) (before : Lent) (u : Verdict) (e : u ≡ in_turn (drop_checks net calls settings row (length before.calls) (length before.settings))) where
  pub refused_drops : (u.number ≡ 0 → ⊥) → DropsCall net calls settings row before before u
  unfolding drop_verdict drop_buffers
  refused_drops n =
      let answer = answer_refused _ (row_count calls - 1) e n in
      drops net calls settings row before before u answer (rw (← answer, ne_eqb u.number 0 n))

  module _ (z : u.number ≡ 0) where
    pub can_drop : Droppable net calls settings row before
    can_drop = (checks_pass net calls settings row before).0 ((turn_passes _).0 (rw e at z))

    pub calls_close_up : ClosesUp (4 * row) (4 * row + 4) (length calls) (length before.calls)
    calls_close_up = let (table, lawful, there, room) = can_drop in closes_up 4 row (row_count calls) calls table.whole there _ room.for_calls

    pub settings_close_up : ClosesUp (3 * row) (3 * row + 3) (length settings) (length before.settings)
    settings_close_up =
        let (table, lawful, there, room) = can_drop in
        closes_up 3 row (row_count calls) settings ((lawful_parts net calls settings).0 lawful).whole there _ room.for_settings

    pub done_drops : (calls-after settings-after : List ℕ) → calls-after ≡ front before.calls (without_row 4 row calls) → settings-after ≡ front before.settings (without_row 3 row settings)
        → DropsCall net calls settings row before (record { calls = calls-after; settings = settings-after }) (success (row_count calls - 1))
    unfolding drop_verdict drop_buffers success
    done_drops calls-after settings-after c s =
        let answer = answer_passed _ (row_count calls - 1) e z in
        drops net calls settings row before _ (success (row_count calls - 1)) answer (rw (← answer, c, s))
