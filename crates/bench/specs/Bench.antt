-- The bench table of the scope of work, written once: twelve cases in nineteen parts, each with what is asked and what comes back. A reader holds
-- this file beside the scope's part "Bench table".
--   call, setting        == the bytes of one call row, and of one settings row
--   Asked                == who answers: the planner with so many bytes of room, or acceptance of given settings
--   Outcome              == number, row and moved count, and every byte of the room afterwards
--   Part                 == a part of a case: its network and calls, who is asked, and the outcome that is written
--   blank                == what each byte of the room is before: no settings of the table have such a byte
--   plans, accepts       == a part as the scope writes it
--   bench_table           == the twelve cases
--   ruled part           == the outcome by the written rules
--   calls_of3, settings_of3   == the calls of case 3, which case 12 uses too, and their settings
--   by_planner, by_acceptance, ruled_by == an outcome from what each of the two answers, and of who is asked
use Rattle.std.specs.Prelude.{List, [], ◌∷◌, ◌++◌, ℕ, ◌-◌, length, replicate}
use Rattle.shelf.specs.declared.Network.{Network}
use Rattle.shelf.specs.Network.{of_sizes}
use Rattle.calls.specs.declared.Verdict.{Verdict}
use Rattle.acceptance.specs.Acceptance.{acceptance}
use Rattle.planner.specs.declared.Planned.{Planned}
use Rattle.planner.specs.Planner.{plan_answer, plan_buffer}

unfoldable pub call : ℕ → ℕ → ℕ → ℕ → List ℕ
call α ω β ω' = α ∷ ω ∷ β ∷ ω' ∷ []

unfoldable pub setting : ℕ → ℕ → ℕ → List ℕ
setting x γ y = x ∷ γ ∷ y ∷ []

pub data Asked : Type 0 where
  planner : (room : ℕ) → Asked
  acceptor : (settings : List ℕ) → Asked

pub record Outcome : Type 0 where
  pub number : ℕ
  pub row : ℕ
  pub moved : ℕ
  pub after : List ℕ

pub record Part : Type 0 where
  pub case : ℕ
  pub net : Network
  pub calls : List ℕ
  pub asked : Asked
  pub outcome : Outcome

unfoldable pub blank : ℕ
blank = 9

-- the planner, lent a room of so many bytes: what is written stands at its front, and the bytes beyond are as they were
unfoldable pub plans : ℕ → Network → List ℕ → ℕ → (number row moved : ℕ) → List ℕ → Part
plans case net calls room number row moved written = record {
  case = case;
  net = net;
  calls = calls;
  asked = planner room;
  outcome = record { number = number; row = row; moved = moved; after = written ++ replicate (room - length written) blank };
}

-- acceptance is lent nothing to write, and moves nothing
unfoldable pub accepts : ℕ → Network → List ℕ → List ℕ → (number row : ℕ) → Part
accepts case net calls settings number row =
    record { case = case; net = net; calls = calls; asked = acceptor settings; outcome = record { number = number; row = row; moved = 0; after = [] } }

-- the calls of case 3, which case 12 uses too, and their settings
unfoldable pub calls_of3 : List ℕ
calls_of3 = call 0 0 0 0 ++ call 1 0 1 0 ++ call 1 1 0 1 ++ call 0 1 1 1

unfoldable pub settings_of3 : List ℕ
settings_of3 = setting 0 0 0 ++ setting 1 0 1 ++ setting 0 1 1 ++ setting 1 1 0

-- "Sizes are given n-m-r." Where the scope says nothing of the room, it is enough; in case 3 it is more than enough.
unfoldable pub bench_table : List Part
bench_table =
    -- 1. "1-1-1, no calls: 0, K 0, moved 0."
    plans 1 (of_sizes 1 1 1) [] 0 0 0 0 []
    -- 2. "1-1-1, call 0 0 0 0: settings 0 0 0."
    ∷ plans 2 (of_sizes 1 1 1) (call 0 0 0 0) 3 0 1 0 (setting 0 0 0)
    -- 3. "2-2-2, calls 0 0 0 0, 1 0 1 0, 1 1 0 1, 0 1 1 1: settings 0 0 0, 1 0 1, 0 1 1, 1 1 0; moved 0."
    ∷ plans 3 (of_sizes 2 2 2) calls_of3 16 0 4 0 settings_of3
    -- 4. "2-2-3, calls 0 0 0 0, 0 1 1 0, 1 0 2 0, 1 1 1 1: settings 1 1 1, 0 0 1, 1 0 2, 2 1 2; moved 2 (rows 1 and 0)."
    ∷ plans 4 (of_sizes 2 2 3) (call 0 0 0 0 ++ call 0 1 1 0 ++ call 1 0 2 0 ++ call 1 1 1 1) 12 0 4 2
    (setting 1 1 1 ++ setting 0 0 1 ++ setting 1 0 2 ++ setting 2 1 2)
    -- 5. "2-1-1, calls 0 0 0 0, 0 1 0 1: refusal 8 row 1. With 2-2-1: settings 0 0 0, 1 1 1."
    ∷ plans 5 (of_sizes 2 1 1) (call 0 0 0 0 ++ call 0 1 0 1) 6 8 1 0 []
    ∷ plans 5 (of_sizes 2 2 1) (call 0 0 0 0 ++ call 0 1 0 1) 6 0 2 0 (setting 0 0 0 ++ setting 1 1 1)
    -- 6. "2-2-1, calls 0 0 0 0, 0 0 0 1: refusal 6 row 1."
    ∷ plans 6 (of_sizes 2 2 1) (call 0 0 0 0 ++ call 0 0 0 1) 6 6 1 0 []
    -- 7. "2-2-1, calls 0 0 0 0, 0 1 0 0: refusal 7 row 1."
    ∷ plans 7 (of_sizes 2 2 1) (call 0 0 0 0 ++ call 0 1 0 0) 6 7 1 0 []
    -- 8. "1-1-1, call 1 0 0 0: refusal 5 row 0."
    ∷ plans 8 (of_sizes 1 1 1) (call 1 0 0 0) 3 5 0 0 []
    -- 9. "Acceptance, 2-2-2, call 0 0 1 0: settings 1 1 0 accepted; 2 1 0 refused 9; 1 0 0 refused 10; 1 1 1 refused 11."
    ∷ accepts 9 (of_sizes 2 2 2) (call 0 0 1 0) (setting 1 1 0) 0 1
    ∷ accepts 9 (of_sizes 2 2 2) (call 0 0 1 0) (setting 2 1 0) 9 0
    ∷ accepts 9 (of_sizes 2 2 2) (call 0 0 1 0) (setting 1 0 0) 10 0
    ∷ accepts 9 (of_sizes 2 2 2) (call 0 0 1 0) (setting 1 1 1) 11 0
    -- 10. "2-2-2, calls 0 0 0 0, 0 1 1 0, settings 0 0 0, 0 0 1: 12 row 1."
    ∷ accepts 10 (of_sizes 2 2 2) (call 0 0 0 0 ++ call 0 1 1 0) (setting 0 0 0 ++ setting 0 0 1) 12 1
    -- 11. "2-2-2, calls 0 0 0 0, 1 0 0 1, settings 0 0 0, 1 0 0: 13 row 1."
    ∷ accepts 11 (of_sizes 2 2 2) (call 0 0 0 0 ++ call 1 0 0 1) (setting 0 0 0 ++ setting 1 0 0) 13 1
    -- 12. "1-32-1, no calls: 0, K 0; 1-33-1, no calls: refusal 1 row 0. The calls of case 3 with 12 bytes of room succeed, with 11
    -- they give 4 row 0."
    ∷ plans 12 (of_sizes 1 32 1) [] 0 0 0 0 []
    ∷ plans 12 (of_sizes 1 33 1) [] 0 1 0 0 []
    ∷ plans 12 (of_sizes 2 2 2) calls_of3 12 0 4 0 settings_of3
    ∷ plans 12 (of_sizes 2 2 2) calls_of3 11 4 0 0 []
    ∷ []

unfoldable pub by_planner : Planned → List ℕ → Outcome
by_planner a after = record { number = a.number; row = a.row; moved = a.moved; after = after }

unfoldable pub by_acceptance : Verdict → Outcome
by_acceptance v = record { number = v.number; row = v.row; moved = 0; after = [] }

unfoldable pub ruled_by : Asked → Network → List ℕ → Outcome
ruled_by (planner room) net calls = by_planner (plan_answer net calls room) (plan_buffer net calls (replicate room blank))
ruled_by (acceptor settings) net calls = by_acceptance (acceptance net calls settings)

unfoldable pub ruled : Part → Outcome
ruled part = ruled_by part.asked part.net part.calls
