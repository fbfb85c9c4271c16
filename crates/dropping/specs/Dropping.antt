-- What a drop answers and writes, as functions of its input.
--   without_row w row bytes      == a table of w bytes a row without that row; later rows close up
--   Lent                        == the two buffers that are lent
--   no_such_row calls row         == 17, a row that is not there
--   no_room K c s                == 4, no room for K calls or K settings in buffers of c and s bytes; Room, that there is
--   drop_checks, drop_verdict     == the checks in their order; number and row
--   drop_buffers                 == the buffers afterwards
--   DropsCall net calls settings row before after v == what the entry guarantees
use Rattle.std.specs.Prelude.{◌≡◌, ◌↔◌, Bool, cond, List, [], ◌∷◌, ◌++◌, ℕ, suc, ◌+◌, ◌*◌, ◌-◌, ◌≤◌, ◌<◌, eqb, leb, ltb, length, take, drop}
use Rattle.ground.specs.Truth.{any}
use Rattle.ground.specs.Bytes.{front}
use Rattle.shelf.specs.declared.Network.{Network}
use Rattle.shelf.specs.Rows.{row_count, γ, module_of}
use Rattle.shelf.specs.Light.{Lawful}
use Rattle.calls.specs.declared.Verdict.{Verdict}
use Rattle.calls.specs.Verdict.{refused_if, answer}
use Rattle.calls.specs.Table.{InOrder}
use Rattle.choice.specs.Colouring.{Free}
use Rattle.acceptance.specs.Acceptance.{acceptance}

-- "Dropping removes a row, and later rows close up"
unfoldable pub without_row : (w row : ℕ) → List ℕ → List ℕ
without_row w row bytes = take (w * row) bytes ++ drop (w * row + w) bytes

-- "it writes the two tables"
pub record Lent : Type 0 where
  pub calls : List ℕ
  pub settings : List ℕ

-- 17: "for a row that isn't there"
unfoldable pub no_such_row : List ℕ → ℕ → Verdict
no_such_row calls row = refused_if 17 0 (leb (row_count calls) row)

-- 4: "output buffer too short"
unfoldable pub no_room : (K c s : ℕ) → Verdict
no_room K c s = refused_if 4 0 (any (ltb c (4 * K) ∷ ltb s (3 * K) ∷ []))

pub record Room (K : ℕ) (before : Lent) : Type 0 where
  pub for_calls : 4 * K ≤ length before.calls
  pub for_settings : 3 * K ≤ length before.settings

-- "acceptance of what is given comes first; .. for a drop 17 for a row that isn't there, then 4"
unfoldable pub drop_checks : Network → (calls settings : List ℕ) (row c s : ℕ) → List Verdict
drop_checks net calls settings row c s = acceptance net calls settings ∷ no_such_row calls row ∷ no_room (row_count calls - 1) c s ∷ []

-- Success tells the K of the table written.
unfoldable pub drop_verdict : Network → (calls settings : List ℕ) (row : ℕ) → Lent → Verdict
drop_verdict net calls settings row before =
    answer (drop_checks net calls settings row (length before.calls) (length before.settings)) (row_count calls - 1)

unfoldable pub drop_buffers : Network → (calls settings : List ℕ) (row : ℕ) → Lent → Lent
drop_buffers net calls settings row before =
    cond (eqb (drop_verdict net calls settings row before).number 0)
    (record { calls = front before.calls (without_row 4 row calls); settings = front before.settings (without_row 3 row settings) })
    before

pub record DropsCall (net : Network) (calls settings : List ℕ) (row : ℕ) (before after : Lent) (v : Verdict) : Type 0 where
  -- number and row, and every byte of the buffers, for every input
  pub answer : v ≡ drop_verdict net calls settings row before
  pub buffers : after ≡ drop_buffers net calls settings row before
  -- a drop is made exactly where lawful settings are given, the row is there, and there is room
  pub exactly : (v.number ≡ 0) ↔ (InOrder net calls × Lawful net calls settings × (row < row_count calls) × Room (row_count calls - 1) before)
  -- what is written are the two tables, of as many rows as are told: a table in order, and lawful settings for it
  pub written : v.number ≡ 0 → (take (4 * v.row) after.calls ≡ without_row 4 row calls) × (take (3 * v.row) after.settings ≡ without_row 3 row settings)
  pub lawful : v.number ≡ 0 → InOrder net (without_row 4 row calls) × Lawful net (without_row 4 row calls) (without_row 3 row settings)
  -- the central of the dropped call is free at both its modules
  pub freed : v.number ≡ 0 → (output : Bool) → Free (module_of (without_row 4 row calls) output) (γ (without_row 3 row settings)) v.row (module_of calls output row) (γ settings row)
  -- a refused call changes no byte
  pub unchanged : (v.number ≡ 0 → ⊥) → after ≡ before
  -- one row less
  pub tells_k : v.number ≡ 0 → (v.row ≡ row_count (without_row 4 row calls)) × (suc v.row ≡ row_count calls)
