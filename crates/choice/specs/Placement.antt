-- What placing a call rests on and leaves, in rows of three bytes with a record of use; and what the two chain steps do, row by
-- row: a row takes a central, and the call that stands on it there takes the one that the row had.
--   Mends k h f cs from central es after == the row `from` takes the central; from its module of the side h the rows es change, each to
--                               the central that the row before it had, and leave the centrals `after`
--   telling chain left es    == the rows es are told in `chain`, from the place below `left` down
--   chain_places              == the modules of both sides of the largest network, but one
--   Mendable, Mended         == what a chain step rests on, and what it leaves
--   Placeable, Placed        == what placing a call rests on, and what it leaves
--   NoCommon                 == a search found no central that is free at both modules of the call
--   MendsIn                  == the same, from a row of the slice and on one of its sides
--   earlier rows k, step_in net rows k == the centrals of the rows before row k, and the step that places it
use Rattle.std.specs.Prelude.{◌≡◌, Bool, true, false, not, List, [], ◌∷◌, ℕ, suc, ◌+◌, ◌*◌, ◌-◌, ◌≤◌, ◌<◌, T, length, set, take}
use Rattle.std.proofs.Math.Option.{none, some}
use Rattle.shelf.specs.declared.Network.{Network}
use Rattle.shelf.specs.Network.{most_modules, most_calls, within_limits}
use Rattle.shelf.specs.Order.{order}
use Rattle.shelf.specs.Rows.{ModulesBelow}
use Rattle.choice.specs.Rule.{at, first_of, row_on, step, Step}
use Rattle.choice.specs.Colouring.{at_module, Fine}
use Rattle.choice.specs.Rows.{module_in, centrals_of, Recoloured}
use Rattle.choice.specs.Record.{module_number, both_free, Recorded}

pub data Mends (k : ℕ) : (h f : ℕ → ℕ) (cs : List ℕ) (from central : ℕ) (es after : List ℕ) → Type 0 where
  stop : {h f : ℕ → ℕ} {cs : List ℕ} {from central : ℕ} → row_on h (at cs) k (h from) central ≡ none → Mends k h f cs from central [] (set cs from central)
  next : {h f : ℕ → ℕ} {cs : List ℕ} {from central : ℕ} {es after : List ℕ} (e : ℕ) → row_on h (at cs) k (h from) central ≡ some e
      → Mends k f h (set cs from central) e (at cs from) es after → Mends k h f cs from central (e ∷ es) after

unfoldable pub chain_places : ℕ
chain_places = 2 * most_modules - 1

unfoldable pub telling : (chain : List ℕ) (left : ℕ) (es : List ℕ) → List ℕ
telling chain left [] = chain
telling chain left (e ∷ es) = telling (set chain (left - 1) e) (left - 1) es

-- the chain from the output module of the row `from` where `output`, else from its input module
abbrev pub MendsIn : (k : ℕ) (output : Bool) (rows : List ℕ) (from central : ℕ) (es after : List ℕ) → Type 0
MendsIn k output rows from central es after = Mends k (module_in rows output) (module_in rows (not output)) (centrals_of rows) from central es after

-- it ends, while modules are left to meet
pub record Mendable (output : Bool) (rows : List ℕ) (from central left : ℕ) : Type 0 where
  pub k : ℕ
  pub whole : length rows ≡ 3 * suc k
  pub small : k < most_calls
  pub row : from < suc k
  pub es : List ℕ
  pub after : List ℕ
  pub mends : MendsIn k output rows from central es after
  pub enough : length es ≤ left
  pub places : left ≤ chain_places

pub record Mended (output : Bool) (rows rows' chain chain' : List ℕ) (from central left end : ℕ) : Type 0 where
  pub by_the_rows : (k : ℕ) (es after : List ℕ) → length rows ≡ 3 * suc k → MendsIn k output rows from central es after
      → Recoloured rows rows' after × (chain' ≡ telling chain left es) × (end + length es ≡ left)

-- the centrals of the rows before row k
abbrev pub earlier : List ℕ → ℕ → List ℕ
earlier rows k = take k (centrals_of rows)

-- the step of the choice rule that places row k
abbrev pub step_in : Network → List ℕ → ℕ → Step
step_in net rows k = step (module_in rows false) (module_in rows true) (order net) (earlier rows k) k

-- any colouring of the rows below k that is proper and on the shelf's own centrals, with its record, and room at the modules of row k
pub record Placeable (net : Network) (rows : List ℕ) (k : ℕ) (used chain : List ℕ) : Type 0 where
  pub limits : T (within_limits net)
  pub whole : length rows ≡ 3 * suc k
  pub small : k < most_calls
  pub modules : ModulesBelow (module_in rows false) (module_in rows true) net.r (suc k)
  pub fine : Fine (module_in rows false) (module_in rows true) (order net) (at (earlier rows k)) k
  pub recorded : Recorded (module_in rows) (at (earlier rows k)) k used
  pub places : length chain ≡ chain_places
  pub room : (output : Bool) → length (at_module (module_in rows output) k (module_in rows output k)) < length (order net)

-- "its rows are told in chain order": row i of the chain stands at the place 2 * r - 2 - i
pub record Placed (net : Network) (rows rows' : List ℕ) (k : ℕ) (used' chain chain' : List ℕ) (moved : ℕ) : Type 0 where
  pub by_the_rule : Recoloured rows rows' (step_in net rows k).centrals
  pub moved_is : moved ≡ length (step_in net rows k).moved
  pub told : chain' ≡ telling chain (2 * net.r - 1) (step_in net rows k).moved
  pub recorded : Recorded (module_in rows) (at (step_in net rows k).centrals) (suc k) used'

pub record NoCommon (net : Network) (rows : List ℕ) (k : ℕ) (used : List ℕ) : Type 0 where
  pub searched : first_of (order net) (both_free used (module_number false (module_in rows false k)) (module_number true (module_in rows true k))) ≡ none
