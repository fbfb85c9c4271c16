-- The record of the centrals in use: one word for each module of each side, with a bit for each central, set where it is in use.
-- Only this file and its laws (RecordLaws) know what the words say.
--   modules_of_both        == how many modules the two sides of the largest network have
--   module_number output v == the number of module v among those of both sides
--   record_size, nothing_used == the words of the record, and the record of no calls
--   in_use used p c       == central c is in use at the module of number p
--   both_free used p q c  == central c is free at both modules
--   taking used p c      == the record with c taken there
--   swapping used p a b  == the record with the use of a and b exchanged there
--   found_by answer      == what a search has found, by its answer in the code
--   told k n             == the same where a search below k answers a number: this number, or none where it is not below k
--   told_central c        == the same of a search for a central
--   Recorded side γ k used == the record says of every module and central whether it is free, of the rows below k
--   Recordable rows k    == a record can be made of the rows below k
use Rattle.std.specs.Prelude.{◌≡◌, Bool, true, false, not, ◌&&◌, List, ℕ, ◌+◌, ◌*◌, ◌≤◌, ◌<◌, ltb, length, replicate, Option as Answer, Some, None}
use Rattle.std.proofs.Math.Option.{Option, none, some}
use Rattle.ground.specs.Words.{bit_at, put_at}
use Rattle.shelf.specs.Network.{most_modules, most_centrals}
use Rattle.choice.specs.Rule.{at, is_free}
use Rattle.choice.specs.Rows.{module_in, centrals_of}

unfoldable pub modules_of_both : ℕ
modules_of_both = 2 * most_modules

unfoldable pub module_number : Bool → ℕ → ℕ
module_number false v = v
module_number true v = most_modules + v

unfoldable pub record_size : ℕ
record_size = modules_of_both

unfoldable pub nothing_used : List ℕ
nothing_used = replicate record_size 0

unfoldable pub in_use : List ℕ → ℕ → ℕ → Bool
in_use used p c = bit_at used p c

unfoldable pub both_free : List ℕ → ℕ → ℕ → ℕ → Bool
both_free used p q c = not (in_use used p c) && not (in_use used q c)

unfoldable pub taking : List ℕ → ℕ → ℕ → List ℕ
taking used p c = put_at used p c true

unfoldable pub swapping : List ℕ → ℕ → ℕ → ℕ → List ℕ
swapping used p a b = put_at (put_at used p a (bit_at used p b)) p b (bit_at used p a)

abbrev pub found_by : Answer ℕ → Option ℕ
found_by (Some i) = some i
found_by None = none

unfoldable pub told : ℕ → ℕ → Option ℕ
told k n = elim (ltb n k) [ true ↦ some n | false ↦ none ]

abbrev pub told_central : ℕ → Option ℕ
told_central c = told most_centrals c

pub record Recorded (side : Bool → ℕ → ℕ) (γ : ℕ → ℕ) (k : ℕ) (used : List ℕ) : Type 0 where
  pub size : length used ≡ record_size
  pub says : (output : Bool) (v c : ℕ) → v < most_modules → c < most_centrals → in_use used (module_number output v) c ≡ not (is_free (side output) γ k v c)

pub record Recordable (rows : List ℕ) (k : ℕ) : Type 0 where
  pub rows_held : 3 * k ≤ length rows
  pub modules : (output : Bool) (i : ℕ) → i < k → module_in rows output i < most_modules
  pub centrals : (i : ℕ) → i < k → at (centrals_of rows) i < most_centrals
