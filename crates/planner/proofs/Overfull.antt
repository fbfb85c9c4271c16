-- Overfull modules: what refusal 8 finds, row by row, is a module with more calls than there are centrals.
--   fits_is             == a row is not overfull exactly where its modules have room for it
--   rows_modules, modules_rows == from rows to modules, and back
--   overfull_passes, none_overfull == 8 passes exactly where no row overfills a module, so where no module is overfull
--   some_overfull       == where it does not, some module is
use Rattle.std.specs.Prelude.{◌≡◌, ◌↔◌, Bool, true, false, not, List, T, ltb}
use Rattle.std.proofs.Math.Logic.Iff
use Rattle.std.proofs.Common.{⊎_elim, ltb→lt}
use Prim.Native.Nat.{ℕ, zero, suc, ◌≤◌, ◌<◌}
use Rattle.std.proofs.Math.Decide.{ℕ_discrete, le_ind}
use native.Mathlib.Omega.{arith}
use Rattle.std.proofs.Math.ListN.{length}
use borrow.Author.Tests.{eq-eqb, ne_eqb}
use Rattle.ground.specs.TruthLaws.{any_is, none_is}
use Rattle.ground.specs.Numbers.{at_most_is}
use Rattle.shelf.specs.declared.Network.{Network}
use Rattle.shelf.specs.Rows.{row_count, α, β, module_of}
use Rattle.shelf.specs.Order.{order}
use Rattle.calls.specs.TableLaws.{every_row, some_row}
use Rattle.choice.specs.Colouring.{rows_below}
use Rattle.choice.proofs.Count.{count_next}
use Rattle.choice.specs.Colouring.{at_module, Fits}
use Rattle.planner.specs.Steps.{AllFit}
use Rattle.planner.specs.Planner.{overfull, overfull_row, NoneOverfull, SomeOverfull}

pub fits_is : (net : Network) (calls : List ℕ) (i : ℕ) → T (not (overfull net calls i)) ↔ (Fits (α calls) (order net) i × Fits (β calls) (order net) i)
unfolding overfull
fits_is net calls i = Iff.trans (none_is _) (
  λ h. ((at_most_is _ _).0 h.0, (at_most_is _ _).0 h.1.0),
  λ h. ((at_most_is _ _).1 h.0, ((at_most_is _ _).1 h.1, tt)),
)

pub overfull_passes : (net : Network) (calls : List ℕ) → ((overfull_row net calls).number ≡ 0) ↔ AllFit net calls
unfolding overfull_row
overfull_passes net calls = Iff.trans (every_row 7 (row_count calls) (overfull net calls)) (
  λ h i l. (fits_is net calls i).0 (h i l),
  λ h i l. (fits_is net calls i).1 (h i l),
)

module _ (f : ℕ → ℕ) (ord : List ℕ) where
  -- if no row overfills its module, no module is overfull
  pub rows_modules : (k : ℕ) → ((i : ℕ) → i < k → Fits f ord i) → (v : ℕ) → length (at_module f k v) ≤ length ord
  unfolding rows_below
  rows_modules zero h v = omega arith
  rows_modules (suc k) h v = go (ℕ_discrete (f k) v) (rows_modules k (λ i l. h i (omega arith)) v)
    where
      go : Dec (f k ≡ v) → length (at_module f k v) ≤ length ord → length (at_module f (suc k) v) ≤ length ord
      go (yes e) m = rw (← e) (h k (omega arith))
      go (no n) m = rw (count_next f k v, ne_eqb (f k) v n) m

  -- a module has as many calls at least as it had among fewer rows
  count_grows : (v j k : ℕ) → j ≤ k → length (at_module f j v) ≤ length (at_module f k v)
  count_grows v j k l = le_ind (λ t. length (at_module f j v) ≤ length (at_module f t v)) (omega arith) (λ t q m. step t m (ℕ_discrete (f t) v)) k l
    where
      step : (t : ℕ) → length (at_module f j v) ≤ length (at_module f t v) → Dec (f t ≡ v) → length (at_module f j v) ≤ length (at_module f (suc t) v)
      step t m (yes e) = rw (count_next f t v, eq-eqb (f t) v e) (omega arith)
      step t m (no n) = rw (count_next f t v, ne_eqb (f t) v n) m

  -- and the other way round
  pub modules_rows : (k : ℕ) → ((v : ℕ) → length (at_module f k v) ≤ length ord) → (i : ℕ) → i < k → Fits f ord i
  modules_rows k h i l = omega (arith, count_grows (f i) (suc i) k l, h (f i))

-- no row overfills a module exactly where no module is overfull
pub none_overfull : (net : Network) (calls : List ℕ) → AllFit net calls ↔ NoneOverfull net calls
none_overfull net calls = (
  λ h output v. sides h output v,
  λ h i l. (modules_rows (α calls) (order net) (row_count calls) (h false) i l, modules_rows (β calls) (order net) (row_count calls) (h true) i l),
)
  where
    sides : AllFit net calls → (output : Bool) (v : ℕ) → length (at_module (module_of calls output) (row_count calls) v) ≤ length (order net)
    sides h true v = rows_modules (β calls) (order net) (row_count calls) (λ i l. (h i l).1) v
    sides h false v = rows_modules (α calls) (order net) (row_count calls) (λ i l. (h i l).0) v

pub some_overfull : (net : Network) (calls : List ℕ) → ((overfull_row net calls).number ≡ 0 → ⊥) → SomeOverfull net calls
unfolding overfull_row overfull
some_overfull net calls n =
    let w = some_row 7 (row_count calls) (overfull net calls) n in
    ⊎_elim
    (λ h. (false, α calls w.0, over (α calls) w.0 w.1 h))
    (λ rest. ⊎_elim (λ h. (true, β calls w.0, over (β calls) w.0 w.1 h)) (λ h. absurd h) rest)
    ((any_is _).0 w.2)
  where
    over : (f : ℕ → ℕ) (i : ℕ) → i < row_count calls → T (ltb (length (order net)) (length (at_module f (suc i) (f i)))) → length (order net) < length (at_module f (row_count calls) (f i))
    over f i l h = omega (arith, ltb→lt (length (order net)) (length (at_module f (suc i) (f i))) h, count_grows f (order net) (f i) (suc i) (row_count calls) l)
