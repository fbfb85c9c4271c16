-- Tests of every row below a bound, and pairs of numbers that rows have.
--   every_below k p    == every number below k passes p
--   some_below k p     == some number below k passes p
--   used_earlier f g i == an earlier row has the same f and the same g as row i
--   Once f g k        == no two rows below k have the same f and the same g
use Rattle.std.specs.Prelude.{◌≡◌, Bool, true, false, ◌&&◌, ◌||◌, ℕ, zero, suc, ◌<◌, eqb}

unfoldable pub every_below : ℕ → (ℕ → Bool) → Bool
every_below zero p = true
every_below (suc k) p = every_below k p && p k

unfoldable pub some_below : ℕ → (ℕ → Bool) → Bool
some_below zero p = false
some_below (suc k) p = some_below k p || p k

unfoldable pub used_earlier : (ℕ → ℕ) → (ℕ → ℕ) → ℕ → Bool
used_earlier f g i = some_below i (λ j. eqb (f j) (f i) && eqb (g j) (g i))

abbrev pub Once : (f g : ℕ → ℕ) → ℕ → Type 0
Once f g k = (i j : ℕ) → i < k → j < k → f i ≡ f j → g i ≡ g j → i ≡ j
