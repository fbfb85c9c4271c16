-- Sides that agree on the rows that are placed.
--   Agree f g k == f and g have the same values below k
use Rattle.std.specs.Prelude.{◌≡◌, ℕ, ◌<◌}

abbrev pub Agree : (f g : ℕ → ℕ) → ℕ → Type 0
Agree f g k = (i : ℕ) → i < k → f i ≡ g i
