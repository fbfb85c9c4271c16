-- Rows of three bytes, in which the calls placed so far lie: input module, central, output module.
--   module_in rows output i   == the output module of row i where `output`, else its input module
--   centrals_of rows          == the centrals of the rows, in row order
--   Recoloured rows rows' cs == of the rows only the centrals have changed, and they are cs now
use Rattle.std.specs.Prelude.{◌≡◌, Bool, true, false, List, [], ◌∷◌, ℕ, ◌+◌, ◌*◌, length, get_or}

unfoldable pub module_in : List ℕ → Bool → ℕ → ℕ
module_in rows true i = get_or rows (3 * i + 2) 0
module_in rows false i = get_or rows (3 * i) 0

unfoldable pub centrals_of : List ℕ → List ℕ
centrals_of [] = []
centrals_of (α ∷ []) = []
centrals_of (α ∷ γ ∷ []) = []
centrals_of (α ∷ γ ∷ β ∷ rows) = γ ∷ centrals_of rows

pub record Recoloured (rows rows' cs : List ℕ) : Type 0 where
  pub size : length rows' ≡ length rows
  pub modules : (output : Bool) (i : ℕ) → module_in rows' output i ≡ module_in rows output i
  pub centrals : centrals_of rows' ≡ cs
