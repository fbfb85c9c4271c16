-- What is said of a colouring of rows by centrals: a row has a module on each side, by two functions, and a central, by a third.
--   Free f γ k v c      == no row below k stands at module v of the side f on central c
--   rows_below k p       == all numbers below k that pass the test
--   at_module f k v      == the rows below k at module v of the side f
--   Fine α β order γ k  == the rows below k are proper on both sides, and their centrals are of the order
--   Fits f order i      == with row i, its module of the side f has at most as many calls as there are centrals
use Rattle.std.specs.Prelude.{◌≡◌, Bool, true, false, List, [], ◌∷◌, ℕ, zero, suc, ◌≤◌, ◌<◌, eqb, length}
use Rattle.ground.specs.Below.{Once}
use Rattle.ground.specs.Lists.{In}

abbrev pub Free : (f γ : ℕ → ℕ) (k v c : ℕ) → Type 0
Free f γ k v c = (q : ℕ) → q < k → f q ≡ v → γ q ≡ c → ⊥

unfoldable pub rows_below : ℕ → (ℕ → Bool) → List ℕ
rows_below zero p = []
rows_below (suc k) p = elim (p k) [ true ↦ k ∷ rows_below k p | false ↦ rows_below k p ]

abbrev pub at_module : (f : ℕ → ℕ) (k v : ℕ) → List ℕ
at_module f k v = rows_below k (λ i. eqb (f i) v)

pub record Fine (α β : ℕ → ℕ) (order : List ℕ) (γ : ℕ → ℕ) (k : ℕ) : Type 0 where
  pub proper_α : Once α γ k
  pub proper_β : Once β γ k
  pub inside : (i : ℕ) → i < k → In (γ i) order

abbrev pub Fits : (f : ℕ → ℕ) (order : List ℕ) (i : ℕ) → Type 0
Fits f order i = length (at_module f (suc i) (f i)) ≤ length order
