-- Lists of numbers.
--   In x xs      == x stands in the list
--   Distinct xs  == no number stands in the list twice
--   up_from i n   == i, i + 1, .. as many as n
use Rattle.std.specs.Prelude.{◌≡◌, List, [], ◌∷◌, ℕ, zero, suc}

pub data In (x : ℕ) : List ℕ → Type 0 where
  here : {y : ℕ} {ys : List ℕ} → x ≡ y → In x (y ∷ ys)
  there : {y : ℕ} {ys : List ℕ} → In x ys → In x (y ∷ ys)

abbrev pub Distinct : List ℕ → Type 0
Distinct [] = Unit {0}
Distinct (x ∷ xs) = (In x xs → ⊥) × Distinct xs

unfoldable pub up_from : ℕ → ℕ → List ℕ
up_from i zero = []
up_from i (suc n) = i ∷ up_from (suc i) n
