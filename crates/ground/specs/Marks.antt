-- A record of use: a word for each number below `top`, with a bit for each number below a word's size. The bit of a pair of numbers
-- is set where a row passed so far has that pair.
--   blank top             == the record of no rows
--   marks top f g i       == the record after the rows below i, of the pairs of their f and their g
--   Marked u u' p j before == bit j of word p of the record u is marked, in u', and `before` tells whether it was
use Rattle.std.specs.Prelude.{◌≡◌, Bool, true, List, ℕ, zero, suc, replicate}
use Rattle.ground.specs.Words.{bit_at, put_at}

unfoldable pub blank : ℕ → List ℕ
blank top = replicate top 0

unfoldable pub marks : (top : ℕ) (f g : ℕ → ℕ) → ℕ → List ℕ
marks top f g zero = blank top
marks top f g (suc i) = put_at (marks top f g i) (f i) (g i) true

pub record Marked (used used' : List ℕ) (p j : ℕ) (before : Bool) : Type 0 where
  pub told : before ≡ bit_at used p j
  pub set_there : used' ≡ put_at used p j true
