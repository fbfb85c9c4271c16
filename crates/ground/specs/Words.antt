-- Words: numbers read by their bits, the lowest first.
--   word_size          == how many bits a machine word has
--   has_bit w j        == bit j of w is set
--   put_bit w j b      == the machine word w with bit j set, or cleared
--   inverted w        == the machine word w with every bit turned
--   Neither v w free  == the bits of the machine word `free` are those that neither v nor w has set
--   least k p         == the least number below k that passes the test; k where none does
--   First k p n       == n is at most k, none below it passes the test, and it does if it is below k
--   bit_at words p j   == bit j of word p of a list
--   put_at words p j b == the list with bit j of word p set, or cleared
use Rattle.std.specs.Prelude.{◌≡◌, Bool, true, false, not, ◌&&◌, List, ℕ, zero, suc, ◌-◌, ◌/◌, ◌%◌, ◌^◌, ◌≤◌, ◌<◌, eqb, get_or, set}
use Rattle.std.specs.Int.Bits.{bit_and, bit_or}

unfoldable pub word_size : ℕ
word_size = 32

unfoldable pub has_bit : ℕ → ℕ → Bool
has_bit w zero = eqb (w % 2) 1
has_bit w (suc j) = has_bit (w / 2) j

unfoldable pub inverted : ℕ → ℕ
inverted w = 2 ^ word_size - 1 - w

unfoldable pub put_bit : ℕ → ℕ → Bool → ℕ
put_bit w j true = bit_or w (2 ^ j)
put_bit w j false = bit_and w (inverted (2 ^ j))

abbrev pub Neither : ℕ → ℕ → ℕ → Type 0
Neither v w free = (j : ℕ) → j < word_size → has_bit free j ≡ (not (has_bit v j) && not (has_bit w j))

unfoldable pub least : ℕ → (ℕ → Bool) → ℕ
least zero p = zero
least (suc k) p = elim (p zero) [ true ↦ zero | false ↦ suc (least k (λ i. p (suc i))) ]

abbrev pub First : ℕ → (ℕ → Bool) → ℕ → Type 0
First k p n = (n ≤ k) × ((j : ℕ) → j < n → p j ≡ false) × (n < k → p n ≡ true)

unfoldable pub bit_at : List ℕ → ℕ → ℕ → Bool
bit_at words p j = has_bit (get_or words p 0) j

unfoldable pub put_at : List ℕ → ℕ → ℕ → Bool → List ℕ
put_at words p j b = set words p (put_bit (get_or words p 0) j b)
