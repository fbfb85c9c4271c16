-- A table's bytes as rows of a fixed number of bytes.
--   chunk_byte == byte j of row i, where a row has n bytes
use Rattle.std.specs.Prelude.{◌≡◌, List, [], ℕ, zero, suc, ◌+◌, ◌*◌, ◌<◌, get_or, drop}
use Rattle.std.specs.Simd.{first_chunks}
use Rattle.std.proofs.Common.{◌∙◌, ap, arith, get_or-take, get_or-drop}
use Rattle.std.proofs.Math.Nat.{mul-suc}

pub chunk_byte : (n k i j : ℕ) (bytes : List ℕ) → i < k → j < n → get_or (get_or (first_chunks n k bytes) i []) j 0 ≡ get_or bytes (n * i + j) 0
chunk_byte n zero i j bytes l m = absurd (omega arith)
chunk_byte n (suc k) zero j bytes l m = get_or-take n bytes j 0 m ∙ ap (λ (t : ℕ). get_or bytes t 0) (omega arith)
chunk_byte n (suc k) (suc i) j bytes l m = chunk_byte n k i j (drop n bytes) (omega arith) m ∙ get_or-drop n bytes (n * i + j) 0 ∙ ap (λ (t : ℕ). get_or bytes t 0) (omega (arith, mul-suc n i))
