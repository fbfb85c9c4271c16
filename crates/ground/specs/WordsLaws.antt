-- Laws of words, over the bit: what a bit is after each change, and the least bit that is set.
--   shifted_bit           == a bit, by a shift and a remainder
--   neither_bit           == the bits that neither of two words has set
--   put_bit_lem               == a bit that is put, and every other, which is kept
--   no_bit                == the bits of 0
--   trailing_least        == the zeros below the lowest bit that is set count up to it
--   least_is              == the least number is the first that passes
--   put_at_lem, length_put_at == the same of a list of words
use Rattle.std.specs.Prelude.{◌≡◌, refl, Bool, true, false, not, ◌&&◌, ◌||◌, List, length, get_or, set}
use Rattle.std.proofs.Common.{sym, ap₂, ◌∙◌, pow-suc, arith, shr-shr, eq-eqb, ne_eqb}
use Rattle.std.proofs.Math.Path.{ap}
use Rattle.std.proofs.Math.Bool.{cond}
use Prim.Native.Nat.{ℕ, zero, suc, ◌+◌, ◌-◌, ◌*◌, ◌/◌, ◌%◌, ◌^◌, ◌<◌, min, max}
use Rattle.std.proofs.Math.Decide.{ℕ_discrete}
use Rattle.std.proofs.Math.Dec.{eqb}
use Rattle.std.proofs.Math.Arith.{digits_div, digits_mod}
use Rattle.std.specs.Int.Bits.{bit_and, bit_or, and_step, or_step}
use Rattle.std.proofs.lemmas.Nat.{or_lt}
use Rattle.std.specs.Int.Count.{count_trailing_zeros, under}
use Rattle.std.proofs.Math.ListN.{length-set}
use Rattle.std.proofs.Math.Pow.{pow-lt}
use Rattle.std.proofs.Math.Seq.{get_or-set_same, get_or-set_other}
use Rattle.ground.specs.TruthLaws.{same_test}
use Rattle.ground.specs.Numbers.{eqb_is}
use Rattle.ground.specs.Words.{word_size, has_bit, put_bit, inverted, Neither, least, First, bit_at, put_at}

-- a bit as a number, and the lowest bit of a word
abbrev one : Bool → ℕ
one true = 1
one false = 0

one_is : (b : Bool) → eqb (one b) 1 ≡ b
one_is true = refl
one_is false = refl

one_small : (b : Bool) → one b < 2
one_small true = omega arith
one_small false = omega arith

lowest_is : (w : ℕ) → w % 2 ≡ one (eqb (w % 2) 1)
lowest_is w = go (ℕ_discrete (w % 2) 1)
  where
    go : Dec (w % 2 ≡ 1) → w % 2 ≡ one (eqb (w % 2) 1)
    go (yes e) = rw (eq-eqb (w % 2) 1 e, e)
    go (no n) = rw (ne_eqb (w % 2) 1 n) (omega arith)

pub shifted_bit : (w j : ℕ) → eqb (w / 2 ^ j % 2) 1 ≡ has_bit w j
unfolding has_bit
shifted_bit w zero = let e : w / 1 ≡ w = omega arith in rw e
shifted_bit w (suc j) = ap (λ (t : ℕ). eqb (t % 2) 1) (sym (shr-shr w 1 j ∙ ap (λ (t : ℕ). w / 2 ^ t) (omega arith))) ∙ shifted_bit (w / 2) j

pub no_bit : (j : ℕ) → has_bit 0 j ≡ false
unfolding has_bit
no_bit zero = refl
no_bit (suc j) = no_bit j

-- ---- an operation on each bit apart

module _ (op f : ℕ → ℕ → ℕ) (g : Bool → Bool → Bool) (step : (v w : ℕ) → op v w ≡ op (v / 2) (w / 2) * 2 + f (v % 2) (w % 2))
    (digit : (s t : Bool) → f (one s) (one t) ≡ one (g s t)) where
  lowest_of : (v w : ℕ) → f (v % 2) (w % 2) ≡ one (g (eqb (v % 2) 1) (eqb (w % 2) 1))
  lowest_of v w = ap₂ f (lowest_is v) (lowest_is w) ∙ digit (eqb (v % 2) 1) (eqb (w % 2) 1)

  small : (v w : ℕ) → f (v % 2) (w % 2) < 2
  small v w = rw (lowest_of v w) (one_small (g (eqb (v % 2) 1) (eqb (w % 2) 1)))

  each_bit : (v w j : ℕ) → has_bit (op v w) j ≡ g (has_bit v j) (has_bit w j)
  unfolding has_bit
  each_bit v w zero = ap (λ (t : ℕ). eqb t 1) (ap (λ (t : ℕ). t % 2) (step v w) ∙ digits_mod (op (v / 2) (w / 2)) (small v w) ∙ lowest_of v w) ∙ one_is (g (eqb (v % 2) 1) (eqb (w % 2) 1))
  each_bit v w (suc j) = rw (ap (λ (t : ℕ). t / 2) (step v w) ∙ digits_div (op (v / 2) (w / 2)) (small v w)) (each_bit (v / 2) (w / 2) j)

or_bit : (v w j : ℕ) → has_bit (bit_or v w) j ≡ (has_bit v j || has_bit w j)
or_bit = each_bit bit_or max ◌||◌ or_step digit
  where
    digit : (s t : Bool) → max (one s) (one t) ≡ one (s || t)
    digit true true = refl
    digit true false = refl
    digit false true = refl
    digit false false = refl

and_bit : (v w j : ℕ) → has_bit (bit_and v w) j ≡ (has_bit v j && has_bit w j)
and_bit = each_bit bit_and min ◌&&◌ and_step digit
  where
    digit : (s t : Bool) → min (one s) (one t) ≡ one (s && t)
    digit true true = refl
    digit true false = refl
    digit false true = refl
    digit false false = refl

-- ---- every bit turned

turned_bit : (k w j : ℕ) → w < 2 ^ k → j < k → has_bit (2 ^ k - 1 - w) j ≡ not (has_bit w j)
unfolding has_bit
turned_bit zero w j l m = absurd (omega arith)
turned_bit (suc k) w zero l m = go (ℕ_discrete (w % 2) 1)
  where
    go : Dec (w % 2 ≡ 1) → eqb ((2 ^ suc k - 1 - w) % 2) 1 ≡ not (eqb (w % 2) 1)
    go (yes e) = rw (eq-eqb (w % 2) 1 e) (ne_eqb ((2 ^ suc k - 1 - w) % 2) 1 (λ d. omega (arith, pow-suc 2 k)))
    go (no n) = rw (ne_eqb (w % 2) 1 n) (eq-eqb ((2 ^ suc k - 1 - w) % 2) 1 (omega (arith, pow-suc 2 k)))
turned_bit (suc k) w (suc j) l m =
    let e : (2 ^ suc k - 1 - w) / 2 ≡ 2 ^ k - 1 - w / 2 = omega (arith, pow-suc 2 k) in
    rw e (turned_bit k (w / 2) j (omega (arith, pow-suc 2 k)) (omega arith))

inverted_bit : (w j : ℕ) → w < 2 ^ word_size → j < word_size → has_bit (inverted w) j ≡ not (has_bit w j)
unfolding inverted
inverted_bit = turned_bit word_size

pub neither_bit : (v w : ℕ) → v < 2 ^ word_size → w < 2 ^ word_size → Neither v w (inverted (bit_or v w))
neither_bit v w hv hw j l = inverted_bit (bit_or v w) j (or_lt word_size v w hv hw) l ∙ ap not (or_bit v w j) ∙ not_or (has_bit v j) (has_bit w j)
  where
    not_or : (s t : Bool) → not (s || t) ≡ (not s && not t)
    not_or true t = refl
    not_or false t = refl

-- ---- one bit

one_bit : (j i : ℕ) → has_bit (2 ^ j) i ≡ eqb i j
unfolding has_bit
one_bit zero zero = refl
one_bit zero (suc i) = no_bit i ∙ sym (ne_eqb (suc i) 0 (λ e. omega arith))
one_bit (suc j) zero = let e : 2 ^ suc j % 2 ≡ 0 = omega (arith, pow-suc 2 j) in rw (e, ne_eqb 0 (suc j) (λ d. omega arith))
one_bit (suc j) (suc i) =
    let e : 2 ^ suc j / 2 ≡ 2 ^ j = omega (arith, pow-suc 2 j) in
    rw e (one_bit j i ∙ same_test (eqb i j) (eqb (suc i) (suc j)) (λ t. (eqb_is (suc i) (suc j)).1 (ap suc ((eqb_is i j).0 t)), λ t. (eqb_is i j).1 (omega (arith, (eqb_is (suc i) (suc j)).0 t))))

pub put_bit_lem : (w j i : ℕ) (b : Bool) → j < word_size → i < word_size → has_bit (put_bit w j b) i ≡ cond (eqb i j) b (has_bit w i)
unfolding put_bit
put_bit_lem w j i true l m = or_bit w (2 ^ j) i ∙ rw (one_bit j i) (either (has_bit w i) (eqb i j))
  where
    either : (s t : Bool) → (s || t) ≡ cond t true s
    either true true = refl
    either true false = refl
    either false true = refl
    either false false = refl
put_bit_lem w j i false l m = and_bit w (inverted (2 ^ j)) i ∙ rw (inverted_bit (2 ^ j) i (pow-lt l) m, one_bit j i) (unless (has_bit w i) (eqb i j))
  where
    unless : (s t : Bool) → (s && not t) ≡ cond t false s
    unless true true = refl
    unless true false = refl
    unless false true = refl
    unless false false = refl

module _ (words : List ℕ) (p j : ℕ) (b : Bool) where
  pub length_put_at : length (put_at words p j b) ≡ length words
  unfolding put_at
  length_put_at = length-set words p (put_bit (get_or words p 0) j b)

  pub put_at_lem : (q i : ℕ) → q < length words → j < word_size → i < word_size → bit_at (put_at words p j b) q i ≡ cond (eqb q p && eqb i j) b (bit_at words q i)
  unfolding bit_at put_at
  put_at_lem q i room l m = go (ℕ_discrete q p)
    where
      go : Dec (q ≡ p) → has_bit (get_or (set words p (put_bit (get_or words p 0) j b)) q 0) i ≡ cond (eqb q p && eqb i j) b (has_bit (get_or words q 0) i)
      go (yes e) = rw (eq-eqb q p e, e, get_or-set_same words p (put_bit (get_or words p 0) j b) 0 (rw e at room)) (put_bit_lem (get_or words p 0) j i b l m)
      go (no n) = rw (ne_eqb q p n, get_or-set_other words p q (put_bit (get_or words p 0) j b) 0 n)

-- ---- the lowest bit that is set

-- "Trailing zeros of the free word give the lowest central; proved equal to the least free index"
pub trailing_least : (k w : ℕ) → count_trailing_zeros k w ≡ least k (has_bit w)
unfolding has_bit least count_trailing_zeros
trailing_least zero w = refl
trailing_least (suc k) w = go (ℕ_discrete (w % 2) 1) (trailing_least k (w / 2))
  where
    go : Dec (w % 2 ≡ 1) → count_trailing_zeros k (w / 2) ≡ least k (has_bit (w / 2))
        → under (w % 2) (count_trailing_zeros k (w / 2)) ≡ elim (eqb (w % 2) 1) [ true ↦ zero | false ↦ suc (least k (λ i. has_bit w (suc i))) ]
    go (yes e) d = rw e
    go (no n) d = let e : w % 2 ≡ 0 = omega arith in rw e (ap suc d)

pub least_is : (k : ℕ) (p : ℕ → Bool) → First k p (least k p)
unfolding least
least_is zero p = (omega arith, (λ j l. absurd (omega arith)), (λ l. absurd (omega arith)))
least_is (suc k) p = go (p zero) refl (least_is k (λ i. p (suc i)))
  where
    go : (b : Bool) → p zero ≡ b → {n : ℕ} → First k (λ i. p (suc i)) n → First (suc k) p (elim b [ true ↦ zero | false ↦ suc n ])
    go true e d = (omega arith, (λ j l. absurd (omega arith)), (λ l. e))
    go false e {n} d = (omega arith, below, λ l. d.2 (omega arith))
      where
        below : (j : ℕ) → j < suc n → p j ≡ false
        below zero l = e
        below (suc j) l = d.1 j (omega arith)
