-- The moved rows, two bytes each: what is written of a chain.
--   row_bytes_length, row_bytes_more == how many bytes they are, and one row more
--   told_length, told_all == the rows of a chain, told from the place below `start` down, are the chain's, in chain order
--   told_none, told_next == none is written, and one row more is
--   Left chain start moved left == of the `moved` rows below `start`, these are left at the front; part_left, that all are, left_row and
--                                  left_next, what the last of them is and that the others are left then
use Rattle.std.specs.Prelude.{◌≡◌, refl, List, [], ◌∷◌, ◌++◌, ℕ, zero, suc, ◌+◌, ◌*◌, ◌-◌, ◌≤◌, ◌<◌, length, get_or, take, drop}
use Rattle.std.proofs.Common.{sym, ap, ◌∙◌, inl, inr, arith, add-one, length-append, get_or-append-add, ext_get_or}
use Rattle.std.proofs.Math.ListN.{get_or-append}
use Rattle.std.proofs.lemmas.List.{length-take-le, length-drop, get_or-take, get_or-drop}
use Rattle.ground.specs.Numbers.{below_suc}
use Rattle.ground.specs.Bytes.{high_byte, low_byte, Adds}
use Rattle.ground.specs.BytesLaws.{adds_none, adds_both, adds_same}
use Rattle.choice.specs.Placement.{telling}
use Rattle.choice.proofs.Mending.{told_row}
use Rattle.adding.specs.Adding.{row_bytes}
use Rattle.adding.specs.Steps.{rows_told}

pub row_bytes_length : (rows : List ℕ) → length (row_bytes rows) ≡ 2 * length rows
unfolding row_bytes
row_bytes_length [] = refl
row_bytes_length (row ∷ rows) = omega (arith, row_bytes_length rows)

pub row_bytes_more : (rows : List ℕ) (row : ℕ) → row_bytes rows ++ row_bytes (row ∷ []) ≡ row_bytes (rows ++ (row ∷ []))
unfolding row_bytes
row_bytes_more [] row = refl
row_bytes_more (r ∷ rows) row = ap (λ (bytes : List ℕ). high_byte r ∷ low_byte r ∷ bytes) (row_bytes_more rows row)

pub told_length : (chain : List ℕ) (start n : ℕ) → length (rows_told chain start n) ≡ n
unfolding rows_told
told_length chain start zero = refl
told_length chain start (suc n) = length-append (rows_told chain start n) _ ∙ omega (arith, told_length chain start n)

told_at : (chain : List ℕ) (start n i : ℕ) → i < n → get_or (rows_told chain start n) i 0 ≡ get_or chain (start - 1 - i) 0
unfolding rows_told
told_at chain start zero i l = absurd (omega arith)
told_at chain start (suc n) i l = elim (below_suc l) [
  | inl e ↦
      let z : i ≡ length (rows_told chain start n) + 0 = omega (arith, told_length chain start n) in
      ap (λ (t : ℕ). get_or (rows_told chain start n ++ (get_or chain (start - 1 - n) 0 ∷ [])) t 0) z
      ∙ get_or-append-add (rows_told chain start n) (get_or chain (start - 1 - n) 0 ∷ []) 0 0
      ∙ ap (λ (t : ℕ). get_or chain (start - 1 - t) 0) (sym e)
  | inr m ↦ get_or-append (rows_told chain start n) _ 0 i (omega (arith, told_length chain start n)) ∙ told_at chain start n i m
]

pub told_all : (chain : List ℕ) (start : ℕ) (es : List ℕ) → start ≤ length chain → length es ≤ start → rows_told (telling chain start es) start (length es) ≡ es
told_all chain start es room l =
    ext_get_or 0 _ es (told_length _ start (length es)) (λ i m.
    let n : i < length es = omega (arith, told_length (telling chain start es) start (length es)) in
    told_at (telling chain start es) start (length es) i n ∙ told_row chain start es i room l n)

pub told_none : (chain : List ℕ) (start : ℕ) {n : ℕ} {buffer : List ℕ} → n ≡ 0 → Adds buffer buffer 0 0 (row_bytes (rows_told chain start n))
unfolding rows_told row_bytes
told_none chain start {buffer = buffer} e = rw e (adds_none buffer 0 (omega arith))

-- one row more is written behind those that are
pub told_next : (chain : List ℕ) (start n row : ℕ) {before between after : List ℕ} {end next : ℕ} → row ≡ get_or chain (start - 1 - n) 0
    → Adds before between 0 end (row_bytes (rows_told chain start n)) → Adds between after end next (row_bytes (row ∷ [])) → Adds before after 0 next (row_bytes (rows_told chain start (n + 1)))
unfolding rows_told
told_next chain start n row e g h =
    rw (add-one n) (adds_same (adds_both g h) (row_bytes_more (rows_told chain start n) row ∙ ap (λ (r : ℕ). row_bytes (rows_told chain start n ++ (r ∷ []))) e))

-- ---- the part of the chain, taken from its end

pub record Left (chain : List ℕ) (start moved : ℕ) (left : List ℕ) : Type 0 where
  pub few : length left ≤ moved
  pub same : (i : ℕ) → i < length left → get_or left i 0 ≡ get_or chain (start - moved + i) 0

pub part_left : (chain : List ℕ) (start moved n : ℕ) (left : List ℕ) → moved ≤ start → start ≤ length chain → n ≡ moved → left ≡ take n (drop (start - moved) chain) → Left chain start moved left × (length left ≡ moved)
part_left chain start moved n left l m q e =
    let size : length left ≡ moved = ap length e ∙ length-take-le n (drop (start - moved) chain) (omega (arith, length-drop (start - moved) chain)) ∙ q in (
      record {
        few = omega (arith, size);
        same = λ i b. rw e (get_or-take n (drop (start - moved) chain) i 0 (omega (arith, size)) ∙ get_or-drop (start - moved) chain i 0);
      },
      size,
    )

module _ {chain : List ℕ} {start moved : ℕ} {left : List ℕ} (rest : List ℕ) (row : ℕ) (is : left ≡ rest ++ (row ∷ [])) (h : Left chain start moved left) where
  pub left_size : length left ≡ length rest + 1
  left_size = ap length is ∙ length-append rest (row ∷ [])

  pub left_row : row ≡ get_or chain (start - moved + length rest) 0
  left_row =
      let end : length rest + 0 ≡ length rest = omega arith in
      sym (get_or-append-add rest (row ∷ []) 0 0) ∙ ap (λ (t : ℕ). get_or (rest ++ (row ∷ [])) t 0) end ∙ ap (λ (r : List ℕ). get_or r (length rest) 0) (sym is) ∙ h.same (length rest) (omega (arith, left_size))

  pub left_next : Left chain start moved rest
  left_next = record {
    few = omega (arith, left_size, h.few);
    same = λ i q. sym (get_or-append rest (row ∷ []) 0 i q) ∙ ap (λ (r : List ℕ). get_or r i 0) (sym is) ∙ h.same i (omega (arith, left_size));
  }
