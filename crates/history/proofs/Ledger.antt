-- The table of a history, call by call: one more is added behind, and one that stands is dropped.
--   standing_more        == a call more stands behind all others
--   FourBytes es         == every call of the list has 4 bytes
--   four_more, four_dropped == so it is with one more, and when one is gone
--   standing_dropped     == a dropped row is taken out of the table, and later rows close up
use Rattle.std.specs.Prelude.{◌≡◌, List, [], ◌∷◌, ◌++◌, ℕ, zero, suc, ◌+◌, ◌*◌, length, take, drop}
use Rattle.std.proofs.Common.{sym, ap, ◌∙◌, append_assoc, append-nil, arith, drop_at}
use Rattle.std.proofs.Math.Seq.{take-nil, drop-nil, take-append-add, drop-append-add}
use Rattle.dropping.specs.Dropping.{without_row}
use Rattle.history.specs.History.{Entry, stands, gone, drop_standing, standing}

pub standing_more : (es : List Entry) (call : List ℕ) → standing (es ++ (stands call ∷ [])) ≡ standing es ++ call
unfolding standing
standing_more [] call = append-nil call
standing_more (gone other ∷ es) call = standing_more es call
standing_more (stands other ∷ es) call = ap (λ (rest : List ℕ). other ++ rest) (standing_more es call) ∙ sym (append_assoc other (standing es) call)

abbrev pub FourBytes : List Entry → Type 0
FourBytes [] = Unit {0}
FourBytes (gone call ∷ es) = (length call ≡ 4) × FourBytes es
FourBytes (stands call ∷ es) = (length call ≡ 4) × FourBytes es

pub four_more : (es : List Entry) (call : List ℕ) → FourBytes es → length call ≡ 4 → FourBytes (es ++ (stands call ∷ []))
four_more [] call h four = (four, tt)
four_more (gone other ∷ es) call h four = (h.0, four_more es call h.1 four)
four_more (stands other ∷ es) call h four = (h.0, four_more es call h.1 four)

pub four_dropped : (row : ℕ) (es : List Entry) → FourBytes es → FourBytes (drop_standing row es)
unfolding drop_standing
four_dropped row [] h = h
four_dropped row (gone call ∷ es) h = (h.0, four_dropped row es h.1)
four_dropped zero (stands call ∷ es) h = h
four_dropped (suc row) (stands call ∷ es) h = (h.0, four_dropped row es h.1)

-- the first w bytes are a row, so what is dropped behind it is dropped from the rest
without_nothing : (row : ℕ) → without_row 4 row [] ≡ []
unfolding without_row
without_nothing row = rw (take-nil {A = ℕ} (4 * row), drop-nil {A = ℕ} (4 * row + 4))

without_first : (call rest : List ℕ) → length call ≡ 4 → without_row 4 0 (call ++ rest) ≡ rest
unfolding without_row
without_first call rest four = drop_at call rest 4 four

without_later : (row : ℕ) (call rest : List ℕ) → length call ≡ 4 → without_row 4 (suc row) (call ++ rest) ≡ call ++ without_row 4 row rest
unfolding without_row
without_later row call rest four =
    let start : 4 * suc row ≡ length call + 4 * row = omega (arith, four) in
    let next : length call + 4 * row + 4 ≡ length call + (4 * row + 4) = omega arith in
    rw (start, next, take-append-add call rest (4 * row), drop-append-add call rest (4 * row + 4), append_assoc call (take (4 * row) rest) (drop (4 * row + 4) rest))

pub standing_dropped : (row : ℕ) (es : List Entry) → FourBytes es → standing (drop_standing row es) ≡ without_row 4 row (standing es)
unfolding drop_standing standing
standing_dropped row [] h = sym (without_nothing row)
standing_dropped row (gone call ∷ es) h = standing_dropped row es h.1
standing_dropped zero (stands call ∷ es) h = sym (without_first call (standing es) h.0)
standing_dropped (suc row) (stands call ∷ es) h = ap (λ (rest : List ℕ). call ++ rest) (standing_dropped row es h.1) ∙ sym (without_later row call (standing es) h.0)
