-- Laws of rows of three bytes: what a store of a central leaves.
--   three_more                 == a row more is three bytes more
--   row_bytes_lem                  == the three bytes of a row stand before the rows behind it
--   central_at, centrals_length == the centrals of the rows, one by one, and their number
--   modules_same               == recoloured rows have the same modules
--   recolour                   == a store of the central of one row
--   last_taken, earlier_length  == the last row takes a central
--   front_centrals             == rows with the same central bytes at their front
--   recolour_again             == recoloured twice
use Rattle.std.specs.Prelude.{◌≡◌, refl, Bool, true, false, List, [], ◌∷◌, ◌++◌, ℕ, zero, suc, ◌+◌, ◌*◌, ◌≤◌, ◌<◌, length, get_or, set, take, drop}
use Rattle.std.proofs.Common.{sym, ap, ◌∙◌, suc-le-suc, arith, length-set, drop_of_length-le, get_or-set_other, get_or-take, drop-cons, length-take-le, ext_get_or}
use Rattle.std.proofs.lemmas.List.{set_split}
use Rattle.choice.specs.Rule.{at}
use Rattle.choice.specs.Rows.{module_in, centrals_of, Recoloured}

three_more : (i d : ℕ) → 3 * suc i + d ≡ suc (suc (suc (3 * i + d)))
three_more i d = omega arith

pub row_bytes_lem : (rows : List ℕ) (k : ℕ) → 3 * k + 3 ≤ length rows → drop (3 * k) rows ≡ get_or rows (3 * k) 0 ∷ get_or rows (3 * k + 1) 0 ∷ get_or rows (3 * k + 2) 0 ∷ drop (3 * k + 3) rows
row_bytes_lem rows k l =
    let e₁ : suc (3 * k) ≡ 3 * k + 1 = omega arith in
    let e₂ : suc (3 * k + 1) ≡ 3 * k + 2 = omega arith in
    let e₃ : suc (3 * k + 2) ≡ 3 * k + 3 = omega arith in
    drop-cons rows (3 * k) 0 (omega arith) ∙ rw (e₁, drop-cons rows (3 * k + 1) 0 (omega arith), e₂, drop-cons rows (3 * k + 2) 0 (omega arith), e₃)

pub central_at : (rows : List ℕ) (i : ℕ) → 3 * i + 3 ≤ length rows → at (centrals_of rows) i ≡ get_or rows (3 * i + 1) 0
unfolding centrals_of
central_at [] i l = absurd (omega arith)
central_at (α ∷ []) i l = absurd (omega arith)
central_at (α ∷ γ ∷ []) i l = absurd (omega arith)
central_at (α ∷ γ ∷ β ∷ rows) zero l = refl
central_at (α ∷ γ ∷ β ∷ rows) (suc i) l = rw (three_more i 1) (central_at rows i (omega arith))

pub centrals_length : (rows : List ℕ) (k : ℕ) → length rows ≡ 3 * k → length (centrals_of rows) ≡ k
unfolding centrals_of
centrals_length [] k e = omega arith
centrals_length (α ∷ []) k e = absurd (omega arith)
centrals_length (α ∷ γ ∷ []) k e = absurd (omega arith)
centrals_length (α ∷ γ ∷ β ∷ rows) zero e = absurd (omega arith)
centrals_length (α ∷ γ ∷ β ∷ rows) (suc k) e = ap suc (centrals_length rows k (omega arith))

many_centrals : (rows : List ℕ) (k : ℕ) → 3 * k ≤ length rows → k ≤ length (centrals_of rows)
unfolding centrals_of
many_centrals rows zero l = omega arith
many_centrals [] (suc k) l = absurd (omega arith)
many_centrals (α ∷ []) (suc k) l = absurd (omega arith)
many_centrals (α ∷ γ ∷ []) (suc k) l = absurd (omega arith)
many_centrals (α ∷ γ ∷ β ∷ rows) (suc k) l = suc-le-suc (many_centrals rows k (omega arith))

centrals_set : (rows : List ℕ) (i c : ℕ) → centrals_of (set rows (3 * i + 1) c) ≡ set (centrals_of rows) i c
unfolding centrals_of
centrals_set [] i c = refl
centrals_set (α ∷ []) zero c = refl
centrals_set (α ∷ []) (suc i) c = rw (three_more i 1)
centrals_set (α ∷ γ ∷ []) zero c = refl
centrals_set (α ∷ γ ∷ []) (suc i) c = rw (three_more i 1)
centrals_set (α ∷ γ ∷ β ∷ rows) zero c = refl
centrals_set (α ∷ γ ∷ β ∷ rows) (suc i) c = rw (three_more i 1) (ap (λ (cs : List ℕ). γ ∷ cs) (centrals_set rows i c))

modules_set : (rows : List ℕ) (i c : ℕ) (output : Bool) (j : ℕ) → module_in (set rows (3 * i + 1) c) output j ≡ module_in rows output j
unfolding module_in
modules_set rows i c true j = get_or-set_other rows (3 * i + 1) (3 * j + 2) c 0 (λ e. omega arith)
modules_set rows i c false j = get_or-set_other rows (3 * i + 1) (3 * j) c 0 (λ e. omega arith)

-- the modules of recoloured rows, as a function of side and row
pub modules_same : {rows rows' cs : List ℕ} → Recoloured rows rows' cs → module_in rows' ≡ module_in rows
modules_same h = λ t output i. h.modules output i t

-- the central of one row is stored
pub recolour : (rows : List ℕ) (i c : ℕ) → Recoloured rows (set rows (3 * i + 1) c) (set (centrals_of rows) i c)
recolour rows i c = record { size = length-set rows (3 * i + 1) c; modules = modules_set rows i c; centrals = centrals_set rows i c }

-- the last row takes a central: the rows before it keep theirs
pub last_taken : (rows : List ℕ) (k c : ℕ) → length rows ≡ 3 * suc k → centrals_of (set rows (3 * k + 1) c) ≡ take k (centrals_of rows) ++ (c ∷ [])
last_taken rows k c e =
    let n = centrals_length rows (suc k) e in
    centrals_set rows k c ∙ set_split (centrals_of rows) k c (omega arith) ∙ ap (λ (r : List ℕ). take k (centrals_of rows) ++ c ∷ r) (drop_of_length-le (centrals_of rows) {i = suc k} (omega arith))

pub earlier_length : (rows : List ℕ) (k : ℕ) → length rows ≡ 3 * suc k → length (take k (centrals_of rows)) ≡ k
earlier_length rows k e = length-take-le k (centrals_of rows) (omega (arith, centrals_length rows (suc k) e))

-- rows with the same central bytes at their front have the same centrals there
pub front_centrals : (rows rows' : List ℕ) (k : ℕ) → 3 * k ≤ length rows → 3 * k ≤ length rows' → ((i : ℕ) → i < k → get_or rows (3 * i + 1) 0 ≡ get_or rows' (3 * i + 1) 0)
    → take k (centrals_of rows) ≡ take k (centrals_of rows')
front_centrals rows rows' k l l' same = ext_get_or 0 _ _ (front_length rows l ∙ sym (front_length rows' l')) (λ i m.
    let n : i < k = omega (arith, front_length rows l) in
    get_or-take k (centrals_of rows) i 0 n ∙ central_at rows i (omega arith) ∙ same i n ∙ sym (get_or-take k (centrals_of rows') i 0 n ∙ central_at rows' i (omega arith)))
  where
    front_length : (r : List ℕ) → 3 * k ≤ length r → length (take k (centrals_of r)) ≡ k
    front_length r m = length-take-le k (centrals_of r) (many_centrals r k m)

-- rows that are recoloured, and then again
pub recolour_again : {rows rows' rows'' cs ds : List ℕ} → Recoloured rows rows' cs → Recoloured rows' rows'' ds → Recoloured rows rows'' ds
recolour_again g h = record { size = h.size ∙ g.size; modules = λ output i. h.modules output i ∙ g.modules output i; centrals = h.centrals }
