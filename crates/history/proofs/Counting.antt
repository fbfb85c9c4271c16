-- Counting how often a number stands in a list.
--   times_append, times_set == in two lists, and when one place is stored
--   times_moved          == lists that agree but at some places: what was there, and what is there now
--   times_same           == lists of the same images
--   centrals_append, centrals_without == the centrals of rows behind others, and of rows without one
use Rattle.std.specs.Prelude.{◌≡◌, take, drop}
use Rattle.std.proofs.Math.Path.{refl}
use Rattle.std.proofs.Common.{sym, ap, ◌∙◌, length-set, take-append-drop, get_or-set_same, get_or-set_other, ext_get_or, length-take-le}
use mathlib.Core.List.{List, [], ◌∷◌, ◌++◌, map}
use Prim.Native.Nat.{ℕ, zero, suc, ◌+◌, ◌*◌, ◌≤◌, ◌<◌}
use Rattle.std.proofs.Math.Decide.{ℕ_discrete}
use native.Mathlib.Omega.{arith}
use Rattle.std.proofs.Math.ListN.{length, set}
use Rattle.ground.specs.Lists.{In, here, there, Distinct}
use Rattle.ground.specs.ListsLaws.{not_in_nil}
use Rattle.shelf.specs.Rows.{γ}
use Rattle.choice.specs.Rule.{at}
use Rattle.choice.specs.Rows.{centrals_of}
use Rattle.choice.proofs.RowsLaws.{row_bytes_lem}
use Rattle.dropping.specs.Dropping.{without_row}
use Rattle.history.specs.History.{times}

module _ (c : ℕ) where
  pub times_append : (xs ys : List ℕ) → times c (xs ++ ys) ≡ times c xs + times c ys
  unfolding times
  times_append [] ys = omega arith
  times_append (x ∷ xs) ys = omega (arith, times_append xs ys)

  -- one place is stored
  pub times_set : (xs : List ℕ) (e v : ℕ) → e < length xs → times c (set xs e v) + times c (at xs e ∷ []) ≡ times c xs + times c (v ∷ [])
  unfolding times
  times_set [] e v l = absurd (omega arith)
  times_set (x ∷ xs) zero v l = omega arith
  times_set (x ∷ xs) (suc e) v l = omega (arith, times_set xs e v (omega arith))

  pub times_same : {f g : ℕ → ℕ} (es : List ℕ) → ((i : ℕ) → In i es → f i ≡ g i) → times c (map f es) ≡ times c (map g es)
  unfolding times
  times_same [] same = refl
  times_same (e ∷ es) same = rw (same e (here refl), times_same es (λ i p. same i (there p)))

  -- The places es, one after the other, come to hold what they hold in ys: each time what was there goes, and what is there now comes.
  pub times_moved : (es xs ys : List ℕ) → length xs ≡ length ys → Distinct es → ((i : ℕ) → In i es → i < length xs)
      → ((i : ℕ) → i < length xs → (In i es → ⊥) → at ys i ≡ at xs i) → times c ys + times c (map (at xs) es) ≡ times c xs + times c (map (at ys) es)
  unfolding times
  times_moved [] xs ys size distinct below same = rw (ext_get_or 0 ys xs (sym size) (λ i l. same i (omega (arith, size)) not_in_nil))
  times_moved (e ∷ es) xs ys size distinct below same =
      let l : e < length xs = below e (here refl) in
      omega (arith, times_moved es (stored e xs ys) ys (length-set xs e (at ys e) ∙ size) distinct.1 (kept_below e es xs ys below) (kept_same e es xs ys same l), times_same es (others e es xs ys distinct.0), times_set xs e (at ys e) l)
    where
      stored : ℕ → List ℕ → List ℕ → List ℕ
      stored e xs ys = set xs e (at ys e)

      others : (e : ℕ) (es xs ys : List ℕ) → (In e es → ⊥) → (i : ℕ) → In i es → at (stored e xs ys) i ≡ at xs i
      others e es xs ys n i p = get_or-set_other xs e i (at ys e) 0 (λ q. n (rw (← q) p))

      kept_below : (e : ℕ) (es xs ys : List ℕ) → ((i : ℕ) → In i (e ∷ es) → i < length xs) → (i : ℕ) → In i es → i < length (stored e xs ys)
      kept_below e es xs ys below i p = rw (length-set xs e (at ys e)) (below i (there p))

      kept_same : (e : ℕ) (es xs ys : List ℕ) → ((i : ℕ) → i < length xs → (In i (e ∷ es) → ⊥) → at ys i ≡ at xs i) → e < length xs
          → (i : ℕ) → i < length (stored e xs ys) → (In i es → ⊥) → at ys i ≡ at (stored e xs ys) i
      kept_same e es xs ys same l i m n = elim (ℕ_discrete i e) [
        | yes q ↦ rw q (sym (get_or-set_same xs e (at ys e) 0 l))
        | no q ↦ same i (rw (length-set xs e (at ys e)) at m) (λ p. apart q n p) ∙ sym (get_or-set_other xs e i (at ys e) 0 q)
      ]
        where
          apart : (i ≡ e → ⊥) → (In i es → ⊥) → In i (e ∷ es) → ⊥
          apart q n (here p) = q p
          apart q n (there p) = n p

-- ---- the centrals of rows

pub centrals_append : (rows more : List ℕ) (k : ℕ) → length rows ≡ 3 * k → centrals_of (rows ++ more) ≡ centrals_of rows ++ centrals_of more
unfolding centrals_of
centrals_append [] more k whole = refl
centrals_append (a ∷ []) more k whole = absurd (omega arith)
centrals_append (a ∷ g ∷ []) more k whole = absurd (omega arith)
centrals_append (a ∷ g ∷ b ∷ rows) more zero whole = absurd (omega arith)
centrals_append (a ∷ g ∷ b ∷ rows) more (suc k) whole = ap (λ (cs : List ℕ). g ∷ cs) (centrals_append rows more k (omega arith))

-- a row is taken out: its central is counted once less
pub centrals_without : (c row : ℕ) (settings : List ℕ) → 3 * row + 3 ≤ length settings
    → times c (centrals_of settings) ≡ times c (centrals_of (without_row 3 row settings)) + times c (γ settings row ∷ [])
unfolding without_row times γ centrals_of
centrals_without c row settings l =
    ap (λ (rows : List ℕ). times c (centrals_of rows)) (sym (take-append-drop (3 * row) settings))
    ∙ rw (centrals_append (take (3 * row) settings) (drop (3 * row) settings) row front, centrals_append (take (3 * row) settings) (drop (3 * row + 3) settings) row front)
    (omega (arith, times_append c (centrals_of (take (3 * row) settings)) (centrals_of (drop (3 * row) settings)), times_append c (centrals_of (take (3 * row) settings)) (centrals_of (drop (3 * row + 3) settings)), here_counted))
  where
    front : length (take (3 * row) settings) ≡ 3 * row
    front = length-take-le (3 * row) settings (omega arith)

    here_counted : times c (centrals_of (drop (3 * row) settings)) ≡ times c (γ settings row ∷ []) + times c (centrals_of (drop (3 * row + 3) settings))
    here_counted = rw (row_bytes_lem settings row l) (omega arith)
