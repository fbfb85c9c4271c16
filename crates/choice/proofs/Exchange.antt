-- A colouring stays proper where two centrals change places on a closed set of rows, and where one more row takes a free central.
--   Change a b es i x y == row i had central x and has y: y is the other of a and b where i is on es, and x where it is not
--   exchange_first, exchange_second, exchange_other, one_of, exchange_twice == the exchange of two numbers
--   length_exchanged, exchanged_at == the exchange on a list of rows
--   change_together, exchange_proper, place_proper == colourings stay proper
use Rattle.std.specs.Prelude.{◌≡◌, refl, ◌⊎◌, List, [], ◌∷◌, ℕ, suc, ◌<◌, length, set}
use Rattle.std.proofs.Common.{sym, ◌∙◌, inl, inr, arith, length-set, get_or-set_same, get_or-set_other, eq-eqb, ne_eqb}
use Rattle.std.proofs.Math.Decide.{ℕ_discrete}
use Rattle.ground.specs.Lists.{In, here, there}
use Rattle.ground.specs.ListsLaws.{not_in_nil}
use Rattle.ground.specs.Below.{Once}
use Rattle.ground.specs.Numbers.{below_suc}
use Rattle.choice.specs.Rule.{at, exchange, exchanged}
use Rattle.choice.specs.Colouring.{Free}
use Rattle.choice.proofs.Chain.{Two}

-- ---- the exchange of two numbers

-- a goes to b, b to a, and every other number stays
pub exchange_first : (a b : ℕ) → exchange a b a ≡ b
unfolding exchange
exchange_first a b = rw (eq-eqb a a refl, exchange)

pub exchange_second : (a b : ℕ) → exchange a b b ≡ a
unfolding exchange
exchange_second a b = go (ℕ_discrete b a)
  where
    go : Dec (b ≡ a) → exchange a b b ≡ a
    go (yes e) = rw (eq-eqb b a e, exchange) e
    go (no n) = rw (ne_eqb b a n, eq-eqb b b refl, exchange)

pub exchange_other : (a b x : ℕ) → (Two a b x → ⊥) → exchange a b x ≡ x
unfolding exchange
exchange_other a b x n = rw (ne_eqb x a (λ e. n (inl e)), ne_eqb x b (λ e. n (inr e)), exchange)

-- x is one of the two, or neither
pub one_of : (a b x : ℕ) → Two a b x ⊎ (Two a b x → ⊥)
one_of a b x = go (ℕ_discrete x a) (ℕ_discrete x b)
  where
    go : Dec (x ≡ a) → Dec (x ≡ b) → Two a b x ⊎ (Two a b x → ⊥)
    go (yes e) q = inl (inl e)
    go (no m) (yes e) = inl (inr e)
    go (no m) (no n) = inr (elim [ inl e ↦ m e | inr e ↦ n e ])

-- the exchange twice changes nothing
pub exchange_twice : (a b x : ℕ) → exchange a b (exchange a b x) ≡ x
exchange_twice a b x = go (one_of a b x)
  where
    go : Two a b x ⊎ (Two a b x → ⊥) → exchange a b (exchange a b x) ≡ x
    go (inl (inl e)) = cc (exchange_first a b, exchange_second a b)
    go (inl (inr e)) = cc (exchange_first a b, exchange_second a b)
    go (inr n) = cc (exchange_other a b x n)

-- ---- the exchange on a list of rows

pub data Change (a b : ℕ) (es : List ℕ) (i x y : ℕ) : Type 0 where
  changed : In i es → y ≡ exchange a b x → Change a b es i x y
  kept : (In i es → ⊥) → y ≡ x → Change a b es i x y

-- the exchange keeps the places of the table
pub length_exchanged : (a b : ℕ) (centrals es : List ℕ) → length (exchanged a b centrals es) ≡ length centrals
unfolding exchanged
length_exchanged a b centrals [] = refl
length_exchanged a b centrals (e ∷ es) = length-set (exchanged a b centrals es) e (exchange a b (at centrals e)) ∙ length_exchanged a b centrals es

-- every call of the list changes between a and b, and no other call changes
pub exchanged_at : (a b : ℕ) (centrals es : List ℕ) (i : ℕ) → i < length centrals → Change a b es i (at centrals i) (at (exchanged a b centrals es) i)
unfolding exchanged
exchanged_at a b centrals [] i l = kept not_in_nil refl
exchanged_at a b centrals (e ∷ es) i l = go (ℕ_discrete i e) (exchanged_at a b centrals es i l)
  where
    new : ℕ
    new = exchange a b (at centrals e)

    go : Dec (i ≡ e) → Change a b es i (at centrals i) (at (exchanged a b centrals es) i)
        → Change a b (e ∷ es) i (at centrals i) (at (set (exchanged a b centrals es) e new) i)
    go (yes q) r = changed (here q) (rw q (get_or-set_same (exchanged a b centrals es) e new 0 (omega (arith, length_exchanged a b centrals es))))
    go (no n) (changed p x) = changed (there p) (get_or-set_other (exchanged a b centrals es) e i new 0 n ∙ x)
    go (no n) (kept p x) = kept out (get_or-set_other (exchanged a b centrals es) e i new 0 n ∙ x)
      where
        out : In i (e ∷ es) → ⊥
        out (here q) = n q
        out (there q) = p q

-- The exchange on a closed set of rows: with a row it holds every row on a or b of the same module.
module _ (f γ γ' : ℕ → ℕ) (k a b : ℕ) (es : List ℕ)
    (change : (i : ℕ) → i < k → Change a b es i (γ i) (γ' i))
    (closed : (i q : ℕ) → In i es → q < k → f q ≡ f i → Two a b (γ q) → In q es) where
  -- so at a module of one of its rows all rows together change between a and b
  pub change_together : (i q : ℕ) → In i es → q < k → f q ≡ f i → γ' q ≡ exchange a b (γ q)
  change_together i q p l m = go (change q l)
    where
      go : Change a b es q (γ q) (γ' q) → γ' q ≡ exchange a b (γ q)
      go (changed u e) = e
      go (kept n e) = e ∙ sym (exchange_other a b (γ q) (λ t. n (closed i q p l m t)))

  -- and no two rows come to share a module and a central
  pub exchange_proper : Once f γ k → Once f γ' k
  exchange_proper proper i j li lj m e = go (change i li) (change j lj)
    where
      -- both rows of a module of the set
      both : γ' i ≡ exchange a b (γ i) → γ' j ≡ exchange a b (γ j) → i ≡ j
      both x y = proper i j li lj m (cc (exchange_twice a b (γ i), exchange_twice a b (γ j)))

      go : Change a b es i (γ i) (γ' i) → Change a b es j (γ j) (γ' j) → i ≡ j
      go (changed p x) r = both x (change_together i j p lj (sym m))
      go (kept n y) (changed p x) = both (change_together j i p li m) x
      go (kept n y) (kept o z) = proper i j li lj m (sym y ∙ e ∙ z)

-- one more row, on a central that is free at its module
pub place_proper : (f γ γ' : ℕ → ℕ) (k c : ℕ) → ((i : ℕ) → i < k → γ' i ≡ γ i) → γ' k ≡ c → Free f γ k (f k) c → Once f γ k → Once f γ' (suc k)
place_proper f γ γ' k c same new free proper i j li lj m e = go (below_suc li) (below_suc lj)
  where
    go : (i ≡ k) ⊎ (i < k) → (j ≡ k) ⊎ (j < k) → i ≡ j
    go (inl p) (inl q) = p ∙ sym q
    go (inl p) (inr q) = absurd (free j q (cc) (cc (same j q)))
    go (inr p) (inl q) = absurd (free i p (cc) (cc (same i p)))
    go (inr p) (inr q) = proper i j p q m (cc (same i p, same j q))
