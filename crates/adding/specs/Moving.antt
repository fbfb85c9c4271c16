-- What one step of the choice rule moves: the rows of its chain change between two centrals, and every other row keeps its own.
--   Moves centrals k s  == the step s of the rows below k moves distinct rows among them, each to another central, and keeps the rest
--   step_moves          == every step from a fine colouring does
--   moves_few           == so it moves no more rows than are placed
use Rattle.std.specs.Prelude.{◌≡◌, List, [], ◌∷◌, ◌++◌, ℕ, ◌≤◌, ◌<◌, length}
use Rattle.std.proofs.Common.{sym, ◌∙◌, inl, inr}
use Rattle.ground.specs.Lists.{In, Distinct}
use Rattle.ground.specs.ListsLaws.{not_in_nil, few_below}
use Rattle.choice.specs.Rule.{at, exchange, exchanged, step, Step}
use Rattle.choice.specs.Colouring.{Fine}
use Rattle.choice.proofs.Chain.{Two}
use Rattle.choice.proofs.Exchange.{Change, changed, kept, exchange_first, exchange_second, length_exchanged}
use Rattle.choice.proofs.StepLaws.{StepCase, common, by_a_chain, full_α, full_β, step_case, starts, ChainStart, step_chain, after_chain, chain_distinct, chain_rows, chain_change, placed_same}

pub record Moves (centrals : List ℕ) (k : ℕ) (s : Step) : Type 0 where
  pub distinct : Distinct s.moved
  pub below : (i : ℕ) → In i s.moved → i < k
  pub another : (i : ℕ) → In i s.moved → at s.centrals i ≡ at centrals i → ⊥
  pub rest_kept : (i : ℕ) → i < k → (In i s.moved → ⊥) → at s.centrals i ≡ at centrals i

pub moves_few : {centrals : List ℕ} {k : ℕ} {s : Step} → Moves centrals k s → length s.moved ≤ k
moves_few {k = k} {s = s} h = few_below k s.moved h.distinct h.below

-- an exchange of two centrals leaves neither where it was
exchange_apart : (a b x : ℕ) → (a ≡ b → ⊥) → Two a b x → exchange a b x ≡ x → ⊥
exchange_apart a b x apart (inl e) q = apart (sym (sym (exchange_first a b) ∙ (rw e at q)))
exchange_apart a b x apart (inr e) q = apart (sym (exchange_second a b) ∙ (rw e at q))

module _ (α β : ℕ → ℕ) (centrals : List ℕ) (k : ℕ) (size : length centrals ≡ k) where
  -- a central is appended, and nothing is moved
  none_moved : (c : ℕ) → Moves centrals k (record { centrals = centrals ++ (c ∷ []); moved = [] })
  none_moved c = record {
    distinct = tt;
    below = λ i p. absurd (not_in_nil p);
    another = λ i p. absurd (not_in_nil p);
    rest_kept = λ i l n. placed_same centrals k c i size l;
  }

  module _ (a b : ℕ) (s : ChainStart α β (at centrals) k a b) where
    abbrev es : List ℕ
    es = step_chain α β (at centrals) k a b

    abbrev after : List ℕ
    after = after_chain α β centrals k a b

    behind : (i : ℕ) → i < k → at after i ≡ at (exchanged a b centrals es) i
    behind i l = placed_same (exchanged a b centrals es) k a i (length_exchanged a b centrals es ∙ size) l

    chain_moved : Moves centrals k (record { centrals = after; moved = es })
    chain_moved = record {
      distinct = chain_distinct α β (at centrals) k a b s;
      below = below;
      another = λ i p q. other i p (change i (below i p)) (sym (behind i (below i p)) ∙ q);
      rest_kept = λ i l n. behind i l ∙ same n (change i l);
    }
      where
        below : (i : ℕ) → In i es → i < k
        below i p = (chain_rows α β (at centrals) k a b s i p).0

        change : (i : ℕ) → i < k → Change a b es i (at centrals i) (at (exchanged a b centrals es) i)
        change = chain_change α β centrals k a b size s

        other : (i : ℕ) {y : ℕ} → In i es → Change a b es i (at centrals i) y → y ≡ at centrals i → ⊥
        other i p (changed _ e) q = exchange_apart a b (at centrals i) s.apart (chain_rows α β (at centrals) k a b s i p).1 (sym e ∙ q)
        other i p (kept n e) q = n p

        same : {i x y : ℕ} → (In i es → ⊥) → Change a b es i x y → y ≡ x
        same n (changed p e) = absurd (n p)
        same n (kept _ e) = e

  pub step_moves : (order : List ℕ) → Fine α β order (at centrals) k → Moves centrals k (step α β order centrals k)
  step_moves order w = go (step_case α β order centrals k)
    where
      go : {s : Step} → StepCase α β order centrals k s → Moves centrals k s
      go (common c o u v) = none_moved c
      go (by_a_chain a b o p u v t) = chain_moved a b (starts α β order centrals k w u v t)
      go (full_α n) = none_moved 0
      go (full_β n) = none_moved 0
