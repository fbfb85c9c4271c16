-- One step of the choice rule. From any fine colouring of the rows below k it makes a fine colouring of one row more, and moves few calls.
--   ChainStart α β γ k a b    == a colouring that is proper on both sides; a is free at the input module of row k, b at its output module; a is not b
--   step_chain α β γ k a b     == the chain of the step that places row k
--   after_chain α β centrals k a b == the centrals where the calls of that chain have changed between a and b, and row k has taken a
--   StepCase α β order centrals k s == s is what one of the rule's cases leaves: a common central, a chain, or no free central at one of the modules
--   chain_runs, chain_distinct, chain_rows, chain_avoids, chain_modules, chain_start, chain_closed_α, chain_closed_β, chain_few, chain_change == what is known of that chain
--   placed_same, placed_new, setting, starts == one row more, and what a chain starts from
--   step_case, step_common, step_by_chain, searched == the cases of the rule
--   step_length, step_fine, step_moved == what a step leaves
use Rattle.std.specs.Prelude.{◌≡◌, ◌⊎◌, Bool, ◌&&◌, ℕ, suc, ◌*◌, ◌-◌, ◌≤◌, ◌<◌, T, length}
use Rattle.std.proofs.Common.{sym, ap, ◌∙◌, inl, inr, arith, length-append}
use Rattle.std.proofs.Math.Option.{Option, none, some}
use mathlib.Core.List.{List, [], ◌∷◌, ◌++◌}
use Rattle.std.proofs.Math.ListN.{get_or-append}
use Rattle.std.proofs.lemmas.List.{get_or_at}
use Rattle.ground.specs.TruthLaws.{both_is}
use Rattle.ground.specs.Numbers.{below_suc}
use Rattle.ground.specs.Lists.{In, Distinct}
use Rattle.ground.specs.Below.{Once}
use Rattle.shelf.specs.Rows.{ModulesBelow}
use Rattle.choice.specs.Rule.{at, first_of, is_free, chain, exchange, exchanged, Step, by_chain, step}
use Rattle.choice.specs.Colouring.{Free, at_module, Fine}
use Rattle.choice.proofs.Search.{first_some, first_none, Picked, got, nothing, picked, free_iff}
use Rattle.choice.proofs.Chain.{Two, near_modules, far_modules, Setting, Runs, stop, rows_of, first_row, closed_near, closed_far, runs_distinct, search_runs, used_far, distinct_near, distinct_far}
use Rattle.choice.proofs.Exchange.{exchange_first, exchange_second, Change, changed, kept, length_exchanged, exchanged_at, exchange_proper, place_proper}
use Rattle.choice.proofs.Count.{some_free, few}

pub record ChainStart (α β γ : ℕ → ℕ) (k a b : ℕ) : Type 0 where
  pub proper_α : Once α γ k
  pub proper_β : Once β γ k
  pub free_a : Free α γ k (α k) a
  pub free_b : Free β γ k (β k) b
  pub apart : a ≡ b → ⊥

abbrev pub step_chain : (α β γ : ℕ → ℕ) (k a b : ℕ) → List ℕ
step_chain α β γ k a b = chain k β α γ k (β k) a b

abbrev pub after_chain : (α β : ℕ → ℕ) (centrals : List ℕ) (k a b : ℕ) → List ℕ
after_chain α β centrals k a b = exchanged a b centrals (step_chain α β (at centrals) k a b) ++ (a ∷ [])

-- ---- the chain of a step

module _ (α β γ : ℕ → ℕ) (k a b : ℕ) (s : ChainStart α β γ k a b) where
  pub setting : Setting γ k β α a b
  setting = record { near = s.proper_β; far = s.proper_α; apart = s.apart }

  -- The chain stops only where none continues it: that the search is bounded by k is never what ends it.
  pub chain_runs : Runs γ k β α (β k) a b (step_chain α β γ k a b)
  chain_runs = search_runs γ k k setting (stop s.free_b) (omega arith)

  -- it has no row twice, so that its length is the number of calls that change
  pub chain_distinct : Distinct (step_chain α β γ k a b)
  chain_distinct = runs_distinct γ k setting chain_runs

  -- it is made of calls placed so far, on a or b
  pub chain_rows : (i : ℕ) → In i (step_chain α β γ k a b) → (i < k) × Two a b (γ i)
  chain_rows = rows_of γ k chain_runs

  -- it never reaches the input module of the new call
  pub chain_avoids : (i : ℕ) → In i (step_chain α β γ k a b) → α i ≡ α k → ⊥
  chain_avoids i p e = used_far γ k chain_runs i p (λ q l x. s.free_a q l (x ∙ e))

  -- it arrives at no output module twice, the first being that of the new call, and at no input module twice
  pub chain_modules : Distinct (near_modules β α (β k) (step_chain α β γ k a b)) × Distinct (far_modules β α (β k) (step_chain α β γ k a b))
  chain_modules = (
    distinct_near γ k chain_runs setting (λ i p y x. s.free_b i (chain_rows i p).0 x y),
    distinct_far γ k chain_runs setting,
  )

  -- every call on a at the output module of the new call is on it
  pub chain_start : (q : ℕ) → q < k → β q ≡ β k → γ q ≡ a → In q (step_chain α β γ k a b)
  chain_start = first_row γ k setting chain_runs

  -- with a call, every call on a or b at its input module is on it, and every one at its output module
  pub chain_closed_α : (i q : ℕ) → In i (step_chain α β γ k a b) → q < k → α q ≡ α i → Two a b (γ q) → In q (step_chain α β γ k a b)
  chain_closed_α = closed_far γ k chain_runs setting

  pub chain_closed_β : (i q : ℕ) → In i (step_chain α β γ k a b) → q < k → β q ≡ β i → Two a b (γ q) → In q (step_chain α β γ k a b)
  chain_closed_β i q p l m t = go (closed_near γ k chain_runs setting i q p l m t)
    where
      go : In q (step_chain α β γ k a b) ⊎ ((β q ≡ β k) × (γ q ≡ b)) → In q (step_chain α β γ k a b)
      go (inl w) = w
      go (inr w) = absurd (s.free_b q l w.0 w.1)

  -- With r modules on each side a chain has at most 2 * r - 2 calls.
  module _ (r : ℕ) (below : ModulesBelow α β r (suc k)) where
    pub chain_few : length (step_chain α β γ k a b) ≤ 2 * r - 2
    chain_few = few α β γ k r a b (α k) (β k) s.proper_α s.proper_β (λ i l. (below i (omega arith)).0) (λ i l. (below i (omega arith)).1)
        (below k (omega arith)).0 (below k (omega arith)).1 s.free_a s.free_b (step_chain α β γ k a b) chain_distinct chain_rows

-- ---- the new colouring

-- row k takes the central c, and no other row changes
pub placed_same : (centrals : List ℕ) (k c i : ℕ) → length centrals ≡ k → i < k → at (centrals ++ (c ∷ [])) i ≡ at centrals i
placed_same centrals k c i size l = get_or-append centrals (c ∷ []) 0 i (omega arith)

pub placed_new : (centrals : List ℕ) (k c : ℕ) → length centrals ≡ k → at (centrals ++ (c ∷ [])) k ≡ c
placed_new centrals k c size = get_or_at centrals c [] 0 k size

one_more : (centrals : List ℕ) (c : ℕ) → length (centrals ++ (c ∷ [])) ≡ suc (length centrals)
one_more centrals c = omega (arith, length-append centrals (c ∷ []))

-- one more row takes a central that is free at both its modules
take_free : (α β : ℕ → ℕ) (order centrals : List ℕ) (k c : ℕ) → length centrals ≡ k → In c order
    → Free α (at centrals) k (α k) c → Free β (at centrals) k (β k) c → Fine α β order (at centrals) k → Fine α β order (at (centrals ++ (c ∷ []))) (suc k)
take_free α β order centrals k c size o free-α free-β w = record {
  proper_α = place_proper α (at centrals) (at (centrals ++ (c ∷ []))) k c (λ i. placed_same centrals k c i size) (placed_new centrals k c size) free-α w.proper_α;
  proper_β = place_proper β (at centrals) (at (centrals ++ (c ∷ []))) k c (λ i. placed_same centrals k c i size) (placed_new centrals k c size) free-β w.proper_β;
  inside = λ i l. of_order i (below_suc l);
}
  where
    of_order : (i : ℕ) → (i ≡ k) ⊎ (i < k) → In (at (centrals ++ (c ∷ [])) i) order
    of_order i (inl e) = rw (e, placed_new centrals k c size) o
    of_order i (inr l) = rw (placed_same centrals k c i size l) (w.inside i l)

-- The exchange on the chain makes a free at both modules of row k, which then takes it.
module _ (α β : ℕ → ℕ) (centrals : List ℕ) (k a b : ℕ) (size : length centrals ≡ k) (s : ChainStart α β (at centrals) k a b) where
  abbrev es : List ℕ
  es = step_chain α β (at centrals) k a b

  abbrev after : ℕ → ℕ
  after = at (exchanged a b centrals es)

  -- the calls of the chain change between a and b, and no other call changes
  pub chain_change : (i : ℕ) → i < k → Change a b es i (at centrals i) (after i)
  chain_change i l = exchanged_at a b centrals es i (omega arith)

  -- a stays free at the input module
  still_free : Free α after k (α k) a
  still_free q l x y = go (chain_change q l)
    where
      go : Change a b es q (at centrals q) (after q) → ⊥
      go (changed p e) = chain_avoids α β (at centrals) k a b s q p x
      go (kept n e) = s.free_a q l x (sym e ∙ y)

  -- a comes free at the output module
  comes_free : Free β after k (β k) a
  comes_free q l x y = go (chain_change q l)
    where
      was : Two a b (at centrals q) → after q ≡ exchange a b (at centrals q) → ⊥
      was (inl e) z = s.apart (cc (exchange_first a b))
      was (inr e) z = s.free_b q l x e

      go : Change a b es q (at centrals q) (after q) → ⊥
      go (changed p e) = was (chain_rows α β (at centrals) k a b s q p).1 e
      go (kept n e) = n (chain_start α β (at centrals) k a b s q l x (sym e ∙ y))

  exchanged_fine : (order : List ℕ) → In a order → In b order → Fine α β order (at centrals) k → Fine α β order after k
  exchanged_fine order in-a in_b w = record {
    proper_α = exchange_proper α (at centrals) after k a b es chain_change (chain_closed_α α β (at centrals) k a b s) w.proper_α;
    proper_β = exchange_proper β (at centrals) after k a b es chain_change (chain_closed_β α β (at centrals) k a b s) w.proper_β;
    inside = λ i l. of_order i l (chain_change i l);
  }
    where
      other : (x : ℕ) → Two a b x → In (exchange a b x) order
      other x (inl e) = rw (e, exchange_first a b) in_b
      other x (inr e) = rw (e, exchange_second a b) in-a

      of_order : (i : ℕ) → i < k → Change a b es i (at centrals i) (after i) → In (after i) order
      of_order i l (changed p e) = rw e (other (at centrals i) (chain_rows α β (at centrals) k a b s i p).1)
      of_order i l (kept n e) = rw e (w.inside i l)

  chain_fine : (order : List ℕ) → In a order → In b order → Fine α β order (at centrals) k → Fine α β order (at (after_chain α β centrals k a b)) (suc k)
  chain_fine order in-a in_b w =
      take_free α β order (exchanged a b centrals es) k a (length_exchanged a b centrals es ∙ size) in-a still_free comes_free (exchanged_fine order in-a in_b w)

-- ---- the cases of the rule

pub data StepCase (α β : ℕ → ℕ) (order centrals : List ℕ) (k : ℕ) : Step → Type 0 where
  common : (c : ℕ) → In c order → Free α (at centrals) k (α k) c → Free β (at centrals) k (β k) c
      → StepCase α β order centrals k (record { centrals = centrals ++ (c ∷ []); moved = [] })
  by_a_chain : (a b : ℕ) → In a order → In b order → Free α (at centrals) k (α k) a → Free β (at centrals) k (β k) b → (Free β (at centrals) k (β k) a → ⊥)
      → StepCase α β order centrals k (record { centrals = after_chain α β centrals k a b; moved = step_chain α β (at centrals) k a b })
  full_α : ((c : ℕ) → In c order → T (is_free α (at centrals) k (α k) c) → ⊥) → StepCase α β order centrals k (record { centrals = centrals ++ (0 ∷ []); moved = [] })
  full_β : ((c : ℕ) → In c order → T (is_free β (at centrals) k (β k) c) → ⊥) → StepCase α β order centrals k (record { centrals = centrals ++ (0 ∷ []); moved = [] })

module _ (α β : ℕ → ℕ) (order centrals : List ℕ) (k : ℕ) where
  abbrev at_input : ℕ → Bool
  at_input c = is_free α (at centrals) k (α k) c

  abbrev at_output : ℕ → Bool
  at_output c = is_free β (at centrals) k (β k) c

  -- every step is one of the rule's cases
  pub step_case : StepCase α β order centrals k (step α β order centrals k)
  unfolding step by_chain
  step_case = go (picked order (λ c. at_input c && at_output c)) (picked order at_input) (picked order at_output)
    where
      go : {o p q : Option ℕ} → Picked order (λ c. at_input c && at_output c) o → Picked order at_input p → Picked order at_output q
          → StepCase α β order centrals k (elim o [ some c ↦ record { centrals = centrals ++ (c ∷ []); moved = [] } | none ↦ by_chain α β centrals k p q ])
      go (got c o t) x y =
          let z = (both_is (at_input c) (at_output c)).0 t in
          common c o ((free_iff α (at centrals) k (α k) c).0 z.0) ((free_iff β (at centrals) k (β k) c).0 z.1)
      go (nothing n) (got a o t) (got b p u) =
          by_a_chain a b o p ((free_iff α (at centrals) k (α k) a).0 t) ((free_iff β (at centrals) k (β k) b).0 u)
          (λ w. n a o ((both_is (at_input a) (at_output a)).1 (t, (free_iff β (at centrals) k (β k) a).1 w)))
      go (nothing n) (nothing m) y = full_α m
      go (nothing n) (got a o t) (nothing m) = full_β m

  -- what a chain starts from, in the case of a chain
  pub starts : {a b : ℕ} → Fine α β order (at centrals) k → Free α (at centrals) k (α k) a → Free β (at centrals) k (β k) b
      → (Free β (at centrals) k (β k) a → ⊥) → ChainStart α β (at centrals) k a b
  starts {a} {b} w free_a free_b taken = record {
    proper_α = w.proper_α;
    proper_β = w.proper_β;
    free_a = free_a;
    free_b = free_b;
    apart = λ e. taken (rw e free_b);
  }

  -- the two cases as equations, where the answers of the searches are known; and what those answers mean in the case of a chain
  pub step_common : (c : ℕ) → first_of order (λ c. is_free α (at centrals) k (α k) c && is_free β (at centrals) k (β k) c) ≡ some c
      → step α β order centrals k ≡ record { centrals = centrals ++ (c ∷ []); moved = [] }
  unfolding step
  step_common c e = rw (e, step)

  module _ (a b : ℕ) (no-common : first_of order (λ c. is_free α (at centrals) k (α k) c && is_free β (at centrals) k (β k) c) ≡ none)
      (first-α : first_of order (is_free α (at centrals) k (α k)) ≡ some a) (first-β : first_of order (is_free β (at centrals) k (β k)) ≡ some b) where
    pub step_by_chain : step α β order centrals k ≡ record { centrals = after_chain α β centrals k a b; moved = step_chain α β (at centrals) k a b }
    unfolding step by_chain
    step_by_chain = rw (no-common, first-α, first-β, step, by_chain)

    pub searched : In a order × In b order × Free α (at centrals) k (α k) a × Free β (at centrals) k (β k) b × (Free β (at centrals) k (β k) a → ⊥)
    searched =
        let x = first_some order at_input a first-α in
        let y = first_some order at_output b first-β in (
          x.0,
          y.0,
          (free_iff α (at centrals) k (α k) a).0 x.1,
          (free_iff β (at centrals) k (β k) b).0 y.1,
          λ w. first_none order (λ c. at_input c && at_output c) no-common a x.0 ((both_is (at_input a) (at_output a)).1 (x.1, (free_iff β (at centrals) k (β k) a).1 w)),
        )

  -- a step gives one row more a central
  pub step_length : length (step α β order centrals k).centrals ≡ suc (length centrals)
  step_length = go step_case
    where
      go : {x : Step} → StepCase α β order centrals k x → length x.centrals ≡ suc (length centrals)
      go (common c o u v) = one_more centrals c
      go (by_a_chain a b o p u v t) =
          let es = step_chain α β (at centrals) k a b in
          one_more (exchanged a b centrals es) a ∙ ap suc (length_exchanged a b centrals es)
      go (full_α n) = one_more centrals 0
      go (full_β n) = one_more centrals 0

  -- One step: where both modules of row k have room, a fine colouring of the rows below k becomes one of the rows below suc k.
  pub step_fine : length centrals ≡ k → Distinct order → length (at_module α k (α k)) < length order → length (at_module β k (β k)) < length order
      → Fine α β order (at centrals) k → Fine α β order (at (step α β order centrals k).centrals) (suc k)
  step_fine size d room-α room-β w = go step_case
    where
      go : {x : Step} → StepCase α β order centrals k x → Fine α β order (at x.centrals) (suc k)
      go (common c o u v) = take_free α β order centrals k c size o u v w
      go (by_a_chain a b o p u v t) = chain_fine α β centrals k a b size (starts w u v t) order o p w
      go (full_α n) = absurd (some_free α (at centrals) k (α k) order d room-α n)
      go (full_β n) = absurd (some_free β (at centrals) k (β k) order d room-β n)

  -- and it moves at most 2 * r - 2 calls
  pub step_moved : Fine α β order (at centrals) k → (r : ℕ) → ModulesBelow α β r (suc k) → length (step α β order centrals k).moved ≤ 2 * r - 2
  step_moved w r below = go step_case
    where
      go : {x : Step} → StepCase α β order centrals k x → length x.moved ≤ 2 * r - 2
      go (common c o u v) = omega arith
      go (by_a_chain a b o p u v t) = chain_few α β (at centrals) k a b (starts w u v t) r below
      go (full_α n) = omega arith
      go (full_β n) = omega arith
