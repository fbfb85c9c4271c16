-- Only the rows that are placed matter: sides that agree on them have the same colourings, the same counts and the same step.
--   free_agree, count_agree, fine_agree == what is free, how many calls a module has, and a fine colouring
--   recorded_agree      == a record of the one is a record of the other
--   step_agree          == a step of the choice rule
use Rattle.std.specs.Prelude.{◌≡◌, Bool, true, false, not, ◌&&◌, ℕ, zero, suc, ◌<◌, eqb}
use Rattle.std.proofs.Math.Path.{refl, ap}
use Rattle.std.proofs.Common.{◌∙◌, arith}
use Rattle.std.proofs.Math.Option.{Option, none, some}
use mathlib.Core.List.{List, [], ◌∷◌, ◌++◌}
use Rattle.ground.specs.BelowLaws.{once_same}
use Rattle.choice.specs.Rule.{at, first_below, first_of, row_on, is_none, is_free, chain, exchanged, step, by_chain}
use Rattle.choice.specs.Agree.{Agree}
use Rattle.choice.specs.Colouring.{rows_below, at_module, Fine}
use Rattle.choice.specs.Record.{Recorded}
use Rattle.choice.proofs.Search.{Standing, row, free, standing}

-- two tests that agree below k
first_agree : (k : ℕ) (p q : ℕ → Bool) → ((i : ℕ) → i < k → p i ≡ q i) → first_below k p ≡ first_below k q
unfolding first_below
first_agree zero p q h = refl
first_agree (suc k) p q h = λ t. elim (first_agree k p q (λ i l. h i (omega arith)) t) [ some i ↦ some i | none ↦ elim (h k (omega arith) t) [ true ↦ some k | false ↦ none ] ]

module _ {f g : ℕ → ℕ} {k : ℕ} (same : Agree f g k) where
  row_agree : (γ : ℕ → ℕ) (v c : ℕ) → row_on f γ k v c ≡ row_on g γ k v c
  row_agree γ v c = first_agree k _ _ (λ i l. ap (λ (u : ℕ). eqb u v && eqb (γ i) c) (same i l))

  pub free_agree : (γ : ℕ → ℕ) (v c : ℕ) → is_free f γ k v c ≡ is_free g γ k v c
  free_agree γ v c = ap is_none (row_agree γ v c)

pub count_agree : {f g : ℕ → ℕ} (k v : ℕ) → Agree f g k → at_module f k v ≡ at_module g k v
unfolding rows_below
count_agree zero v same = refl
count_agree (suc k) v same = λ t. elim (eqb (same k (omega arith) t) v) [ true ↦ k ∷ count_agree k v (λ i l. same i (omega arith)) t | false ↦ count_agree k v (λ i l. same i (omega arith)) t ]

pub fine_agree : {α α' β β' γ : ℕ → ℕ} {order : List ℕ} {k : ℕ} → Agree α α' k → Agree β β' k → Fine α β order γ k → Fine α' β' order γ k
fine_agree a b w = record { proper_α = once_same a (λ i l. refl) w.proper_α; proper_β = once_same b (λ i l. refl) w.proper_β; inside = w.inside }

pub recorded_agree : {side side' : Bool → ℕ → ℕ} {γ : ℕ → ℕ} {k : ℕ} {used : List ℕ} → ((output : Bool) → Agree (side output) (side' output) k) → Recorded side γ k used → Recorded side' γ k used
recorded_agree same h = record { size = h.size; says = λ output v c hv hc. h.says output v c hv hc ∙ ap not (free_agree (same output) _ v c) }

chain_agree : (n : ℕ) {h h' f f' : ℕ → ℕ} (γ : ℕ → ℕ) (k v c d : ℕ) → Agree h h' k → Agree f f' k → chain n h f γ k v c d ≡ chain n h' f' γ k v c d
unfolding chain
chain_agree zero γ k v c d a b = refl
chain_agree (suc n) {h} {h'} {f} {f'} γ k v c d a b =
    (λ t. elim (row_agree a γ v c t) [ none ↦ [] | some e ↦ e ∷ chain n f h γ k (f e) d c ])
    ∙ go (λ e l. chain_agree n γ k (f e) d c b a ∙ ap (λ (u : ℕ). chain n f' h' γ k u d c) (b e l)) (standing h' γ k v c)
  where
    go : ((e : ℕ) → e < k → chain n f h γ k (f e) d c ≡ chain n f' h' γ k (f' e) d c) → {o : Option ℕ} → Standing h' γ k v c o
        → ◌≡◌ {A = List ℕ} (elim o [ none ↦ [] | some e ↦ e ∷ chain n f h γ k (f e) d c ]) (elim o [ none ↦ [] | some e ↦ e ∷ chain n f' h' γ k (f' e) d c ])
    go deep (row e l x y) = ap (λ (es : List ℕ). e ∷ es) (deep e l)
    go deep (free w) = refl

module _ {α α' β β' : ℕ → ℕ} {k : ℕ} (order centrals : List ℕ) (a : Agree α α' (suc k)) (b : Agree β β' (suc k)) where
  a' : Agree α α' k
  a' i l = a i (omega arith)

  b' : Agree β β' k
  b' i l = b i (omega arith)

  at_input : is_free α (at centrals) k (α k) ≡ is_free α' (at centrals) k (α' k)
  at_input = (λ t c. free_agree a' (at centrals) (α k) c t) ∙ ap (is_free α' (at centrals) k) (a k (omega arith))

  at_output : is_free β (at centrals) k (β k) ≡ is_free β' (at centrals) k (β' k)
  at_output = (λ t c. free_agree b' (at centrals) (β k) c t) ∙ ap (is_free β' (at centrals) k) (b k (omega arith))

  by_chain_agree : (p q : Option ℕ) → by_chain α β centrals k p q ≡ by_chain α' β' centrals k p q
  unfolding by_chain
  by_chain_agree none q = refl
  by_chain_agree (some x) none = refl
  by_chain_agree (some x) (some y) =
      let e = chain_agree k (at centrals) k (β k) x y b' a' ∙ ap (λ (v : ℕ). chain k β' α' (at centrals) k v x y) (b k (omega arith)) in
      λ t. record { centrals = exchanged x y centrals (e t) ++ (x ∷ []); moved = e t }

  pub step_agree : step α β order centrals k ≡ step α' β' order centrals k
  unfolding step
  step_agree = λ t. elim (first_of order (λ c. at_input t c && at_output t c)) [
    | some c ↦ record { centrals = centrals ++ (c ∷ []); moved = [] }
    | none ↦ by_chain_agree (first_of order (at_input t)) (first_of order (at_output t)) t
  ]
