-- What is counted of a plan: the calls that its chains move, and those of a module. A table with a proper colouring overfills no module.
--   moved_more          == one chain more
--   fits_side, fits_all == a table with a proper colouring overfills no module
use Rattle.std.specs.Prelude.{◌≡◌, List, [], ◌∷◌, ◌++◌, ℕ, suc, ◌+◌, ◌<◌, length}
use Rattle.std.proofs.Common.{arith}
use Rattle.ground.specs.Lists.{In}
use Rattle.ground.specs.Below.{Once}
use Rattle.choice.specs.Rule.{moved_by}
use Rattle.choice.specs.Colouring.{at_module, Fine, Fits}
use Rattle.choice.proofs.Count.{overfull_uncoloured}

-- one chain more
pub moved_more : (chains : List (List ℕ)) (es : List ℕ) → moved_by (chains ++ (es ∷ [])) ≡ moved_by chains + length es
unfolding moved_by
moved_more [] es = omega arith
moved_more (fs ∷ chains) es = omega (arith, moved_more chains es)

-- a side with a proper colouring in centrals of the order overfills no module
pub fits_side : (f γ : ℕ → ℕ) (order : List ℕ) (K : ℕ) → Once f γ K → ((i : ℕ) → i < K → In (γ i) order) → (i : ℕ) → i < K → Fits f order i
fits_side f γ order K proper inside i l =
    let full : ¬ (length order < length (at_module f (suc i) (f i))) =
    λ h. overfull_uncoloured f γ (suc i) (f i) order (λ p q lp lq. proper p q (omega arith) (omega arith)) (λ p lp. inside p (omega arith)) h in
    omega arith

-- So a table with any fine colouring overfills no module: what the refusal of an overfull row rests on.
pub fits_all : (α β : ℕ → ℕ) (order : List ℕ) (γ : ℕ → ℕ) (K : ℕ) → Fine α β order γ K → (i : ℕ) → i < K → Fits α order i × Fits β order i
fits_all α β order γ K w i l = (fits_side α γ order K w.proper_α w.inside i l, fits_side β γ order K w.proper_β w.inside i l)
