-- The choice rule, as the scope of work writes it. It speaks of modules as functions of the row, α and β, and of any list
-- `order` of distinct centrals, in the order in which they are searched; it knows nothing of gratings, bytes or sizes.
-- The rows below k are the calls placed so far; `centrals` are their centrals, in row order.
--   at centrals i        == the central of row i
--   row_on f γ k v c      == the call placed so far that stands at module v of the side f, on central c
--   is_free f γ k v c     == central c is free at module v of the side f
--   first_of order p      == the first central of the order that passes the test
--   chain n h f γ k v c d == the rows of the chain from module v of the side h, looking for c there and for d next
--   exchange a b c       == a for b, b for a
--   exchanged a b centrals rows == every call of the list changes between a and b
--   step α β order centrals k   == row k is placed; the chain that this took
--   plan α β order K     == the rows below K are placed, one after the other; the chain that each took
--   moved_by chains       == how many calls were moved by these chains
--   first_below k p, is_none o == the least number below k that passes the test; a search that found nothing
--   by_chain, Step, Plan    == the case of a chain; what a step, and what the plan, leaves
use Rattle.std.specs.Prelude.{Bool, true, false, ◌&&◌, List, [], ◌∷◌, ◌++◌, ℕ, zero, suc, ◌+◌, eqb, length, get_or, set}
use Rattle.std.proofs.Math.Option.{Option, none, some}

abbrev pub at : List ℕ → ℕ → ℕ
at centrals i = get_or centrals i 0

-- the least number below k that passes the test
unfoldable pub first_below : ℕ → (ℕ → Bool) → Option ℕ
first_below zero p = none
first_below (suc k) p = elim (first_below k p) [ some i ↦ some i | none ↦ elim (p k) [ true ↦ some k | false ↦ none ] ]

-- the first number of a list that passes the test
unfoldable pub first_of : List ℕ → (ℕ → Bool) → Option ℕ
first_of [] p = none
first_of (c ∷ cs) p = elim (p c) [ true ↦ some c | false ↦ first_of cs p ]

abbrev pub stands : (f γ : ℕ → ℕ) (v c i : ℕ) → Bool
stands f γ v c i = eqb (f i) v && eqb (γ i) c

abbrev pub row_on : (f γ : ℕ → ℕ) (k v c : ℕ) → Option ℕ
row_on f γ k v c = first_below k (stands f γ v c)

unfoldable pub is_none : Option ℕ → Bool
is_none none = true
is_none (some i) = false

abbrev pub is_free : (f γ : ℕ → ℕ) (k v c : ℕ) → Bool
is_free f γ k v c = is_none (row_on f γ k v c)

-- "A chain .. runs from the output module to an input module and back, over calls placed so far: first the call at β on a,
-- then at its input module the call on b, then at its output module the call on a, until none continues it."
-- At module v of the side h the call on c; at its module of the other side, f, the call on d; and so on. The first argument
-- lets the recursion end; that it is never what ends a chain is the law `chain_runs`.
unfoldable pub chain : ℕ → (h f γ : ℕ → ℕ) (k v c d : ℕ) → List ℕ
chain zero h f γ k v c d = []
chain (suc n) h f γ k v c d = elim (row_on h γ k v c) [ none ↦ [] | some e ↦ e ∷ chain n f h γ k (f e) d c ]

-- "Every call on the chain changes between a and b."
unfoldable pub exchange : (a b c : ℕ) → ℕ
exchange a b c = elim (eqb c a) [ true ↦ b | false ↦ elim (eqb c b) [ true ↦ a | false ↦ c ] ]

unfoldable pub exchanged : (a b : ℕ) (centrals rows : List ℕ) → List ℕ
exchanged a b centrals [] = centrals
exchanged a b centrals (e ∷ es) = set (exchanged a b centrals es) e (exchange a b (at centrals e))

-- what placing one call leaves: the centrals, and the rows of the chain, in chain order
pub record Step : Type 0 where
  pub centrals : List ℕ
  pub moved : List ℕ

-- "otherwise let a be the lowest free at α and b the lowest free at β. A chain starts at β .. The new call takes a." As long
-- as it ends, a chain has at most as many calls as are placed, k. Where no central is free at a module, the rule says nothing.
unfoldable pub by_chain : (α β : ℕ → ℕ) (centrals : List ℕ) (k : ℕ) → Option ℕ → Option ℕ → Step
by_chain α β centrals k none free-β = record { centrals = centrals ++ (0 ∷ []); moved = [] }
by_chain α β centrals k (some a) none = record { centrals = centrals ++ (0 ∷ []); moved = [] }
by_chain α β centrals k (some a) (some b) =
    let es = chain k β α (at centrals) k (β k) a b in
    record { centrals = exchanged a b centrals es ++ (a ∷ []); moved = es }

-- "if some central is free at α and at β, take the lowest such"
unfoldable pub step : (α β : ℕ → ℕ) (order centrals : List ℕ) (k : ℕ) → Step
step α β order centrals k =
    elim (first_of order (λ c. is_free α (at centrals) k (α k) c && is_free β (at centrals) k (β k) c)) [
      | some c ↦ record { centrals = centrals ++ (c ∷ []); moved = [] }
      | none ↦ by_chain α β centrals k (first_of order (is_free α (at centrals) k (α k))) (first_of order (is_free β (at centrals) k (β k)))
    ]

-- "Calls are taken in row order." What placing the calls leaves: the centrals, and for each row the chain that placing it took.
pub record Plan : Type 0 where
  pub centrals : List ℕ
  pub chains : List (List ℕ)

unfoldable pub plan : (α β : ℕ → ℕ) (order : List ℕ) (K : ℕ) → Plan
plan α β order zero = record { centrals = []; chains = [] }
plan α β order (suc k) =
    let before = plan α β order k in
    let after = step α β order before.centrals k in
    record { centrals = after.centrals; chains = before.chains ++ (after.moved ∷ []) }

-- "Moved is the number of calls changed, summed over all chains; a call changed twice counts twice."
unfoldable pub moved_by : List (List ℕ) → ℕ
moved_by [] = 0
moved_by (es ∷ chains) = length es + moved_by chains
