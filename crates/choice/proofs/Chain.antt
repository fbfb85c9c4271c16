-- The chain of the choice rule, as a relation with no bound. On a proper colouring it is one list, without repeats, and it takes with it
-- every call on the two centrals at every module that it meets; and the bounded search `chain` finds it.
--   Two c d x            == x is c or d
--   Setting γ k h f c d  == the rows below k are proper on both sides, h and f, and c and d are two
--   Runs γ k h f v c d es == es is the whole chain from module v of the side h, on c there and on d next: it stops only where none continues it
--   near_modules, far_modules h f v es == the modules of the side h, of the side f, at which that chain arrives, v the first
--   turn                 == after one row the chain has changed its side
--   chain_is, search_runs == every bound that the chain does not exceed gives it, and the bounded search finds it
--   rows_of, first_row, closed_far, closed_near == its rows, and that it takes with it every row on the two centrals at a module that it meets
--   runs_distinct, runs_length == no row is on it twice, so that it has at most k
--   used_far, used_near, arrived_near, arrived_far == what is in use at its modules, and by which row it arrives
--   distinct_near, distinct_far == it arrives at no module twice
use Rattle.std.proofs.Math.Path.{◌≡◌, refl, sym}
use Rattle.std.proofs.Common.{ap, ◌∙◌, inl, inr, arith}
use Rattle.std.specs.Prelude.{◌⊎◌, length}
use Rattle.std.proofs.Math.Option.{Option, none, some}
use mathlib.Core.List.{List, [], ◌∷◌}
use Prim.Native.Nat.{ℕ, zero, suc, ◌+◌, ◌≤◌, ◌<◌}
use Rattle.ground.specs.Lists.{In, here, there, Distinct}
use Rattle.ground.specs.ListsLaws.{not_in_nil, few_below}
use Rattle.ground.specs.Below.{Once}
use Rattle.choice.specs.Rule.{chain}
use Rattle.choice.specs.Colouring.{Free}
use Rattle.choice.proofs.Search.{Standing, row, free, standing}

abbrev pub Two : (c d x : ℕ) → Type 0
Two c d x = (x ≡ c) ⊎ (x ≡ d)

two_turn : {c d x : ℕ} → Two c d x → Two d c x
two_turn (inl e) = inr e
two_turn (inr e) = inl e

unfoldable mutual
  pub near_modules : (h f : ℕ → ℕ) (v : ℕ) → List ℕ → List ℕ
  near_modules h f v [] = v ∷ []
  near_modules h f v (e ∷ es) = v ∷ far_modules f h (f e) es

  pub far_modules : (h f : ℕ → ℕ) (v : ℕ) → List ℕ → List ℕ
  far_modules h f v [] = []
  far_modules h f v (e ∷ es) = near_modules f h (f e) es

module _ (γ : ℕ → ℕ) (k : ℕ) where
  pub record Setting (h f : ℕ → ℕ) (c d : ℕ) : Type 0 where
    pub near : Once h γ k
    pub far : Once f γ k
    pub apart : c ≡ d → ⊥

  -- after one row the chain has changed its side, and looks for the other central
  pub turn : {h f : ℕ → ℕ} {c d : ℕ} → Setting h f c d → Setting f h d c
  turn s = record { near = s.far; far = s.near; apart = λ e. s.apart (sym e) }

  pub data Runs : (h f : ℕ → ℕ) (v c d : ℕ) → List ℕ → Type 0 where
    stop : {h f : ℕ → ℕ} {v c d : ℕ} → Free h γ k v c → Runs h f v c d []
    next : {h f : ℕ → ℕ} {v c d : ℕ} {es : List ℕ} (e : ℕ) → e < k → h e ≡ v → γ e ≡ c → Runs f h (f e) d c es → Runs h f v c d (e ∷ es)

  -- every bound that the chain does not exceed gives the same list: there is one chain
  pub chain_is : {h f : ℕ → ℕ} {v c d : ℕ} {es : List ℕ} → Setting h f c d → Runs h f v c d es → (n : ℕ) → length es ≤ n → chain n h f γ k v c d ≡ es
  unfolding chain
  chain_is s (stop w) zero l = refl
  chain_is {h} {f} {v} {c} {d} s (stop w) (suc n) l = go (standing h γ k v c)
    where
      go : {o : Option ℕ} → Standing h γ k v c o → ◌≡◌ {A = List ℕ} (elim o [ none ↦ [] | some e ↦ e ∷ chain n f h γ k (f e) d c ]) []
      go (row e m x y) = absurd (w e m x y)
      go (free u) = refl
  chain_is s (next e m x y r) zero l = absurd (omega arith)
  chain_is {h} {f} {v} {c} {d} s (next {es = es} e m x y r) (suc n) l = go (chain_is (turn s) r n (omega arith)) (standing h γ k v c)
    where
      go : chain n f h γ k (f e) d c ≡ es → {o : Option ℕ} → Standing h γ k v c o
          → ◌≡◌ {A = List ℕ} (elim o [ none ↦ [] | some i ↦ i ∷ chain n f h γ k (f i) d c ]) (e ∷ es)
      go deep (row i j p q) = rw (s.near i e j m (p ∙ sym x) (q ∙ sym y), deep)
      go deep (free u) = absurd (u e m x y)

  -- the chain is made of rows below k on the two centrals
  pub rows_of : {h f : ℕ → ℕ} {v c d : ℕ} {es : List ℕ} → Runs h f v c d es → (i : ℕ) → In i es → (i < k) × Two c d (γ i)
  rows_of (stop w) i p = absurd (not_in_nil p)
  rows_of (next e l x y r) i (here q) = rw q (l, inl y)
  rows_of (next e l x y r) i (there p) = let w = rows_of r i p in (w.0, two_turn w.1)

  -- a row on c at the first module is on the chain
  pub first_row : {h f : ℕ → ℕ} {v c d : ℕ} {es : List ℕ} → Setting h f c d → Runs h f v c d es → (q : ℕ) → q < k → h q ≡ v → γ q ≡ c → In q es
  first_row s (stop w) q m a b = absurd (w q m a b)
  first_row s (next e l x y r) q m a b = here (s.near q e m l (a ∙ sym x) (b ∙ sym y))

  -- A row on c or d that shares a module with a row of the chain is on the chain, except at the first module a row on d.
  mutual
    pub closed_far : {h f : ℕ → ℕ} {v c d : ℕ} {es : List ℕ} → Runs h f v c d es → Setting h f c d
        → (i q : ℕ) → In i es → q < k → f q ≡ f i → Two c d (γ q) → In q es
    closed_far (stop w) s i q p m a t = absurd (not_in_nil p)
    closed_far (next e l x y r) s i q (here p) m a (inl b) = here (s.far q e m l (cc) (b ∙ sym y))
    closed_far (next e l x y r) s i q (here p) m a (inr b) = there (first_row (turn s) r q m (cc) b)
    closed_far {h} {f} {v} {c} {d} (next {es = es} e l x y r) s i q (there p) m a t = go (closed_near r (turn s) i q p m a (two_turn t))
      where
        go : In q es ⊎ ((f q ≡ f e) × (γ q ≡ c)) → In q (e ∷ es)
        go (inl w) = there w
        go (inr w) = here (s.far q e m l w.0 (w.1 ∙ sym y))

    pub closed_near : {h f : ℕ → ℕ} {v c d : ℕ} {es : List ℕ} → Runs h f v c d es → Setting h f c d
        → (i q : ℕ) → In i es → q < k → h q ≡ h i → Two c d (γ q) → In q es ⊎ ((h q ≡ v) × (γ q ≡ d))
    closed_near (stop w) s i q p m a t = absurd (not_in_nil p)
    closed_near (next e l x y r) s i q (here p) m a (inl b) = inl (here (s.near q e m l (cc) (b ∙ sym y)))
    closed_near (next e l x y r) s i q (here p) m a (inr b) = inr ((cc), b)
    closed_near (next e l x y r) s i q (there p) m a t = inl (there (closed_far r (turn s) i q p m a (two_turn t)))

  -- what follows row i, which the chain enters from the side h on c
  abbrev After : (h f : ℕ → ℕ) (c d i n : ℕ) → Type 0
  After h f c d i n = (rest : List ℕ) × Runs f h (f i) d c rest × (length rest < n)

  after : {h f : ℕ → ℕ} {v c d : ℕ} {es : List ℕ} → Setting h f c d → Runs h f v c d es → (i : ℕ) → In i es
      → (γ i ≡ c → After h f c d i (length es)) × (γ i ≡ d → After f h d c i (length es))
  after s (stop w) i p = absurd (not_in_nil p)
  after {h} {f} {v} {c} {d} s (next {es = es} e l x y r) i (here q) = (λ z. rw q (es, r, omega arith), λ z. absurd (s.apart (cc)))
  after s (next e l x y r) i (there p) =
      let w = after (turn s) r i p in
      (λ z. let u = w.1 z in (u.0, u.1, omega arith), λ z. let u = w.0 z in (u.0, u.1, omega arith))

  -- no row is on the chain twice: after its second place the chain would go on as after its first, and it is longer there
  pub runs_distinct : {h f : ℕ → ℕ} {v c d : ℕ} {es : List ℕ} → Setting h f c d → Runs h f v c d es → Distinct es
  runs_distinct s (stop w) = tt
  runs_distinct s (next {es = es} e l x y r) = (
    (λ p.
        let u = (after (turn s) r e p).1 y in
        let same : es ≡ u.0 = sym (chain_is (turn s) r (length es) (omega arith)) ∙ chain_is (turn s) u.1 (length es) (omega arith) in
        omega (arith, ap length same)),
    runs_distinct (turn s) r,
  )

  -- so it has at most k rows
  pub runs_length : {h f : ℕ → ℕ} {v c d : ℕ} {es : List ℕ} → Setting h f c d → Runs h f v c d es → length es ≤ k
  runs_length {es = es} s r = few_below k es (runs_distinct s r) (λ i p. (rows_of r i p).0)

  -- one more row, read backwards
  backwards : {h f : ℕ → ℕ} {v c d : ℕ} {es : List ℕ} (e : ℕ) → e < k → h e ≡ v → γ e ≡ c → Runs h f v d c es → Runs f h (f e) c d (e ∷ es)
  backwards {h} {f} {v} {c} {d} {es} e l x y r = let w : Runs h f (h e) d c es = rw x r in next e l refl y w

  -- The search, which has met the rows of back and stands at v, finds the chain from there: the rows met, read backwards, are the chain
  -- from v on the other central, so that they cannot be more than k.
  pub search_runs : {h f : ℕ → ℕ} {c d : ℕ} (n : ℕ) {v : ℕ} {back : List ℕ}
      → Setting h f c d → Runs h f v d c back → k ≤ n + length back → Runs h f v c d (chain n h f γ k v c d)
  unfolding chain
  search_runs zero s r b =
      stop (λ q l x y. omega (arith, runs_length (record { near = s.far; far = s.near; apart = s.apart }) (backwards q l x y r)))
  search_runs {h} {f} {c} {d} (suc n) {v} {back} s r b = go (λ e w. search_runs n (turn s) w (omega arith)) (standing h γ k v c)
    where
      go : ((e : ℕ) → Runs f h (f e) c d (e ∷ back) → Runs f h (f e) d c (chain n f h γ k (f e) d c))
          → {o : Option ℕ} → Standing h γ k v c o → Runs h f v c d (elim o [ none ↦ [] | some e ↦ e ∷ chain n f h γ k (f e) d c ])
      go deep (row e l x y) = next e l x y (deep e (backwards e l x y r))
      go deep (free w) = stop w

  -- At the far module of each row of the chain c is in use, and at its near module d is, except at the first.
  mutual
    pub used_far : {h f : ℕ → ℕ} {v c d : ℕ} {es : List ℕ} → Runs h f v c d es → (i : ℕ) → In i es → Free f γ k (f i) c → ⊥
    used_far (stop w) i p u = absurd (not_in_nil p)
    used_far (next e l x y r) i (here q) u = u e l (cc) y
    used_far {h} {f} {v} {c} {d} (next e l x y r) i (there p) u = go (used_near r i p)
      where
        go : (f i ≡ f e) ⊎ (Free f γ k (f i) c → ⊥) → ⊥
        go (inl w) = u e l (sym w) y
        go (inr w) = w u

    pub used_near : {h f : ℕ → ℕ} {v c d : ℕ} {es : List ℕ} → Runs h f v c d es → (i : ℕ) → In i es → (h i ≡ v) ⊎ (Free h γ k (h i) d → ⊥)
    used_near (stop w) i p = absurd (not_in_nil p)
    used_near (next e l x y r) i (here q) = inl (cc)
    used_near (next e l x y r) i (there p) = inr (λ u. used_far r i p u)

  -- A module at which the chain arrives is its first, or one that a row of it leaves by: a row on d on the near side, a row on c on the far side.
  mutual
    unfolding near_modules far_modules

    pub arrived_near : {h f : ℕ → ℕ} {v c d : ℕ} {es : List ℕ} → Runs h f v c d es → (z : ℕ) → In z (near_modules h f v es)
        → (z ≡ v) ⊎ ((i : ℕ) × In i es × (γ i ≡ d) × (h i ≡ z))
    arrived_near (stop w) z (here q) = inl q
    arrived_near (stop w) z (there p) = absurd (not_in_nil p)
    arrived_near (next e l x y r) z (here q) = inl q
    arrived_near (next e l x y r) z (there p) = let w = arrived_far r z p in inr (w.0, there w.1, w.2, w.3)

    pub arrived_far : {h f : ℕ → ℕ} {v c d : ℕ} {es : List ℕ} → Runs h f v c d es → (z : ℕ) → In z (far_modules h f v es)
        → (i : ℕ) × In i es × (γ i ≡ c) × (f i ≡ z)
    arrived_far (stop w) z p = absurd (not_in_nil p)
    arrived_far {h} {f} {v} {c} {d} (next {es = es} e l x y r) z p = go (arrived_near r z p)
      where
        go : (z ≡ f e) ⊎ ((i : ℕ) × In i es × (γ i ≡ c) × (f i ≡ z)) → (i : ℕ) × In i (e ∷ es) × (γ i ≡ c) × (f i ≡ z)
        go (inl q) = (e, here refl, y, sym q)
        go (inr w) = (w.0, there w.1, w.2, w.3)

  -- the chain arrives at no module twice, on either side, where d is free at the first
  mutual
    unfolding near_modules far_modules

    pub distinct_near : {h f : ℕ → ℕ} {v c d : ℕ} {es : List ℕ} → Runs h f v c d es → Setting h f c d
        → ((i : ℕ) → In i es → γ i ≡ d → h i ≡ v → ⊥) → Distinct (near_modules h f v es)
    distinct_near (stop w) s away = (not_in_nil, tt)
    distinct_near {v = v} (next e l x y r) s away = ((λ p. let w = arrived_far r v p in away w.0 (there w.1) w.2 w.3), distinct_far r (turn s))

    pub distinct_far : {h f : ℕ → ℕ} {v c d : ℕ} {es : List ℕ} → Runs h f v c d es → Setting h f c d → Distinct (far_modules h f v es)
    distinct_far (stop w) s = tt
    distinct_far (next e l x y r) s =
        distinct_near r (turn s) (λ i p b a. (runs_distinct s (next e l x y r)).0 (rw (s.far i e (rows_of r i p).0 l a (b ∙ sym y)) at p))
