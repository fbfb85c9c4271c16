-- Which centrals are in use after a step, module by module: what a record of use has to store, besides the central of the new call.
-- A chain exchanges the use of a and b at the one module at which it ends, and at no other: at the modules between, both are in use
-- before and after; at the first, the output module of the new call, b comes into use and the new call takes a.
--   end_of h f v es == the module at which a chain of these rows ends that starts at module v of the side h
--   odd es         == it has an odd number of rows: it ends on the side f, and not on the side h on which it starts
--   end_last, odd_length == the end of a chain, by its last row and its length
--   use_next, use_same == one row more, and another colouring of the same rows
--   use_chain_α, use_chain_β == what is free after a chain
use Rattle.std.specs.Prelude.{◌≡◌, refl, ◌⊎◌, ◌↔◌, Bool, true, false, not, ◌&&◌, cond, List, [], ◌∷◌, ◌++◌, ℕ, suc, ◌%◌, ◌<◌, eqb, length, get_or}
use Rattle.std.proofs.Common.{sym, ap, ◌∙◌, ⊎_elim, arith, eq-eqb, ne_eqb}
use Rattle.std.proofs.Math.Logic.{inl, inr, ⊎_map}
use Rattle.std.proofs.lemmas.Bool.{false≢true, not-true, not-false}
use Rattle.std.proofs.Math.Option.{Option}
use Rattle.std.proofs.Math.Decide.{ℕ_discrete}
use Rattle.ground.specs.TruthLaws.{same_test}
use Rattle.ground.specs.Numbers.{below_suc}
use Rattle.ground.specs.Lists.{In, here, there}
use Rattle.ground.specs.ListsLaws.{not_in_nil, look_for}
use Rattle.choice.specs.Rule.{at, is_free, exchange, exchanged}
use Rattle.choice.specs.Colouring.{Free}
use Rattle.choice.proofs.Search.{Standing, row, free, standing, free_iff}
use Rattle.choice.proofs.Chain.{Two, Runs, stop, next, used_far, used_near}
use Rattle.choice.proofs.Exchange.{exchange_first, exchange_second, exchange_other, one_of, exchange_twice, Change, changed, kept, length_exchanged, change_together}
use Rattle.choice.proofs.StepLaws.{ChainStart, step_chain, after_chain, chain_runs, chain_rows, chain_start, chain_closed_α, chain_closed_β, placed_same, placed_new, chain_change}

unfoldable pub end_of : (h f : ℕ → ℕ) (v : ℕ) → List ℕ → ℕ
end_of h f v [] = v
end_of h f v (e ∷ es) = end_of f h (f e) es

unfoldable pub odd : List ℕ → Bool
odd [] = false
odd (e ∷ es) = not (odd es)

-- ---- the end of a chain, by its last row

-- A chain ends at a module of its last row: of the other side than it starts at, where it has an odd number of rows, else of the same.
pub end_last : (h f : ℕ → ℕ) (v e : ℕ) (es : List ℕ) → end_of h f v (e ∷ es) ≡ cond (odd (e ∷ es)) (f (get_or (e ∷ es) (length es) 0)) (h (get_or (e ∷ es) (length es) 0))
unfolding end_of odd
end_last h f v e [] = refl
end_last h f v e (i ∷ es) = end_last f h (f e) i es ∙ turned (odd es) _ _
  where
    turned : (t : Bool) (x y : ℕ) → ◌≡◌ {A = ℕ} (cond (not t) x y) (cond (not (not t)) y x)
    turned true x y = refl
    turned false x y = refl

odd_next : (n : ℕ) → not (eqb (n % 2) 1) ≡ eqb (suc n % 2) 1
odd_next n = go (ℕ_discrete (n % 2) 1)
  where
    go : Dec (n % 2 ≡ 1) → not (eqb (n % 2) 1) ≡ eqb (suc n % 2) 1
    go (yes e) = rw (eq-eqb (n % 2) 1 e, ne_eqb (suc n % 2) 1 (λ q. omega arith))
    go (no m) = rw (ne_eqb (n % 2) 1 m, eq-eqb (suc n % 2) 1 (omega arith))

pub odd_length : (es : List ℕ) → odd es ≡ eqb (length es % 2) 1
unfolding odd
odd_length [] = refl
odd_length (e ∷ es) = ap not (odd_length es) ∙ odd_next (length es)

module _ (γ : ℕ → ℕ) (k : ℕ) where
  -- at a module at which the chain does not end, it goes on: c is in use there
  goes_on : {h f : ℕ → ℕ} {v c d : ℕ} {es : List ℕ} → Runs γ k h f v c d es → ((odd es ≡ false) × (v ≡ end_of h f v es)) ⊎ (Free h γ k v c → ⊥)
  unfolding odd end_of
  goes_on (stop w) = inl (refl, refl)
  goes_on (next e l x y r) = inr (λ u. u e l x y)

  -- At the far module of a row d is in use, and at its near module c, unless the chain ends there.
  mutual
    unfolding odd end_of

    left_far : {h f : ℕ → ℕ} {v c d : ℕ} {es : List ℕ} → Runs γ k h f v c d es
        → (i : ℕ) → In i es → ((odd es ≡ true) × (f i ≡ end_of h f v es)) ⊎ (Free f γ k (f i) d → ⊥)
    left_far (stop w) i p = absurd (not_in_nil p)
    left_far {h} {f} {v} {c} {d} (next {es = es} e l x y r) i (here q) = go (goes_on r)
      where
        go : ((odd es ≡ false) × (f e ≡ end_of f h (f e) es)) ⊎ (Free f γ k (f e) d → ⊥) → ((not (odd es) ≡ true) × (f i ≡ end_of f h (f e) es)) ⊎ (Free f γ k (f i) d → ⊥)
        go (inl w) = inl (ap not w.0, ap f q ∙ w.1)
        go (inr w) = inr (λ u. w (rw q at u))
    left_far {h} {f} {v} {c} {d} (next {es = es} e l x y r) i (there p) = ⊎_map (λ w. (ap not w.0, w.1)) (λ w. w) (left_near r i p)

    left_near : {h f : ℕ → ℕ} {v c d : ℕ} {es : List ℕ} → Runs γ k h f v c d es
        → (i : ℕ) → In i es → ((odd es ≡ false) × (h i ≡ end_of h f v es)) ⊎ (Free h γ k (h i) c → ⊥)
    left_near (stop w) i p = absurd (not_in_nil p)
    left_near (next e l x y r) i (here q) = inr (λ u. u e l (cc) y)
    left_near (next e l x y r) i (there p) = ⊎_map (λ w. (ap not w.0, w.1)) (λ w. w) (left_far r i p)

  -- The chain ends at the far module of a row on c, or at the near module of a row on d, or where it started.
  mutual
    unfolding odd end_of

    last_far : {h f : ℕ → ℕ} {v c d : ℕ} {es : List ℕ} → Runs γ k h f v c d es
        → odd es ≡ true → (i : ℕ) × In i es × (γ i ≡ c) × (f i ≡ end_of h f v es)
    last_far (stop w) o = absurd (false≢true o)
    last_far {h} {f} {v} {c} {d} (next {es = es} e l x y r) o = go (last_near r (not-true (odd es) o))
      where
        go : (es ≡ []) ⊎ ((i : ℕ) × In i es × (γ i ≡ c) × (f i ≡ end_of f h (f e) es)) → (i : ℕ) × In i (e ∷ es) × (γ i ≡ c) × (f i ≡ end_of f h (f e) es)
        go (inl z) = (e, here refl, y, rw z refl)
        go (inr w) = (w.0, there w.1, w.2, w.3)

    last_near : {h f : ℕ → ℕ} {v c d : ℕ} {es : List ℕ} → Runs γ k h f v c d es
        → odd es ≡ false → (es ≡ []) ⊎ ((i : ℕ) × In i es × (γ i ≡ d) × (h i ≡ end_of h f v es))
    last_near (stop w) o = inl refl
    last_near (next {es = es} e l x y r) o = let w = last_far r (not-false (odd es) o) in inr (w.0, there w.1, w.2, w.3)

-- ---- use, before and after

module _ (f γ : ℕ → ℕ) (k v c : ℕ) where
  same_free : (g δ : ℕ → ℕ) (m w d : ℕ) → Free f γ k v c ↔ Free g δ m w d → is_free f γ k v c ≡ is_free g δ m w d
  same_free g δ m w d e =
      let p = free_iff f γ k v c in
      let q = free_iff g δ m w d in
      same_test (is_free f γ k v c) (is_free g δ m w d) (λ t. q.1 (e.0 (p.0 t)), λ t. p.1 (e.1 (q.0 t)))

  in_use_lem : (Free f γ k v c → ⊥) → is_free f γ k v c ≡ false
  in_use_lem n = same_test (is_free f γ k v c) false (λ t. n ((free_iff f γ k v c).0 t), λ t. absurd t)

-- One row more: its central comes into use at its module, and nothing else changes.
pub use_next : (f γ : ℕ → ℕ) (k v x : ℕ) → is_free f γ (suc k) v x ≡ cond (eqb v (f k) && eqb x (γ k)) false (is_free f γ k v x)
use_next f γ k v x = go (ℕ_discrete v (f k)) (ℕ_discrete x (γ k))
  where
    other : ((f k ≡ v) × (γ k ≡ x) → ⊥) → is_free f γ (suc k) v x ≡ is_free f γ k v x
    other n = same_free f γ (suc k) v x f γ k v x (
      (λ w q l. w q (omega arith)),
      (λ w q l m e. ⊎_elim (λ z. n (cc, cc)) (λ j. w q j m e) (below_suc l)),
    )

    go : Dec (v ≡ f k) → Dec (x ≡ γ k) → is_free f γ (suc k) v x ≡ cond (eqb v (f k) && eqb x (γ k)) false (is_free f γ k v x)
    go (yes p) (yes q) = rw (eq-eqb v (f k) p, eq-eqb x (γ k) q) (in_use_lem f γ (suc k) v x (λ w. w k (omega arith) (sym p) (sym q)))
    go (yes p) (no n) = rw (eq-eqb v (f k) p, ne_eqb x (γ k) n) (other (λ w. n (sym w.1)))
    go (no n) q = rw (ne_eqb v (f k) n) (other (λ w. n (sym w.0)))

-- Two colourings that agree on the rows below k have the same free centrals.
pub use_same : (f γ δ : ℕ → ℕ) (k v x : ℕ) → ((i : ℕ) → i < k → γ i ≡ δ i) → is_free f γ k v x ≡ is_free f δ k v x
use_same f γ δ k v x same = same_free f γ k v x f δ k v x ((λ w q l m e. w q l m (same q l ∙ e)), (λ w q l m e. w q l m (sym (same q l) ∙ e)))

-- A new call takes a central.
use_placed : (f : ℕ → ℕ) (centrals : List ℕ) (k c : ℕ) → length centrals ≡ k → (v x : ℕ)
    → is_free f (at (centrals ++ (c ∷ []))) (suc k) v x ≡ cond (eqb v (f k) && eqb x c) false (is_free f (at centrals) k v x)
use_placed f centrals k c size v x =
    rw (use_next f (at (centrals ++ (c ∷ []))) k v x, placed_new centrals k c size, use_same f (at (centrals ++ (c ∷ []))) (at centrals) k v x (λ i l. placed_same centrals k c i size l))

-- The exchange on a closed set of rows.
module _ (f γ γ' : ℕ → ℕ) (k a b : ℕ) (es : List ℕ)
    (change : (i : ℕ) → i < k → Change a b es i (γ i) (γ' i))
    (closed : (i q : ℕ) → In i es → q < k → f q ≡ f i → Two a b (γ q) → In q es) where
  -- at a module of one of its rows the use of a and b is exchanged
  use_met : (i x : ℕ) → In i es → is_free f γ' k (f i) x ≡ is_free f γ k (f i) (exchange a b x)
  use_met i x p = same_free f γ' k (f i) x f γ k (f i) (exchange a b x) (
    (λ w q l m e. w q l m (cc (change_together f γ γ' k a b es change closed i q p l m, exchange_twice a b x))),
    (λ w q l m e. w q l m (cc (change_together f γ γ' k a b es change closed i q p l m, exchange_twice a b (γ q)))),
  )

  -- at every other module nothing changes
  use_apart : (v x : ℕ) → ((i : ℕ) → In i es → f i ≡ v → ⊥) → is_free f γ' k v x ≡ is_free f γ k v x
  use_apart v x away = same_free f γ' k v x f γ k v x ((λ w q l m e. w q l m (same q l m ∙ e)), (λ w q l m e. w q l m (sym (same q l m) ∙ e)))
    where
      same : (q : ℕ) → q < k → f q ≡ v → γ' q ≡ γ q
      same q l m = go (change q l)
        where
          go : Change a b es q (γ q) (γ' q) → γ' q ≡ γ q
          go (changed p e) = absurd (away q p m)
          go (kept n e) = e

  -- where both are in use, their exchange changes nothing
  use_both : (v x : ℕ) → (Free f γ k v a → ⊥) → (Free f γ k v b → ⊥) → is_free f γ k v (exchange a b x) ≡ is_free f γ k v x
  use_both v x used-a used-b = go (one_of a b x)
    where
      go : Two a b x ⊎ (Two a b x → ⊥) → is_free f γ k v (exchange a b x) ≡ is_free f γ k v x
      go (inl (inl e)) = rw (e, exchange_first a b) (in_use_lem f γ k v b used-b ∙ sym (in_use_lem f γ k v a used-a))
      go (inl (inr e)) = rw (e, exchange_second a b) (in_use_lem f γ k v a used-a ∙ sym (in_use_lem f γ k v b used-b))
      go (inr n) = rw (exchange_other a b x n)

  -- So, where both are in use at each module of the set but one, E, the use is exchanged at E, and nowhere else changes. `ends`: whether E is of this side.
  use_exchanged : (ends : Bool) (E v x : ℕ) → (ends ≡ true → (i : ℕ) × In i es × (f i ≡ E))
      → ((i : ℕ) → In i es → f i ≡ v → ((ends ≡ true) × (v ≡ E) → ⊥) → (Free f γ k v a → ⊥) × (Free f γ k v b → ⊥))
      → is_free f γ' k v x ≡ cond (ends && eqb v E) (is_free f γ k v (exchange a b x)) (is_free f γ k v x)
  use_exchanged ends E v x at-end used = go ends refl (ℕ_discrete v E)
    where
      elsewhere : ((ends ≡ true) × (v ≡ E) → ⊥) → is_free f γ' k v x ≡ is_free f γ k v x
      elsewhere n = met (look_for f v es)
        where
          met : ((i : ℕ) × In i es × (f i ≡ v)) ⊎ ((i : ℕ) → In i es → f i ≡ v → ⊥) → is_free f γ' k v x ≡ is_free f γ k v x
          met (inl w) =
              let u = used w.0 w.1 w.2 n in
              (rw w.2 at (use_met w.0 x w.1)) ∙ use_both v x u.0 u.1
          met (inr away) = use_apart v x away

      go : (t : Bool) → ends ≡ t → Dec (v ≡ E) → is_free f γ' k v x ≡ cond (t && eqb v E) (is_free f γ k v (exchange a b x)) (is_free f γ k v x)
      go true e (yes q) =
          let w = at-end e in
          rw (eq-eqb v E q) (rw (w.2 ∙ sym q) at (use_met w.0 x w.1))
      go true e (no n) = rw (ne_eqb v E n) (elsewhere (λ w. n w.1))
      go false e q = elsewhere (λ w. false≢true (sym e ∙ w.0))

-- ---- use after a chain

-- Row k is placed by a chain: the rule's a is in use at its output module, as it is not free at both modules.
module _ (α β : ℕ → ℕ) (centrals : List ℕ) (k a b : ℕ) (size : length centrals ≡ k)
    (s : ChainStart α β (at centrals) k a b) (taken : Free β (at centrals) k (β k) a → ⊥) where
  abbrev γ : ℕ → ℕ
  γ = at centrals

  abbrev es : List ℕ
  es = step_chain α β γ k a b

  abbrev after : List ℕ
  after = exchanged a b centrals es

  abbrev end : ℕ
  end = end_of β α (β k) es

  runs : Runs γ k β α (β k) a b es
  runs = chain_runs α β γ k a b s

  change : (i : ℕ) → i < k → Change a b es i (γ i) (at after i)
  change = chain_change α β centrals k a b size s

  -- the first row of the chain
  first : (i : ℕ) × In i es × (β i ≡ β k)
  first = go (standing β γ k (β k) a)
    where
      go : {o : Option ℕ} → Standing β γ k (β k) a o → (i : ℕ) × In i es × (β i ≡ β k)
      go (row e l x y) = (e, chain_start α β γ k a b s e l x y, x)
      go (free w) = absurd (taken w)

  -- a chain that ends at an output module ends at that of a row on b
  end_β : odd es ≡ false → (i : ℕ) × In i es × (γ i ≡ b) × (β i ≡ end)
  end_β o = go (last_near γ k runs o)
    where
      go : (es ≡ []) ⊎ ((i : ℕ) × In i es × (γ i ≡ b) × (β i ≡ end)) → (i : ℕ) × In i es × (γ i ≡ b) × (β i ≡ end)
      go (inl e) = absurd (not_in_nil (rw e at first.1))
      go (inr w) = w

  used_α : (v x : ℕ) → is_free α (at after) k v x ≡ cond (odd es && eqb v end) (is_free α γ k v (exchange a b x)) (is_free α γ k v x)
  used_α v x = use_exchanged α γ (at after) k a b es change (chain_closed_α α β γ k a b s) (odd es) end v x
      (λ o. let w = last_far γ k runs o in (w.0, w.1, w.3))
      (λ i p e n. (λ u. used_far γ k runs i p (rw e u), λ u. ⊎_elim (λ w. n (w.0, sym e ∙ w.1)) (λ w. w (rw e u)) (left_far γ k runs i p)))

  used_β : (v x : ℕ) → (v ≡ β k → ⊥) → is_free β (at after) k v x ≡ cond (not (odd es) && eqb v end) (is_free β γ k v (exchange a b x)) (is_free β γ k v x)
  used_β v x m = use_exchanged β γ (at after) k a b es change (chain_closed_β α β γ k a b s) (not (odd es)) end v x
      (λ o. let w = end_β (not-true (odd es) o) in (w.0, w.1, w.3))
      (λ i p e n. (
        (λ u. ⊎_elim (λ w. n (ap not w.0, sym e ∙ w.1)) (λ w. w (rw e u)) (left_near γ k runs i p)),
        (λ u. ⊎_elim (λ w. m (sym e ∙ w)) (λ w. w (rw e u)) (used_near γ k runs i p)),
      ))

  -- no chain ends at a module of the new call: b is free at its output module, and no chain reaches its input module
  away_β : odd es ≡ false → end ≡ β k → ⊥
  away_β o z = let w = end_β o in s.free_b w.0 (chain_rows α β γ k a b s w.0 w.1).0 (w.3 ∙ z) w.2

  -- at the output module of the new call
  not_end : (not (odd es) && eqb (β k) end) ≡ false
  not_end = go (odd es) refl
    where
      go : (t : Bool) → odd es ≡ t → (not t && eqb (β k) end) ≡ false
      go true o = refl
      go false o = ne_eqb (β k) end (λ z. away_β o (sym z))

  used_start : (x : ℕ) → cond (eqb x a) false (is_free β (at after) k (β k) x) ≡ cond (eqb x b) false (is_free β γ k (β k) x)
  used_start x = rw met (go (one_of a b x))
    where
      met : is_free β (at after) k (β k) x ≡ is_free β γ k (β k) (exchange a b x)
      met = rw first.2 at (use_met β γ (at after) k a b es change (chain_closed_β α β γ k a b s) first.0 x first.1)

      go : Two a b x ⊎ (Two a b x → ⊥) → cond (eqb x a) false (is_free β γ k (β k) (exchange a b x)) ≡ cond (eqb x b) false (is_free β γ k (β k) x)
      go (inl (inl e)) = rw (eq-eqb x a e, ne_eqb x b (λ z. s.apart (sym e ∙ z)), e) (sym (in_use_lem β γ k (β k) a taken))
      go (inl (inr e)) = rw (ne_eqb x a (λ z. s.apart (sym z ∙ e)), eq-eqb x b e, e, exchange_second a b) (in_use_lem β γ k (β k) a taken)
      go (inr n) = rw (ne_eqb x a (λ z. n (inl z)), ne_eqb x b (λ z. n (inr z)), exchange_other a b x n)

  -- Input modules: a comes into use at that of the new call, and a and b are exchanged where the chain ends, if it ends at an input module.
  pub use_chain_α : (v x : ℕ) → is_free α (at (after_chain α β centrals k a b)) (suc k) v x
      ≡ cond (eqb v (α k) && eqb x a) false
      (cond (odd (step_chain α β (at centrals) k a b) && eqb v (end_of β α (β k) (step_chain α β (at centrals) k a b))) (is_free α (at centrals) k v (exchange a b x)) (is_free α (at centrals) k v x))
  use_chain_α v x = rw (use_placed α after k a (length_exchanged a b centrals es ∙ size) v x, used_α v x)

  -- Output modules: b comes into use at that of the new call, at which a was, and a and b are exchanged where the chain ends, if it ends at an output module.
  pub use_chain_β : (v x : ℕ) → is_free β (at (after_chain α β centrals k a b)) (suc k) v x
      ≡ cond (eqb v (β k) && eqb x b) false
      (cond (not (odd (step_chain α β (at centrals) k a b)) && eqb v (end_of β α (β k) (step_chain α β (at centrals) k a b))) (is_free β (at centrals) k v (exchange a b x)) (is_free β (at centrals) k v x))
  use_chain_β v x = rw (use_placed β after k a (length_exchanged a b centrals es ∙ size) v x) (go (ℕ_discrete v (β k)))
    where
      go : Dec (v ≡ β k) → cond (eqb v (β k) && eqb x a) false (is_free β (at after) k v x)
          ≡ cond (eqb v (β k) && eqb x b) false (cond (not (odd es) && eqb v end) (is_free β γ k v (exchange a b x)) (is_free β γ k v x))
      go (no n) = rw (ne_eqb v (β k) n) (used_β v x n)
      go (yes e) = rw (e, eq-eqb (β k) (β k) refl, not_end) (used_start x)
