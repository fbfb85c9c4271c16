-- The two chain steps do what the choice rule says. A chain step changes its row before it goes on, so that the next one meets the rows
-- as the steps before it left them; that it finds the rows of the rule's chain all the same is shown here, once for both sides.
--   search_answer       == a search for the call on a central, by rising rows
--   on_hit, on_miss, on_end == the same row by row, where it answers a number
--   mends_chain         == from the new call, which stands on b and takes a, the steps change the rows of the rule's chain, and leave what it leaves
--   Stepping            == a chain step has searched for the call that stands on its central
--   mended_end, mended_on, mendable_on == the cases of a chain step, for its code
--   told_row            == the row of the chain that stands at a place
--   some_left, tell_room == what a chain step that has found a call knows
--   same_mends, not_twice, telling_length == small laws for the proofs above
use Rattle.std.specs.Prelude.{◌≡◌, ◌⊎◌, Bool, true, false, not, ℕ, zero, suc, ◌+◌, ◌*◌, ◌-◌, ◌/◌, ◌≤◌, ◌<◌, eqb, length, get_or, set, Option as Answer, Some, None, MatchOption}
use Rattle.std.proofs.Math.Path.{refl, ap}
use Rattle.std.proofs.Common.{sym, ◌∙◌, inl, inr, ⊎_elim, add-one, arith, length-set, length-append, get_or-set_same, get_or-set_other, ext_get_or, eqb-true}
use Rattle.std.proofs.Math.Option.{Option, none, some}
use mathlib.Core.List.{List, [], ◌∷◌, ◌++◌}
use Rattle.std.proofs.Math.Decide.{ℕ_discrete, le_ind}
use Rattle.ground.specs.TruthLaws.{same_test}
use Rattle.ground.specs.Numbers.{below_suc}
use Rattle.ground.specs.Lists.{In, here, there, Distinct}
use Rattle.ground.specs.ListsLaws.{not_in_nil}
use Rattle.shelf.specs.Network.{most_calls}
use Rattle.choice.specs.Rule.{at, first_below, stands, row_on, exchange, exchanged}
use Rattle.choice.specs.Colouring.{Free}
use Rattle.choice.specs.Rows.{module_in, centrals_of}
use Rattle.choice.specs.Record.{found_by, told}
use Rattle.choice.specs.Placement.{chain_places, Mends, stop, next, MendsIn, telling, Mendable, Mended}
use Rattle.choice.proofs.Search.{Standing, row, free, standing, stands_iff, row_below}
use Rattle.choice.proofs.Chain.{Setting, turn, Runs, stop as at-end, next as goes_on}
use Rattle.choice.proofs.Exchange.{exchange_first, exchange_second, exchange_twice, Change, changed, kept, length_exchanged}
use Rattle.choice.proofs.StepLaws.{ChainStart, step_chain, after_chain, setting, chain_runs, chain_distinct, chain_rows, chain_change, placed_same, placed_new}
use Rattle.choice.proofs.RecordLaws.{told_there, told_nothing}
use Rattle.choice.proofs.RowsLaws.{modules_same, recolour, recolour_again}

-- ---- a search for the call on a central

-- one stands there, and no other; or none does
module _ (h γ : ℕ → ℕ) (k v c : ℕ) where
  on_one : (e : ℕ) → e < k → h e ≡ v → γ e ≡ c → ((i : ℕ) → i < k → h i ≡ v → γ i ≡ c → i ≡ e) → row_on h γ k v c ≡ some e
  on_one e l x y only = go (standing h γ k v c)
    where
      go : {o : Option ℕ} → Standing h γ k v c o → o ≡ some e
      go (row i m p q) = rw (only i m p q)
      go (free w) = absurd (w e l x y)

  on_none : Free h γ k v c → row_on h γ k v c ≡ none
  on_none n = go (standing h γ k v c)
    where
      go : {o : Option ℕ} → Standing h γ k v c o → o ≡ none
      go (row i m p q) = absurd (n i m p q)
      go (free w) = refl

-- none below i passes, and i does
search_hit : (p : ℕ → Bool) (i k : ℕ) → first_below i p ≡ none → p i ≡ true → i < k → first_below k p ≡ some i
unfolding first_below
search_hit p i k e h l = le_ind (λ j. first_below j p ≡ some i) (rw (e, h)) (λ j m q. rw (q, first_below)) k l

search_miss : (p : ℕ → Bool) (i : ℕ) → first_below i p ≡ none → p i ≡ false → first_below (i + 1) p ≡ none
unfolding first_below
search_miss p i e n = rw (add-one i, e, n)

-- what a search by rising rows tells, of the row i that it has come to
module _ (h γ : ℕ → ℕ) (v c i : ℕ) (so_far : row_on h γ i v c ≡ none) where
  pub on_hit : (k : ℕ) → h i ≡ v → γ i ≡ c → i < k → row_on h γ k v c ≡ told k i
  on_hit k x y l = search_hit _ i k so_far (same_test _ true (λ t. tt, λ t. (stands_iff h γ v c i).1 (x, y))) l ∙ sym (told_there k i l)

  pub on_miss : ((h i ≡ v) × (γ i ≡ c) → ⊥) → row_on h γ (i + 1) v c ≡ none
  on_miss n = search_miss _ i so_far (same_test _ false (λ t. n ((stands_iff h γ v c i).0 t), λ t. absurd t))

  pub on_end : (k : ℕ) → i ≡ k → row_on h γ k v c ≡ told k i
  on_end k q = rw (← q) (so_far ∙ sym (told_nothing i i (omega arith)))

-- what a search by rising rows finds: the first row that stands there, or none where none does
pub search_answer : (h γ : ℕ → ℕ) (k v c : ℕ) (answer : Answer ℕ)
    → MatchOption answer ((i : ℕ) → 0 ≤ i → i < k → (h i ≡ v) × (γ i ≡ c) → ⊥) (λ i. (0 ≤ i) × (i < k) × ((h i ≡ v) × (γ i ≡ c)) × ((j : ℕ) → 0 ≤ j → j < i → (h j ≡ v) × (γ j ≡ c) → ⊥))
    → row_on h γ k v c ≡ found_by answer
search_answer h γ k v c None none_there = on_none h γ k v c (λ i l x y. none_there i (omega arith) l (x, y))
search_answer h γ k v c (Some i) first = search_hit (stands h γ v c) i k (on_none h γ i v c (λ j l x y. first.3 j (omega arith) l (x, y))) (same_test _ true (λ t. tt, λ t. (stands_iff h γ v c i).1 first.2)) first.1

-- ---- from the rule's chain to the chain of the steps

exchange_turn : (c d x : ℕ) → exchange c d x ≡ exchange d c x
unfolding exchange
exchange_turn c d x = go (eqb x c) refl (eqb x d) refl
  where
    go : (s : Bool) → eqb x c ≡ s → (t : Bool) → eqb x d ≡ t
        → ◌≡◌ {A = ℕ} (elim s [ true ↦ d | false ↦ elim t [ true ↦ c | false ↦ x ] ]) (elim t [ true ↦ c | false ↦ elim s [ true ↦ d | false ↦ x ] ])
    go true e true f = sym (eqb-true x d f) ∙ eqb-true x c e
    go true e false f = refl
    go false e true f = refl
    go false e false f = refl

change_turn : {c d : ℕ} {es : List ℕ} {i x y : ℕ} → Change c d es i x y → Change d c es i x y
change_turn {c} {d} {x = x} (changed p e) = changed p (e ∙ exchange_turn c d x)
change_turn (kept n e) = kept n e

-- what a change leaves is one number
one_change : {a b : ℕ} {es : List ℕ} {i x y z : ℕ} → Change a b es i x y → Change a b es i x z → y ≡ z
one_change (changed p e) (changed q f) = e ∙ sym f
one_change (changed p e) (kept n f) = absurd (n p)
one_change (kept n e) (changed q f) = absurd (n q)
one_change (kept n e) (kept m f) = e ∙ sym f

-- a change to c is of a row that had d
changed_from : {c d : ℕ} {es : List ℕ} {i x y : ℕ} → Change c d es i x y → y ≡ c → (In i es × (x ≡ d)) ⊎ ((In i es → ⊥) × (x ≡ c))
changed_from {c} {d} {x = x} (changed p e) q = inl (p, sym (exchange_twice c d x) ∙ ap (exchange c d) (sym e ∙ q) ∙ exchange_first c d)
changed_from (kept n e) q = inr (n, sym e ∙ q)

module _ (γ : ℕ → ℕ) (k : ℕ) where
  -- The steps have come to the row `from`, which is on d and takes c, and the chain goes on from its module v of the side h: the rows of
  -- `met` have changed; es are the rows to come, and all rows of the chain are `from`, met or to come.
  record Halfway (h f : ℕ → ℕ) (v c d : ℕ) (whole met es cs : List ℕ) (from : ℕ) : Type 0 where
    setting_here : Setting γ k h f c d
    runs : Runs γ k h f v c d es
    distinct : Distinct es
    room : k ≤ length cs
    from_room : from < length cs
    changes : (i : ℕ) → i < k → Change c d met i (γ i) (at cs i)
    at_v : h from ≡ v
    on_d : at cs from ≡ d
    from_met : In from met → ⊥
    from_to_come : In from es → ⊥
    none_met : (i : ℕ) → i < k → In i met → h i ≡ v → γ i ≡ d → ⊥
    apart_met : (i : ℕ) → In i es → In i met → ⊥
    to_come : (i : ℕ) → In i whole → In i (from ∷ met) ⊎ In i es
    of_whole : (i : ℕ) → i < k → In i (from ∷ met) ⊎ In i es → In i whole

  -- then the steps change just `from` and the rows to come, and after them every row of the chain has changed
  record Comes (h f : ℕ → ℕ) (c d : ℕ) (whole es cs : List ℕ) (from : ℕ) : Type 0 where
    after : List ℕ
    mends : Mends k h f cs from c es after
    size : length after ≡ length cs
    changes : (i : ℕ) → i < k → Change c d whole i (γ i) (at after i)
    beyond : (i : ℕ) → k ≤ i → at after i ≡ at (set cs from c) i

  module _ {h f : ℕ → ℕ} {v c d : ℕ} {whole met es cs : List ℕ} {from : ℕ} (w : Halfway h f v c d whole met es cs from) where
    -- a row on c there has not changed
    still_on : (i : ℕ) → i < k → h i ≡ h from → at cs i ≡ c → γ i ≡ c
    still_on i l x y = go (changed_from (w.changes i l) y)
      where
        go : (In i met × (γ i ≡ d)) ⊎ ((In i met → ⊥) × (γ i ≡ c)) → γ i ≡ c
        go (inl p) = absurd (w.none_met i l p.0 (x ∙ w.at_v) p.1)
        go (inr p) = p.1

    -- once `from` has taken c, it has changed too
    taken : (i : ℕ) → i < k → Change c d (from ∷ met) i (γ i) (at (set cs from c) i)
    taken i l = go (ℕ_discrete i from) (w.changes i l)
      where
        own : i ≡ from → Change c d met i (γ i) (at cs i) → γ i ≡ d
        own q (changed p u) = absurd (w.from_met (rw q at p))
        own q (kept p u) = sym u ∙ ap (at cs) q ∙ w.on_d

        go : Dec (i ≡ from) → Change c d met i (γ i) (at cs i) → Change c d (from ∷ met) i (γ i) (at (set cs from c) i)
        go (yes q) u = changed (here q) (ap (at (set cs from c)) q ∙ get_or-set_same cs from c 0 w.from_room ∙ sym (ap (exchange c d) (own q u) ∙ exchange_second c d))
        go (no n) (changed p u) = changed (there p) (get_or-set_other cs from i c 0 n ∙ u)
        go (no n) (kept p u) = kept out (get_or-set_other cs from i c 0 n ∙ u)
          where
            out : In i (from ∷ met) → ⊥
            out (here q) = n q
            out (there q) = p q

  comes : (es : List ℕ) {h f : ℕ → ℕ} {v c d : ℕ} {whole met cs : List ℕ} {from : ℕ} → Halfway h f v c d whole met es cs from → Comes h f c d whole es cs from
  comes [] {h} {f} {v} {c} {d} {whole} {met} {cs} {from} w = record {
    after = set cs from c;
    mends = stop (on_none h (at cs) k (h from) c (λ i l x y. ended w.runs i l (x ∙ w.at_v) (still_on w i l x y)));
    size = length-set cs from c;
    changes = λ i l. all i l (taken w i l);
    beyond = λ i l. refl;
  }
    where
      ended : Runs γ k h f v c d [] → Free h γ k v c
      ended (at-end u) = u

      all : (i : ℕ) → i < k → Change c d (from ∷ met) i (γ i) (at (set cs from c) i) → Change c d whole i (γ i) (at (set cs from c) i)
      all i l (changed p e) = changed (w.of_whole i l (inl p)) e
      all i l (kept n e) = kept (λ p. ⊎_elim n not_in_nil (w.to_come i p)) e
  comes (e ∷ es) {h} {f} {v} {c} {d} {whole} {met} {cs} {from} w = on (λ u. comes es u) w.runs
    where
      on : (Halfway f h (f e) d c whole (from ∷ met) es (set cs from c) e → Comes f h d c whole es (set cs from c) e) → Runs γ k h f v c d (e ∷ es) → Comes h f c d whole (e ∷ es) cs from
      on go_on (goes_on e l x y r) = record {
        after = deep.after;
        mends = next {h = h} {f = f} {cs = cs} {from = from} {central = c} {es = es} {after = deep.after} e there_on (rw w.on_d deep.mends);
        size = deep.size ∙ length-set cs from c;
        changes = λ i m. change_turn (deep.changes i m);
        beyond = λ i m. deep.beyond i m ∙ get_or-set_other (set cs from c) e i d 0 (λ q. omega arith);
      }
        where
          -- the row to come is still on c
          still : at cs e ≡ c
          still = go (w.changes e l)
            where
              go : Change c d met e (γ e) (at cs e) → at cs e ≡ c
              go (changed p q) = absurd (w.apart_met e (here refl) p)
              go (kept n q) = q ∙ y

          there_on : row_on h (at cs) k (h from) c ≡ some e
          there_on =
              on_one h (at cs) k (h from) c e l (x ∙ sym w.at_v) still
              (λ i m p q. w.setting_here.near i e m l (p ∙ w.at_v ∙ sym x) (still_on w i m p q ∙ sym y))

          unmet : In e (from ∷ met) → ⊥
          unmet (here q) = w.from_to_come (here (sym q))
          unmet (there p) = w.apart_met e (here refl) p

          come : (i : ℕ) → In i (from ∷ met) ⊎ In i (e ∷ es) → In i (e ∷ from ∷ met) ⊎ In i es
          come i (inl p) = inl (there p)
          come i (inr (here q)) = inl (here q)
          come i (inr (there q)) = inr q

          whole_of : (i : ℕ) → i < k → In i (e ∷ from ∷ met) ⊎ In i es → In i whole
          whole_of i m (inl (here q)) = w.of_whole i m (inr (here q))
          whole_of i m (inl (there p)) = w.of_whole i m (inl p)
          whole_of i m (inr q) = w.of_whole i m (inr (there q))

          not_met_lem : (i : ℕ) → In i es → In i (from ∷ met) → ⊥
          not_met_lem i p (here q) = w.from_to_come (there (rw q at p))
          not_met_lem i p (there q) = w.apart_met i (there p) q

          deep : Comes f h d c whole es (set cs from c) e
          deep = go_on (record {
            setting_here = turn γ k w.setting_here;
            runs = r;
            distinct = w.distinct.1;
            room = omega (arith, w.room, length-set cs from c);
            from_room = omega (arith, w.room, length-set cs from c);
            changes = λ i m. change_turn (taken w i m);
            at_v = refl;
            on_d = get_or-set_other cs from e c 0 (λ q. unmet (here q)) ∙ still;
            from_met = unmet;
            from_to_come = w.distinct.0;
            none_met = λ i m p q u. unmet (rw (w.setting_here.far i e m l q (u ∙ sym y)) at p);
            apart_met = not_met_lem;
            to_come = λ i p. come i (w.to_come i p);
            of_whole = whole_of;
          })

-- From the new call, which stands on b and takes a, the steps change the rows of the rule's chain, and leave the centrals that the rule says.
module _ (α β : ℕ → ℕ) (centrals : List ℕ) (k a b : ℕ) (size : length centrals ≡ k) (s : ChainStart α β (at centrals) k a b) where
  abbrev es : List ℕ
  es = step_chain α β (at centrals) k a b

  abbrev before : List ℕ
  before = centrals ++ (b ∷ [])

  pub mends_chain : Mends k β α before k a es (after_chain α β centrals k a b)
  mends_chain = rw (← same) whole.mends
    where
      whole : Comes (at centrals) k β α a b es es before k
      whole = comes (at centrals) k es (record {
        setting_here = setting α β (at centrals) k a b s;
        runs = chain_runs α β (at centrals) k a b s;
        distinct = chain_distinct α β (at centrals) k a b s;
        room = omega (arith, length-append centrals (b ∷ []));
        from_room = omega (arith, length-append centrals (b ∷ []));
        changes = λ i l. kept not_in_nil (placed_same centrals k b i size l);
        at_v = refl;
        on_d = placed_new centrals k b size;
        from_met = not_in_nil;
        from_to_come = λ p. omega (arith, (chain_rows α β (at centrals) k a b s k p).0);
        none_met = λ i l p. absurd (not_in_nil p);
        apart_met = λ i p. not_in_nil;
        to_come = λ i p. inr p;
        of_whole = λ i l. ⊎_elim (λ p. absurd (new i l p)) (λ p. p);
      })
        where
          new : (i : ℕ) → i < k → In i (k ∷ []) → ⊥
          new i l (here q) = omega arith
          new i l (there p) = not_in_nil p

      as_long : length whole.after ≡ length (after_chain α β centrals k a b)
      as_long = whole.size ∙ omega (arith, length-append centrals (b ∷ []), length-append (exchanged a b centrals es) (a ∷ []), length_exchanged a b centrals es)

      each : (i : ℕ) → (i ≡ k) ⊎ (i < k) → at whole.after i ≡ at (after_chain α β centrals k a b) i
      each i (inl e) =
          rw e (whole.beyond k (omega arith) ∙ get_or-set_same before k a 0 (omega (arith, length-append centrals (b ∷ [])))
          ∙ sym (placed_new (exchanged a b centrals es) k a (length_exchanged a b centrals es ∙ size)))
      each i (inr l) = one_change (whole.changes i l) (chain_change α β centrals k a b size s i l) ∙ sym (placed_same (exchanged a b centrals es) k a i (length_exchanged a b centrals es ∙ size) l)

      same : whole.after ≡ after_chain α β centrals k a b
      same = ext_get_or 0 _ _ as_long (λ i l. each i (below_suc (omega (arith, whole.size, length-append centrals (b ∷ [])))))

-- ---- the cases of a chain step

mends_none : {k : ℕ} {h f : ℕ → ℕ} {cs : List ℕ} {from central : ℕ} {es after : List ℕ} → Mends k h f cs from central es after
    → row_on h (at cs) k (h from) central ≡ none → (es ≡ []) × (after ≡ set cs from central)
mends_none (stop n) e = (refl, refl)
mends_none (next i n m) e = let z : ◌≡◌ {A = ℕ} 0 1 = cc in absurd (omega arith)

mends_some : {k : ℕ} {h f : ℕ → ℕ} {cs : List ℕ} {from central : ℕ} {es after : List ℕ} (e : ℕ) → Mends k h f cs from central es after
    → row_on h (at cs) k (h from) central ≡ some e → (rest : List ℕ) × (es ≡ e ∷ rest) × Mends k f h (set cs from central) e (at cs from) rest after
mends_some e (stop n) q = let z : ◌≡◌ {A = ℕ} 0 1 = cc in absurd (omega arith)
mends_some e (next {es = rest} i n m) q = let z : i ≡ e = cc in (rest, ap (λ (j : ℕ). j ∷ rest) z, rw z at m)

pub same_mends : {k : ℕ} {h f h' f' : ℕ → ℕ} {cs cs' : List ℕ} {from central : ℕ} {es after : List ℕ} → h ≡ h' → f ≡ f' → cs ≡ cs'
    → Mends k h f cs from central es after → Mends k h' f' cs' from central es after
same_mends a b c m = rw (← a, ← b, ← c) m

pub not_twice : (b : Bool) → not (not b) ≡ b
not_twice true = refl
not_twice false = refl

-- A chain step: the row `from` takes `central`, and `found` is the call that stands on it there, if there is one.
pub record Stepping (output : Bool) (rows : List ℕ) (from central left : ℕ) (found : Option ℕ) : Type 0 where
  pub mendable : Mendable output rows from central left
  pub searched : row_on (module_in rows output) (at (centrals_of rows)) (length rows / 3 - 1) (module_in rows output from) central ≡ found

module _ {output : Bool} {rows : List ℕ} {from central left : ℕ} {found : Option ℕ} (s : Stepping output rows from central left found) where
  abbrev after_change : List ℕ
  after_change = set rows (3 * from + 1) central

  searched_in : (k : ℕ) → length rows ≡ 3 * suc k → row_on (module_in rows output) (at (centrals_of rows)) k (module_in rows output from) central ≡ found
  searched_in k w = let q : length rows / 3 - 1 ≡ k = omega arith in rw q at s.searched

  -- No call stands there: the chain has ended.
  pub mended_end : {chain : List ℕ} → found ≡ none → Mended output rows after_change chain chain from central left left
  unfolding telling
  mended_end e = record {
    by_the_rows = λ k es after w m.
        let n = mends_none m (searched_in k w ∙ e) in
        rw (n.0, n.1) (recolour rows from central, refl, omega arith);
  }

  -- A call stands there: it takes the central that the row had, and the chain goes on from it.
  module _ {row : ℕ} (there : found ≡ some row) where
    below : row < s.mendable.k
    below = row_below (module_in rows output) (at (centrals_of rows)) s.mendable.k (module_in rows output from) central row (searched_in s.mendable.k s.mendable.whole ∙ there)

    goes_on_there : (k : ℕ) (es after : List ℕ) → length rows ≡ 3 * suc k → MendsIn k output rows from central es after
        → (rest : List ℕ) × (es ≡ row ∷ rest) × MendsIn k (not output) after_change row (at (centrals_of rows) from) rest after
    goes_on_there k moved after w m =
        let g = recolour rows from central in
        let t = mends_some row m (searched_in k w ∙ there) in
        let same : (side : Bool) → module_in rows side ≡ module_in after_change side = λ side. sym (ap (λ (sides : Bool → ℕ → ℕ). sides side) (modules_same g)) in
        (t.0, t.1, same_mends (same (not output)) (same output ∙ ap (module_in after_change) (sym (not_twice output))) (sym g.centrals) t.2)

    rest_here : (rest : List ℕ) × (s.mendable.es ≡ row ∷ rest) × MendsIn s.mendable.k (not output) after_change row (at (centrals_of rows) from) rest s.mendable.after
    rest_here = let m = s.mendable in goes_on_there m.k m.es m.after m.whole m.mends

    -- then a module is left to meet, and there is room for the row's number
    pub some_left : 1 ≤ left
    some_left = omega (arith, ap length rest_here.1, s.mendable.enough)

    pub tell_room : (left - 1 < chain_places) × (row < most_calls)
    tell_room = let m = s.mendable in let one = some_left in (omega (arith, m.places), omega (arith, m.small, below))

    pub mendable_on : {rows₁ : List ℕ} {other : ℕ} → rows₁ ≡ after_change → other ≡ at (centrals_of rows) from → Mendable (not output) rows₁ row other (left - 1)
    mendable_on e o =
        let m = s.mendable in
        rw (e, o) (record {
          k = m.k;
          whole = length-set rows (3 * from + 1) central ∙ m.whole;
          small = m.small;
          row = omega (arith, below);
          es = rest_here.0;
          after = m.after;
          mends = rest_here.2;
          enough = omega (arith, ap length rest_here.1, m.enough);
          places = omega (arith, m.places);
        })

    pub mended_on : {rows₁ rows' chain chain₁ chain' : List ℕ} {end other : ℕ} → rows₁ ≡ after_change → other ≡ at (centrals_of rows) from → chain₁ ≡ set chain (left - 1) row
        → Mended (not output) rows₁ rows' chain₁ chain' row other (left - 1) end → Mended output rows rows' chain chain' from central left end
    unfolding telling
    mended_on e o f d = record {
      by_the_rows = λ k es after w m.
          let one = some_left in
          let t = goes_on_there k es after w m in
          let u = (rw (e, o) at d).by_the_rows k t.0 after (length-set rows (3 * from + 1) central ∙ w) t.2 in (
            recolour_again (recolour rows from central) u.0,
            rw t.1 (u.1 ∙ ap (λ (told : List ℕ). telling told (left - 1) t.0) f),
            rw t.1 (omega arith),
          );
    }

-- ---- what the chain tells

-- the places from `left` on keep what they hold
telling_above : (chain : List ℕ) (left : ℕ) (es : List ℕ) (p : ℕ) → length es ≤ left → left ≤ p → get_or (telling chain left es) p 0 ≡ get_or chain p 0
unfolding telling
telling_above chain left [] p l h = refl
telling_above chain left (e ∷ es) p l h =
    telling_above (set chain (left - 1) e) (left - 1) es p (omega arith) (omega arith) ∙ get_or-set_other chain (left - 1) p e 0 (λ q. omega arith)

-- row i of the chain stands at the place left - 1 - i
pub told_row : (chain : List ℕ) (left : ℕ) (es : List ℕ) (i : ℕ) → left ≤ length chain → length es ≤ left → i < length es
    → get_or (telling chain left es) (left - 1 - i) 0 ≡ get_or es i 0
unfolding telling
told_row chain left [] i room l h = absurd (omega arith)
told_row chain left (e ∷ es) zero room l h =
    let z : left - 1 - 0 ≡ left - 1 = omega arith in
    rw z (telling_above (set chain (left - 1) e) (left - 1) es (left - 1) (omega arith) (omega arith) ∙ get_or-set_same chain (left - 1) e 0 (omega arith))
told_row chain left (e ∷ es) (suc i) room l h =
    let z : left - 1 - suc i ≡ left - 1 - 1 - i = omega arith in
    rw z (told_row (set chain (left - 1) e) (left - 1) es i (omega (arith, length-set chain (left - 1) e)) (omega arith) (omega arith))

pub telling_length : (chain : List ℕ) (left : ℕ) (es : List ℕ) → length (telling chain left es) ≡ length chain
unfolding telling
telling_length chain left [] = refl
telling_length chain left (e ∷ es) = telling_length (set chain (left - 1) e) (left - 1) es ∙ length-set chain (left - 1) e
