-- One placement, as the code does it, is one step of the choice rule, and leaves the record right at every module.
--   search_both, search_one     == a search of the record is the rule's search
--   Searched net rows k used chain a b == no central is common, and a and b are what the searches found
--   recorded_so_far, small_common, recordable_common, placed_common == a common central: before its row is recorded, and after
--   one_free, first_free, small_a, small_b == a search at one module finds a central, one of the shelf's own
--   chain_room, mendable, left_few, last_small, last_held, end_small == the chain can be walked, and its last row
--   placed_by_chain             == what a chain leaves
--   small_modules               == the modules of the rows have a number in the record
use Rattle.std.specs.Prelude.{◌≡◌, ◌⊎◌, Bool, ◌&&◌, List, [], ◌∷◌, ◌++◌, get_or, set, Option as Answer, Some, None, IsSome}
use Rattle.std.proofs.Math.Path.{refl, sym, ap}
use Rattle.std.proofs.Common.{◌∙◌, inl, inr, true≢false, eq-eqb, ne_eqb}
use Rattle.std.proofs.Math.Bool.{true, false, not, cond}
use Rattle.std.proofs.lemmas.Bool.{false≢true}
use Rattle.std.proofs.Math.Option.{Option, none, some}
use Prim.Native.Nat.{ℕ, suc, ◌+◌, ◌-◌, ◌*◌, ◌%◌, ◌≤◌, ◌<◌}
use Rattle.std.proofs.Math.Numerals.{add-one}
use Rattle.std.proofs.Math.Decide.{ℕ_discrete}
use native.Mathlib.Omega.{arith}
use Rattle.std.proofs.Math.Dec.{eqb}
use Rattle.std.proofs.Math.ListN.{length}
use Rattle.ground.specs.Numbers.{below_suc}
use Rattle.ground.specs.Lists.{In, here, there}
use Rattle.ground.specs.ListsLaws.{not_in_nil}
use Rattle.shelf.specs.declared.Network.{Network}
use Rattle.shelf.specs.Network.{most_modules, most_centrals, most_calls}
use Rattle.shelf.specs.NetworkLaws.{limits_are, own_central_below}
use Rattle.shelf.specs.Order.{order}
use Rattle.shelf.specs.OrderLaws.{order_own, order_distinct}
use Rattle.choice.specs.Rule.{at, first_of, is_free, exchange}
use Rattle.choice.specs.Colouring.{Free}
use Rattle.choice.specs.Rows.{module_in, centrals_of, Recoloured}
use Rattle.choice.specs.Record.{module_number, in_use, both_free, taking, swapping, found_by, told_central, Recorded, Recordable}
use Rattle.choice.specs.Placement.{chain_places, telling, MendsIn, Mendable, Mended, earlier, step_in, Placeable, Placed, NoCommon}
use Rattle.choice.proofs.Search.{first_some, first_none}
use Rattle.choice.proofs.Chain.{Two}
use Rattle.choice.proofs.Exchange.{exchange_first, exchange_second, exchange_other, one_of}
use Rattle.choice.proofs.Count.{some_free}
use Rattle.choice.proofs.StepLaws.{ChainStart, step_chain, after_chain, step_common, step_by_chain, searched, starts, chain_few, chain_start, chain_rows, placed_same, placed_new}
use Rattle.choice.proofs.UseAfter.{end_of, odd, end_last, odd_length, use_chain_α, use_chain_β}
use Rattle.choice.proofs.RowsLaws.{last_taken, earlier_length, modules_same, recolour, recolour_again}
use Rattle.choice.proofs.RecordLaws.{told_nothing, use_of, same_side, use_taking, use_swapping, taking_size, swapping_size, taken_or, recorded_same}
use Rattle.choice.proofs.Mending.{mends_chain, same_mends, not_twice, told_row}

-- two tests that agree on a list have the same first
first_same : (cs : List ℕ) (p q : ℕ → Bool) → ((c : ℕ) → In c cs → p c ≡ q c) → first_of cs p ≡ first_of cs q
unfolding first_of
first_same [] p q h = refl
first_same (c ∷ cs) p q h = go (p c) (q c) (h c (here refl)) (first_same cs p q (λ x m. h x (there m)))
  where
    go : (s t : Bool) → s ≡ t → first_of cs p ≡ first_of cs q → ◌≡◌ {A = Option ℕ} (elim s [ true ↦ some c | false ↦ first_of cs p ]) (elim t [ true ↦ some c | false ↦ first_of cs q ])
    go true true e f = refl
    go true false e f = absurd (true≢false e)
    go false true e f = absurd (false≢true e)
    go false false e f = f

both_same : (b : Bool) → (b && b) ≡ b
both_same true = refl
both_same false = refl

same_side_true : (b : Bool) → same_side true (not b) ≡ not b
same_side_true true = refl
same_side_true false = refl

same_side_false : (b : Bool) → same_side false (not b) ≡ b
same_side_false true = refl
same_side_false false = refl

not_cond : (b s t : Bool) → cond b (not s) (not t) ≡ not (cond b s t)
not_cond true s t = refl
not_cond false s t = refl

module _ {net : Network} {rows : List ℕ} {k : ℕ} {used chain : List ℕ} (h : Placeable net rows k used chain) where
  pub small_modules : (output : Bool) (i : ℕ) → i < suc k → module_in rows output i < most_modules
  small_modules true i l = let m = (limits_are net).0 h.limits in omega (arith, (h.modules i l).1)
  small_modules false i l = let m = (limits_are net).0 h.limits in omega (arith, (h.modules i l).0)

  small_central : (c : ℕ) → In c (order net) → c < most_centrals
  small_central c p = let l = (limits_are net).0 h.limits in omega (arith, own_central_below net c ((order_own net c).0 p))

  -- ---- the searches

  free_there : (s t : Bool) (c : ℕ) → In c (order net)
      → both_free used (module_number s (module_in rows s k)) (module_number t (module_in rows t k)) c
      ≡ (is_free (module_in rows s) (at (earlier rows k)) k (module_in rows s k) c && is_free (module_in rows t) (at (earlier rows k)) k (module_in rows t k) c)
  unfolding both_free
  free_there s t c p =
      rw (
        h.recorded.says s (module_in rows s k) c (small_modules s k (omega arith)) (small_central c p),
        h.recorded.says t (module_in rows t k) c (small_modules t k (omega arith)) (small_central c p),
        not_twice (is_free (module_in rows s) (at (earlier rows k)) k (module_in rows s k) c),
        not_twice (is_free (module_in rows t) (at (earlier rows k)) k (module_in rows t k) c),
      )

  -- a search of the record for a central free at two modules is the rule's search
  search_both : (s t : Bool) → first_of (order net) (both_free used (module_number s (module_in rows s k)) (module_number t (module_in rows t k)))
      ≡ first_of (order net) (λ c. is_free (module_in rows s) (at (earlier rows k)) k (module_in rows s k) c && is_free (module_in rows t) (at (earlier rows k)) k (module_in rows t k) c)
  search_both s t = first_same (order net) _ _ (free_there s t)

  search_one : (s : Bool) → first_of (order net) (both_free used (module_number s (module_in rows s k)) (module_number s (module_in rows s k)))
      ≡ first_of (order net) (is_free (module_in rows s) (at (earlier rows k)) k (module_in rows s k))
  search_one s = first_same (order net) _ _ (λ c p. free_there s s c p ∙ both_same (is_free (module_in rows s) (at (earlier rows k)) k (module_in rows s k) c))

  -- the last row has taken a central, in the rows
  same_so_far : (c i : ℕ) → i < k → at (earlier rows k) i ≡ at (centrals_of (set rows (3 * k + 1) c)) i
  same_so_far c i l = rw (last_taken rows k c h.whole) (sym (placed_same (earlier rows k) k c i (earlier_length rows k h.whole) l))

  pub recorded_so_far : (c : ℕ) → Recorded (module_in (set rows (3 * k + 1) c)) (at (centrals_of (set rows (3 * k + 1) c))) k used
  recorded_so_far c = rw (modules_same (recolour rows k c)) (recorded_same (module_in rows) (at (earlier rows k)) k used h.recorded _ (same_so_far c))

  -- ---- a common central

  module _ (c : ℕ) (found : first_of (order net) (both_free used (module_number false (module_in rows false k)) (module_number true (module_in rows true k))) ≡ some c) where
    pub small_common : c < most_centrals
    small_common = small_central c (first_some (order net) _ c found).0

    step_is_common : step_in net rows k ≡ record { centrals = earlier rows k ++ (c ∷ []); moved = [] }
    step_is_common = step_common _ _ (order net) (earlier rows k) k c (sym (search_both false true) ∙ found)

    pub recordable_common : Recordable (set rows (3 * k + 1) c) (k + 1)
    recordable_common = record {
      rows_held = omega (arith, h.whole, (recolour rows k c).size);
      modules = λ output i m. rw (modules_same (recolour rows k c)) (small_modules output i (omega arith));
      centrals = λ i m. small i (below_suc (omega arith));
    }
      where
        small : (i : ℕ) → (i ≡ k) ⊎ (i < k) → at (centrals_of (set rows (3 * k + 1) c)) i < most_centrals
        small i (inl e) = rw (e, last_taken rows k c h.whole, placed_new (earlier rows k) k c (earlier_length rows k h.whole)) small_common
        small i (inr m) = rw (← same_so_far c i m) (small_central _ (h.fine.inside i m))

    pub placed_common : {used' : List ℕ} → Recorded (module_in (set rows (3 * k + 1) c)) (at (centrals_of (set rows (3 * k + 1) c))) (k + 1) used'
        → Placed net rows (set rows (3 * k + 1) c) k used' chain chain 0
    unfolding telling
    placed_common r =
        let s : centrals_of (set rows (3 * k + 1) c) ≡ (step_in net rows k).centrals = last_taken rows k c h.whole ∙ sym (ap (λ t. t.centrals) step_is_common) in
        record {
          by_the_rule = record { size = (recolour rows k c).size; modules = (recolour rows k c).modules; centrals = s };
          moved_is = sym (ap (λ t. length t.moved) step_is_common);
          told = rw step_is_common;
          recorded = rw (modules_same (recolour rows k c), s, add-one k) at r;
        }

  -- ---- the first central that is free at one module

  -- some central is free at each module of the call, so that a search of the record finds one
  pub one_free : (s : Bool) (answer : Answer ℕ) → first_of (order net) (both_free used (module_number s (module_in rows s k)) (module_number s (module_in rows s k))) ≡ found_by answer → IsSome answer
  one_free s (Some c) e = refl
  one_free s None e =
      absurd (some_free (module_in rows s) (at (earlier rows k)) k (module_in rows s k) (order net) (order_distinct net) (h.room s)
      (first_none (order net) (is_free (module_in rows s) (at (earlier rows k)) k (module_in rows s k)) (sym (search_one s) ∙ e)))

  -- and where it answers a number, this is one of the shelf's own
  pub first_free : (s : Bool) (c : ℕ) → first_of (order net) (both_free used (module_number s (module_in rows s k)) (module_number s (module_in rows s k))) ≡ told_central c → c < most_centrals
  first_free s c e =
      let n : ¬ (most_centrals ≤ c) = λ l. some_free (module_in rows s) (at (earlier rows k)) k (module_in rows s k) (order net) (order_distinct net) (h.room s) (first_none (order net) (is_free (module_in rows s) (at (earlier rows k)) k (module_in rows s k)) (sym (search_one s) ∙ e ∙ told_nothing most_centrals c l)) in
      omega arith

-- ---- a chain

-- No central is free at both modules of row k, and a and b are the first that are free at each.
pub record Searched (net : Network) (rows : List ℕ) (k : ℕ) (used chain : List ℕ) (a b : ℕ) : Type 0 where
  pub placeable : Placeable net rows k used chain
  pub nothing_common : NoCommon net rows k used
  pub first_a : first_of (order net) (both_free used (module_number false (module_in rows false k)) (module_number false (module_in rows false k))) ≡ some a
  pub first_b : first_of (order net) (both_free used (module_number true (module_in rows true k)) (module_number true (module_in rows true k))) ≡ some b

-- the last row of a list that has one
last_in : (e : ℕ) (es : List ℕ) → In (get_or (e ∷ es) (length es) 0) (e ∷ es)
last_in e [] = here refl
last_in e (i ∷ es) = there (last_in i es)

module _ {net : Network} {rows : List ℕ} {k : ℕ} {used chain : List ℕ} {a b : ℕ} (s : Searched net rows k used chain a b) where
  abbrev h : Placeable net rows k used chain
  h = s.placeable

  abbrev cs : List ℕ
  cs = earlier rows k

  abbrev α : ℕ → ℕ
  α = module_in rows false

  abbrev β : ℕ → ℕ
  β = module_in rows true

  abbrev es : List ℕ
  es = step_chain α β (at cs) k a b

  size : length cs ≡ k
  size = earlier_length rows k h.whole

  pub small_a : a < most_centrals
  small_a = small_central h a (first_some (order net) _ a s.first_a).0

  pub small_b : b < most_centrals
  small_b = small_central h b (first_some (order net) _ b s.first_b).0

  none_common : first_of (order net) (λ x. is_free α (at cs) k (α k) x && is_free β (at cs) k (β k) x) ≡ none
  none_common = sym (search_both h false true) ∙ s.nothing_common.searched

  a_is : first_of (order net) (is_free α (at cs) k (α k)) ≡ some a
  a_is = sym (search_one h false) ∙ s.first_a

  b_is : first_of (order net) (is_free β (at cs) k (β k)) ≡ some b
  b_is = sym (search_one h true) ∙ s.first_b

  free_both : In a (order net) × In b (order net) × Free α (at cs) k (α k) a × Free β (at cs) k (β k) b × (Free β (at cs) k (β k) a → ⊥)
  free_both = searched α β (order net) cs k a b none_common a_is b_is

  start : ChainStart α β (at cs) k a b
  start = starts α β (order net) cs k h.fine free_both.2 free_both.3 free_both.4

  step_is : step_in net rows k ≡ record { centrals = after_chain α β cs k a b; moved = es }
  step_is = step_by_chain α β (order net) cs k a b none_common a_is b_is

  -- the new call stands on b, and takes a in the first step of the chain
  abbrev before_chain : List ℕ
  before_chain = set rows (3 * k + 1) b

  mends_here : MendsIn k true before_chain k a es (after_chain α β cs k a b)
  mends_here =
      let same : (t : Bool) → module_in rows t ≡ module_in before_chain t = λ t. sym (ap (λ (side : Bool → ℕ → ℕ). side t) (modules_same (recolour rows k b))) in
      same_mends (same true) (same false) (sym (last_taken rows k b h.whole)) (mends_chain α β cs k a b size start)

  few : length es ≤ 2 * net.r - 2
  few = chain_few α β (at cs) k a b start net.r h.modules

  pub chain_room : 2 * net.r - 1 ≤ chain_places
  unfolding chain_places
  chain_room = let l = (limits_are net).0 h.limits in omega arith

  pub mendable : Mendable true before_chain k a (2 * net.r - 1)
  mendable =
      record {
        k = k;
        whole = (recolour rows k b).size ∙ h.whole;
        small = h.small;
        row = omega arith;
        es = es;
        after = after_chain α β cs k a b;
        mends = mends_here;
        enough = omega (arith, few);
        places = chain_room;
      }

  -- at least one call is on the chain, since a is in use at the output module
  some_rows : (e : ℕ) × (rest : List ℕ) × (es ≡ e ∷ rest)
  some_rows = go es refl
    where
      go : (fs : List ℕ) → es ≡ fs → (e : ℕ) × (rest : List ℕ) × (es ≡ e ∷ rest)
      go [] q = absurd (free_both.4 (λ i l x y. not_in_nil (rw q at (chain_start α β (at cs) k a b start i l x y))))
      go (e ∷ rest) q = (e, rest, q)

  -- what the steps have left
  module _ {rows' chain' : List ℕ} {left : ℕ} (mended : Mended true before_chain rows' chain chain' k a (2 * net.r - 1) left) where
    gone : Recoloured before_chain rows' (after_chain α β cs k a b) × (chain' ≡ telling chain (2 * net.r - 1) es) × (left + length es ≡ 2 * net.r - 1)
    gone = mended.by_the_rows k es (after_chain α β cs k a b) ((recolour rows k b).size ∙ h.whole) mends_here

    pub left_few : left < 2 * net.r - 1
    left_few = let some : 1 ≤ length es = rw some_rows.2 (omega arith) in omega (arith, gone.2)

    recoloured : Recoloured rows rows' (after_chain α β cs k a b)
    recoloured = recolour_again (recolour rows k b) gone.0

    abbrev moved : ℕ
    moved = 2 * net.r - 1 - left

    moved_rows : moved ≡ length es
    moved_rows = omega (arith, gone.2)

    -- the last row of the chain stands at the place `left`
    last : ℕ
    last = get_or es (length es - 1) 0

    last_told : get_or chain' left 0 ≡ last
    unfolding last
    last_told =
        let l = (limits_are net).0 h.limits in
        let some : 1 ≤ length es = rw some_rows.2 (omega arith) in
        let place : 2 * net.r - 1 - 1 - (length es - 1) ≡ left = omega (arith, gone.2) in
        rw (gone.1, ← place) (told_row chain (2 * net.r - 1) es (length es - 1) (omega (arith, h.places, chain_room)) (omega (arith, few)) (omega arith))

    last_below : last < k
    unfolding last
    last_below =
        let r = some_rows in
        (chain_rows α β (at cs) k a b start (get_or es (length es - 1) 0) (rw r.2 (let z : suc (length r.1) - 1 ≡ length r.1 = omega arith in rw z (last_in r.0 r.1)))).0

    pub last_small : get_or chain' left 0 < most_calls
    last_small = rw last_told (omega (arith, last_below, h.small))

    pub last_held : 3 * get_or chain' left 0 + 3 ≤ length rows'
    last_held = rw last_told (omega (arith, last_below, recoloured.size, h.whole))

    -- it ends at an output module where it has an even number of calls
    even_is : eqb (moved % 2) 0 ≡ not (odd es)
    even_is = ap (λ (t : ℕ). eqb (t % 2) 0) moved_rows ∙ parity (length es) ∙ ap not (sym (odd_length es))
      where
        parity : (t : ℕ) → eqb (t % 2) 0 ≡ not (eqb (t % 2) 1)
        parity t = go (ℕ_discrete (t % 2) 0)
          where
            go : Dec (t % 2 ≡ 0) → eqb (t % 2) 0 ≡ not (eqb (t % 2) 1)
            go (yes e) = rw (eq-eqb (t % 2) 0 e, ne_eqb (t % 2) 1 (λ q. omega arith))
            go (no m) = rw (ne_eqb (t % 2) 0 m, eq-eqb (t % 2) 1 (omega arith))

    end_is : module_in rows' (eqb (moved % 2) 0) (get_or chain' left 0) ≡ end_of β α (β k) es
    unfolding last
    end_is = recoloured.modules (eqb (moved % 2) 0) (get_or chain' left 0) ∙ rw (last_told, even_is) (rw some_rows.2 (ended some_rows.0 some_rows.1))
      where
        side : (o : Bool) (i : ℕ) → module_in rows (not o) i ≡ cond o (α i) (β i)
        side true i = refl
        side false i = refl

        ended : (e : ℕ) (rest : List ℕ) → module_in rows (not (odd (e ∷ rest))) (get_or (e ∷ rest) (length (e ∷ rest) - 1) 0) ≡ end_of β α (β k) (e ∷ rest)
        ended e rest =
            let z : length (e ∷ rest) - 1 ≡ length rest = omega arith in
            rw z (side (odd (e ∷ rest)) (get_or (e ∷ rest) (length rest) 0) ∙ sym (end_last β α (β k) e rest))

    pub end_small : module_in rows' (eqb (moved % 2) 0) (get_or chain' left 0) < most_modules
    end_small = rw (recoloured.modules (eqb (moved % 2) 0) (get_or chain' left 0), last_told) (small_modules h (eqb (moved % 2) 0) last (omega (arith, last_below)))

    -- ---- the record

    module _ (ends : Bool) (E : ℕ) (ends_is : ends ≡ not (odd es)) (E-is : E ≡ end_of β α (β k) es) (E-small : E < most_modules) where
      abbrev exchanged_record : List ℕ
      exchanged_record = swapping used (module_number ends E) a b

      abbrev used' : List ℕ
      used' = taking (taking exchanged_record (module_number true (β k)) b) (module_number false (α k)) a

      small_k : (output : Bool) → module_in rows output k < most_modules
      small_k output = small_modules h output k (omega arith)

      says : (output : Bool) (v c : ℕ) → v < most_modules → c < most_centrals → use_of used output v c ≡ not (is_free (module_in rows output) (at cs) k v c)
      unfolding use_of
      says = h.recorded.says

      -- the record says what the exchange at the chain's last module leaves
      exchanged_use : (output : Bool) (v x : ℕ) → v < most_modules → x < most_centrals
          → use_of exchanged_record output v x ≡ not (cond (same_side output ends && eqb v E) (is_free (module_in rows output) (at cs) k v (exchange a b x)) (is_free (module_in rows output) (at cs) k v x))
      exchanged_use output v x hv hx =
          use_swapping used h.recorded.size output ends v E x hv E-small hx a b small_a small_b
          ∙ rw (says output v (exchange a b x) hv (exchange_small (one_of a b x)), says output v x hv hx) (not_cond (same_side output ends && eqb v E) _ _)
        where
          exchange_small : Two a b x ⊎ (Two a b x → ⊥) → exchange a b x < most_centrals
          exchange_small (inl (inl e)) = rw (e, exchange_first a b) small_b
          exchange_small (inl (inr e)) = rw (e, exchange_second a b) small_a
          exchange_small (inr m) = rw (exchange_other a b x m) hx

      -- what the rule leaves free, by the walk's own numbers
      after_α : (v x : ℕ) → is_free α (at (after_chain α β cs k a b)) (suc k) v x
          ≡ cond (eqb v (α k) && eqb x a) false (cond (same_side false ends && eqb v E) (is_free α (at cs) k v (exchange a b x)) (is_free α (at cs) k v x))
      after_α v x = rw (E-is, ends_is, same_side_false (odd es)) (use_chain_α α β cs k a b size start free_both.4 v x)

      after_β : (v x : ℕ) → is_free β (at (after_chain α β cs k a b)) (suc k) v x
          ≡ cond (eqb v (β k) && eqb x b) false (cond (same_side true ends && eqb v E) (is_free β (at cs) k v (exchange a b x)) (is_free β (at cs) k v x))
      after_β v x = rw (E-is, ends_is, same_side_true (odd es)) (use_chain_β α β cs k a b size start free_both.4 v x)

      recorded_after : Recorded (module_in rows) (at (after_chain α β cs k a b)) (suc k) used'
      unfolding use_of
      recorded_after = record { size = taking_size _ _ a (taking_size _ _ b (swapping_size used _ a b h.recorded.size)); says = both }
        where
          both : (output : Bool) (v x : ℕ) → v < most_modules → x < most_centrals → in_use used' (module_number output v) x ≡ not (is_free (module_in rows output) (at (after_chain α β cs k a b)) (suc k) v x)
          both true v x hv hx =
              use_taking _ (taking_size _ _ b (swapping_size used _ a b h.recorded.size)) true false v (α k) x hv (small_k false) hx a small_a
              ∙ use_taking _ (swapping_size used _ a b h.recorded.size) true true v (β k) x hv (small_k true) hx b small_b
              ∙ ap (cond (eqb v (β k) && eqb x b) true) (exchanged_use true v x hv hx)
              ∙ taken_or (eqb v (β k) && eqb x b) _
              ∙ ap not (sym (after_β v x))
          both false v x hv hx =
              use_taking _ (taking_size _ _ b (swapping_size used _ a b h.recorded.size)) false false v (α k) x hv (small_k false) hx a small_a
              ∙ ap (cond (eqb v (α k) && eqb x a) true)
              (use_taking _ (swapping_size used _ a b h.recorded.size) false true v (β k) x hv (small_k true) hx b small_b ∙ exchanged_use false v x hv hx)
              ∙ taken_or (eqb v (α k) && eqb x a) _
              ∙ ap not (sym (after_α v x))

    abbrev end_number : ℕ
    end_number = module_number (eqb (moved % 2) 0) (module_in rows' (eqb (moved % 2) 0) (get_or chain' left 0))

    pub placed_by_chain : {input output end : ℕ} → input ≡ module_number false (α k) → output ≡ module_number true (β k) → end ≡ end_number
        → Placed net rows rows' k (taking (taking (swapping used end a b) output b) input a) chain chain' moved
    placed_by_chain i o e = rw (i, o, e) (record {
      by_the_rule = rw step_is recoloured;
      moved_is = rw step_is moved_rows;
      told = rw step_is gone.1;
      recorded = rw step_is (recorded_after (eqb (moved % 2) 0) _ even_is end_is end_small);
    })
