-- The guarantee of an add, from its answer and its buffers alone: when a call is added, when 8 is told, that the settings written are
-- lawful, and which rows keep theirs. Two answers that satisfy it are the same.
--   short_calls, short_settings, short_moved, enough == the room of each buffer
--   Given ..            == what all checks but 8 ask for
--   whole_before        == the calls before the new one are of whole rows
--   verdict_passes      == when the verdict is 0
--   adds, one_answer    == answer and buffers have the guarantee, and no others have it
--   adds_refused        == for the code: a refusal has the guarantee where no byte changed
--   rooms, few_calls, append_length, addable == what passing all checks leaves known
--   adds_done           == and success has the guarantee where the call was placed and the tables were written
use Rattle.std.specs.Prelude.{◌≡◌, refl, ◌⊎◌, ◌↔◌, Bool, not, List, [], ◌∷◌, ◌++◌, T, ltb, length, take, drop}
use Rattle.std.proofs.Common.{sym, ◌∙◌, inl, inr, length-append}
use Rattle.std.proofs.Math.Path.{ap}
use Rattle.std.proofs.Math.Logic.{⊎_elim}
use Rattle.std.proofs.Math.Logic.Iff
use Rattle.std.proofs.Math.Bool.{true, false}
use Prim.Native.Nat.{ℕ, suc, ◌+◌, ◌*◌, ◌≤◌, ◌<◌}
use Rattle.std.proofs.Math.Numerals.{add-one}
use native.Mathlib.Omega.{arith}
use borrow.Author.Tests.{eq-eqb, ne_eqb}
use Rattle.ground.specs.TruthLaws.{any_is, none_is, same_test, test_fails}
use Rattle.ground.specs.Numbers.{ltb_is, at_most_is, equal_is, up_to}
use Rattle.ground.specs.BelowLaws.{once_same}
use Rattle.ground.specs.Bytes.{front}
use Rattle.ground.specs.BytesLaws.{take_front}
use Rattle.ground.specs.Lists.{In}
use Rattle.shelf.specs.declared.Network.{Network}
use Rattle.shelf.specs.Network.{cycle, most_calls}
use Rattle.shelf.specs.Rows.{row_count, α, β, γ, module_of}
use Rattle.shelf.specs.Light.{row_at, Lawful}
use Rattle.shelf.proofs.LawfulLaws.{lawful_parts, lawful_plain}
use Rattle.shelf.specs.Order.{order}
use Rattle.shelf.specs.OrderLaws.{order_distinct}
use Rattle.calls.specs.declared.Verdict.{Verdict}
use Rattle.calls.specs.Verdict.{success, refused_if, in_turn, AllPass}
use Rattle.calls.specs.VerdictLaws.{answer_passes, answer_success, answer_refused, answer_passed, pass_last, answer_tells_last, answer_is_last, refused_zero, test_number}
use Rattle.calls.specs.Table.{too_many_calls, outside_at, point_at, InOrder}
use Rattle.calls.specs.TableLaws.{count_passes, inside_is, own_modules}
use Rattle.choice.specs.Rule.{at}
use Rattle.choice.specs.Colouring.{at_module, Fine, Fits}
use Rattle.choice.specs.Rows.{centrals_of}
use Rattle.choice.proofs.RowsLaws.{centrals_length}
use Rattle.choice.proofs.Count.{count_here}
use Rattle.choice.proofs.StepLaws.{step_fine}
use Rattle.choice.proofs.Agree.{count_agree}
use Rattle.acceptance.specs.Acceptance.{acceptance}
use Rattle.acceptance.proofs.Exactly.{accepted_is, never_eight}
use Rattle.planner.specs.declared.Planned.{Planned}
use Rattle.planner.specs.Planner.{overfull, overfull_at, NoneOverfull, SomeOverfull}
use Rattle.planner.specs.Steps.{AllFit}
use Rattle.planner.proofs.SettingsLaws.{central_of, settings_length, settings_x, settings_γ, settings_y, settings_lawful}
use Rattle.planner.proofs.Overfull.{fits_is, overfull_passes, none_overfull, some_overfull}
use Rattle.planner.proofs.Owed.{lawful_colours, lawful_fits, overfull_unlawful}
use Rattle.adding.specs.Adding.{Lent, not_one_call, short, no_room, Room, new_row_checks, add_checks, add_verdict, add_step, added_settings, row_bytes, add_answer, add_buffers, SameRow, AddsCall}
use Rattle.adding.specs.Steps.{last_row, Addable, SettingsAdded}
use Rattle.adding.specs.Appending.{count_appended, module_before, order_more}
use Rattle.adding.specs.Moving.{Moves, step_moves}
use Rattle.adding.proofs.Telling.{row_bytes_length}

module _ (K c s m : ℕ) where
  too_short : T (ltb c (4 * suc K)) ⊎ (T (ltb s (3 * suc K)) ⊎ (T (ltb m (2 * K)) ⊎ ⊥)) → short K c s m ≡ true
  unfolding short
  too_short h = same_test (short K c s m) true (λ t. tt, λ t. (any_is _).1 h)

  pub short_calls : c < 4 * suc K → short K c s m ≡ true
  short_calls l = too_short (inl ((ltb_is c (4 * suc K)).1 l))

  pub short_settings : s < 3 * suc K → short K c s m ≡ true
  short_settings l = too_short (inr (inl ((ltb_is s (3 * suc K)).1 l)))

  pub short_moved : m < 2 * K → short K c s m ≡ true
  short_moved l = too_short (inr (inr (inl ((ltb_is m (2 * K)).1 l))))

  enough_is : T (not (short K c s m)) ↔ ((4 * suc K ≤ c) × (3 * suc K ≤ s) × (2 * K ≤ m))
  unfolding short
  enough_is = Iff.trans (none_is _) (
    λ (a, (b, (d, _))). ((at_most_is (4 * suc K) c).0 a, (at_most_is (3 * suc K) s).0 b, (at_most_is (2 * K) m).0 d),
    λ h. ((at_most_is (4 * suc K) c).1 h.0, ((at_most_is (3 * suc K) s).1 h.1, ((at_most_is (2 * K) m).1 h.2, tt))),
  )

  pub enough : 4 * suc K ≤ c → 3 * suc K ≤ s → 2 * K ≤ m → short K c s m ≡ false
  enough a b d = test_fails (short K c s m) (enough_is.1 (a, b, d))

-- ---- when the checks pass

abbrev pub Given : Network → (calls settings call : List ℕ) → Lent → Type 0
Given net calls settings call before = Lawful net calls settings × (length call ≡ 4) × InOrder net (calls ++ call) × Room (row_count calls) before

call_passes : (call : List ℕ) → ((not_one_call call).number ≡ 0) ↔ (length call ≡ 4)
unfolding not_one_call
call_passes call = Iff.trans (refused_zero 1 0 _) (equal_is (length call) 4)

room_passes : (K : ℕ) (before : Lent) → ((no_room K (length before.calls) (length before.settings) (length before.moved)).number ≡ 0) ↔ Room K before
room_passes K before = Iff.trans (refused_zero 3 0 _) (Iff.trans (enough_is K (length before.calls) (length before.settings) (length before.moved)) (
  λ h. record { for_calls = h.0; for_settings = h.1; for_moved = h.2 },
  λ h. (h.for_calls, h.for_settings, h.for_moved),
))

-- calls in front of a new one are of whole rows, if all are
pub whole_before : {net : Network} (calls call : List ℕ) → length call ≡ 4 → InOrder net (calls ++ call) → length calls ≡ 4 * row_count calls
unfolding row_count
whole_before calls call one table = omega (arith, length-append calls call, table.whole, one)

module _ (net : Network) (calls settings call : List ℕ) where
  abbrev table : List ℕ
  table = calls ++ call

  abbrev K : ℕ
  K = row_count calls

  -- all checks but 8
  abbrev before_eight : (c s m : ℕ) → List Verdict
  before_eight c s m =
      acceptance net calls settings ∷ not_one_call call ∷ too_many_calls (suc K) ∷ no_room K c s m ∷ outside_at net table K ∷ point_at table false 6 K ∷ point_at table true 7 K ∷ []

  before_eight_pass : (before : Lent) → AllPass (before_eight (length before.calls) (length before.settings) (length before.moved)) ↔ Given net calls settings call before
  before_eight_pass before = (
    λ (given, (two, (three, (four, (five, (six, (seven, _))))))).
        let (in_order, lawful) = (accepted_is net calls settings).0 given in
        let one = (call_passes call).0 two in (
          lawful,
          one,
          (order_more calls call in_order.whole one net).1
              (in_order, (count_passes (suc K)).0 three, (inside_is net table K).0 ((refused_zero 4 K _).0 five), (refused_zero 5 K _).0 six, (refused_zero 6 K _).0 seven),
          (room_passes K before).0 four,
        ),
    λ (lawful, one, in_order, room).
        let (given, few, inside, inlet, outlet) = (order_more calls call (whole_before calls call one in_order) one net).0 in_order in (
          (accepted_is net calls settings).1 (given, lawful),
          (
            (call_passes call).1 one,
            (
              (count_passes (suc K)).1 few,
              ((room_passes K before).1 room, ((refused_zero 4 K _).1 ((inside_is net table K).1 inside), ((refused_zero 5 K _).1 inlet, ((refused_zero 6 K _).1 outlet, tt)))),
            ),
          ),
        ),
  )

  module _ {before : Lent} (given : Given net calls settings call before) where
    one : length call ≡ 4
    one = given.1

    whole : length calls ≡ 4 * K
    whole = whole_before calls call one given.2

    count : row_count table ≡ suc K
    count = count_appended calls call whole one

    in_order : InOrder net calls
    in_order = ((order_more calls call whole one net).0 given.2).0

    settings_whole : length settings ≡ 3 * K
    settings_whole = ((lawful_parts net calls settings).0 given.0).whole

    -- the calls had room, so 8 is about the new row alone
    fits_before : (output : Bool) (i : ℕ) → i < K → Fits (module_of calls output) (order net) i → Fits (module_of table output) (order net) i
    fits_before output i l h = rw (module_before calls call whole output i l, count_agree (suc i) (module_of calls output i) (λ j m. module_before calls call whole output j (omega arith))) h

    fits_is_new : AllFit net table ↔ (Fits (α table) (order net) K × Fits (β table) (order net) K)
    fits_is_new = (
      λ h. h K (omega (arith, count)),
      λ h. rw count (up_to (λ i. Fits (α table) (order net) i × Fits (β table) (order net) i)
          (λ i l. let f = lawful_fits in_order settings given.0 i l in (fits_before false i l f.0, fits_before true i l f.1)) h),
    )

    overfull_is : T (not (overfull net table K)) ↔ NoneOverfull net table
    overfull_is = Iff.trans (fits_is net table K) (Iff.trans (Iff.symm fits_is_new) (none_overfull net table))

    -- the centrals given colour the rows before the new one
    given_central : (i : ℕ) → i < K → at (centrals_of settings) i ≡ γ settings i
    given_central = central_of settings K settings_whole

    given_fine : Fine (α table) (β table) (order net) (at (centrals_of settings)) K
    given_fine =
        let w = lawful_colours in_order settings given.0 in
        record {
          proper_α = once_same (λ i l. sym (module_before calls call whole false i l)) (λ i l. sym (given_central i l)) w.proper_α;
          proper_β = once_same (λ i l. sym (module_before calls call whole true i l)) (λ i l. sym (given_central i l)) w.proper_β;
          inside = λ i l. rw (given_central i l) (w.inside i l);
        }

    centrals_whole : length (centrals_of settings) ≡ K
    centrals_whole = centrals_length settings K settings_whole

    step_here : Moves (centrals_of settings) K (add_step net calls settings call)
    unfolding add_step
    step_here = step_moves (α table) (β table) (centrals_of settings) K centrals_whole (order net) given_fine

    module _ (fits : NoneOverfull net table) where
      room_here : (output : Bool) → length (at_module (module_of table output) K (module_of table output K)) < length (order net)
      room_here true = omega (arith, count_here (β table) K, (fits_is_new.0 ((none_overfull net table).1 fits)).1)
      room_here false = omega (arith, count_here (α table) K, (fits_is_new.0 ((none_overfull net table).1 fits)).0)

      fine_after : Fine (α table) (β table) (order net) (at (add_step net calls settings call).centrals) (suc K)
      unfolding add_step
      fine_after = step_fine (α table) (β table) (order net) (centrals_of settings) K centrals_whole (order_distinct net) (room_here false) (room_here true) given_fine

      lawful_after : Lawful net table (added_settings net calls settings call)
      unfolding added_settings
      lawful_after = rw (← count) (settings_lawful net table (at (add_step net calls settings call).centrals) given.2.limits (own_modules given.2) (rw count fine_after))

  -- ---- the verdict

  module _ (before : Lent) where
    abbrev others : List Verdict
    others = before_eight (length before.calls) (length before.settings) (length before.moved)

    pub verdict_passes : ((add_verdict net calls settings call before).number ≡ 0) ↔ (Given net calls settings call before × NoneOverfull net table)
    unfolding add_verdict add_checks new_row_checks
    verdict_passes = Iff.trans (answer_passes _ (suc K)) (Iff.trans (pass_last others (overfull_at net table K)) (
      λ h. let given = (before_eight_pass before).0 h.0 in (given, (overfull_is given).0 ((refused_zero 7 K _).0 h.1)),
      λ h. ((before_eight_pass before).1 h.0, (refused_zero 7 K _).1 ((overfull_is h.0).1 h.1)),
    ))

    told_eight : (add_verdict net calls settings call before).number ≡ 8 → Given net calls settings call before × SomeOverfull net table
    unfolding add_verdict add_checks new_row_checks not_one_call too_many_calls
    told_eight e =
        let last =
        answer_tells_last 8 (suc K) (overfull_at net table K) others (λ q. omega arith) (
          never_eight net calls settings,
          (other 2 0 _ (λ q. omega arith), (other 3 0 _ (λ q. omega arith), (other 4 0 _ (λ q. omega arith), (other 5 K _ (λ q. omega arith), (other 6 K _ (λ q. omega arith), (other 7 K _ (λ q. omega arith), tt)))))),
        ) e in
        let given = (before_eight_pass before).0 last.0 in
        (given, some_overfull net table (λ z. passes last.1 ((refused_zero 7 K _).1 ((fits_is net table K).1 ((fits_is_new given).0 ((overfull_passes net table).0 z))))))
      where
        Other : ℕ → Type 0
        Other n = n ≡ 8 → ⊥

        other : (number row : ℕ) (bad : Bool) → Other number → Other (refused_if number row bad).number
        other number row bad n = test_number Other number row bad n (λ q. omega arith)

        passes : (overfull_at net table K).number ≡ 8 → (overfull_at net table K).number ≡ 0 → ⊥
        passes p q = omega arith

    is_eight : Given net calls settings call before → SomeOverfull net table → (add_verdict net calls settings call before).number ≡ 8
    unfolding add_verdict add_checks new_row_checks
    is_eight given over = ap (λ (v : Verdict). v.number) (answer_is_last 8 (suc K) (overfull_at net table K) others ((before_eight_pass before).1 given) refuses) ∙ ⊎_elim (λ z. absurd (refuses z)) (λ e. e) number
      where
        refuses : (overfull_at net table K).number ≡ 0 → ⊥
        refuses z = omega (arith, (overfull_is given).0 ((refused_zero 7 K _).0 z) over.0 over.1, over.2)

        number : ((overfull_at net table K).number ≡ 0) ⊎ ((overfull_at net table K).number ≡ 8)
        number = test_number (λ n. (n ≡ 0) ⊎ (n ≡ 8)) 8 K _ (inr refl) (inl refl)

-- ---- the guarantee, from answer and buffers alone

module _ (net : Network) (calls settings call : List ℕ) (before after : Lent) (a : Planned) (answer : a ≡ add_answer net calls settings call before)
    (buffers : after ≡ add_buffers net calls settings call before) where
  number_is : a.number ≡ (add_verdict net calls settings call before).number
  unfolding add_answer
  number_is = ap (λ (p : Planned). p.number) answer

  added : a.number ≡ 0 → Given net calls settings call before × NoneOverfull net (calls ++ call)
  added z = (verdict_passes net calls settings call before).0 (sym number_is ∙ z)

  tells : a.number ≡ 0 → a.row ≡ suc (row_count calls)
  unfolding add_answer add_verdict success
  tells z = ap (λ (p : Planned). p.row) answer ∙ ap (λ (v : Verdict). v.row) (answer_success _ (suc (row_count calls)) (sym number_is ∙ z))

  moves : a.number ≡ 0 → a.moved ≡ length (add_step net calls settings call).moved
  unfolding add_answer
  moves z = ap (λ (p : Planned). p.moved) answer ∙ rw (eq-eqb _ 0 (sym number_is ∙ z))

  written : a.number ≡ 0
      → (take (4 * a.row) after.calls ≡ calls ++ call)
      × (take (3 * a.row) after.settings ≡ added_settings net calls settings call)
      × (take (2 * a.moved) after.moved ≡ row_bytes (add_step net calls settings call).moved)
  unfolding added_settings add_buffers
  written z =
      let given = (added z).0 in
      rw (buffers, eq-eqb _ 0 (sym number_is ∙ z), tells z, moves z) (
        take_front before.calls _ (4 * suc (row_count calls)) (length-append calls call ∙ omega (arith, whole net calls settings call given, given.1)),
        take_front before.settings _ (3 * suc (row_count calls)) (settings_length (cycle net) (α (calls ++ call)) (β (calls ++ call)) _ (suc (row_count calls))),
        take_front before.moved _ _ (row_bytes_length (add_step net calls settings call).moved),
      )

  -- the central of a row, after and before
  central_after : (i : ℕ) → i < row_count calls → γ (added_settings net calls settings call) i ≡ at (add_step net calls settings call).centrals i
  unfolding added_settings
  central_after i l = settings_γ (cycle net) (α (calls ++ call)) (β (calls ++ call)) _ (suc (row_count calls)) i (omega arith)

  told_moved : a.number ≡ 0 → (i : ℕ) → In i (add_step net calls settings call).moved → (i < row_count calls) × (γ (added_settings net calls settings call) i ≡ γ settings i → ⊥)
  told_moved z i p =
      let given = (added z).0 in
      let moves = step_here net calls settings call given in
      let l = moves.below i p in
      (l, λ q. moves.another i p (sym (central_after i l) ∙ q ∙ sym (given_central net calls settings call given i l)))

  others_kept : a.number ≡ 0 → (i : ℕ) → i < row_count calls → (In i (add_step net calls settings call).moved → ⊥) → SameRow i (added_settings net calls settings call) settings
  unfolding added_settings row_at
  others_kept z i l n =
      let given = (added z).0 in
      let table = in_order net calls settings call given in
      let kept : at (add_step net calls settings call).centrals i ≡ γ settings i = (step_here net calls settings call given).rest_kept i l n ∙ given_central net calls settings call given i l in
      let through = ((lawful_plain net calls settings table.limits (own_modules table)).0 given.0).through i l in
      let same = module_before calls call table.whole in
      record {
        same_x = settings_x (cycle net) (α (calls ++ call)) (β (calls ++ call)) _ (suc (row_count calls)) i (omega arith) ∙ rw (same false i l, kept) (sym through.x_is);
        same_γ = central_after i l ∙ kept;
        same_y = settings_y (cycle net) (α (calls ++ call)) (β (calls ++ call)) _ (suc (row_count calls)) i (omega arith) ∙ rw (same true i l, kept) (sym through.y_is);
      }

  unchanged : (a.number ≡ 0 → ⊥) → (a.moved ≡ 0) × (after ≡ before)
  unfolding add_answer add_buffers
  unchanged n =
      let m : (add_verdict net calls settings call before).number ≡ 0 → ⊥ = λ z. n (number_is ∙ z) in
      (ap (λ (p : Planned). p.moved) answer ∙ rw (ne_eqb _ 0 m), buffers ∙ rw (ne_eqb _ 0 m))

  eight_is : (a.number ≡ 8) ↔ (Given net calls settings call before × SomeOverfull net (calls ++ call))
  eight_is = (λ e. told_eight net calls settings call before (sym number_is ∙ e), λ h. number_is ∙ is_eight net calls settings call before h.0 h.1)

  pub adds : AddsCall net calls settings call before after a
  adds = record {
    answer = answer;
    buffers = buffers;
    exactly = (λ z. let h = added z in (h.0.0, h.0.1, h.0.2, h.0.3, h.1), λ h. number_is ∙ (verdict_passes net calls settings call before).1 ((h.0, h.1, h.2, h.3), h.4));
    eight = (λ e. let h = eight_is.0 e in (h.0.0, h.0.1, h.0.2, h.0.3, h.1), λ h. eight_is.1 ((h.0, h.1, h.2, h.3), h.4));
    impossible = λ e. let h = eight_is.0 e in overfull_unlawful h.0.2 h.1;
    written = written;
    lawful = λ z. let h = added z in lawful_after net calls settings call h.0 h.1;
    told_once = λ z. (step_here net calls settings call (added z).0).distinct;
    told_moved = told_moved;
    others_kept = others_kept;
    unchanged = unchanged;
    tells_k = λ z. (tells z, tells z ∙ sym (count net calls settings call (added z).0));
  }

-- two answers that satisfy the guarantee are the same, and so are the buffers that they leave
pub one_answer : (net : Network) (calls settings call : List ℕ) (before after after' : Lent) (a a' : Planned)
    → AddsCall net calls settings call before after a → AddsCall net calls settings call before after' a' → (a ≡ a') × (after ≡ after')
one_answer net calls settings call before after after' a a' g h = (g.answer ∙ sym h.answer, g.buffers ∙ sym h.buffers)

-- ---- for the code: what the checks found is the answer where they refuse, and else the call is placed and the tables are written

module _ (net : Network) (calls settings call : List ℕ) (before : Lent) (u : Verdict)
    (e : u ≡ in_turn (add_checks net calls settings call (length before.calls) (length before.settings) (length before.moved))) where
  pub adds_refused : (u.number ≡ 0 → ⊥) → AddsCall net calls settings call before before (record { number = u.number; row = u.row; moved = 0 })
  unfolding add_verdict add_answer add_buffers
  adds_refused n =
      let verdict = answer_refused _ (suc (row_count calls)) e n in
      adds net calls settings call before before _ (rw (← verdict, ne_eqb u.number 0 n)) (rw (← verdict, ne_eqb u.number 0 n))

  module _ (z : u.number ≡ 0) where
    verdict_is : success (suc (row_count calls)) ≡ add_verdict net calls settings call before
    unfolding add_verdict
    verdict_is = answer_passed _ (suc (row_count calls)) e z

    can_add : Given net calls settings call before × NoneOverfull net (calls ++ call)
    unfolding success
    can_add = (verdict_passes net calls settings call before).0 (ap (λ (v : Verdict). v.number) (sym verdict_is))

    pub rooms : Room (row_count calls) before
    rooms = can_add.0.3

    pub few_calls : suc (row_count calls) ≤ most_calls
    few_calls = omega (arith, can_add.0.2.few, count net calls settings call can_add.0)

    pub append_length : length (calls ++ call) ≡ 4 * suc (row_count calls)
    append_length = length-append calls call ∙ omega (arith, whole net calls settings call can_add.0, can_add.0.1)

    last_is : last_row settings ≡ row_count calls
    last_is = omega (arith, settings_whole net calls settings call can_add.0)

    pub addable : {table rows : List ℕ} → table ≡ calls ++ call → length rows ≡ 3 * suc (row_count calls) → Addable net table settings rows before.moved
    addable same long =
        let given = can_add.0 in
        rw same (record {
          table_whole = rw last_is (count net calls settings call given);
          settings_whole = rw last_is (settings_whole net calls settings call given);
          rows_whole = rw last_is long;
          moved_room = rw last_is rooms.for_moved;
          in_order = given.2;
          fine = rw last_is (given_fine net calls settings call given);
          room = rw last_is (room_here net calls settings call given can_add.1);
        })

    -- what was written and told is the answer
    pub adds_done : {table rows told : List ℕ} {moved : ℕ} → table ≡ calls ++ call → SettingsAdded net table settings rows before.moved told moved
        → (calls-after settings-after : List ℕ) → calls-after ≡ front before.calls (calls ++ call) → settings-after ≡ rows ++ drop (3 * row_count calls + 3) before.settings
        → AddsCall net calls settings call before (record { calls = calls-after; settings = settings-after; moved = told }) (record { number = 0; row = row_count calls + 1; moved = moved })
    unfolding add_answer add_buffers success add_step added_settings front
    adds_done same done calls-after settings-after c s =
        let end : 3 * row_count calls + 3 ≡ 3 * suc (row_count calls) = omega arith in
        adds net calls settings call before _ _
        (rw (← verdict_is, add-one (row_count calls), done.moved_is, same, last_is))
        (rw (← verdict_is, c, s, end, done.rows_are, done.told_are, same, last_is, settings_length (cycle net) (α (calls ++ call)) (β (calls ++ call)) _ (suc (row_count calls))))
