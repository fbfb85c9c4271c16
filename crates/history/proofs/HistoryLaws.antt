-- What holds after any history of accepted adds and drops.
--   held                 == the table is the calls added and not dropped, in order of adding; the settings are lawful; and the calls on each
--                           central are those that the history counts
use Rattle.std.specs.Prelude.{◌≡◌, refl, List, [], ◌∷◌, ◌++◌, map, ℕ, suc, ◌+◌, ◌*◌, ◌≤◌, ◌<◌, T, length, take}
use Rattle.std.proofs.Common.{sym, ◌∙◌, arith}
use Rattle.std.proofs.Math.Path.{ap}
use Rattle.ground.specs.BytesLaws.{number_of_bytes}
use Rattle.ground.specs.Lists.{In, here, there}
use Rattle.shelf.specs.declared.Network.{Network}
use Rattle.shelf.specs.Network.{within_limits, cycle, most_calls}
use Rattle.shelf.specs.Rows.{row_count, α, β, γ}
use Rattle.shelf.specs.Light.{Lawful}
use Rattle.shelf.proofs.LawfulLaws.{lawful_parts}
use Rattle.calls.specs.declared.Verdict.{Verdict}
use Rattle.calls.specs.Table.{InOrder}
use Rattle.choice.specs.Rule.{at}
use Rattle.choice.specs.Rows.{centrals_of}
use Rattle.choice.proofs.RowsLaws.{centrals_length}
use Rattle.planner.specs.declared.Planned.{Planned}
use Rattle.planner.specs.Planner.{settings_row, settings_rows}
use Rattle.planner.proofs.SettingsLaws.{central_of, settings_length, settings_γ}
use Rattle.adding.specs.Adding.{AddsCall, add_step, added_settings, row_bytes}
use Rattle.adding.specs.Adding as adding
use Rattle.dropping.specs.Dropping as dropping
use Rattle.dropping.specs.Dropping.{DropsCall, without_row}
use Rattle.history.specs.History.{Move, Event, rows_read, moves_of, History, empty, then_added, then_dropped, ledger, standing, times, on_central, first_placed, moved_in, moved_away, dropped_there, Held}
use Rattle.history.proofs.Ledger.{standing_more, FourBytes, four_more, four_dropped, standing_dropped}
use Rattle.history.proofs.Counting.{times_append, times_moved, times_same, centrals_append, centrals_without}

-- ---- the table

four_bytes : {net : Network} {events : List Event} {calls settings : List ℕ} → History net events calls settings → FourBytes (ledger events)
unfolding ledger
four_bytes empty = tt
four_bytes (then_added {events} {calls} {settings} h call before after a adds z) = four_more (ledger events) call (four_bytes h) (adds.exactly.0 z).1
four_bytes (then_dropped {events} {calls} {settings} h row before after v drops z) = four_dropped row (ledger events) (four_bytes h)

table_is : {net : Network} {events : List Event} {calls settings : List ℕ} → History net events calls settings → calls ≡ standing (ledger events)
unfolding ledger standing
table_is empty = refl
table_is (then_added {events} {calls} {settings} h call before after a adds z) = (adds.written z).0 ∙ ap (λ (calls : List ℕ). calls ++ call) (table_is h) ∙ sym (standing_more (ledger events) call)
table_is (then_dropped {events} {calls} {settings} h row before after v drops z) = (drops.written z).0 ∙ ap (without_row 4 row) (table_is h) ∙ sym (standing_dropped row (ledger events) (four_bytes h))

-- ---- the settings

in_order_is : {net : Network} {events : List Event} {calls settings : List ℕ} → History net events calls settings → T (within_limits net) → InOrder net calls
unfolding row_count most_calls
in_order_is empty limits = record {
  limits = limits;
  whole = refl;
  few = omega arith;
  inside = λ i l. absurd (omega arith);
  inlets = λ i j l. absurd (omega arith);
  outlets = λ i j l. absurd (omega arith);
}
in_order_is (then_added {events} {calls} {settings} h call before after a adds z) limits = rw (adds.written z).0 (adds.exactly.0 z).2
in_order_is (then_dropped {events} {calls} {settings} h row before after v drops z) limits = rw (drops.written z).0 (drops.lawful z).0

lawful_is : {net : Network} {events : List Event} {calls settings : List ℕ} → History net events calls settings → Lawful net calls settings
unfolding row_count
lawful_is {net} empty = (lawful_parts net [] []).1 (record { whole = refl; arrive = λ i l. absurd (omega arith); apart = λ j l. absurd (omega arith) })
lawful_is (then_added {events} {calls} {settings} h call before after a adds z) = rw ((adds.written z).0, (adds.written z).1) (adds.lawful z)
lawful_is (then_dropped {events} {calls} {settings} h row before after v drops z) = rw ((drops.written z).0, (drops.written z).1) (drops.lawful z).1

-- ---- the calls on each central

read_back : (rows : List ℕ) → ((i : ℕ) → In i rows → i < 65536) → rows_read (row_bytes rows) ≡ rows
unfolding rows_read row_bytes
read_back [] small = refl
read_back (row ∷ rows) small = rw (number_of_bytes row (small row (here refl)), read_back rows (λ i p. small i (there p)))

module _ {net : Network} {calls settings call : List ℕ} {before after : adding.Lent} {a : Planned} (adds : AddsCall net calls settings call before after a) (z : a.number ≡ 0) where
  abbrev K : ℕ
  K = row_count calls

  abbrev table : List ℕ
  table = calls ++ call

  abbrev es : List ℕ
  es = (add_step net calls settings call).moved

  abbrev now : List ℕ
  now = added_settings net calls settings call

  abbrev g : ℕ → ℕ
  g = at (add_step net calls settings call).centrals

  -- the settings before the new row's
  abbrev earlier : List ℕ
  earlier = settings_rows (cycle net) (α table) (β table) g K

  settings_whole : length settings ≡ 3 * K
  settings_whole = ((lawful_parts net calls settings).0 (adds.exactly.0 z).0).whole

  central_now : (i : ℕ) → i < suc K → γ now i ≡ g i
  unfolding added_settings
  central_now i l = settings_γ (cycle net) (α table) (β table) g (suc K) i l

  central_earlier : (i : ℕ) → i < K → at (centrals_of earlier) i ≡ γ now i
  central_earlier i l = central_of earlier K (settings_length (cycle net) (α table) (β table) g K) i l ∙ settings_γ (cycle net) (α table) (β table) g K i l ∙ sym (central_now i (omega arith))

  few : K ≤ most_calls
  few = omega (arith, (adds.exactly.0 z).2.few, adds.tells_k z)

  rows_told_lem : rows_read (take (2 * a.moved) after.moved) ≡ es
  unfolding most_calls
  rows_told_lem = ap rows_read (adds.written z).2 ∙ read_back es (λ i p. omega (arith, (adds.told_moved z i p).0, few))

  counted_now : (c : ℕ) → times c (centrals_of now) ≡ times c (centrals_of earlier) + times c (γ now K ∷ [])
  unfolding added_settings settings_rows centrals_of
  counted_now c =
      ap (times c) (centrals_append earlier (settings_row (cycle net) (α table) (β table) g K) K (settings_length (cycle net) (α table) (β table) g K))
      ∙ times_append c (centrals_of earlier) (g K ∷ [])
      ∙ ap (λ (central : ℕ). times c (centrals_of earlier) + times c (central ∷ [])) (sym (central_now K (omega arith)))

  balance_added : (c : ℕ) → times c (centrals_of now) + times c (map (γ settings) es) ≡ times c (centrals_of settings) + times c (map (γ now) es) + times c (γ now K ∷ [])
  balance_added c =
      let lengths : length (centrals_of settings) ≡ length (centrals_of earlier) =
      centrals_length settings K settings_whole ∙ sym (centrals_length earlier K (settings_length (cycle net) (α table) (β table) g K)) in
      let size = centrals_length settings K settings_whole in
      omega (
        arith,
        times_moved c es (centrals_of settings) (centrals_of earlier) lengths (adds.told_once z) (λ i p. rw size (adds.told_moved z i p).0)
            (λ i l n. let m = rw size at l in central_earlier i m ∙ (adds.others_kept z i m n).same_γ ∙ sym (central_of settings K settings_whole i m)),
        times_same c es (λ i p. central_of settings K settings_whole i (adds.told_moved z i p).0),
        times_same c es (λ i p. central_earlier i (adds.told_moved z i p).0),
        counted_now c,
      )

-- what the moves of an event tell
left_told : (c : ℕ) (rows s t : List ℕ) → times c (map (λ (m : Move). m.left) (moves_of rows s t)) ≡ times c (map (γ s) rows)
unfolding moves_of times
left_told c [] s t = refl
left_told c (row ∷ rows) s t = omega (arith, left_told c rows s t)

took_told : (c : ℕ) (rows s t : List ℕ) → times c (map (λ (m : Move). m.took) (moves_of rows s t)) ≡ times c (map (γ t) rows)
unfolding moves_of times
took_told c [] s t = refl
took_told c (row ∷ rows) s t = omega (arith, took_told c rows s t)

-- the row that is dropped has settings
held_row : {net : Network} {calls settings : List ℕ} {row : ℕ} {before after : dropping.Lent} {v : Verdict} → DropsCall net calls settings row before after v → v.number ≡ 0 → 3 * row + 3 ≤ length settings
held_row {net} {calls} {settings} drops z = let h = drops.exactly.0 z in omega (arith, ((lawful_parts net calls settings).0 h.1).whole, h.2)

balance : {net : Network} {events : List Event} {calls settings : List ℕ} → History net events calls settings → (c : ℕ)
    → on_central c settings + moved_away c events + dropped_there c events ≡ first_placed c events + moved_in c events
unfolding on_central centrals_of times first_placed moved_in moved_away dropped_there
balance {net} empty c = refl
balance {net} (then_added {events} {calls} {settings} h call before after a adds z) c =
    rw ((adds.written z).1, rows_told_lem adds z)
    (omega (
      arith,
      balance h c,
      balance_added adds z c,
      left_told c (add_step net calls settings call).moved settings (added_settings net calls settings call),
      took_told c (add_step net calls settings call).moved settings (added_settings net calls settings call),
    ))
balance {net} (then_dropped {events} {calls} {settings} h row before after v drops z) c =
    rw (drops.written z).1 (omega (arith, balance h c, centrals_without c row settings (held_row drops z)))

pub held : {net : Network} {events : List Event} {calls settings : List ℕ} → History net events calls settings → Held net events calls settings
held h = record {
  table = table_is h;
  in_order = in_order_is h;
  lawful = lawful_is h;
  counted = λ c. omega (arith, balance h c);
  covered = λ c. omega (arith, balance h c);
}
