-- What it means that the checks of sizes, lengths and rows pass: the table is in order and, if planned, its settings are lawful.
--   Measured kind net calls settings == what sizes and lengths are that 1, 2 and 3 do not refuse
--   measured, table_lawful == what it means that the checks of sizes and lengths, and those of the rows, pass
--   most_rows            == the most bytes of calls and settings
--   longest_file_lem, longest_reached == no file of such parts is longer than the longest of its kind, and one with the longest note and the
--                           most calls is as long
use Rattle.std.specs.Prelude.{◌≡◌, ◌↔◌, Bool, true, false, cond, List, ℕ, ◌+◌, ◌*◌, ◌≤◌, T, length}
use Rattle.std.proofs.Math.Path.{ap}
use Rattle.std.proofs.Common.{◌∙◌, arith}
use Rattle.std.proofs.Math.Logic.Iff
use Rattle.std.proofs.Math.Nat.{mul-le-mul_left}
use Rattle.shelf.specs.declared.Network.{Network}
use Rattle.shelf.specs.Network.{within_limits, most_calls}
use Rattle.shelf.specs.Rows.{row_count}
use Rattle.shelf.specs.Light.{Lawful}
use Rattle.calls.specs.VerdictLaws.{turn_passes}
use Rattle.calls.specs.Table.{size_checks, call_checks, InOrder}
use Rattle.calls.specs.TableLaws.{size_checks_pass, in_order_is}
use Rattle.acceptance.specs.Acceptance.{unlawful_row, row_checks}
use Rattle.acceptance.proofs.Exactly.{rows_lawful}
use Rattle.trailer.specs.File.{has_settings, most_note, settings_per_call, settings_distance, calls_distance, file_of, longest_of}
use Rattle.trailer.proofs.FileLaws.{settings_distance_lem, settings_most, length_file}
use Rattle.planfile.specs.Checks.{table_checks}

pub record Measured (kind : ℕ) (net : Network) (calls settings : List ℕ) : Type 0 where
  pub limits : T (within_limits net)
  pub whole : length calls ≡ 4 * row_count calls
  pub settings_length : length settings ≡ settings_distance kind (row_count calls)
  pub few : row_count calls ≤ most_calls

-- the checks of the rows pass where those of the calls do and, for a planned file, those of the settings
table_passes : (net : Network) (kind : ℕ) (calls settings : List ℕ)
    → ((table_checks net kind calls settings).number ≡ 0) ↔ (((call_checks net calls).number ≡ 0) × (T (has_settings kind) → (unlawful_row net calls settings).number ≡ 0))
unfolding table_checks row_checks
table_passes net kind calls settings = go (has_settings kind)
  where
    go : (b : Bool) → ((cond b (row_checks net calls settings) (call_checks net calls)).number ≡ 0)
        ↔ (((call_checks net calls).number ≡ 0) × (T b → (unlawful_row net calls settings).number ≡ 0))
    go true = Iff.trans (turn_passes _) (λ (table, (rows, _)). (table, λ k. rows), λ h. (h.0, (h.1 tt, tt)))
    go false = (λ h. (h, λ k. absurd k), λ h. h.0)

module _ (kind : ℕ) (net : Network) (calls settings : List ℕ) where
  pub measured : ((size_checks net (length calls) (length settings) (settings_per_call kind)).number ≡ 0) ↔ Measured kind net calls settings
  unfolding settings_distance
  measured = (
    λ h.
        let p = (size_checks_pass net calls (length settings) (settings_per_call kind)).0 h in
        record { limits = p.0; whole = p.1; settings_length = p.2; few = p.3 },
    λ h. (size_checks_pass net calls (length settings) (settings_per_call kind)).1 (h.limits, h.whole, h.settings_length, h.few),
  )

  pub table_lawful : Measured kind net calls settings
      → ((table_checks net kind calls settings).number ≡ 0) ↔ (InOrder net calls × (T (has_settings kind) → Lawful net calls settings))
  unfolding settings_distance
  table_lawful h = Iff.trans (table_passes net kind calls settings) (
    λ p.
        let table = ((in_order_is net calls (length settings) (settings_per_call kind)).0 (measured.1 h, p.0)).0 in
        (table, λ k. (rows_lawful net calls settings table).0 (p.1 k, h.settings_length ∙ settings_distance_lem kind (row_count calls) k)),
    λ p. (((in_order_is net calls (length settings) (settings_per_call kind)).1 (p.0, h.settings_length)).1, λ k. ((rows_lawful net calls settings p.0).1 (p.1 k)).0),
  )

  -- the most bytes of rows, and of a file
  module _ (h : Measured kind net calls settings) where
    pub most_rows : length calls + length settings ≤ 4 * most_calls + 3 * most_calls
    most_rows = omega (arith, h.whole, h.settings_length, h.few, settings_most kind (row_count calls))

    pub longest_file_lem : (note : List ℕ) → length note ≤ most_note → length (file_of net kind note calls settings) ≤ longest_of kind
    unfolding longest_of calls_distance settings_distance
    longest_file_lem note l = rw length_file (omega (arith, h.whole, h.settings_length, mul-le-mul_left (settings_per_call kind) h.few))

    pub longest_reached : (note : List ℕ) → length note ≡ most_note → row_count calls ≡ most_calls → length (file_of net kind note calls settings) ≡ longest_of kind
    unfolding longest_of calls_distance
    longest_reached note l K = rw length_file (omega (arith, h.whole, h.settings_length ∙ ap (settings_distance kind) K))
