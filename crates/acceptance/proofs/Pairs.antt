-- Records of the pairs in use, for the code that goes from row to row: what marking the pair of a row tells. What is said of
-- input modules is said of output modules too, by `output`.
--   module_in call output == the module of the code's own record of a call, on that side
--   pair_marks calls settings output i == the record of the pairs, a module with a central, after the rows below i
--   Judged ..            == row i as it was read, when no row before it is refused, and what 9 to 11 say of it
--   light_refuses        == a refusal by 9 to 11 is that of the row
--   pair_room, pair_tells == the place of the row's pair in the record, and what marking it tells and leaves
--   twelve, thirteen, next_passes == what the pairs tell of the row
use Rattle.std.specs.Prelude.{◌≡◌, Bool, true, false, List, ℕ, suc, ◌+◌, ◌<◌, T}
use Rattle.std.proofs.Math.Path.{sym}
use Rattle.std.proofs.Common.{ap, ◌∙◌, arith}
use Rattle.ground.specs.Numbers.{up_to}
use Rattle.ground.specs.Below.{used_earlier}
use Rattle.ground.specs.Words.{word_size}
use Rattle.ground.specs.Marks.{marks, Marked}
use Rattle.ground.specs.MarksLaws.{mark_tells}
use Rattle.shelf.specs.declared.Network.{Network}
use Rattle.shelf.specs.declared.CallRow.{CallRow}
use Rattle.shelf.specs.declared.SettingsRow.{SettingsRow}
use Rattle.shelf.specs.Network.{within_limits, most_modules, most_centrals}
use Rattle.shelf.specs.NetworkLaws.{limits_are, own_central_below, central_bit}
use Rattle.shelf.specs.Rows.{row_count, α, β, γ, module_of, CallRead, SettingsRead}
use Rattle.shelf.specs.Light.{row_of, row_at}
use Rattle.shelf.proofs.Arrival.{Ports}
use Rattle.shelf.proofs.LawfulLaws.{row_read}
use Rattle.calls.specs.declared.Verdict.{Verdict}
use Rattle.calls.specs.Verdict.{passed, seek_rows}
use Rattle.calls.specs.VerdictLaws.{turn_stops, turn_goes_on, test_stops, test_goes_on, test_passes, seek_passes, seek_here, seek_next}
use Rattle.calls.specs.Table.{Inside}
use Rattle.acceptance.specs.Acceptance.{light_verdict, row_verdict, unlawful_row}
use Rattle.acceptance.proofs.Exactly.{light_passes, row_passes}

abbrev pub module_in : CallRow → Bool → ℕ
module_in call true = call.output_module
module_in call false = call.input_module

abbrev pub pair_marks : List ℕ → List ℕ → Bool → ℕ → List ℕ
pair_marks calls settings output = marks most_modules (module_of calls output) (γ settings)

-- the centrals of rows whose light arrives are small
small_central : (net : Network) (calls settings : List ℕ) (i : ℕ) → T (within_limits net) → Ports net (row_at calls settings i) → γ settings i < most_centrals
unfolding row_at
small_central net calls settings i h p =
    let l = (limits_are net).0 h in
    omega (arith, own_central_below net (γ settings i) p.own_γ)

-- Row i, when no row before it is refused: the row as it was read, and what 9 to 11 say of it.
pub record Judged (net : Network) (calls settings : List ℕ) (i : ℕ) (call : CallRow) (set : SettingsRow) (light : Verdict) : Type 0 where
  pub limits : T (within_limits net)
  pub below : i < row_count calls
  pub so_far : seek_rows i (row_verdict net calls settings) ≡ passed
  pub call_read : CallRead calls i call
  pub settings_read : SettingsRead settings i set
  pub inside : Inside net calls i
  pub told : light ≡ light_verdict net i (row_of call set)

module _ {net : Network} {calls settings : List ℕ} {i : ℕ} {call : CallRow} {set : SettingsRow} {light : Verdict} (j : Judged net calls settings i call set light) where
  light_here : light ≡ light_verdict net i (row_at calls settings i)
  light_here = j.told ∙ ap (light_verdict net i) (row_read calls settings i call set j.call_read j.settings_read)

  refused_here : (v : Verdict) → v ≡ row_verdict net calls settings i → (v.number ≡ 0 → ⊥) → v ≡ unlawful_row net calls settings
  unfolding unlawful_row
  refused_here v f n = sym (seek_here (row_verdict net calls settings) i (row_count calls) v j.so_far (sym f) n j.below)

  pub light_refuses : (light.number ≡ 0 → ⊥) → light ≡ unlawful_row net calls settings
  unfolding row_verdict
  light_refuses n = refused_here light (turn_stops _ light_here n) n

  module _ (z : light.number ≡ 0) where
    small_here : γ settings i < most_centrals
    small_here = small_central net calls settings i j.limits ((light_passes net i (row_at calls settings i)).0 (rw light_here at z))

    small_so_far : (q : ℕ) → q < suc i → γ settings q < most_centrals
    unfolding passed
    small_so_far = up_to (λ q. γ settings q < most_centrals) (λ q l. small_central net calls settings q j.limits ((row_passes net calls settings q).0 (so_far q l)).0) small_here
      where
        so_far : (q : ℕ) → q < i → (row_verdict net calls settings q).number ≡ 0
        so_far = (seek_passes (row_verdict net calls settings) i).0 (ap (λ (v : Verdict). v.number) j.so_far)

    small_module : (output : Bool) → module_of calls output i < most_modules
    small_module true = let l = (limits_are net).0 j.limits in omega (arith, j.inside.own_β)
    small_module false = let l = (limits_are net).0 j.limits in omega (arith, j.inside.own_α)

    own_module : (output : Bool) → module_in call output ≡ module_of calls output i
    own_module true = j.call_read.output_module
    own_module false = j.call_read.input_module

    pub pair_room : (output : Bool) → (module_in call output < most_modules) × (set.central < word_size)
    pair_room output = (rw (own_module output) (small_module output), rw j.settings_read.central (central_bit small_here))

    pub pair_tells : (output : Bool) {used used' : List ℕ} {before : Bool} → used ≡ pair_marks calls settings output i → Marked used used' (module_in call output) set.central before
        → (before ≡ used_earlier (module_of calls output) (γ settings) i) × (used' ≡ pair_marks calls settings output (i + 1))
    pair_tells output u m =
        mark_tells most_modules (module_of calls output) (γ settings) i u (own_module output) j.settings_read.central m (small_module output) (λ q l. central_bit (small_so_far q l))

    -- what the pairs tell
    module _ {input : Bool} (a : input ≡ used_earlier (α calls) (γ settings) i) where
      pub twelve : input ≡ true → record { number = 12; row = i } ≡ unlawful_row net calls settings
      unfolding row_verdict
      twelve t = refused_here _ (turn_goes_on _ _ light_here z (test_stops 11 i _ (sym a ∙ t))) (λ q. omega arith)

      module _ {output : Bool} (b : output ≡ used_earlier (β calls) (γ settings) i) (t : input ≡ false) where
        pub thirteen : output ≡ true → record { number = 13; row = i } ≡ unlawful_row net calls settings
        unfolding row_verdict
        thirteen r = refused_here _ (turn_goes_on _ _ light_here z (test_goes_on 12 i _ _ (sym a ∙ t) (test_stops 12 i _ (sym b ∙ r)))) (λ q. omega arith)

        pub next_passes : output ≡ false → seek_rows (i + 1) (row_verdict net calls settings) ≡ passed
        unfolding row_verdict
        next_passes r =
            seek_next (row_verdict net calls settings) i j.so_far
            (sym (turn_goes_on _ _ light_here z (test_goes_on 12 i _ _ (sym a ∙ t) (test_passes 13 i (sym b ∙ r)))))
