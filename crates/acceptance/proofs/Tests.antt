-- What the tests of one row's light tell, in the order in which they are tried: for the code of that row.
--   numbers_below       == what the test of 9 leaves known: the two gratings can be asked
--   light_nine, light_ten, light_eleven == the refusal of the first test that fails
--   light_passed        == none fails
use Rattle.std.specs.Prelude.{◌≡◌, true, false, ℕ, ◌<◌, T}
use Rattle.std.proofs.Common.{arith}
use borrow.Author.Tests.{eq-eqb, ne_eqb}
use Rattle.grating.specs.Grating.{exit_port}
use Rattle.shelf.specs.declared.Network.{Network}
use Rattle.shelf.specs.Network.{within_limits, cycle}
use Rattle.shelf.specs.NetworkLaws.{centrals_in_cycle, has_central_is}
use Rattle.shelf.specs.Light.{Row}
use Rattle.calls.specs.Verdict.{passed, refused_if, ◌⨾◌, in_turn}
use Rattle.acceptance.specs.Acceptance.{has_numbers, light_verdict}
use Rattle.acceptance.proofs.Exactly.{numbers_are}

pub numbers_below : (net : Network) (x γ y : ℕ) → T (within_limits net) → has_numbers net x γ y ≡ true → (x < cycle net) × (y < cycle net) × (γ < cycle net)
numbers_below net x γ y limits o =
    let h = (numbers_are net x γ y).0 (rw o tt) in
    omega (arith, (has_central_is net γ).0 h.2, centrals_in_cycle net limits)

module _ (net : Network) (i : ℕ) (ρ : Row) where
  pub light_nine : has_numbers net ρ.x ρ.γ ρ.y ≡ false → record { number = 9; row = i } ≡ light_verdict net i ρ
  unfolding light_verdict in_turn refused_if ◌⨾◌
  light_nine o = rw o

  -- W is the cycle, p is where the light leaves the first grating, and q where it leaves the second
  module _ (o : has_numbers net ρ.x ρ.γ ρ.y ≡ true) {W p : ℕ} (w : W ≡ cycle net) (e : p ≡ exit_port W ρ.x ρ.α) where
    pub light_ten : (p ≡ ρ.γ → ⊥) → record { number = 10; row = i } ≡ light_verdict net i ρ
    unfolding light_verdict in_turn refused_if passed ◌⨾◌
    light_ten n = rw (o, ← w, ← e, ne_eqb _ _ n)

    module _ (a : p ≡ ρ.γ) {q : ℕ} (f : q ≡ exit_port W ρ.y ρ.γ) where
      pub light_eleven : (q ≡ ρ.β → ⊥) → record { number = 11; row = i } ≡ light_verdict net i ρ
      unfolding light_verdict in_turn refused_if passed ◌⨾◌
      light_eleven n = rw (o, ← w, ← e, ← f, eq-eqb _ _ a, ne_eqb _ _ n)

      pub light_passed : q ≡ ρ.β → passed ≡ light_verdict net i ρ
      unfolding light_verdict in_turn refused_if passed ◌⨾◌
      light_passed b = rw (o, ← w, ← e, ← f, eq-eqb _ _ a, eq-eqb _ _ b)
