-- What it takes for the light of a row to arrive: "a call through γ needs x = [α + γ] and y = [γ + β]".
--   Ports net ρ        == the row's own wavelengths and central, and the two ports that the gratings give
--   Through net ρ      == the row's own central, and its wavelengths by the grating rule
--   first_central, second_output == where the light of such a row is after each grating
--   arrives_ports, ports_through, arrives_through == the row arrives exactly where these hold
use Rattle.std.specs.Prelude.{◌≡◌, refl, ◌↔◌, Bool, true, false, cond, ℕ, ◌<◌, ltb}
use Rattle.std.proofs.Common.{sym, ap, ◌∙◌, arith, ltb-true, lt-ltb}
use Rattle.std.proofs.Math.Logic.Iff
use Rattle.std.proofs.Math.Option.{Option, none, some}
use Rattle.std.proofs.Math.Dec.{T, eqb_refl}
use Rattle.ground.specs.TruthLaws.{all_is}
use Rattle.ground.specs.Numbers.{eqb_is}
use Rattle.grating.specs.Grating.{exit_port, wavelength_between}
use Rattle.grating.proofs.Laws.{between_below, between_exit, exit_between}
use Rattle.shelf.specs.declared.Network.{Network}
use Rattle.shelf.specs.Network.{within_limits, cycle, own_central}
use Rattle.shelf.specs.NetworkLaws.{modules_in_cycle, centrals_in_cycle, own_wavelength_is, own_central_below}
use Rattle.shelf.specs.Light.{Row, port_below, first, second, is, arrives}

-- the light is at the port v: it is not lost, and leaves there
port_is : (top p v : ℕ) → T (is (port_below top p) v) ↔ ((p < top) × (p ≡ v))
unfolding is port_below
port_is top p v = (there (ltb p top) refl, λ h. rw (lt-ltb p top h.0) ((eqb_is p v).1 h.1))
  where
    there : (b : Bool) → ltb p top ≡ b → T (is (cond b (some p) none) v) → (p < top) × (p ≡ v)
    there true e h = (ltb-true p top e, (eqb_is p v).0 h)
    there false e h = absurd h

is_some : (o : Option ℕ) (v : ℕ) → T (is o v) → o ≡ some v
unfolding is
is_some none v h = absurd h
is_some (some p) v h = ap {B = Option ℕ} some ((eqb_is p v).0 h)

pub record Ports (net : Network) (ρ : Row) : Type 0 where
  pub own_x : ρ.x < cycle net
  pub own_y : ρ.y < cycle net
  pub own_γ : T (own_central net ρ.γ)
  pub at_central : exit_port (cycle net) ρ.x ρ.α ≡ ρ.γ
  pub at_output : exit_port (cycle net) ρ.y ρ.γ ≡ ρ.β

pub record Through (net : Network) (ρ : Row) : Type 0 where
  pub own_γ : T (own_central net ρ.γ)
  pub x_is : ρ.x ≡ wavelength_between (cycle net) ρ.α ρ.γ
  pub y_is : ρ.y ≡ wavelength_between (cycle net) ρ.γ ρ.β

module _ (net : Network) (ρ : Row) where
  second_from : (p : ℕ) → first net ρ ≡ some p → second net ρ ≡ port_below net.r (exit_port (cycle net) ρ.y p)
  unfolding second
  second_from p e = rw (e, second)

  pub first_central : Ports net ρ → first net ρ ≡ some ρ.γ
  unfolding first
  first_central h = is_some _ ρ.γ ((port_is net.m _ ρ.γ).1 (rw h.at_central (own_central_below net ρ.γ h.own_γ), h.at_central))

  pub second_output : ρ.β < net.r → Ports net ρ → second net ρ ≡ some ρ.β
  second_output b h =
      second_from ρ.γ (first_central h) ∙ is_some _ ρ.β ((port_is net.r _ ρ.β).1 (rw h.at_output b, h.at_output))

  -- the row arrives where its output module is one of the shelf's, and the gratings lead by its central to that module
  pub arrives_ports : T (arrives net ρ) ↔ ((ρ.β < net.r) × Ports net ρ)
  unfolding arrives first is
  arrives_ports = Iff.trans (all_is _) (
    λ (in-x, (in-y, (in-γ, (at-γ, (at-β, _))))).
        let p = (port_is net.m _ ρ.γ).0 at-γ in
        let q = (port_is net.r _ ρ.β).0 (rw (second_from ρ.γ (is_some (first net ρ) ρ.γ at-γ)) at at-β) in (
          rw q.1 at q.0,
          record { own_x = (own_wavelength_is net ρ.x).0 in-x; own_y = (own_wavelength_is net ρ.y).0 in-y; own_γ = in-γ; at_central = p.1; at_output = q.1 },
        ),
    λ h.
        let f : T (is (first net ρ) ρ.γ) = rw (first_central h.1) (eqb_refl ρ.γ) in
        let s : T (is (second net ρ) ρ.β) = rw (second_output h.0 h.1) (eqb_refl ρ.β) in
        ((own_wavelength_is net ρ.x).1 h.1.own_x, ((own_wavelength_is net ρ.y).1 h.1.own_y, (h.1.own_γ, (f, (s, tt))))),
  )

  -- the same by the wavelengths that the row needs
  module _ (limits : T (within_limits net)) where
    pub ports_through : ρ.β < net.r → Ports net ρ ↔ Through net ρ
    ports_through b = (
      λ h.
          let g = own_central_below net ρ.γ h.own_γ in
          record {
            own_γ = h.own_γ;
            x_is = sym (between_exit (cycle net) ρ.α ρ.x ρ.γ h.own_x (omega (arith, centrals_in_cycle net limits)) h.at_central);
            y_is = sym (between_exit (cycle net) ρ.γ ρ.y ρ.β h.own_y (omega (arith, modules_in_cycle net limits)) h.at_output);
          },
      λ h.
          let g = own_central_below net ρ.γ h.own_γ in
          let w : 0 < cycle net = omega (arith, centrals_in_cycle net limits) in
          let kx : ρ.x < cycle net = rw h.x_is (between_below (cycle net) w ρ.α ρ.γ) in
          let ky : ρ.y < cycle net = rw h.y_is (between_below (cycle net) w ρ.γ ρ.β) in
          record {
            own_x = kx;
            own_y = ky;
            own_γ = h.own_γ;
            at_central = exit_between (cycle net) ρ.α ρ.x ρ.γ kx (omega (arith, centrals_in_cycle net limits)) (sym h.x_is);
            at_output = exit_between (cycle net) ρ.γ ρ.y ρ.β ky (omega (arith, modules_in_cycle net limits)) (sym h.y_is);
          },
    )

    pub arrives_through : T (arrives net ρ) ↔ ((ρ.β < net.r) × Through net ρ)
    arrives_through = (
      λ h. let p = arrives_ports.0 h in (p.0, (ports_through p.0).0 p.1),
      λ h. arrives_ports.1 (h.0, (ports_through h.0).1 h.1),
    )
