-- "That collisions come down to a pair (α, γ) or a pair (γ, β) used twice is a fact to prove": here it is, for rows that
-- arrive from the shelf's own input modules.
--   SamePair kind ρ σ  == on the two kinds of link before the central: the same α and γ; behind it: the same γ and β
--   OnePair ρ σ        == two rows share one of the two pairs
--   collide_is         == rows collide where they collide on some kind of link
--   collide_on_pair, collide_pair == on one kind where they share its pair, and at all where they share one of the two
use Rattle.std.specs.Prelude.{◌≡◌, refl, ◌⊎◌, ◌↔◌, map, ◌<◌, T}
use Rattle.std.proofs.Common.{inl, inr, ⊎_elim, arith}
use Rattle.std.proofs.Math.Logic.Iff
use Rattle.std.proofs.Math.Option.{some}
use Rattle.ground.specs.Truth.{SomeHolds}
use Rattle.ground.specs.TruthLaws.{any_is}
use Rattle.ground.specs.Numbers.{pair_is}
use Rattle.grating.proofs.Laws.{same_entry, same_exit}
use Rattle.shelf.specs.declared.Network.{Network}
use Rattle.shelf.specs.Network.{within_limits, cycle}
use Rattle.shelf.specs.NetworkLaws.{modules_in_cycle, centrals_in_cycle, own_central_below}
use Rattle.shelf.specs.Light.{Row, Kind, to_first, to_central, to_second, to_output, kinds, Lit, link, same, collide_on, collide, Collide, arrives}
use Rattle.shelf.proofs.Arrival.{Ports, Through, first_central, second_output, arrives_ports, arrives_through}

abbrev pub SamePair : Kind → Row → Row → Type 0
SamePair to_first ρ σ = (ρ.α ≡ σ.α) × (ρ.γ ≡ σ.γ)
SamePair to_central ρ σ = (ρ.α ≡ σ.α) × (ρ.γ ≡ σ.γ)
SamePair to_second ρ σ = (ρ.γ ≡ σ.γ) × (ρ.β ≡ σ.β)
SamePair to_output ρ σ = (ρ.γ ≡ σ.γ) × (ρ.β ≡ σ.β)

abbrev pub OnePair : Row → Row → Type 0
OnePair ρ σ = ((ρ.α ≡ σ.α) × (ρ.γ ≡ σ.γ)) ⊎ ((ρ.γ ≡ σ.γ) × (ρ.β ≡ σ.β))

pub collide_is : (net : Network) (ρ σ : Row) → Collide net ρ σ ↔ ((kind : Kind) × T (collide_on net ρ σ kind))
unfolding collide
collide_is net ρ σ = Iff.trans (any_is _) (which, λ h. on h.0 h.1)
  where
    Kinds : Type 0
    Kinds = SomeHolds (map (collide_on net ρ σ) kinds)

    which : Kinds → (kind : Kind) × T (collide_on net ρ σ kind)
    which (inl h) = (to_first, h)
    which (inr (inl h)) = (to_central, h)
    which (inr (inr (inl h))) = (to_second, h)
    which (inr (inr (inr (inl h)))) = (to_output, h)
    which (inr (inr (inr (inr h)))) = absurd h

    on : (kind : Kind) → T (collide_on net ρ σ kind) → Kinds
    on to_first h = inl h
    on to_central h = inr (inl h)
    on to_second h = inr (inr (inl h))
    on to_output h = inr (inr (inr (inl h)))

same_is : (s t : Lit) → T (same (some s) (some t)) ↔ ((s.port ≡ t.port) × (s.wavelength ≡ t.wavelength))
unfolding same
same_is s t = pair_is s.port s.wavelength t.port t.wavelength

-- the links of a row that arrives
abbrev lit : Row → Kind → Lit
lit ρ to_first = record { port = ρ.α; wavelength = ρ.x }
lit ρ to_central = record { port = ρ.γ; wavelength = ρ.x }
lit ρ to_second = record { port = ρ.γ; wavelength = ρ.y }
lit ρ to_output = record { port = ρ.β; wavelength = ρ.y }

link_lit : (net : Network) (ρ : Row) → ρ.β < net.r → Ports net ρ → (kind : Kind) → link net ρ kind ≡ some (lit ρ kind)
unfolding link
link_lit net ρ b h to_first = refl
link_lit net ρ b h to_central = rw (first_central net ρ h)
link_lit net ρ b h to_second = rw (first_central net ρ h)
link_lit net ρ b h to_output = rw (second_output net ρ b h)

-- the modules and the central of a row that arrives are ports of the gratings, and its wavelengths lead from one to the next
in_cycle : (net : Network) (ρ : Row) → T (within_limits net) → T (arrives net ρ) → ρ.α < net.r → (ρ.α < cycle net) × (ρ.β < cycle net) × (ρ.γ < cycle net) × Through net ρ
in_cycle net ρ limits h i =
    let t = (arrives_through net ρ limits).0 h in
    let g = own_central_below net ρ.γ t.1.own_γ in
    let r = modules_in_cycle net limits in
    let m = centrals_in_cycle net limits in
    (omega arith, omega arith, omega arith, t.1)

-- Two rows that arrive share a link and its wavelength where they share the pair of that kind: the wavelength is fixed
-- by the two ends of a grating, and with one end shared it is shared where the other end is.
module _ (net : Network) (ρ σ : Row) (limits : T (within_limits net)) (hρ : T (arrives net ρ)) (hσ : T (arrives net σ)) (iρ : ρ.α < net.r) (iσ : σ.α < net.r) where
  lit_pair : (kind : Kind) → (((lit ρ kind).port ≡ (lit σ kind).port) × ((lit ρ kind).wavelength ≡ (lit σ kind).wavelength)) ↔ SamePair kind ρ σ
  lit_pair = by_kind (in_cycle net ρ limits hρ iρ) (in_cycle net σ limits hσ iσ)
    where
      by_kind : (ρ.α < cycle net) × (ρ.β < cycle net) × (ρ.γ < cycle net) × Through net ρ → (σ.α < cycle net) × (σ.β < cycle net) × (σ.γ < cycle net) × Through net σ
          → (kind : Kind) → (((lit ρ kind).port ≡ (lit σ kind).port) × ((lit ρ kind).wavelength ≡ (lit σ kind).wavelength)) ↔ SamePair kind ρ σ
      by_kind b c to_first = rw (b.3.x_is, c.3.x_is) (same_entry (cycle net) ρ.α σ.α ρ.γ σ.γ b.0 c.0 b.2 c.2)
      by_kind b c to_central = rw (b.3.x_is, c.3.x_is) (same_exit (cycle net) ρ.α σ.α ρ.γ σ.γ b.0 c.0 b.2 c.2)
      by_kind b c to_second = rw (b.3.y_is, c.3.y_is) (same_entry (cycle net) ρ.γ σ.γ ρ.β σ.β b.2 c.2 b.1 c.1)
      by_kind b c to_output = rw (b.3.y_is, c.3.y_is) (same_exit (cycle net) ρ.γ σ.γ ρ.β σ.β b.2 c.2 b.1 c.1)

  pub collide_on_pair : (kind : Kind) → T (collide_on net ρ σ kind) ↔ SamePair kind ρ σ
  unfolding collide_on
  collide_on_pair kind =
      let p = (arrives_ports net ρ).0 hρ in
      let q = (arrives_ports net σ).0 hσ in
      rw (link_lit net ρ p.0 p.1 kind, link_lit net σ q.0 q.1 kind) (Iff.trans (same_is (lit ρ kind) (lit σ kind)) (lit_pair kind))

  pub collide_pair : Collide net ρ σ ↔ OnePair ρ σ
  collide_pair = (
    λ h. let k = (collide_is net ρ σ).0 h in one_pair k.0 ((collide_on_pair k.0).0 k.1),
    λ h. (collide_is net ρ σ).1 (⊎_elim (λ g. (to_first, (collide_on_pair to_first).1 g)) (λ g. (to_second, (collide_on_pair to_second).1 g)) h),
  )
    where
      one_pair : (kind : Kind) → SamePair kind ρ σ → OnePair ρ σ
      one_pair to_first h = inl h
      one_pair to_central h = inl h
      one_pair to_second h = inr h
      one_pair to_output h = inr h
