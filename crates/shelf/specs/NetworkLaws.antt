-- Laws of the network's record. Floors above use the cycle, the shelf's own wavelengths and centrals by these alone.
--   InLimits net       == n, m, r and W within their limits, one by one, and limits_are that this is what the test says
--   modules_in_cycle, centrals_in_cycle, cycle_most == the cycle has room for every module and every central, and is at most 64
--   channel_bit, central_bit == a word has a bit for every channel of a module, and for every central
--   sizes_in_limits    == of three sizes alone just these are tested: 1 is then given as before there was W
--   least_cycle_sizes  == a network whose W is the larger of r and m is that of its three sizes, and sizes_least_cycle that these have it
--   own_wavelength_is  == a wavelength is the shelf's own where it is below the cycle
--   has_central_is     == there is a central of each number below m
--   own_central_is     == the shelf's own centrals are all that there are
--   own_central_below  == so they are below m
--   made_sized, refused_sized == what each case of a constructor's answer says of the sizes
--   one_answer         == two answers of a constructor are the same, and tell the same number, row and network
use Rattle.std.proofs.Math.Path.{◌≡◌, refl}
use Rattle.std.proofs.Common.{sym, ◌∙◌, arith}
use Rattle.std.specs.Prelude.{◌↔◌, Bool, [], ◌∷◌, ℕ, ◌≤◌, ◌<◌, T, leb, Option, Some, None}
use Rattle.std.proofs.Math.Logic.Iff
use Rattle.std.proofs.Math.Bool.{true, false, cond}
use Rattle.std.proofs.Math.Dec.{eqb_refl}
use Rattle.ground.specs.Truth.{all}
use Rattle.ground.specs.TruthLaws.{both_is, all_is}
use Rattle.ground.specs.Numbers.{eqb_is, leb_is, ltb_is}
use Rattle.ground.specs.Words.{word_size}
use Rattle.shelf.specs.declared.Network.{Network}
use Rattle.shelf.specs.Network.{most_channels, most_centrals, most_modules, most_wavelengths, within, cycle, cycle_within, within_limits, least_cycle, of_sizes, has_least_cycle, own_wavelength, has_central, own_central, sized, told_by, Built}

pub record InLimits (net : Network) : Type 0 where
  pub some_n : 1 ≤ net.n
  pub some_m : 1 ≤ net.m
  pub some_r : 1 ≤ net.r
  pub most_n : net.n ≤ most_channels
  pub most_m : net.m ≤ most_centrals
  pub most_r : net.r ≤ most_modules
  pub r_in_w : net.r ≤ cycle net
  pub m_in_w : net.m ≤ cycle net
  pub most_w : cycle net ≤ most_wavelengths

within_is : (size most : ℕ) → T (within size most) ↔ ((1 ≤ size) × (size ≤ most))
unfolding within
within_is size most = Iff.trans (both_is (leb 1 size) (leb size most)) (Iff.and (leb_is 1 size) (leb_is size most))

module _ (net : Network) where
  pub limits_are : T (within_limits net) ↔ InLimits net
  unfolding within_limits cycle_within
  limits_are = Iff.trans (all_is _) (
    λ (in_n, (in_m, (in_r, (in-W, _)))).
        let n = (within_is net.n most_channels).0 in_n in
        let m = (within_is net.m most_centrals).0 in_m in
        let r = (within_is net.r most_modules).0 in_r in
        let W = (all_is _).0 in-W in
        record {
          some_n = n.0;
          some_m = m.0;
          some_r = r.0;
          most_n = n.1;
          most_m = m.1;
          most_r = r.1;
          r_in_w = (leb_is net.r (cycle net)).0 W.0;
          m_in_w = (leb_is net.m (cycle net)).0 W.1.0;
          most_w = (leb_is (cycle net) most_wavelengths).0 W.1.1.0;
        },
    λ h. (
      (within_is net.n most_channels).1 (h.some_n, h.most_n),
      (
        (within_is net.m most_centrals).1 (h.some_m, h.most_m),
        (
          (within_is net.r most_modules).1 (h.some_r, h.most_r),
          ((all_is _).1 ((leb_is net.r (cycle net)).1 h.r_in_w, ((leb_is net.m (cycle net)).1 h.m_in_w, ((leb_is (cycle net) most_wavelengths).1 h.most_w, tt))), tt),
        ),
      ),
    ),
  )

  module _ (limits : T (within_limits net)) where
    pub modules_in_cycle : net.r ≤ cycle net
    modules_in_cycle = (limits_are.0 limits).r_in_w

    pub centrals_in_cycle : net.m ≤ cycle net
    centrals_in_cycle = (limits_are.0 limits).m_in_w

    pub cycle_most : cycle net ≤ most_wavelengths
    cycle_most = (limits_are.0 limits).most_w

  pub own_wavelength_is : (x : ℕ) → T (own_wavelength net x) ↔ (x < cycle net)
  unfolding own_wavelength
  own_wavelength_is x = ltb_is x (cycle net)

  pub has_central_is : (γ : ℕ) → T (has_central net γ) ↔ (γ < net.m)
  unfolding has_central
  has_central_is γ = ltb_is γ net.m

  pub own_central_is : (γ : ℕ) → T (own_central net γ) ↔ T (has_central net γ)
  unfolding own_central
  own_central_is γ = Iff.rfl

  pub own_central_below : (γ : ℕ) → T (own_central net γ) → γ < net.m
  own_central_below γ h = (has_central_is γ).0 ((own_central_is γ).0 h)

  pub made_sized : (made : Network) → Some made ≡ sized net → (within_limits net ≡ true) × (made ≡ net)
  unfolding sized
  made_sized made = go (within_limits net)
    where
      go : (b : Bool) → Some made ≡ cond b (Some net) None → (b ≡ true) × (made ≡ net)
      go true e = (refl, cc)
      go false e = let z : ◌≡◌ {A = ℕ} 0 1 = cc in absurd (omega arith)

  pub refused_sized : None ≡ sized net → within_limits net ≡ false
  unfolding sized
  refused_sized = go (within_limits net)
    where
      go : (b : Bool) → None ≡ cond b (Some net) None → b ≡ false
      go true e = let z : ◌≡◌ {A = ℕ} 0 1 = cc in absurd (omega arith)
      go false e = refl

-- A network of three sizes alone: its cycle is the larger of r and m, so it is within limits where the three sizes are.
pub sizes_in_limits : (n m r : ℕ) → T (within_limits (of_sizes n m r)) ↔ T (all (within n most_channels ∷ within m most_centrals ∷ within r most_modules ∷ []))
unfolding within_limits cycle_within cycle of_sizes least_cycle most_centrals most_modules most_wavelengths
sizes_in_limits n m r = (
  λ h. let (in_n, (in_m, (in_r, _))) = (all_is _).0 h in (all_is _).1 (in_n, (in_m, (in_r, tt))),
  λ h.
      let (in_n, (in_m, (in_r, _))) = (all_is _).0 h in
      let few = ((within_is m most_centrals).0 in_m).1 in
      let most = ((within_is r most_modules).0 in_r).1 in
      let in-W : T (cycle_within (of_sizes n m r)) = (all_is _).1 ((leb_is r (least_cycle m r)).1 (omega arith), ((leb_is m (least_cycle m r)).1 (omega arith), ((leb_is (least_cycle m r) most_wavelengths).1 (omega arith), tt))) in
      (all_is _).1 (in_n, (in_m, (in_r, (in-W, tt)))),
)

pub sizes_least_cycle : (n m r : ℕ) → T (has_least_cycle (of_sizes n m r))
unfolding has_least_cycle of_sizes cycle
sizes_least_cycle n m r = eqb_refl (least_cycle m r)

pub least_cycle_sizes : (net : Network) → T (has_least_cycle net) → net ≡ of_sizes net.n net.m net.r
unfolding has_least_cycle of_sizes cycle
least_cycle_sizes net h = λ t. record { n = net.n; m = net.m; r = net.r; w = (eqb_is net.w (least_cycle net.m net.r)).0 h t }

pub channel_bit : {c : ℕ} → c < most_channels → c < word_size
unfolding most_channels word_size
channel_bit l = omega arith

pub central_bit : {c : ℕ} → c < most_centrals → c < word_size
unfolding most_centrals word_size
central_bit l = omega arith

-- two answers that satisfy a constructor's guarantee are the same
pub one_answer : (net : Network) (s s' : Option Network) → Built net s → Built net s' → (s ≡ s') × (told_by s ≡ told_by s')
one_answer net s s' g h = (g.is_sized ∙ sym h.is_sized, g.tells ∙ sym h.tells)
