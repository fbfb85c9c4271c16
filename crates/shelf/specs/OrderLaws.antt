-- Laws of the order in which the shelf's own centrals are searched.
--   order_own            == the order holds the shelf's own centrals
--   order_distinct, order_length == each once, and how many they are
--   order_start, order_here, order_end == a search by rising centrals: it starts with all of the order, tries one after the
--                           other, and ends at m
use Rattle.std.specs.Prelude.{◌≡◌, ◌↔◌, [], ◌∷◌, T, length}
use Rattle.std.proofs.Math.Logic.Iff
use Prim.Native.Nat.{ℕ, suc, ◌+◌, ◌-◌, ◌≤◌, ◌<◌}
use Rattle.std.proofs.Math.Numerals.{add-one}
use native.Mathlib.Omega.{arith}
use Rattle.ground.specs.Lists.{In, Distinct, up_from}
use Rattle.ground.specs.ListsLaws.{in_up, up_distinct, length_up}
use Rattle.shelf.specs.declared.Network.{Network}
use Rattle.shelf.specs.Network.{own_central}
use Rattle.shelf.specs.NetworkLaws.{has_central_is, own_central_is}
use Rattle.shelf.specs.Order.{order, order_from}

module _ (net : Network) where
  pub order_own : (c : ℕ) → In c (order net) ↔ T (own_central net c)
  unfolding order
  order_own c = Iff.trans (in_up 0 net.m c) (
    λ h. (own_central_is net c).1 ((has_central_is net c).1 (omega arith)),
    λ t. omega (arith, (has_central_is net c).0 ((own_central_is net c).0 t)),
  )

  pub order_distinct : Distinct (order net)
  unfolding order
  order_distinct = up_distinct 0 net.m

  pub order_length : length (order net) ≡ net.m
  unfolding order
  order_length = length_up 0 net.m

  pub order_start : order_from net 0 ≡ order net
  unfolding order order_from
  order_start = let e : net.m - 0 ≡ net.m = omega arith in rw e

  pub order_here : (c : ℕ) → c < net.m → order_from net c ≡ c ∷ order_from net (c + 1)
  unfolding order_from up_from
  order_here c l = let e : net.m - c ≡ suc (net.m - (c + 1)) = omega arith in rw (e, add-one c)

  pub order_end : (c : ℕ) → net.m ≤ c → order_from net c ≡ []
  unfolding order_from up_from
  order_end c l = let e : net.m - c ≡ 0 = omega arith in rw e
