-- The order in which the shelf's own centrals are searched: 0, 1, .. m−1.
--   order net            == the shelf's own centrals, in the order in which they are searched
--   order_from net c      == what of the order remains from central c on, for a search by rising centrals
use Rattle.std.specs.Prelude.{List, ℕ, ◌-◌}
use Rattle.ground.specs.Lists.{up_from}
use Rattle.shelf.specs.declared.Network.{Network}

unfoldable pub order : Network → List ℕ
order net = up_from 0 net.m

unfoldable pub order_from : Network → ℕ → List ℕ
order_from net c = up_from c (net.m - c)
