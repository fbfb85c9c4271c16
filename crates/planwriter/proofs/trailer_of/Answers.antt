-- `planwriter::trailer_of` meets its contract: sizes within their limits are bytes, and so are the halves of a number.
use Rattle.std.proofs.Common.{◌<◌, arith, T}
use Rattle.shelf.specs.declared.Network.{Network}
use Rattle.shelf.specs.Network.{most_channels, most_centrals, most_modules, most_wavelengths, cycle, within_limits}
use Rattle.shelf.specs.NetworkLaws.{limits_are}
use Rattle.trailer.specs.File.{mark, last_twelve}
use Rattle.planwriter.proofs.trailer_of.Goals as goal

-- sizes within their limits are bytes
small_sizes : (net : Network) → T (within_limits net) → (net.w < 256) × (net.n < 256) × (net.m < 256) × (net.r < 256)
unfolding most_channels most_centrals most_modules most_wavelengths cycle
small_sizes net h = let l = (limits_are net).0 h in omega arith

pub overflow_cast-result : goal.overflow_cast-result
overflow_cast-result c = record { fits = (small_sizes _ c.requires.0).0 }

pub overflow_cast-result-2 : goal.overflow_cast-result-2
overflow_cast-result-2 c = record { fits = (small_sizes _ c.requires.0).1 }

pub overflow_cast-result-3 : goal.overflow_cast-result-3
overflow_cast-result-3 c = record { fits = (small_sizes _ c.requires.0).2 }

pub overflow_cast-result-4 : goal.overflow_cast-result-4
overflow_cast-result-4 c = record { fits = (small_sizes _ c.requires.0).3 }

pub returns : goal.returns
unfolding last_twelve mark
returns c = cc
