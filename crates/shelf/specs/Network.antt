-- The network's record, its limits and its cycle.
--   most_channels, most_centrals, most_modules, most_calls, most_wavelengths == the limits of n, m, r, of the rows of a table and of W
--   Limits ..          == four numbers are the first four of these limits
--   within size most   == the size is at least 1 and at most that
--   cycle net          == W, the cycle of both gratings; the wavelengths inside the shelf are those below it
--   cycle_within net    == W is neither below r nor below m nor above 64
--   within_limits net   == n, m, r and W are within their limits; else refusal 1
--   least_cycle m r     == Λ, the larger of r and m
--   of_sizes n m r      == the network of three sizes alone: W is the larger of r and m
--   has_least_cycle net  == W is the larger of r and m
--   own_wavelength net x == x is one of the shelf's own wavelengths
--   has_central net γ   == there is a central of that number; else refusal 9
--   own_central net γ   == γ is one of the shelf's own centrals, the ones that it may use
--   sized net          == what a constructor answers that is asked for this network
--   Constructed        == number, row and network of an answer, and told_by those of each case of a constructor's
--   Built net answer   == what the constructors guarantee
use Rattle.std.specs.Prelude.{◌≡◌, Bool, cond, ◌&&◌, [], ◌∷◌, ℕ, max, eqb, leb, ltb, Option, Some, None}
use Rattle.ground.specs.Truth.{all}
use Rattle.shelf.specs.declared.Network.{Network}

-- "n: channels of each input and each output module, 1 to 16. m: central modules, 1 to 32; m may be smaller than n.
-- r: input modules, and as many output modules, 1 to 64." "A table holds K rows, 0 to 1,024". 1 is given "when W is .. above 64".
-- `Limits` ties the first four to the constants of the network type, in the promise of `Network::new`; that of `Network::with_cycle` ties the last.
unfoldable pub most_channels : ℕ
most_channels = 16

unfoldable pub most_centrals : ℕ
most_centrals = 32

unfoldable pub most_modules : ℕ
most_modules = 64

unfoldable pub most_calls : ℕ
most_calls = 1024

unfoldable pub most_wavelengths : ℕ
most_wavelengths = 64

pub record Limits (channels centrals modules calls : ℕ) : Type 0 where
  pub of_n : channels ≡ most_channels
  pub of_m : centrals ≡ most_centrals
  pub of_r : modules ≡ most_modules
  pub of_k : calls ≡ most_calls

unfoldable pub within : ℕ → ℕ → Bool
within size most = leb 1 size && leb size most

-- "the network record gains W, the cycle of both gratings, and every remainder and wavelength limit is by W." "All three demands read W
-- for Λ": so does every sentence of the scope that is cited above a definition.
unfoldable pub cycle : Network → ℕ
cycle net = net.w

-- 1: "n, m or r outside its limits"; "also given when W is below r, below m or above 64"
unfoldable pub cycle_within : Network → Bool
cycle_within net = all (leb net.r (cycle net) ∷ leb net.m (cycle net) ∷ leb (cycle net) most_wavelengths ∷ [])

unfoldable pub within_limits : Network → Bool
within_limits net = all (within net.n most_channels ∷ within net.m most_centrals ∷ within net.r most_modules ∷ cycle_within net ∷ [])

-- "Λ is the larger of r and m, as in document 004". "Old files and the bench table take W as the larger of r and m."
unfoldable pub least_cycle : ℕ → ℕ → ℕ
least_cycle m r = max r m

unfoldable pub of_sizes : ℕ → ℕ → ℕ → Network
of_sizes n m r = record { n = n; m = m; r = r; w = least_cycle m r }

unfoldable pub has_least_cycle : Network → Bool
has_least_cycle net = eqb (cycle net) (least_cycle net.m net.r)

-- "wavelengths inside the shelf are numbered 0 to Λ−1"
unfoldable pub own_wavelength : Network → ℕ → Bool
own_wavelength net x = ltb x (cycle net)

unfoldable pub has_central : Network → ℕ → Bool
has_central net γ = ltb γ net.m

unfoldable pub own_central : Network → ℕ → Bool
own_central net γ = has_central net γ

-- The constructors' answer: the network itself, or none, which is 1.
unfoldable pub sized : Network → Option Network
sized net = cond (within_limits net) (Some net) None

-- "An answer is a number, a row". A network that is made is success, 0, and the row is 0, since there is no table; the other case is
-- refusal 1 with row 0, and holds no network.
pub record Constructed : Type 0 where
  pub number : ℕ
  pub row : ℕ
  pub network : Option Network

abbrev pub told_by : Option Network → Constructed
told_by (Some net) = record { number = 0; row = 0; network = Some net }
told_by None = record { number = 1; row = 0; network = None }

pub record Built (net : Network) (answer : Option Network) : Type 0 where
  pub is_sized : answer ≡ sized net
  -- number, row and network, by the case of the answer
  pub tells : told_by answer ≡ cond (within_limits net) (record { number = 0; row = 0; network = Some net }) (record { number = 1; row = 0; network = None })
