-- The rule of a single grating, equations (1) and (2) of document 004.
--   remainder W t          == [t], the remainder of t by the cycle W
--   exit_port W x a         == the port at which wavelength x, entering at port a, leaves
--   wavelength_between W a p == the wavelength that leads from port a to port p
use Rattle.std.specs.Prelude.{ℕ, ◌+◌, ◌-◌, ◌%◌, ℤ, pos, negsuc}
use Rattle.std.proofs.Math.IntN.{sub_ℕ}

-- "[t] is the remainder of t by Λ, between 0 and Λ−1 also where t is negative." `negsuc n` is −(n + 1).
unfoldable pub remainder : ℕ → ℤ → ℕ
remainder W (pos n) = n % W
remainder W (negsuc n) = W - 1 - n % W

-- "wavelength x entering at port α leaves at port p = [x − α]". `sub_ℕ x a` is the integer x − a.
unfoldable pub exit_port : ℕ → ℕ → ℕ → ℕ
exit_port W x a = remainder W (sub_ℕ x a)

-- "a call through γ needs x = [α + γ]"
unfoldable pub wavelength_between : ℕ → ℕ → ℕ → ℕ
wavelength_between W a p = remainder W (pos (a + p))
