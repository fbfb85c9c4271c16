-- `planner::write_row` meets its contract: two stores, each of the wavelength that the grating rule gives.
use Rattle.std.proofs.Common.{◌≡◌, ℕ, ◌≤◌, ◌<◌, arith}
use Rattle.grating.specs.Grating.{wavelength_between}
use Rattle.grating.proofs.Laws.{between_below}
use Rattle.shelf.specs.Network.{most_wavelengths}
use Rattle.planner.proofs.write_row.Goals as goal

-- a wavelength of the shelf is a byte
byte : (W a b w : ℕ) → W ≤ most_wavelengths → a < W → w ≡ wavelength_between W a b → w < 256
unfolding most_wavelengths
byte W a b w small l e = omega (arith, between_below W (omega arith) a b)

pub overflow_cast-rows : goal.overflow_cast-rows
overflow_cast-rows c =
    let p = c.requires.1 in
    record { fits = byte _ _ _ _ p.small (rw c.byte_at-input.ensures.0 p.input) c.wavelength_between.ensures }

pub overflow_cast-rows-2 : goal.overflow_cast-rows-2
overflow_cast-rows-2 c =
    let p = c.requires.1 in
    record { fits = byte _ _ _ _ p.small (rw c.byte_at-central.ensures.0 p.central) c.wavelength_between-2.ensures }
