-- `acceptance::has_numbers` meets its contract: the tests, one after the other.
use Rattle.std.proofs.Math.Bool.{and-true}
use Rattle.std.proofs.Common.{sym, arith, lt-ltb, le-ltb}
use Rattle.ground.specs.Truth.{all}
use Rattle.shelf.specs.Network.{own_wavelength, has_central}
use Rattle.acceptance.specs.Acceptance.{has_numbers}
use Rattle.acceptance.proofs.has_numbers.Goals as goal
use Rattle.acceptance.proofs.has_numbers.Goals.{then-set-cycle, else-set-cycle}

pub returns-then-set-cycle-2 : goal.returns-then-set-cycle-2
unfolding has_numbers all own_wavelength has_central
returns-then-set-cycle-2 c =
    let t = c.if-set-cycle-2.true in
    rw (← c.cycle-cycle.ensures, lt-ltb _ _ t.0, lt-ltb _ _ t.1) (sym (and-true _))

pub returns-else-set-cycle-2 : goal.returns-else-set-cycle-2
unfolding has_numbers all own_wavelength has_central
returns-else-set-cycle-2 c =
    elim c.if-set-cycle.branch [
      | then-set-cycle w ↦ let t = w.if-set-cycle.true in rw (w.t-5-is, ← c.cycle-cycle.ensures, lt-ltb _ _ t, le-ltb c.args.set.from_central c.cycle-cycle.result (omega (arith, c.if-set-cycle-2.either, t)))
      | else-set-cycle w ↦ rw (w.t-5-is, ← c.cycle-cycle.ensures, le-ltb _ _ w.if-set-cycle.false)
    ]
