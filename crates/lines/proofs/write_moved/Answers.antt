-- `lines::write_moved` meets its contract: any number has at most so many digits, and a dash is one byte.
use Rattle.std.proofs.Common.{◌≤◌, arith, length}
use Rattle.lines.specs.Text.{decimal, dash}
use Rattle.lines.specs.TextLaws.{number_length}
use Rattle.lines.specs.Writing.{number_digits}
use Rattle.lines.proofs.write_moved.Goals as goal
use Rattle.lines.proofs.write_moved.Goals.{In-Some}

digits : (c : In-Some) → length (decimal c.in-Some.count) ≤ number_digits
digits c = number_length _ (omega (arith, rw c.in-Some.is at c.well_formed))

pub number-requires : goal.number-requires
number-requires c = omega (arith, digits (goal.at.number-requires c).In-Some)

pub byte-requires : goal.byte-requires
unfolding number_digits
byte-requires c = omega arith

pub returns-in-Some-clause-short : goal.returns-in-Some-clause-short
returns-in-Some-clause-short c = omega (arith, digits (goal.at.returns-in-Some-clause-short c).In-Some)

pub returns-in-None-clause-written : goal.returns-in-None-clause-written
unfolding dash
returns-in-None-clause-written c = rw c.in-None.is c.byte.ensures

pub returns-in-None-clause-short : goal.returns-in-None-clause-short
unfolding number_digits
returns-in-None-clause-short c = omega arith
