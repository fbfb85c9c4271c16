-- `listing::fill` meets its contract. The loop's invariant: what was read so far fits the buffer. Each turn that goes on has read more.
use Rattle.std.proofs.Common.{◌-◌, ◌≤◌, length}
use Rattle.listing.proofs.fill.Given as goal

abbrev pub invariant-loop-size : goal.invariant-loop-size
invariant-loop-size g l = l.size ≤ length l.buffer

abbrev pub decreases-loop-size : goal.decreases-loop-size
decreases-loop-size g l = length l.initial.buffer - l.size
