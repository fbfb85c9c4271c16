-- `dropping::close_up` meets its contract: what stands before the row is written, and right behind it what stands after the row.
use Rattle.std.proofs.Common.{◌≡◌, List, ℕ, ◌-◌, arith, length, take, drop, length-drop, take_all}
use Rattle.ground.specs.BytesLaws.{adds_both, adds_front, adds_same}
use Rattle.dropping.specs.Dropping.{without_row}
use Rattle.dropping.proofs.close_up.Goals as goal

-- the part from the next row on, as it is written
behind : (n : ℕ) (bytes : List ℕ) → take (length bytes - n) (drop n bytes) ≡ drop n bytes
behind n bytes = take_all (length bytes - n) (drop n bytes) (simp length-drop (omega arith))

pub returns : goal.returns
unfolding without_row
returns g c = adds_front (adds_both c.write_bytes-end.ensures (adds_same c.write_bytes.ensures (behind _ c.args.table.now)))
