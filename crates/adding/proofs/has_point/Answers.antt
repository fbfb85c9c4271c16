-- `adding::has_point` meets its contract: the search of the rows for the point.
use Rattle.std.proofs.Common.{◌≡◌, refl, rules, arith, true, false, ◌&&◌, ℕ, Bool, eqb}
use borrow.Author.Tests.{tests}
use Rattle.std.proofs.lemmas.Iterator.{cases_from_any, YieldsList-from_range}
use Rattle.ground.specs.Numbers.{pair_same}
use Rattle.shelf.specs.Rows.{row_count, module_of, channel_of, is_output}
use Rattle.adding.proofs.Searching.{any_rows}
use Rattle.adding.proofs.has_point.Goals as goal

pub returns : goal.returns
unfolding row_count
returns c =
    let test : ℕ → Bool = λ j. eqb (module_of c.args.calls.now (is_output c.args.side) j) c.args.point.«module» && eqb (channel_of c.args.calls.now (is_output c.args.side) j) c.args.point.channel in
    any_rows test (row_count c.args.calls.now) _ (cases_from_any _ _ _ (λ j. test j ≡ true) (λ j. test j ≡ false) c.any.ensures.ran (YieldsList-from_range 0 (row_count c.args.calls.now) (row_count c.args.calls.now) refl (omega arith))
    (λ x q k. search (rules, tests, pair_same)) (λ x q k. (search rules, grind (arith, tests))))
