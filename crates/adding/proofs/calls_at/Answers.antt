-- `adding::calls_at` meets its contract: the calls that the filter leaves are those that stand at the module.
use Rattle.std.proofs.Common.{rules, arith, ◌∙◌, ℕ, Bool, eqb}
use borrow.Author.Tests.{tests}
use Rattle.std.proofs.lemmas.Iterator.{YieldsList-from_range}
use Rattle.std.proofs.lemmas.Iterator.Consumers.{YieldsList-from_filter, count_from_yields_List}
use Rattle.shelf.specs.Rows.{row_count, module_of, is_output}
use Rattle.adding.proofs.Searching.{count_rows, count_few}
use Rattle.adding.proofs.calls_at.Goals as goal

pub returns : goal.returns
unfolding row_count
returns c =
    let side = module_of c.args.calls.now (is_output c.args.side) in
    let K = row_count c.args.calls.now in
    let test : ℕ → Bool = λ i. eqb (side i) c.args.«module» in
    let count = count_from_yields_List _ _ c.count.ensures.ran
    (YieldsList-from_filter _ test (YieldsList-from_range 0 K K c.filter.ensures.source (omega arith)) c.filter.ensures.closure (λ x b q k. search (rules, tests)))
    ∙ count_rows side c.args.«module» K in
    (count, omega (arith, count, count_few side c.args.«module» K))
