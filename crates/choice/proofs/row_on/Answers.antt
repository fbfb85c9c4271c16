-- `choice::row_on` meets its contract: the first row that the search finds is the rule's.
use Rattle.std.proofs.Common.{◌≡◌, ℕ, arith, rules, tests}
use Rattle.std.proofs.lemmas.Iterator.{first_from_Range}
use Rattle.choice.specs.Rule.{at}
use Rattle.choice.specs.Rows.{module_in, centrals_of}
use Rattle.shelf.specs.Rows.{is_output}
use Rattle.choice.proofs.Mending.{search_answer}
use Rattle.choice.proofs.row_on.Goals as goal

pub returns : goal.returns
returns c =
    let s = c.args in
    let module_of : ℕ → ℕ = module_in s.rows.now (is_output s.side) in
    let central_of : ℕ → ℕ = at (centrals_of s.rows.now) in
    search_answer module_of central_of _ _ _ _ (first_from_Range _ _ _ _ (λ i. (module_of i ≡ module_of s.from) × (central_of i ≡ s.central)) (λ i. (module_of i ≡ module_of s.from) × (central_of i ≡ s.central) → ⊥) c.find.ensures.ran
    (λ x q k. grind (arith, tests))
    (λ x q k. (search rules, grind (arith, tests))))
