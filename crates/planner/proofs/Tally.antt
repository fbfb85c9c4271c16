-- Counting the calls of each module as rows pass.
--   Tally calls t k             == t holds, for each module of each side, its calls among the rows below k
--   number_below, no_calls, outputs_kept, inputs_now, outputs_now, tally_next == a module has a count, none is counted at first, and a row is counted at both its modules
--   counts_small, overfull_input, overfull_output, overfull_larger, not_overfull == counts are small, and what two counts of a row tell, and
--                                  the larger of them
use Rattle.std.specs.Prelude.{◌≡◌, Bool, true, false, not, List, ℕ, suc, ◌+◌, ◌≤◌, ◌<◌, T, length, get_or, replicate, max}
use Rattle.std.proofs.Common.{sym, ap, ◌∙◌, ⊎_elim, add-one, arith, length-set, get_or-set_same, get_or-set_other}
use Rattle.std.proofs.Math.Decide.{ℕ_discrete}
use Rattle.std.proofs.lemmas.Bool.{cases_lt}
use Rattle.std.proofs.lemmas.List.{length-replicate, get_or-replicate}
use borrow.Author.Tests.{ne_eqb, lt-ltb, le-ltb}
use Rattle.ground.specs.Truth.{any}
use Rattle.shelf.specs.declared.Network.{Network}
use Rattle.shelf.specs.Network.{within_limits, most_modules, most_centrals}
use Rattle.shelf.specs.NetworkLaws.{limits_are}
use Rattle.shelf.specs.Rows.{α, β, module_of}
use Rattle.shelf.specs.Order.{order}
use Rattle.shelf.specs.OrderLaws.{order_length}
use Rattle.calls.specs.declared.Verdict.{Verdict}
use Rattle.calls.specs.Verdict.{passed, refused_if, seek_rows}
use Rattle.calls.specs.TableLaws.{every_row}
use Rattle.choice.specs.Colouring.{rows_below}
use Rattle.choice.proofs.Count.{count_next, count_here}
use Rattle.choice.specs.Record.{modules_of_both, module_number}
use Rattle.choice.specs.Colouring.{at_module, Fits}
use Rattle.planner.specs.Planner.{overfull}
use Rattle.planner.proofs.Overfull.{fits_is, rows_modules}
use Rattle.planner.specs.Steps.{Counted}

pub record Tally (calls tally : List ℕ) (k : ℕ) : Type 0 where
  pub size : length tally ≡ modules_of_both
  pub counts : (output : Bool) (v : ℕ) → v < most_modules → get_or tally (module_number output v) 0 ≡ length (at_module (module_of calls output) k v)

pub number_below : (output : Bool) (v : ℕ) → v < most_modules → module_number output v < modules_of_both
unfolding module_number modules_of_both
number_below true v l = omega arith
number_below false v l = omega arith

number_apart : (v w : ℕ) → v < most_modules → module_number false v ≡ module_number true w → ⊥
unfolding module_number
number_apart v w l e = omega arith

number_one : (output : Bool) (v w : ℕ) → module_number output v ≡ module_number output w → v ≡ w
unfolding module_number
number_one true v w e = omega arith
number_one false v w e = e

pub no_calls : (calls : List ℕ) → Tally calls (replicate modules_of_both 0) 0
unfolding rows_below
no_calls calls = record {
  size = length-replicate modules_of_both 0;
  counts = λ output v l. get_or-replicate modules_of_both (module_number output v) 0 0 (number_below output v l);
}

-- one call more at module w of one side
module _ (f : ℕ → ℕ) (output : Bool) (tally tally' : List ℕ) (k c : ℕ) (m : Counted tally tally' (module_number output (f k)) c)
    (size : length tally ≡ modules_of_both) (small : f k < most_modules) (counts : (v : ℕ) → v < most_modules → get_or tally (module_number output v) 0 ≡ length (at_module f k v)) where
  counted_size : length tally' ≡ modules_of_both
  counted_size = ap length m.stored ∙ length-set tally (module_number output (f k)) (get_or tally (module_number output (f k)) 0 + 1) ∙ size

  counted_here : c ≡ length (at_module f (suc k) (f k))
  counted_here = m.count ∙ rw (counts (f k) small, count_here f k, add-one)

  counted_next : (v : ℕ) → v < most_modules → get_or tally' (module_number output v) 0 ≡ length (at_module f (suc k) v)
  counted_next v l = go (ℕ_discrete (f k) v)
    where
      go : Dec (f k ≡ v) → get_or tally' (module_number output v) 0 ≡ length (at_module f (suc k) v)
      go (yes e) = rw (m.stored, ← e) (get_or-set_same tally (module_number output (f k)) _ 0 (rw size (number_below output (f k) small)) ∙ sym m.count ∙ counted_here)
      go (no n) =
          rw m.stored (get_or-set_other tally (module_number output (f k)) (module_number output v) _ 0 (λ e. n (sym (number_one output v (f k) e))))
          ∙ counts v l
          ∙ rw (count_next f k v, ne_eqb (f k) v n)

  -- the other side keeps its counts
  counted_other : (v : ℕ) → v < most_modules → get_or tally' (module_number (not output) v) 0 ≡ get_or tally (module_number (not output) v) 0
  counted_other v l = rw m.stored (get_or-set_other tally (module_number output (f k)) (module_number (not output) v) _ 0 (apart output))
    where
      apart : (o : Bool) → module_number (not o) v ≡ module_number o (f k) → ⊥
      apart true e = number_apart v (f k) l e
      apart false e = number_apart (f k) v small (sym e)

-- the output modules' counts, when the row is counted at its input module
pub outputs_kept : (calls tally tally₁ : List ℕ) (k c : ℕ) → Tally calls tally k → α calls k < most_modules → Counted tally tally₁ (module_number false (α calls k)) c
    → (v : ℕ) → v < most_modules → get_or tally₁ (module_number true v) 0 ≡ length (at_module (β calls) k v)
outputs_kept calls tally tally₁ k c t sα m v l = counted_other (α calls) false tally tally₁ k c m t.size sα (t.counts false) v l ∙ t.counts true v l

-- a row counted at both its modules
module _ (calls tally tally₁ tally₂ : List ℕ) (k c d : ℕ) (t : Tally calls tally k) (sα : α calls k < most_modules) (sβ : β calls k < most_modules)
    (m : Counted tally tally₁ (module_number false (α calls k)) c) (n : Counted tally₁ tally₂ (module_number true (β calls k)) d) where
  size₁ : length tally₁ ≡ modules_of_both
  size₁ = counted_size (α calls) false tally tally₁ k c m t.size sα (t.counts false)

  outputs₁ : (v : ℕ) → v < most_modules → get_or tally₁ (module_number true v) 0 ≡ length (at_module (β calls) k v)
  outputs₁ = outputs_kept calls tally tally₁ k c t sα m

  pub inputs_now : c ≡ length (at_module (α calls) (suc k) (α calls k))
  inputs_now = counted_here (α calls) false tally tally₁ k c m t.size sα (t.counts false)

  pub outputs_now : d ≡ length (at_module (β calls) (suc k) (β calls k))
  outputs_now = counted_here (β calls) true tally₁ tally₂ k d n size₁ sβ outputs₁

  pub tally_next : Tally calls tally₂ (k + 1)
  tally_next = rw (add-one k) (record { size = counted_size (β calls) true tally₁ tally₂ k d n size₁ sβ outputs₁; counts = both })
    where
      both : (output : Bool) (v : ℕ) → v < most_modules → get_or tally₂ (module_number output v) 0 ≡ length (at_module (module_of calls output) (suc k) v)
      both true v l = counted_next (β calls) true tally₁ tally₂ k d n size₁ sβ outputs₁ v l
      both false v l = counted_other (β calls) true tally₁ tally₂ k d n size₁ sβ outputs₁ v l ∙ counted_next (α calls) false tally tally₁ k c m t.size sα (t.counts false) v l

-- no row so far overfills a module, so each has at most as many calls as there are centrals
pub counts_small : (net : Network) (calls : List ℕ) (k : ℕ) → T (within_limits net) → seek_rows k (λ i. refused_if 8 i (overfull net calls i)) ≡ passed
    → (output : Bool) (v : ℕ) → length (at_module (module_of calls output) k v) ≤ most_centrals
unfolding passed
counts_small net calls k limits e output v =
    let l = (limits_are net).0 limits in
    let few : (i : ℕ) → i < k → Fits (α calls) (order net) i × Fits (β calls) (order net) i = λ i q. (fits_is net calls i).0 ((every_row 7 k (overfull net calls)).0 (ap (λ (u : Verdict). u.number) e) i q) in
    omega (arith, order_length net, side few output)
  where
    side : ((i : ℕ) → i < k → Fits (α calls) (order net) i × Fits (β calls) (order net) i) → (o : Bool) → length (at_module (module_of calls o) k v) ≤ length (order net)
    side few true = rows_modules (β calls) (order net) k (λ i q. (few i q).1) v
    side few false = rows_modules (α calls) (order net) k (λ i q. (few i q).0) v

-- what the two counts of a row tell, where n is the number of centrals
module _ (net : Network) (calls : List ℕ) (k n c d : ℕ) (e : n ≡ length (order net)) (a : c ≡ length (at_module (α calls) (suc k) (α calls k))) (b : d ≡ length (at_module (β calls) (suc k) (β calls k))) where
  pub overfull_input : n < c → overfull net calls k ≡ true
  unfolding overfull any
  overfull_input l = rw (← e, ← a, lt-ltb _ _ l)

  pub overfull_output : c ≤ n → n < d → overfull net calls k ≡ true
  unfolding overfull any
  overfull_output m l = rw (← e, ← a, ← b, le-ltb _ _ m, lt-ltb _ _ l)

  pub overfull_larger : n < max c d → overfull net calls k ≡ true
  overfull_larger l = ⊎_elim overfull_input (λ m. overfull_output m (omega (arith, l, m))) (cases_lt n c)

  pub not_overfull : c ≤ n → d ≤ n → overfull net calls k ≡ false
  unfolding overfull any
  not_overfull m l = rw (← e, ← a, ← b, le-ltb _ _ m, le-ltb _ _ l)
