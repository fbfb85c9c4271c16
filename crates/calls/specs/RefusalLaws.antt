-- Laws of refusals as checks and entries tell them.
--   refuses         == no refusal has number 0
--   err_stops       == for code that passes a refusal on: it is the answer of the checks in turn, where it is that of the first
--   ok_goes_on      == a check that passes leaves the answer to the rest
--   passed_on       == what a `?` answers that passes a refusal on is that refusal
--   one_refusal     == two refusals that tell the same number and row are the same
--   one_answer, one_value == two answers that tell the same are the same: of an entry that tells K, and of one with another value
--   err_answers, ok_answers == for the entry: a refusal of its checks is its answer, and else success
use Rattle.std.specs.Prelude.{◌≡◌, cond, eqb, List, ◌∷◌, ℕ, Result, Ok, Err, IsErrAnd}
use Rattle.std.proofs.Common.{arith, refl, sym, ap, ◌∙◌}
use Rattle.calls.specs.declared.Verdict.{Verdict}
use Rattle.calls.specs.declared.refusal.Refusal.{Refusal}
use Rattle.calls.specs.declared.refusal.Refusal.TheVariants.{Sizes, Lengths, TooManyCalls, NoRoom, Outside, InletTwice, OutletTwice, Overfull, NotOwned, WrongCentral, WrongOutput, InputPairTwice, OutputPairTwice, NoTrailer, Distances, LongNote, NoSuchRow, UntoldCycle}
use Rattle.calls.specs.Verdict.{success, passed, in_turn, answer}
use Rattle.calls.specs.VerdictLaws.{turn_stops, turn_goes_on, answer_refused, answer_passed}
use Rattle.calls.specs.Refusal.{number_of, refused_by, answered_by, with_verdict}

pub refuses : (e : Refusal) → number_of e ≡ 0 → ⊥
refuses Sizes z = omega (arith, z)
refuses Lengths z = omega (arith, z)
refuses TooManyCalls z = omega (arith, z)
refuses NoRoom z = omega (arith, z)
refuses (Outside row) z = omega (arith, z)
refuses (InletTwice row) z = omega (arith, z)
refuses (OutletTwice row) z = omega (arith, z)
refuses (Overfull row) z = omega (arith, z)
refuses (NotOwned row) z = omega (arith, z)
refuses (WrongCentral row) z = omega (arith, z)
refuses (WrongOutput row) z = omega (arith, z)
refuses (InputPairTwice row) z = omega (arith, z)
refuses (OutputPairTwice row) z = omega (arith, z)
refuses NoTrailer z = omega (arith, z)
refuses Distances z = omega (arith, z)
refuses LongNote z = omega (arith, z)
refuses NoSuchRow z = omega (arith, z)
refuses UntoldCycle z = omega (arith, z)

pub err_stops : {a : Verdict} (e : Refusal) (vs : List Verdict) → refused_by e ≡ a → refused_by e ≡ in_turn (a ∷ vs)
err_stops e vs h = turn_stops vs h (refuses e)

pub err_answers : (e : Refusal) (vs : List Verdict) (k : ℕ) → refused_by e ≡ in_turn vs → refused_by e ≡ answer vs k
err_answers e vs k h = answer_refused vs k h (refuses e)

pub ok_goes_on : {v a : Verdict} (w : Verdict) (vs : List Verdict) → passed ≡ a → v ≡ in_turn (w ∷ vs) → v ≡ in_turn (a ∷ w ∷ vs)
unfolding passed
ok_goes_on w vs h f = turn_goes_on w vs h refl f

pub ok_answers : (vs : List Verdict) (k : ℕ) → passed ≡ in_turn vs → success k ≡ answer vs k
unfolding passed
ok_answers vs k h = answer_passed vs k h refl

-- the promise of a `?`'s exit, as an equation
pub passed_on : {A : Type 0} {e : Refusal} (r : Result A Refusal) → IsErrAnd r (λ (f : Refusal). f ≡ e) → r ≡ Err e
passed_on (Ok x) h = absurd h
passed_on (Err f) h = ap Err h

-- ---- two answers that tell the same are the same

-- the refusal that tells this number and row
refusal_of : Verdict → Refusal
refusal_of v =
    cond (eqb v.number 1) Sizes (cond (eqb v.number 2) Lengths (cond (eqb v.number 3) TooManyCalls (cond (eqb v.number 4) NoRoom (cond (eqb v.number 5) (Outside v.row) (cond (eqb v.number 6) (InletTwice v.row) (cond (eqb v.number 7) (OutletTwice v.row) (cond (eqb v.number 8) (Overfull v.row) (cond (eqb v.number 9) (NotOwned v.row) (cond (eqb v.number 10) (WrongCentral v.row) (cond (eqb v.number 11) (WrongOutput v.row) (cond (eqb v.number 12) (InputPairTwice v.row) (cond (eqb v.number 13) (OutputPairTwice v.row) (cond (eqb v.number 14) NoTrailer (cond (eqb v.number 15) Distances (cond (eqb v.number 16) LongNote (cond (eqb v.number 17) NoSuchRow (UntoldCycle)))))))))))))))))

of_refusal : (e : Refusal) → refusal_of (refused_by e) ≡ e
unfolding refusal_of
of_refusal Sizes = refl
of_refusal Lengths = refl
of_refusal TooManyCalls = refl
of_refusal NoRoom = refl
of_refusal (Outside row) = refl
of_refusal (InletTwice row) = refl
of_refusal (OutletTwice row) = refl
of_refusal (Overfull row) = refl
of_refusal (NotOwned row) = refl
of_refusal (WrongCentral row) = refl
of_refusal (WrongOutput row) = refl
of_refusal (InputPairTwice row) = refl
of_refusal (OutputPairTwice row) = refl
of_refusal NoTrailer = refl
of_refusal Distances = refl
of_refusal LongNote = refl
of_refusal NoSuchRow = refl
of_refusal UntoldCycle = refl

pub one_refusal : (e f : Refusal) → refused_by e ≡ refused_by f → e ≡ f
one_refusal e f h = sym (of_refusal e) ∙ ap refusal_of h ∙ of_refusal f

-- success is no refusal
apart : (k : ℕ) (e : Refusal) → success k ≡ refused_by e → ⊥
unfolding success
apart k e h = refuses e (sym (ap (λ (v : Verdict). v.number) h))

pub one_answer : (a b : Result ℕ Refusal) → answered_by a ≡ answered_by b → a ≡ b
unfolding success
one_answer (Ok k) (Ok l) h = ap Ok (ap (λ (v : Verdict). v.row) h)
one_answer (Ok k) (Err f) h = absurd (apart k f h)
one_answer (Err e) (Ok l) h = absurd (apart l e (sym h))
one_answer (Err e) (Err f) h = ap Err (one_refusal e f h)

-- what an answer holds, or something else where it holds none, and which of its cases it is
module _ {A E : Type 0} where
  value_in : A → Result A E → A
  value_in other (Ok x) = x
  value_in other (Err e) = other

  error_in : E → Result A E → E
  error_in other (Ok x) = other
  error_in other (Err e) = e

  case_of : Result A E → ℕ
  case_of (Ok x) = 0
  case_of (Err e) = 1

pub one_value : {A : Type 0} (a b : Result A Refusal) → with_verdict a ≡ with_verdict b → a ≡ b
unfolding value_in error_in case_of
one_value (Ok x) (Ok y) h = ap Ok (ap (value_in x) h)
one_value (Ok x) (Err f) h = let z : ◌≡◌ {A = ℕ} 0 1 = ap case_of h in absurd (omega (arith, z))
one_value (Err e) (Ok y) h = let z : ◌≡◌ {A = ℕ} 1 0 = ap case_of h in absurd (omega (arith, z))
one_value (Err e) (Err f) h = ap Err (one_refusal e f (ap (error_in (refused_by e)) h))
