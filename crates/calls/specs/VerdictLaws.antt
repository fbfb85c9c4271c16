-- Laws of answers in order.
--   turn_passes, answer_passes == verdicts in turn pass exactly where each does
--   turn_stops, turn_goes_on, turn_last == for code that tries one after the other: the first that refuses is the answer, one that
--                           passes leaves it to the rest, and the last tells it
--   test_stops, test_goes_on, test_passes == the same where the check goes by one test
--   answer_refused, answer_passed == for the entry: a refusal of its checks is the answer, and else success
--   answer_success       == an answer that passes is success with k
--   turn_number, answer_number, test_number, seek_number == what holds of 0 and of the number of each holds of the number that is told
--   pass_last            == all pass where all before the last do, and the last
--   answer_tells_last, answer_is_last == a number that only the last of the checks can tell; the last tells it where all before it pass
--   refused, not_refused, passed_zero, refused_zero == a check by one test
--   seek_next, seek_here, seek_passes == a search row by row: the first refused row is what is told
--   seek_bad, seek_good, seek_end == the same where each row is judged by one test
use Rattle.std.specs.Prelude.{◌≡◌, ◌↔◌, Bool, not, T}
use Rattle.std.proofs.Math.Path.{refl}
use Rattle.std.proofs.Common.{sym, ap, ◌∙◌, add-one, arith, eq-eqb, ne_eqb}
use Rattle.std.proofs.Math.Logic.Iff
use Rattle.std.proofs.Math.Bool.{true, false}
use mathlib.Core.List.{List, [], ◌∷◌, ◌++◌}
use Prim.Native.Nat.{ℕ, zero, suc, ◌+◌, ◌≤◌, ◌<◌}
use Rattle.std.proofs.Math.Decide.{ℕ_discrete, le_ind}
use Rattle.ground.specs.Numbers.{up_to}
use Rattle.calls.specs.declared.Verdict.{Verdict}
use Rattle.calls.specs.Verdict.{success, passed, refused_if, ◌⨾◌, in_turn, answer, Each, AllPass, seek_rows}

stops : (v w : Verdict) → (v.number ≡ 0 → ⊥) → v ⨾ w ≡ v
unfolding ◌⨾◌
stops v w h = rw (ne_eqb v.number 0 h)

goes_on : (v w : Verdict) → v.number ≡ 0 → v ⨾ w ≡ w
unfolding ◌⨾◌
goes_on v w h = rw (eq-eqb v.number 0 h)

-- where v passes, and where it refuses
then_cases : (P : Verdict → Type 0) (v w : Verdict) → (v.number ≡ 0 → P w) → ((v.number ≡ 0 → ⊥) → P v) → P (v ⨾ w)
then_cases P v w p q = elim (ℕ_discrete v.number 0) [ yes e ↦ rw (goes_on v w e) (p e) | no n ↦ rw (stops v w n) (q n) ]

then_passes : (v w : Verdict) → ((v ⨾ w).number ≡ 0) ↔ ((v.number ≡ 0) × (w.number ≡ 0))
then_passes v w = (
  then_cases (λ u. u.number ≡ 0 → (v.number ≡ 0) × (w.number ≡ 0)) v w (λ e h. (e, h)) (λ n h. absurd (n h)),
  λ h. ap (λ (u : Verdict). u.number) (goes_on v w h.0) ∙ h.1,
)

-- ---- verdicts in turn

pub turn_passes : (vs : List Verdict) → ((in_turn vs).number ≡ 0) ↔ AllPass vs
unfolding in_turn passed
turn_passes [] = (λ h. tt, λ h. refl)
turn_passes (v ∷ []) = (λ h. (h, tt), λ h. h.0)
turn_passes (v ∷ w ∷ vs) = Iff.trans (then_passes v (in_turn (w ∷ vs))) (Iff.and Iff.rfl (turn_passes (w ∷ vs)))

pub answer_passes : (vs : List Verdict) (k : ℕ) → ((answer vs k).number ≡ 0) ↔ AllPass vs
unfolding answer success
answer_passes vs k = Iff.trans (then_passes (in_turn vs) (success k)) (λ h. (turn_passes vs).0 h.0, λ h. ((turn_passes vs).1 h, refl))

-- v is what the first of the verdicts was found to be, where it refuses
pub turn_stops : {v a : Verdict} (vs : List Verdict) → v ≡ a → (v.number ≡ 0 → ⊥) → v ≡ in_turn (a ∷ vs)
unfolding in_turn
turn_stops [] e n = e
turn_stops {v} {a} (w ∷ vs) e n = e ∙ sym (stops a (in_turn (w ∷ vs)) (λ z. n (rw (← e) at z)))

-- u is what the first was found to be, where it passes, and v what the rest tell
pub turn_goes_on : {u v a : Verdict} (w : Verdict) (vs : List Verdict) → u ≡ a → u.number ≡ 0 → v ≡ in_turn (w ∷ vs) → v ≡ in_turn (a ∷ w ∷ vs)
unfolding in_turn
turn_goes_on {a = a} w vs e z f = f ∙ sym (goes_on a (in_turn (w ∷ vs)) (rw e at z))

pub turn_last : {v a : Verdict} → v ≡ a → v ≡ in_turn (a ∷ [])
unfolding in_turn
turn_last e = e

-- a check by one test, which holds, and which fails
pub test_stops : (number row : ℕ) {bad : Bool} (vs : List Verdict) → bad ≡ true → record { number = suc number; row = row } ≡ in_turn (refused_if (suc number) row bad ∷ vs)
unfolding refused_if
test_stops number row vs e = turn_stops vs (rw e) (λ z. omega arith)

pub test_goes_on : (number row : ℕ) {bad : Bool} {v : Verdict} (w : Verdict) (vs : List Verdict) → bad ≡ false → v ≡ in_turn (w ∷ vs) → v ≡ in_turn (refused_if number row bad ∷ w ∷ vs)
unfolding refused_if passed
test_goes_on number row w vs e f = turn_goes_on {u = passed} w vs (rw e) refl f

pub test_passes : (number row : ℕ) {bad : Bool} → bad ≡ false → passed ≡ in_turn (refused_if number row bad ∷ [])
unfolding refused_if
test_passes number row e = turn_last (rw e)

pub answer_refused : {v : Verdict} (vs : List Verdict) (k : ℕ) → v ≡ in_turn vs → (v.number ≡ 0 → ⊥) → v ≡ answer vs k
unfolding answer
answer_refused vs k e n = e ∙ sym (stops (in_turn vs) (success k) (rw e at n))

pub answer_passed : {u : Verdict} (vs : List Verdict) (k : ℕ) → u ≡ in_turn vs → u.number ≡ 0 → success k ≡ answer vs k
unfolding answer
answer_passed vs k e z = sym (goes_on (in_turn vs) (success k) (rw e at z))

pub answer_success : (vs : List Verdict) (k : ℕ) → (answer vs k).number ≡ 0 → answer vs k ≡ success k
answer_success vs k h = sym (answer_passed vs k refl ((turn_passes vs).1 ((answer_passes vs k).0 h)))

-- ---- the numbers that are told

module _ (P : ℕ → Type 0) where
  then_number : (v w : Verdict) → P v.number → P w.number → P (v ⨾ w).number
  then_number v w p q = then_cases (λ u. P u.number) v w (λ e. q) (λ n. p)

  pub test_number : (number row : ℕ) (bad : Bool) → P number → P 0 → P (refused_if number row bad).number
  unfolding refused_if passed
  test_number number row true p z = p
  test_number number row false p z = z

  pub seek_number : (k : ℕ) (judge : ℕ → Verdict) → ((i : ℕ) → P (judge i).number) → P 0 → P (seek_rows k judge).number
  unfolding seek_rows passed
  seek_number zero judge p z = z
  seek_number (suc k) judge p z = then_number (seek_rows k judge) (judge k) (seek_number k judge p z) (p k)

  pub turn_number : (vs : List Verdict) → P 0 → Each P vs → P (in_turn vs).number
  unfolding in_turn passed
  turn_number [] z h = z
  turn_number (v ∷ []) z h = h.0
  turn_number (v ∷ w ∷ vs) z h = then_number v (in_turn (w ∷ vs)) h.0 (turn_number (w ∷ vs) z h.1)

  pub answer_number : (vs : List Verdict) (k : ℕ) → P 0 → Each P vs → P (answer vs k).number
  unfolding answer success
  answer_number vs k z h = then_number (in_turn vs) (success k) (turn_number vs z h) z

pub pass_last : (vs : List Verdict) (last : Verdict) → AllPass (vs ++ last ∷ []) ↔ (AllPass vs × (last.number ≡ 0))
pass_last [] last = (λ h. (tt, h.0), λ h. (h.1, tt))
pass_last (v ∷ vs) last = (
  λ h. let rest = (pass_last vs last).0 h.1 in ((h.0, rest.0), rest.1),
  λ h. (h.0.0, (pass_last vs last).1 (h.0.1, h.1)),
)

-- a number that no check but the last tells: all before it passed
module _ (number k : ℕ) (last : Verdict) where
  more : (v : Verdict) (vs : List Verdict) → in_turn (v ∷ vs ++ last ∷ []) ≡ v ⨾ in_turn (vs ++ last ∷ [])
  unfolding in_turn
  more v [] = refl
  more v (w ∷ vs) = refl

  turn_tells_last : (vs : List Verdict) → Each (λ n. n ≡ number → ⊥) vs → (in_turn (vs ++ last ∷ [])).number ≡ number → AllPass vs × (last.number ≡ number)
  unfolding in_turn
  turn_tells_last [] others h = (tt, h)
  turn_tells_last (v ∷ vs) others h =
      then_cases (λ u. u.number ≡ number → AllPass (v ∷ vs) × (last.number ≡ number)) v (in_turn (vs ++ last ∷ []))
      (λ z e. let r = turn_tells_last vs others.1 e in ((z, r.0), r.1)) (λ n e. absurd (others.0 e)) (rw (more v vs) at h)

  pub answer_tells_last : (vs : List Verdict) → (number ≡ 0 → ⊥) → Each (λ n. n ≡ number → ⊥) vs
      → (answer (vs ++ last ∷ []) k).number ≡ number → AllPass vs × (last.number ≡ number)
  unfolding answer success
  answer_tells_last vs refuses others =
      then_cases (λ u. u.number ≡ number → AllPass vs × (last.number ≡ number)) (in_turn (vs ++ last ∷ [])) (success k)
      (λ z e. absurd (refuses (sym e))) (λ n. turn_tells_last vs others)

  turn_is_last : (vs : List Verdict) → AllPass vs → in_turn (vs ++ last ∷ []) ≡ last
  unfolding in_turn
  turn_is_last [] h = refl
  turn_is_last (v ∷ vs) h = more v vs ∙ goes_on v (in_turn (vs ++ last ∷ [])) h.0 ∙ turn_is_last vs h.1

  pub answer_is_last : (vs : List Verdict) → AllPass vs → (last.number ≡ 0 → ⊥) → answer (vs ++ last ∷ []) k ≡ last
  answer_is_last vs h n = sym (answer_refused (vs ++ last ∷ []) k (sym (turn_is_last vs h)) n)

-- ---- a check by one test, and a search row by row

pub refused : (number row : ℕ) (bad : Bool) → bad ≡ true → refused_if number row bad ≡ record { number = number; row = row }
unfolding refused_if
refused number row bad e = rw e

pub not_refused : (number row : ℕ) (bad : Bool) → bad ≡ false → refused_if number row bad ≡ passed
unfolding refused_if
not_refused number row bad e = rw e

pub passed_zero : passed.number ≡ 0
unfolding passed
passed_zero = refl

pub refused_zero : (number row : ℕ) (bad : Bool) → ((refused_if (suc number) row bad).number ≡ 0) ↔ T (not bad)
unfolding refused_if passed
refused_zero number row true = (λ h. absurd (omega arith), λ h. absurd h)
refused_zero number row false = (λ h. tt, λ h. refl)

module _ (judge : ℕ → Verdict) where
  -- no row is refused so far, and the next is not either
  pub seek_next : (i : ℕ) → seek_rows i judge ≡ passed → judge i ≡ passed → seek_rows (i + 1) judge ≡ passed
  unfolding seek_rows passed
  seek_next i e f = rw (add-one i, e, f) (goes_on passed passed refl)

  -- no row is refused so far, and the next is: that is what the search over all k rows tells
  pub seek_here : (i k : ℕ) (v : Verdict) → seek_rows i judge ≡ passed → judge i ≡ v → (v.number ≡ 0 → ⊥) → i < k → seek_rows k judge ≡ v
  unfolding seek_rows passed
  seek_here i k v e f n l = le_ind (λ j. seek_rows j judge ≡ v) here (λ j h q. rw q (stops v (judge j) n)) k l
    where
      here : seek_rows (suc i) judge ≡ v
      here = rw (e, f) (goes_on passed v refl)

  pub seek_passes : (k : ℕ) → ((seek_rows k judge).number ≡ 0) ↔ ((i : ℕ) → i < k → (judge i).number ≡ 0)
  unfolding seek_rows passed
  seek_passes zero = (λ h i l. absurd (omega arith), λ h. refl)
  seek_passes (suc k) = Iff.trans (then_passes (seek_rows k judge) (judge k)) (
    λ h. up_to (λ i. (judge i).number ≡ 0) ((seek_passes k).0 h.0) h.1,
    λ h. ((seek_passes k).1 (λ i l. h i (omega arith)), h k (omega arith)),
  )

-- the same where each row is judged by one test
module _ (number : ℕ) (bad : ℕ → Bool) where
  pub seek_bad : (i k : ℕ) → (number ≡ 0 → ⊥) → seek_rows i (λ j. refused_if number j (bad j)) ≡ passed → bad i ≡ true → i < k
      → record { number = number; row = i } ≡ seek_rows k (λ j. refused_if number j (bad j))
  seek_bad i k n e b l = sym (seek_here (λ j. refused_if number j (bad j)) i k (record { number = number; row = i }) e (refused number i (bad i) b) n l)

  pub seek_good : (i : ℕ) → seek_rows i (λ j. refused_if number j (bad j)) ≡ passed → bad i ≡ false → seek_rows (i + 1) (λ j. refused_if number j (bad j)) ≡ passed
  seek_good i e b = seek_next (λ j. refused_if number j (bad j)) i e (not_refused number i (bad i) b)

  pub seek_end : (i k : ℕ) → i ≤ k → k ≤ i → seek_rows i (λ j. refused_if number j (bad j)) ≡ passed → passed ≡ seek_rows k (λ j. refused_if number j (bad j))
  seek_end i k l g e = let q : i ≡ k = omega arith in rw (← q) (sym e)
