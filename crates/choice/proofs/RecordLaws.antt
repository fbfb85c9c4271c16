-- Laws of the record of use: what each change of it does to what it says. Nothing above looks at its words.
--   told_there, told_nothing == what the answer of a search tells
--   free_first            == the lowest bit of a free word
--   use_of used output v c == what the record says of central c at module v of a side
--   same_side s t          == two sides are the same
--   use_taking, use_swapping, taking_size, swapping_size, taken_or == a change of the record
--   nothing_recorded, recorded_next, recorded_same == the record of no calls, of one row more, and of another colouring of the same rows
use Rattle.std.specs.Prelude.{◌≡◌, Bool, not, ◌&&◌, length, get_or}
use Rattle.std.proofs.Math.Path.{refl, ap}
use Rattle.std.proofs.Common.{sym, ◌∙◌, ⊎_elim, arith}
use Rattle.std.proofs.Math.Bool.{true, false, cond}
use mathlib.Core.List.{List}
use Rattle.std.proofs.Math.Option.{none, some}
use Prim.Native.Nat.{ℕ, suc, ◌+◌, ◌≤◌, ◌<◌}
use Rattle.std.proofs.Math.Decide.{ℕ_discrete}
use Rattle.std.proofs.Math.Dec.{eqb}
use Rattle.std.proofs.lemmas.List.{length-replicate, get_or-replicate}
use borrow.Author.Tests.{lt-ltb, le-ltb, eq-eqb, ne_eqb}
use Rattle.ground.specs.TruthLaws.{same_test}
use Rattle.ground.specs.Numbers.{eqb_is}
use Rattle.ground.specs.Words.{word_size, has_bit, Neither, least, First, bit_at, put_at}
use Rattle.ground.specs.WordsLaws.{no_bit, put_at_lem, length_put_at, least_is}
use Rattle.shelf.specs.Network.{most_modules, most_centrals}
use Rattle.shelf.specs.NetworkLaws.{central_bit}
use Rattle.choice.specs.Rule.{first_below, is_none, is_free, exchange}
use Rattle.choice.proofs.Exchange.{exchange_first, exchange_second, exchange_other}
use Rattle.choice.proofs.UseAfter.{use_next, use_same}
use Rattle.choice.specs.Record.{modules_of_both, module_number, record_size, nothing_used, in_use, both_free, taking, swapping, told, Recorded}

-- what an answer of a search tells
pub told_there : (k n : ℕ) → n < k → told k n ≡ some n
unfolding told
told_there k n h = rw (lt-ltb n k h, told)

pub told_nothing : (k n : ℕ) → k ≤ n → told k n ≡ none
unfolding told
told_nothing k n h = rw (le-ltb n k h, told)

module _ (used : List ℕ) (p q d : ℕ) (room : q < length used) (hd : d < most_centrals) where
  in_taking : (c : ℕ) → c < most_centrals → in_use (taking used p c) q d ≡ cond (eqb q p && eqb d c) true (in_use used q d)
  unfolding in_use taking
  in_taking c hc = put_at_lem used p c true q d room (central_bit hc) (central_bit hd)

  in_swapping : (a b : ℕ) → a < most_centrals → b < most_centrals → in_use (swapping used p a b) q d ≡ cond (eqb q p) (in_use used q (exchange a b d)) (in_use used q d)
  unfolding in_use swapping
  in_swapping a b ha hb =
      put_at_lem (put_at used p a (bit_at used p b)) p b (bit_at used p a) q d (rw (length_put_at used p a (bit_at used p b)) room) (central_bit hb) (central_bit hd)
      ∙ rw (put_at_lem used p a (bit_at used p b) q d room (central_bit ha) (central_bit hd)) (go (ℕ_discrete q p) (ℕ_discrete d b) (ℕ_discrete d a))
    where
      go : Dec (q ≡ p) → Dec (d ≡ b) → Dec (d ≡ a)
          → cond (eqb q p && eqb d b) (bit_at used p a) (cond (eqb q p && eqb d a) (bit_at used p b) (bit_at used q d)) ≡ cond (eqb q p) (bit_at used q (exchange a b d)) (bit_at used q d)
      go (no n) f g = rw (ne_eqb q p n)
      go (yes e) (yes f) g = rw (e, eq-eqb p p refl, f, eq-eqb b b refl, exchange_second a b)
      go (yes e) (no n) (yes g) = rw (eq-eqb q p e, ne_eqb d b n, e, g, eq-eqb a a refl, exchange_first a b)
      go (yes e) (no n) (no m) = rw (eq-eqb q p e, ne_eqb d b n, ne_eqb d a m, exchange_other a b d (⊎_elim m n))

-- The lowest bit of the free word is the least central that is free at both modules.
pub free_first : (used : List ℕ) (p q free : ℕ) {c : ℕ} → Neither (get_or used p 0) (get_or used q 0) free → c ≡ least word_size (has_bit free) → First most_centrals (both_free used p q) c
unfolding both_free in_use bit_at most_centrals word_size
free_first used p q free {c} n e =
    let f : First 32 (has_bit free) c = rw e (least_is 32 (has_bit free)) in
    (f.0, (λ j l. sym (n j (omega (arith, f.0))) ∙ f.1 j l), (λ l. sym (n c l) ∙ f.2 l))

-- ---- by sides and modules

abbrev pub same_side : Bool → Bool → Bool
same_side true true = true
same_side true false = false
same_side false true = false
same_side false false = true

unfoldable pub use_of : List ℕ → Bool → ℕ → ℕ → Bool
use_of used output v c = in_use used (module_number output v) c

-- the modules of both sides have different numbers
number_same : (s t : Bool) (v w : ℕ) → v < most_modules → w < most_modules → eqb (module_number s v) (module_number t w) ≡ (same_side s t && eqb v w)
unfolding module_number
number_same true true v w hv hw = same_test (eqb (most_modules + v) (most_modules + w)) (eqb v w) (λ h. (eqb_is v w).1 (omega (arith, (eqb_is (most_modules + v) (most_modules + w)).0 h)), λ h. (eqb_is (most_modules + v) (most_modules + w)).1 (omega (arith, (eqb_is v w).0 h)))
number_same true false v w hv hw = ne_eqb (most_modules + v) w (λ e. omega arith)
number_same false true v w hv hw = ne_eqb v (most_modules + w) (λ e. omega arith)
number_same false false v w hv hw = refl

number_below : (output : Bool) (v : ℕ) → v < most_modules → module_number output v < record_size
unfolding module_number record_size modules_of_both most_modules
number_below true v l = omega arith
number_below false v l = omega arith

module _ (used : List ℕ) (size : length used ≡ record_size) (s t : Bool) (v w x : ℕ) (hv : v < most_modules) (hw : w < most_modules) (hx : x < most_centrals) where
  pub use_taking : (c : ℕ) → c < most_centrals → use_of (taking used (module_number t w) c) s v x ≡ cond (same_side s t && eqb v w && eqb x c) true (use_of used s v x)
  unfolding use_of
  use_taking c hc =
      in_taking used (module_number t w) (module_number s v) x (rw size (number_below s v hv)) hx c hc
      ∙ ap (λ (b : Bool). cond (b && eqb x c) true (in_use used (module_number s v) x)) (number_same s t v w hv hw)

  pub use_swapping : (a b : ℕ) → a < most_centrals → b < most_centrals
      → use_of (swapping used (module_number t w) a b) s v x ≡ cond (same_side s t && eqb v w) (use_of used s v (exchange a b x)) (use_of used s v x)
  unfolding use_of
  use_swapping a b ha hb =
      in_swapping used (module_number t w) (module_number s v) x (rw size (number_below s v hv)) hx a b ha hb
      ∙ ap (λ (e : Bool). cond e (in_use used (module_number s v) (exchange a b x)) (in_use used (module_number s v) x)) (number_same s t v w hv hw)

pub taking_size : (used : List ℕ) (p c : ℕ) → length used ≡ record_size → length (taking used p c) ≡ record_size
unfolding taking
taking_size used p c e = length_put_at used p c true ∙ e

pub swapping_size : (used : List ℕ) (p a b : ℕ) → length used ≡ record_size → length (swapping used p a b) ≡ record_size
unfolding swapping
swapping_size used p a b e =
    length_put_at (put_at used p a (bit_at used p b)) p b (bit_at used p a)
    ∙ length_put_at used p a (bit_at used p b)
    ∙ e

-- ---- the record of no calls, of one row more, and of another colouring of the same rows

pub nothing_recorded : (side : Bool → ℕ → ℕ) (γ : ℕ → ℕ) → Recorded side γ 0 nothing_used
unfolding nothing_used in_use bit_at is_none first_below
nothing_recorded side γ = record {
  size = length-replicate record_size 0;
  says = λ output v c hv hc. rw (get_or-replicate {A = ℕ} record_size (module_number output v) 0 0 (number_below output v hv)) (no_bit c);
}

pub taken_or : (t b : Bool) → cond t true (not b) ≡ not (cond t false b)
taken_or true b = refl
taken_or false b = refl

module _ (side : Bool → ℕ → ℕ) (γ : ℕ → ℕ) (k : ℕ) (used : List ℕ) (h : Recorded side γ k used) where
  says : (output : Bool) (v c : ℕ) → v < most_modules → c < most_centrals → use_of used output v c ≡ not (is_free (side output) γ k v c)
  unfolding use_of
  says = h.says

  pub recorded_next : ((output : Bool) → side output k < most_modules) → γ k < most_centrals
      → Recorded side γ (suc k) (taking (taking used (module_number false (side false k)) (γ k)) (module_number true (side true k)) (γ k))
  unfolding use_of
  recorded_next small own = record { size = taking_size _ _ (γ k) (taking_size used _ (γ k) h.size); says = both }
    where
      first : List ℕ
      first = taking used (module_number false (side false k)) (γ k)

      both : (output : Bool) (v x : ℕ) → v < most_modules → x < most_centrals → in_use (taking first (module_number true (side true k)) (γ k)) (module_number output v) x ≡ not (is_free (side output) γ (suc k) v x)
      both true v x hv hx =
          use_taking first (taking_size used _ (γ k) h.size) true true v (side true k) x hv (small true) hx (γ k) own
          ∙ ap (cond (eqb v (side true k) && eqb x (γ k)) true) (use_taking used h.size true false v (side false k) x hv (small false) hx (γ k) own ∙ says true v x hv hx)
          ∙ taken_or (eqb v (side true k) && eqb x (γ k)) (is_free (side true) γ k v x)
          ∙ ap not (sym (use_next (side true) γ k v x))
      both false v x hv hx =
          use_taking first (taking_size used _ (γ k) h.size) false true v (side true k) x hv (small true) hx (γ k) own
          ∙ use_taking used h.size false false v (side false k) x hv (small false) hx (γ k) own
          ∙ ap (cond (eqb v (side false k) && eqb x (γ k)) true) (says false v x hv hx)
          ∙ taken_or (eqb v (side false k) && eqb x (γ k)) (is_free (side false) γ k v x)
          ∙ ap not (sym (use_next (side false) γ k v x))

  pub recorded_same : (δ : ℕ → ℕ) → ((i : ℕ) → i < k → γ i ≡ δ i) → Recorded side δ k used
  recorded_same δ same = record { size = h.size; says = λ output v c hv hc. h.says output v c hv hc ∙ ap not (use_same (side output) γ δ k v c same) }
