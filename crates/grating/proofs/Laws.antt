-- The laws of the grating rule, for any cycle W. Crates above cite these, and never the definitions' text.
--   remainder_is        [t] is below W, and t is a multiple of W plus [t]
--   exit_below, between_below     both rules give numbers below W
--   exit_unique         [x − a] is the only number p below W such that a + p and x leave the same remainder
--   between_exit, exit_between, exit_iff_between    the two rules are inverse: equation (1) holds where equation (2) does
--   exit_by_wavelength, exit_by_entry, between_by_exit, between_by_entry    each is one-to-one in each argument
--   same_entry, same_exit         wavelengths that lead from one port, or to one port, are the same where the other ends are
use Rattle.std.specs.Prelude.{◌≡◌, refl, ◌⊎◌, ◌↔◌, ℤ, ◌+ℤ◌, ◌*ℤ◌}
use Rattle.std.proofs.Math.Path.{sym, ap}
use Rattle.std.proofs.Common.{◌∙◌, inl, inr, ⊎_elim, add_comm, lt-ltb, le-ltb}
use Prim.Native.Nat.{ℕ, zero, suc, ◌+◌, ◌-◌, ◌*◌, ◌/◌, ◌%◌, ◌<◌, ◌≤◌}
use Rattle.std.proofs.Math.Nat.{mod-lt, mod-eq_of_lt, mod-eq-sub-mod, mod-add-mod, add-mod-mod, add-mul-mod_self_right, div-add-mod', suc-mul}
use Rattle.std.proofs.Math.Decide.{dec_lt}
use native.Mathlib.Omega.{arith}
use Rattle.std.proofs.Math.IntN.{pos, negsuc, sub_ℕ, neg_ℤ}
use Rattle.grating.specs.Grating.{remainder, exit_port, wavelength_between}

-- a number below twice W: its remainder is itself, or itself less W
once : (t W : ℕ) → t < W + W → ((t < W) × (t % W ≡ t)) ⊎ ((W ≤ t) × (t % W ≡ t - W))
once t W h =
    elim (dec_lt t W) [
      | yes l ↦ inl (l, mod-eq_of_lt l)
      | no n ↦ let g : W ≤ t = omega arith in inr (g, mod-eq-sub-mod g ∙ mod-eq_of_lt (omega arith))
    ]

-- two numbers below W that leave the same remainder when v is added are the same
cancel : (W v p q : ℕ) → p < W → q < W → (v + p) % W ≡ (v + q) % W → p ≡ q
cancel W v p q hp hq e =
    let b : v % W < W = mod-lt v (omega arith) in
    let f : (v % W + p) % W ≡ (v % W + q) % W = mod-add-mod v W p ∙ e ∙ sym (mod-add-mod v W q) in
    ⊎_elim
    (λ s. ⊎_elim (λ t. omega arith) (λ t. omega arith) (once (v % W + q) W (omega arith)))
    (λ s. ⊎_elim (λ t. omega arith) (λ t. omega arith) (once (v % W + q) W (omega arith)))
    (once (v % W + p) W (omega arith))

module _ (W : ℕ) (h : 0 < W) where
  remainder_below : (t : ℤ) → remainder W t < W
  unfolding remainder
  remainder_below (pos n) = mod-lt n h
  remainder_below (negsuc n) = omega arith

  -- a + [x − a] and x leave the same remainder
  exit_back : (x a : ℕ) → (a + exit_port W x a) % W ≡ x % W
  unfolding exit_port remainder
  exit_back x a = elim (dec_lt x a) [ yes l ↦ less l | no n ↦ more (omega arith) ]
    where
      less : x < a → (a + remainder W (sub_ℕ x a)) % W ≡ x % W
      less l =
          let n : ℕ = a - suc x in
          let e : a + (W - 1 - n % W) ≡ x + (n / W + 1) * W = omega (arith, mod-lt n h, div-add-mod' n W) in
          rw (lt-ltb x a l, e, add-mul-mod_self_right)

      more : a ≤ x → (a + remainder W (sub_ℕ x a)) % W ≡ x % W
      more l =
          let e : a + (x - a) ≡ x = omega arith in
          rw (le-ltb x a l, add-mod-mod, e)

  -- t is a multiple of W plus [t]
  remainder_whole : (t : ℤ) → (k : ℤ) × (t ≡ k *ℤ pos W +ℤ pos (remainder W t))
  unfolding remainder
  remainder_whole (pos n) = (pos (n / W), ap pos (sym (div-add-mod' n W)))
  remainder_whole (negsuc n) = (negsuc (n / W), back (suc (n / W) * W) (omega (arith, div-add-mod' n W, suc-mul (n / W) W, mod-lt n h)))
    where
      back : (s : ℕ) → s ≡ n + 1 + (W - 1 - n % W) → negsuc n ≡ neg_ℤ (pos s) +ℤ pos (W - 1 - n % W)
      back zero e = absurd (omega arith)
      back (suc s) e =
          let f : suc s - suc (W - 1 - n % W) ≡ n = omega arith in
          rw (lt-ltb (W - 1 - n % W) (suc s) (omega arith), f)

  pub remainder_is : (t : ℤ) → (remainder W t < W) × ((k : ℤ) × (t ≡ k *ℤ pos W +ℤ pos (remainder W t)))
  remainder_is t = (remainder_below t, remainder_whole t)

  pub exit_below : (x a : ℕ) → exit_port W x a < W
  unfolding exit_port
  exit_below x a = remainder_below (sub_ℕ x a)

  pub between_below : (a p : ℕ) → wavelength_between W a p < W
  unfolding wavelength_between
  between_below a p = remainder_below (pos (a + p))

  pub exit_unique : (x a p : ℕ) → p < W → (a + p) % W ≡ x % W → exit_port W x a ≡ p
  exit_unique x a p b e = cancel W a (exit_port W x a) p (exit_below x a) b (exit_back x a ∙ sym e)

-- Equation (1) of document 004 holds where equation (2) does: the two rules are inverse.
module _ (W a x p : ℕ) (hx : x < W) (hp : p < W) where
  pub between_exit : exit_port W x a ≡ p → wavelength_between W a p ≡ x
  unfolding wavelength_between remainder
  between_exit e = rw (← e) (exit_back W (omega arith) x a ∙ mod-eq_of_lt hx)

  pub exit_between : wavelength_between W a p ≡ x → exit_port W x a ≡ p
  unfolding wavelength_between remainder
  exit_between e = exit_unique W (omega arith) x a p hp (e ∙ sym (mod-eq_of_lt hx))

  pub exit_iff_between : (exit_port W x a ≡ p) ↔ (wavelength_between W a p ≡ x)
  exit_iff_between = (between_exit, exit_between)

-- Each rule is one-to-one in each argument.
pub exit_by_wavelength : (W a x y : ℕ) → x < W → y < W → exit_port W x a ≡ exit_port W y a → x ≡ y
exit_by_wavelength W a x y hx hy e =
    let b : exit_port W y a < W = exit_below W (omega arith) y a in
    sym (between_exit W a x (exit_port W y a) hx b e) ∙ between_exit W a y (exit_port W y a) hy b refl

pub exit_by_entry : (W x a b : ℕ) → a < W → b < W → exit_port W x a ≡ exit_port W x b → a ≡ b
exit_by_entry W x a b ha hb e =
    let p : ℕ = exit_port W x b in
    let fa : (p + a) % W ≡ x % W = rw (add_comm p a, ← e) (exit_back W (omega arith) x a) in
    let fb : (p + b) % W ≡ x % W = rw (add_comm p b) (exit_back W (omega arith) x b) in
    cancel W p a b ha hb (fa ∙ sym fb)

pub between_by_exit : (W a p q : ℕ) → p < W → q < W → wavelength_between W a p ≡ wavelength_between W a q → p ≡ q
unfolding wavelength_between remainder
between_by_exit W a p q hp hq e = cancel W a p q hp hq e

pub between_by_entry : (W p a b : ℕ) → a < W → b < W → wavelength_between W a p ≡ wavelength_between W b p → a ≡ b
unfolding wavelength_between remainder
between_by_entry W p a b ha hb e = cancel W p a b ha hb (rw (add_comm p a, add_comm p b) e)

-- Two wavelengths lead from a to p and from b to q. Those that enter at one port are the same where they leave at one
-- port, and those that leave at one port are the same where they enter at one.
module _ (W a b p q : ℕ) (ha : a < W) (hb : b < W) (hp : p < W) (hq : q < W) where
  pub same_entry : ((a ≡ b) × (wavelength_between W a p ≡ wavelength_between W b q)) ↔ ((a ≡ b) × (p ≡ q))
  same_entry = (λ h. (h.0, between_by_exit W b p q hp hq (rw h.0 at h.1)), λ h. (h.0, rw (h.0, h.1)))

  pub same_exit : ((p ≡ q) × (wavelength_between W a p ≡ wavelength_between W b q)) ↔ ((a ≡ b) × (p ≡ q))
  same_exit = (λ h. (between_by_entry W q a b ha hb (rw h.0 at h.1), h.0), λ h. (h.1, rw (h.0, h.1)))
