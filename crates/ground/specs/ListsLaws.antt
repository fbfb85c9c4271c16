-- Laws of lists of numbers without repeats.
--   not_in_nil          == nothing stands in the empty list
--   pigeonhole          == distinct numbers that all stand in ys are at most as many as ys has places
--   few_below           == distinct numbers below n are at most n
--   in_map, distinct_map == what stands in a list of images, and when the images are distinct
--   look_for            == whether g takes some number of the list to v
--   in_up, up_distinct, length_up == what stands in the numbers from i up, that they are distinct, and how many they are
use Rattle.std.specs.Prelude.{◌≡◌, refl, ◌⊎◌, ◌↔◌, List, [], ◌∷◌, map, ℕ, zero, suc, ◌+◌, ◌≤◌, ◌<◌, length}
use Rattle.std.proofs.Common.{sym, ◌∙◌, inl, inr, ⊎_elim, eq-or-lt_of_le, arith}
use Rattle.std.proofs.Math.Decide.{ℕ_discrete}
use Rattle.ground.specs.Lists.{In, here, there, Distinct, up_from}

pub not_in_nil : {x : ℕ} → In x [] → ⊥
not_in_nil p = elim p [ ]

-- ys without the place at which x stands
without : {x : ℕ} {ys : List ℕ} → In x ys → List ℕ
without (here {ys = ys} e) = ys
without (there {y = y} p) = y ∷ without p

length_without : {x : ℕ} {ys : List ℕ} (p : In x ys) → length ys ≡ suc (length (without p))
unfolding without
length_without (here e) = refl
length_without (there p) = omega (arith, length_without p)

others_stay : {x z : ℕ} {ys : List ℕ} (p : In x ys) → (z ≡ x → ⊥) → In z ys → In z (without p)
unfolding without
others_stay (here e) n (here q) = absurd (n (q ∙ sym e))
others_stay (here e) n (there q) = q
others_stay (there p) n (here q) = here q
others_stay (there p) n (there q) = there (others_stay p n q)

pub pigeonhole : (xs ys : List ℕ) → Distinct xs → ((z : ℕ) → In z xs → In z ys) → length xs ≤ length ys
pigeonhole [] ys d sub = omega arith
pigeonhole (x ∷ xs) ys d sub =
    let p : In x ys = sub x (here refl) in
    let n : (z : ℕ) → In z xs → z ≡ x → ⊥ = λ z q e. d.0 (rw e at q) in
    omega (arith, length_without p, pigeonhole xs (without p) d.1 (λ z q. others_stay p (n z q) (sub z (there q))))

-- the numbers below n
countdown : ℕ → List ℕ
countdown zero = []
countdown (suc n) = n ∷ countdown n

length_countdown : (n : ℕ) → length (countdown n) ≡ n
unfolding countdown
length_countdown zero = refl
length_countdown (suc n) = omega (arith, length_countdown n)

in_countdown : (n z : ℕ) → z < n → In z (countdown n)
unfolding countdown
in_countdown zero z l = absurd (omega arith)
in_countdown (suc n) z l = go (ℕ_discrete z n) (in_countdown n z)
  where
    go : Dec (z ≡ n) → (z < n → In z (countdown n)) → In z (n ∷ countdown n)
    go (yes e) deep = here e
    go (no m) deep = there (deep (omega arith))

pub few_below : (n : ℕ) (xs : List ℕ) → Distinct xs → ((z : ℕ) → In z xs → z < n) → length xs ≤ n
few_below n xs d below = omega (arith, length_countdown n, pigeonhole xs (countdown n) d (λ z p. in_countdown n z (below z p)))

pub in_map : (g : ℕ → ℕ) {z : ℕ} (xs : List ℕ) → In z (map g xs) → (x : ℕ) × In x xs × (z ≡ g x)
in_map g [] p = absurd (not_in_nil p)
in_map g (y ∷ ys) (here e) = (y, here refl, e)
in_map g (y ∷ ys) (there p) = let r = in_map g ys p in (r.0, there r.1, r.2)

pub distinct_map : (g : ℕ → ℕ) (xs : List ℕ) → Distinct xs → ((x y : ℕ) → In x xs → In y xs → g x ≡ g y → x ≡ y) → Distinct (map g xs)
distinct_map g [] d apart = tt
distinct_map g (x ∷ xs) d apart = (
  (λ p. let r = in_map g xs p in d.0 (rw (← apart x r.0 (here refl) (there r.1) r.2) at r.1)),
  distinct_map g xs d.1 (λ y z p q. apart y z (there p) (there q)),
)

pub look_for : (g : ℕ → ℕ) (v : ℕ) (xs : List ℕ) → ((x : ℕ) × In x xs × (g x ≡ v)) ⊎ ((x : ℕ) → In x xs → g x ≡ v → ⊥)
look_for g v [] = inr (λ x p e. not_in_nil p)
look_for g v (y ∷ ys) = go (ℕ_discrete (g y) v) (look_for g v ys)
  where
    go : Dec (g y ≡ v) → ((x : ℕ) × In x ys × (g x ≡ v)) ⊎ ((x : ℕ) → In x ys → g x ≡ v → ⊥)
        → ((x : ℕ) × In x (y ∷ ys) × (g x ≡ v)) ⊎ ((x : ℕ) → In x (y ∷ ys) → g x ≡ v → ⊥)
    go (yes e) r = inl (y, here refl, e)
    go (no n) (inl r) = inl (r.0, there r.1, r.2)
    go (no n) (inr m) = inr neither
      where
        neither : (x : ℕ) → In x (y ∷ ys) → g x ≡ v → ⊥
        neither x (here q) e = n (rw q at e)
        neither x (there q) e = m x q e

pub in_up : (i n c : ℕ) → In c (up_from i n) ↔ ((i ≤ c) × (c < i + n))
unfolding up_from
in_up i zero c = (λ p. absurd (not_in_nil p), λ h. absurd (omega arith))
in_up i (suc n) c = (to (λ p. (in_up (suc i) n c).0 p), λ h. ⊎_elim (λ e. here (omega arith)) (λ l. there ((in_up (suc i) n c).1 (omega arith))) (eq-or-lt_of_le h.0))
  where
    to : (In c (up_from (suc i) n) → (suc i ≤ c) × (c < suc i + n)) → In c (i ∷ up_from (suc i) n) → (i ≤ c) × (c < i + suc n)
    to deep (here e) = omega arith
    to deep (there p) = let h = deep p in omega arith

pub up_distinct : (i n : ℕ) → Distinct (up_from i n)
unfolding up_from
up_distinct i zero = tt
up_distinct i (suc n) = ((λ p. let h = (in_up (suc i) n i).0 p in omega arith), up_distinct (suc i) n)

pub length_up : (i n : ℕ) → length (up_from i n) ≡ n
unfolding up_from
length_up i zero = refl
length_up i (suc n) = omega (arith, length_up (suc i) n)
