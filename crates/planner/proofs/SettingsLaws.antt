-- The settings rows that the planner writes, read back, and that they are lawful where no module uses a central twice.
--   central_of          == the central of a settings row, among the centrals of all
--   settings_length, planned_length == they have three bytes for each row
--   settings_x, settings_γ, settings_y == a row read back
--   written_byte, passable_now, written_length, written_next, written_all == the rows written so far, one more of them, and what stands behind
--   settings_agree      == only the rows that are written matter
--   settings_lawful     == they are lawful where the centrals are a fine colouring
--   lawful_fine         == the centrals of lawful settings are a fine colouring
use Rattle.std.specs.Prelude.{◌≡◌, ◌⊎◌, true, false, T, drop}
use Rattle.std.proofs.Math.Path.{refl, sym, ap}
use Rattle.std.proofs.Common.{◌∙◌, inl, inr, length-drop, drop_of_length-le, get_or-drop}
use mathlib.Core.List.{List, [], ◌∷◌, ◌++◌, append_assoc, append-nil}
use Prim.Native.Nat.{ℕ, zero, suc, ◌+◌, ◌*◌, ◌/◌, ◌≤◌, ◌<◌}
use native.Mathlib.Omega.{arith}
use Rattle.std.proofs.Math.Numerals.{add-one}
use Rattle.std.proofs.Math.ListN.{length, get_or, set, length-append, get_or-append}
use Rattle.std.proofs.Math.Seq.{get_or-append-add}
use Rattle.std.proofs.lemmas.List.{set_at}
use Rattle.ground.specs.Below.{Once}
use Rattle.ground.specs.Numbers.{below_suc}
use Rattle.grating.specs.Grating.{wavelength_between}
use Rattle.shelf.specs.declared.Network.{Network}
use Rattle.shelf.specs.Network.{within_limits, cycle}
use Rattle.shelf.specs.Rows.{ModulesBelow, row_count, α, β, x, γ, y}
use Rattle.shelf.specs.Light.{row_at, Lawful}
use Rattle.shelf.proofs.LawfulLaws.{lawful_plain}
use Rattle.shelf.specs.Order.{order}
use Rattle.shelf.specs.OrderLaws.{order_own}
use Rattle.choice.specs.Rule.{at}
use Rattle.choice.specs.Colouring.{Fine}
use Rattle.choice.specs.Rows.{module_in, centrals_of}
use Rattle.choice.proofs.RowsLaws.{row_bytes_lem, central_at}
use Rattle.choice.specs.Agree.{Agree}
use Rattle.planner.specs.Planner.{settings_row, settings_rows, chosen, planned_settings}
use Rattle.planner.specs.Steps.{Passable}

pub central_of : (settings : List ℕ) (K : ℕ) → length settings ≡ 3 * K → (i : ℕ) → i < K → at (centrals_of settings) i ≡ γ settings i
unfolding γ
central_of settings K whole i l = central_at settings i (omega arith)

module _ (W : ℕ) (α β g : ℕ → ℕ) where
  pub settings_length : (k : ℕ) → length (settings_rows W α β g k) ≡ 3 * k
  unfolding settings_rows
  settings_length zero = refl
  settings_length (suc k) = length-append (settings_rows W α β g k) (settings_row W α β g k) ∙ omega (arith, settings_length k)

  -- byte j of row i
  settings_byte : (k i j : ℕ) → i < k → j < 3 → get_or (settings_rows W α β g k) (3 * i + j) 0 ≡ get_or (settings_row W α β g i) j 0
  unfolding settings_rows
  settings_byte zero i j l m = absurd (omega arith)
  settings_byte (suc k) i j l m = go (λ q. settings_byte k i j q m) (below_suc l)
    where
      go : (i < k → get_or (settings_rows W α β g k) (3 * i + j) 0 ≡ get_or (settings_row W α β g i) j 0) → (i ≡ k) ⊎ (i < k)
          → get_or (settings_rows W α β g k ++ settings_row W α β g k) (3 * i + j) 0 ≡ get_or (settings_row W α β g i) j 0
      go deep (inl e) =
          let at-end : 3 * i + j ≡ length (settings_rows W α β g k) + j = omega (arith, settings_length k) in
          ap (λ (t : ℕ). get_or (settings_rows W α β g k ++ settings_row W α β g k) t 0) at-end
          ∙ get_or-append-add (settings_rows W α β g k) (settings_row W α β g k) j 0
          ∙ ap (λ (t : ℕ). get_or (settings_row W α β g t) j 0) (sym e)
      go deep (inr q) = get_or-append (settings_rows W α β g k) (settings_row W α β g k) 0 (3 * i + j) (omega (arith, settings_length k)) ∙ deep q

  module _ (k i : ℕ) (l : i < k) where
    pub settings_x : x (settings_rows W α β g k) i ≡ wavelength_between W (α i) (g i)
    unfolding x
    settings_x = let e : 3 * i ≡ 3 * i + 0 = omega arith in rw e (settings_byte k i 0 l (omega arith))

    pub settings_γ : γ (settings_rows W α β g k) i ≡ g i
    unfolding γ
    settings_γ = settings_byte k i 1 l (omega arith)

    pub settings_y : y (settings_rows W α β g k) i ≡ wavelength_between W (g i) (β i)
    unfolding y
    settings_y = settings_byte k i 2 l (omega arith)

-- ---- a row of modules becomes a row of settings, where it stands

-- the first and the third number behind a front are stored
store_row : (p r : List ℕ) (a g b x y n : ℕ) → length p ≡ n → set (set (p ++ a ∷ g ∷ b ∷ r) n x) (n + 2) y ≡ (p ++ (x ∷ g ∷ y ∷ [])) ++ r
store_row p r a g b x y n e =
    let two : length (p ++ (x ∷ g ∷ [])) ≡ n + 2 = length-append p (x ∷ g ∷ []) ∙ omega arith in
    ap (λ (l : List ℕ). set l (n + 2) y) (set_at p a (g ∷ b ∷ r) x n e ∙ sym (append_assoc p (x ∷ g ∷ []) (b ∷ r)))
    ∙ set_at (p ++ (x ∷ g ∷ [])) b r y (n + 2) two
    ∙ append_assoc p (x ∷ g ∷ []) (y ∷ r)
    ∙ sym (append_assoc p (x ∷ g ∷ y ∷ []) r)

-- what stands behind the rows that are written is as it was
module _ (W : ℕ) (rows : List ℕ) where
  abbrev α₀ : ℕ → ℕ
  α₀ = module_in rows false

  abbrev β₀ : ℕ → ℕ
  β₀ = module_in rows true

  abbrev γ₀ : ℕ → ℕ
  γ₀ = at (centrals_of rows)

  three : (k : ℕ) → 3 * k + 3 ≤ length rows → drop (3 * k) rows ≡ α₀ k ∷ γ₀ k ∷ β₀ k ∷ drop (3 * (k + 1)) rows
  unfolding module_in
  three k l = let next : 3 * (k + 1) ≡ 3 * k + 3 = omega arith in row_bytes_lem rows k l ∙ rw (next, central_at rows k l)

  pub written_byte : (k j : ℕ) (now : List ℕ) → now ≡ settings_rows W α₀ β₀ γ₀ k ++ drop (3 * k) rows → get_or now (3 * k + j) 0 ≡ get_or rows (3 * k + j) 0
  written_byte k j now e =
      let n : 3 * k + j ≡ length (settings_rows W α₀ β₀ γ₀ k) + j = omega (arith, settings_length W α₀ β₀ γ₀ k) in
      rw e (ap (λ (t : ℕ). get_or (settings_rows W α₀ β₀ γ₀ k ++ drop (3 * k) rows) t 0) n ∙ get_or-append-add (settings_rows W α₀ β₀ γ₀ k) (drop (3 * k) rows) j 0 ∙ get_or-drop (3 * k) rows j 0)

  -- so a row that is not yet written has its modules and its central
  pub passable_now : (k : ℕ) (now : List ℕ) → now ≡ settings_rows W α₀ β₀ γ₀ k ++ drop (3 * k) rows → Passable W rows k → Passable W now k
  passable_now k now e p =
      let zero : 3 * k + 0 ≡ 3 * k = omega arith in
      record {
        small = p.small;
        input = rw (rw zero at (written_byte k 0 now e)) p.input;
        central = rw (written_byte k 1 now e) p.central;
        output = rw (written_byte k 2 now e) p.output;
      }

  pub written_length : (k : ℕ) (now : List ℕ) → now ≡ settings_rows W α₀ β₀ γ₀ k ++ drop (3 * k) rows → 3 * k ≤ length rows → length now ≡ length rows
  written_length k now e l = ap length e ∙ length-append (settings_rows W α₀ β₀ γ₀ k) (drop (3 * k) rows) ∙ omega (arith, settings_length W α₀ β₀ γ₀ k, length-drop (3 * k) rows)

  pub written_next : (k : ℕ) (now : List ℕ) → now ≡ settings_rows W α₀ β₀ γ₀ k ++ drop (3 * k) rows → 3 * k + 3 ≤ length rows
      → set (set now (3 * k) (wavelength_between W (get_or now (3 * k) 0) (get_or now (3 * k + 1) 0))) (3 * k + 2) (wavelength_between W (get_or now (3 * k + 1) 0) (get_or now (3 * k + 2) 0))
      ≡ settings_rows W α₀ β₀ γ₀ (k + 1) ++ drop (3 * (k + 1)) rows
  unfolding settings_rows module_in
  written_next k now e l =
      let zero : 3 * k + 0 ≡ 3 * k = omega arith in
      let a : get_or now (3 * k) 0 ≡ α₀ k = rw zero at (written_byte k 0 now e) in
      let g : get_or now (3 * k + 1) 0 ≡ γ₀ k = written_byte k 1 now e ∙ sym (central_at rows k l) in
      let b : get_or now (3 * k + 2) 0 ≡ β₀ k = written_byte k 2 now e in
      rw (a, g, b, add-one k)
      (ap (λ (t : List ℕ). set (set t (3 * k) (wavelength_between W (α₀ k) (γ₀ k))) (3 * k + 2) (wavelength_between W (γ₀ k) (β₀ k))) (e ∙ ap (λ (t : List ℕ). settings_rows W α₀ β₀ γ₀ k ++ t) (three k l))
      ∙ store_row (settings_rows W α₀ β₀ γ₀ k) (drop (3 * (k + 1)) rows) (α₀ k) (γ₀ k) (β₀ k) _ _ (3 * k) (settings_length W α₀ β₀ γ₀ k)
      ∙ rw (add-one k))

  -- all rows are written
  pub written_all : (k K : ℕ) (now : List ℕ) → now ≡ settings_rows W α₀ β₀ γ₀ k ++ drop (3 * k) rows → length rows ≡ 3 * K → k ≡ length rows / 3
      → now ≡ settings_rows W α₀ β₀ γ₀ (length rows / 3)
  written_all k K now e whole n =
      rw (← n) (e ∙ ap (λ (t : List ℕ). settings_rows W α₀ β₀ γ₀ k ++ t) (drop_of_length-le rows {i = 3 * k} (omega arith)) ∙ append-nil (settings_rows W α₀ β₀ γ₀ k))

-- only the rows that are written matter
pub settings_agree : {α α' β β' g g' : ℕ → ℕ} (W k : ℕ) → Agree α α' k → Agree β β' k → Agree g g' k → settings_rows W α β g k ≡ settings_rows W α' β' g' k
unfolding settings_rows
settings_agree W zero a b c = refl
settings_agree W (suc k) a b c =
    rw (settings_agree W k (λ i l. a i (omega arith)) (λ i l. b i (omega arith)) (λ i l. c i (omega arith)), a k (omega arith), b k (omega arith), c k (omega arith))

pub planned_length : (net : Network) (calls : List ℕ) → length (planned_settings net calls) ≡ 3 * row_count calls
unfolding planned_settings
planned_length net calls = settings_length (cycle net) (α calls) (β calls) (at (chosen net calls).centrals) (row_count calls)

-- ---- lawful settings

-- centrals that no module uses twice make lawful settings
pub settings_lawful : (net : Network) (calls : List ℕ) (g : ℕ → ℕ) → T (within_limits net) → ModulesBelow (α calls) (β calls) net.r (row_count calls)
    → Fine (α calls) (β calls) (order net) g (row_count calls) → Lawful net calls (settings_rows (cycle net) (α calls) (β calls) g (row_count calls))
unfolding row_at
settings_lawful net calls g limits own fine = (lawful_plain net calls (settings_rows (cycle net) (α calls) (β calls) g (row_count calls)) limits own).1 (record {
  whole = settings_length (cycle net) (α calls) (β calls) g (row_count calls);
  through = λ i l. record {
    own_γ = rw (central i l) ((order_own net (g i)).0 (fine.inside i l));
    x_is = rw (settings_x (cycle net) (α calls) (β calls) g (row_count calls) i l, central i l);
    y_is = rw (settings_y (cycle net) (α calls) (β calls) g (row_count calls) i l, central i l);
  };
  inputs = once fine.proper_α;
  outputs = once fine.proper_β;
})
  where
    central : (i : ℕ) → i < row_count calls → γ (settings_rows (cycle net) (α calls) (β calls) g (row_count calls)) i ≡ g i
    central = settings_γ (cycle net) (α calls) (β calls) g (row_count calls)

    once : {f : ℕ → ℕ} → Once f g (row_count calls) → Once f (γ (settings_rows (cycle net) (α calls) (β calls) g (row_count calls))) (row_count calls)
    once w i j li lj e q = w i j li lj e (sym (central i li) ∙ q ∙ central j lj)

-- and the centrals of lawful settings are used twice by no module
pub lawful_fine : (net : Network) (calls settings : List ℕ) → T (within_limits net) → ModulesBelow (α calls) (β calls) net.r (row_count calls) → Lawful net calls settings
    → Fine (α calls) (β calls) (order net) (γ settings) (row_count calls)
unfolding row_at
lawful_fine net calls settings limits own h =
    let p = (lawful_plain net calls settings limits own).0 h in
    record { proper_α = p.inputs; proper_β = p.outputs; inside = λ i l. (order_own net (γ settings i)).1 (p.through i l).own_γ }
