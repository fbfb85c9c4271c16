-- Tables without one of their rows: each row of the shorter table is a row of the longer one, and no two are the same row. So a table in
-- order stays in order, lawful settings stay lawful, and no row left stands where the dropped one stood.
--   skip row i           == the row of the longer table that becomes row i when `row` is dropped
--   skip_below, skip_other, skip_apart == it is a row there, never the dropped one, and another one for another i
--   length_without, byte_without, first_without == how long the shorter table is, its bytes, and the first of a row, for w bytes a row
--   ClosesUp start next size room == a table of `size` bytes can be written without those from `start` up to `next`, where `room` bytes are lent
--   closes_up            == a row's bytes can be left out so, where there is room for the other rows
--   once_without, free_without == pairs that no two rows have, without a row: no two rows have one, and no row has that of the dropped one
--   count_without, call_without, row_without == how many calls the shorter table has; its call i, and row i of both tables
--   in_order_without     == the shorter table is in order
--   lawful_without       == the shorter settings are lawful for it
--   central_free         == the central of the dropped row is free at both its modules
use Rattle.std.specs.Prelude.{◌≡◌, Bool, cond, List, ◌++◌, ltb, take}
use Rattle.std.proofs.Common.{sym, ◌∙◌, add-zero, length-append, length-drop, length-take-le, get_or-take, get_or-drop, get_or-append-add, lt-ltb, le-ltb}
use Rattle.std.proofs.Math.Path.{ap}
use Rattle.std.proofs.Math.Bool.{true, false}
use Prim.Native.Nat.{ℕ, suc, ◌+◌, ◌*◌, ◌-◌, ◌≤◌, ◌<◌}
use Rattle.std.proofs.Math.Nat.{mul-le-mul_left}
use Rattle.std.proofs.Math.Decide.{dec_lt}
use native.Mathlib.Omega.{arith}
use Rattle.std.proofs.Math.ListN.{length, get_or, drop, length-take, get_or-append}
use Rattle.ground.specs.Below.{Once}
use Rattle.shelf.specs.declared.Network.{Network}
use Rattle.shelf.specs.declared.CallRow.{CallRow}
use Rattle.shelf.specs.Rows.{row_count, α, ω, β, ω', x, γ, y, call_at, module_of, channel_of}
use Rattle.shelf.specs.Light.{Row, row_at, Lawful}
use Rattle.shelf.proofs.LawfulLaws.{Plain, lawful_plain}
use Rattle.calls.specs.Table.{InOrder}
use Rattle.calls.specs.TableLaws.{own_modules}
use Rattle.choice.specs.Colouring.{Free}
use Rattle.dropping.specs.Dropping.{without_row}

unfoldable pub skip : (row i : ℕ) → ℕ
skip row i = cond (ltb i row) i (suc i)

-- rows before the dropped one stay where they are, and later rows close up
skip_is : (row i : ℕ) → skip row i ≡ i + (1 - (row - i))
unfolding skip
skip_is row i = elim (dec_lt i row) [ yes l ↦ rw (lt-ltb i row l) (omega arith) | no n ↦ rw (le-ltb i row (omega arith)) (omega arith) ]

pub skip_below : (row K i : ℕ) → row < K → i < K - 1 → skip row i < K
skip_below row K i h l = omega (arith, skip_is row i)

pub skip_other : (row i : ℕ) → skip row i ≡ row → ⊥
skip_other row i e = omega (arith, skip_is row i)

pub skip_apart : (row i j : ℕ) → skip row i ≡ skip row j → i ≡ j
skip_apart row i j e = omega (arith, skip_is row i, skip_is row j)

-- ---- the bytes, for w bytes a row

abbrev pub ClosesUp : (start next size room : ℕ) → Type 0
ClosesUp start next size room = (start ≤ next) × (next ≤ size) × (start + (size - next) ≤ room)

module _ (w row K : ℕ) (bytes : List ℕ) (whole : length bytes ≡ w * K) (there : row < K) where
  -- the row ends within the table
  ends : w * row + w ≤ length bytes
  ends = omega (arith, mul-le-mul_left w there)

  before_length : length (take (w * row) bytes) ≡ w * row
  before_length = let e = ends in length-take-le (w * row) bytes (omega arith)

  pub length_without : length (without_row w row bytes) ≡ w * (K - 1)
  unfolding without_row
  length_without =
      let all : length bytes ≡ w * suc (K - 1) = whole ∙ ap (λ (k : ℕ). w * k) (omega arith) in
      let e = ends in
      simp (length-append, length-take, length-drop) (omega arith)

  pub byte_without : (i j : ℕ) → j < w → get_or (without_row w row bytes) (w * i + j) 0 ≡ get_or bytes (w * skip row i + j) 0
  unfolding without_row
  byte_without i j l = elim (dec_lt i row) [ yes h ↦ stays h | no n ↦ closes (omega arith) ]
    where
      -- of a row before the dropped one, and of a later one
      stays : i < row → get_or (take (w * row) bytes ++ drop (w * row + w) bytes) (w * i + j) 0 ≡ get_or bytes (w * skip row i + j) 0
      stays h =
          let same : skip row i ≡ i = omega (arith, skip_is row i) in
          let inner : w * i + j < w * row = omega (arith, mul-le-mul_left w h) in
          get_or-append (take (w * row) bytes) (drop (w * row + w) bytes) 0 (w * i + j) (omega (arith, before_length))
          ∙ rw (get_or-take (w * row) bytes (w * i + j) 0 inner, same)

      closes : row ≤ i → get_or (take (w * row) bytes ++ drop (w * row + w) bytes) (w * i + j) 0 ≡ get_or bytes (w * skip row i + j) 0
      closes h =
          let next : skip row i ≡ row + suc (i - row) = omega (arith, skip_is row i) in
          let split : w * i ≡ w * (row + (i - row)) = ap (λ (k : ℕ). w * k) (omega arith) in
          let at : w * i + j ≡ length (take (w * row) bytes) + (w * (i - row) + j) = omega (arith, before_length) in
          let on : w * row + w + (w * (i - row) + j) ≡ w * (row + suc (i - row)) + j = omega arith in
          rw (at, get_or-append-add, get_or-drop, on, next)

  pub first_without : (i : ℕ) → 0 < w → get_or (without_row w row bytes) (w * i) 0 ≡ get_or bytes (w * skip row i) 0
  first_without i l = simp add-zero at (byte_without i 0 l)

  pub closes_up : (room : ℕ) → w * (K - 1) ≤ room → ClosesUp (w * row) (w * row + w) (length bytes) room
  unfolding without_row
  closes_up room h = let e = ends in let l = simp (length-append, length-take, length-drop) at length_without in omega arith

-- ---- pairs that no two rows have

module _ (row K : ℕ) (there : row < K) (f g : ℕ → ℕ) {f' g' : ℕ → ℕ} (once : Once f g K) (f-is : (i : ℕ) → f' i ≡ f (skip row i)) (g-is : (i : ℕ) → g' i ≡ g (skip row i)) where
  pub once_without : Once f' g' (K - 1)
  once_without i j l m e q =
      skip_apart row i j
      (once (skip row i) (skip row j) (skip_below row K i there l) (skip_below row K j there m) (sym (f-is i) ∙ e ∙ f-is j) (sym (g-is i) ∙ q ∙ g-is j))

  pub free_without : Free f' g' (K - 1) (f row) (g row)
  free_without i l e q = skip_other row i (once (skip row i) row (skip_below row K i there l) there (sym (f-is i) ∙ e) (sym (g-is i) ∙ q))

-- ---- the rows of a call table, and of its settings

module _ (calls : List ℕ) (row : ℕ) (whole : length calls ≡ 4 * row_count calls) (there : row < row_count calls) where
  pub count_without : row_count (without_row 4 row calls) ≡ row_count calls - 1
  unfolding row_count
  count_without = omega (arith, length_without 4 row (row_count calls) calls whole there)

  pub call_without : (i : ℕ) → call_at (without_row 4 row calls) i ≡ call_at calls (skip row i)
  unfolding α ω β ω'
  call_without i =
      let byte = byte_without 4 row (row_count calls) calls whole there i in
      rw (first_without 4 row (row_count calls) calls whole there i (omega arith), byte 1 (omega arith), byte 2 (omega arith), byte 3 (omega arith))

  module_without : (output : Bool) (i : ℕ) → module_of (without_row 4 row calls) output i ≡ module_of calls output (skip row i)
  module_without true i = ap (λ (call : CallRow). call.output_module) (call_without i)
  module_without false i = ap (λ (call : CallRow). call.input_module) (call_without i)

  channel_without : (output : Bool) (i : ℕ) → channel_of (without_row 4 row calls) output i ≡ channel_of calls output (skip row i)
  channel_without true i = ap (λ (call : CallRow). call.output_channel) (call_without i)
  channel_without false i = ap (λ (call : CallRow). call.input_channel) (call_without i)

  module _ (settings : List ℕ) (each : length settings ≡ 3 * row_count calls) where
    pub row_without : (i : ℕ) → row_at (without_row 4 row calls) (without_row 3 row settings) i ≡ row_at calls settings (skip row i)
    unfolding row_at x γ y
    row_without i =
        let byte = byte_without 3 row (row_count calls) settings each there i in
        rw (module_without false i, module_without true i, first_without 3 row (row_count calls) settings each there i (omega arith), byte 1 (omega arith), byte 2 (omega arith))

    central_without : (i : ℕ) → γ (without_row 3 row settings) i ≡ γ settings (skip row i)
    unfolding row_at
    central_without i = ap (λ (ρ : Row). ρ.γ) (row_without i)

module _ (net : Network) (calls : List ℕ) (row : ℕ) (table : InOrder net calls) (there : row < row_count calls) where
  pub in_order_without : InOrder net (without_row 4 row calls)
  in_order_without =
      let count = count_without calls row table.whole there in
      let modules = module_without calls row table.whole there in
      let channels = channel_without calls row table.whole there in
      record {
        limits = table.limits;
        whole = rw count (length_without 4 row (row_count calls) calls table.whole there);
        few = rw count (omega (arith, table.few));
        inside = λ i l.
            let inside = table.inside (skip row i) (skip_below row (row_count calls) i there (rw count at l)) in
            record {
              own_α = rw (modules false i) inside.own_α;
              own_β = rw (modules true i) inside.own_β;
              own_ω = rw (channels false i) inside.own_ω;
              own_ω' = rw (channels true i) inside.own_ω';
            };
        inlets = rw count (once_without row (row_count calls) there (α calls) (ω calls) table.inlets (modules false) (channels false));
        outlets = rw count (once_without row (row_count calls) there (β calls) (ω' calls) table.outlets (modules true) (channels true));
      }

  module _ (settings : List ℕ) (lawful : Lawful net calls settings) where
    plain : Plain net calls settings
    plain = (lawful_plain net calls settings table.limits (own_modules table)).0 lawful

    pub lawful_without : Lawful net (without_row 4 row calls) (without_row 3 row settings)
    lawful_without =
        let count = count_without calls row table.whole there in
        let modules = module_without calls row table.whole there in
        let centrals = central_without calls row table.whole there settings plain.whole in
        (lawful_plain net (without_row 4 row calls) (without_row 3 row settings) table.limits (own_modules in_order_without)).1 (record {
          whole = rw count (length_without 3 row (row_count calls) settings plain.whole there);
          through = λ i l.
              rw (row_without calls row table.whole there settings plain.whole i)
              (plain.through (skip row i) (skip_below row (row_count calls) i there (rw count at l)));
          inputs = rw count (once_without row (row_count calls) there (α calls) (γ settings) plain.inputs (modules false) centrals);
          outputs = rw count (once_without row (row_count calls) there (β calls) (γ settings) plain.outputs (modules true) centrals);
        })

    pub central_free : (output : Bool) → Free (module_of (without_row 4 row calls) output) (γ (without_row 3 row settings)) (row_count calls - 1) (module_of calls output row) (γ settings row)
    central_free output =
        free_without row (row_count calls) there (module_of calls output) (γ settings) (pairs output)
        (module_without calls row table.whole there output) (central_without calls row table.whole there settings plain.whole)
      where
        pairs : (output : Bool) → Once (module_of calls output) (γ settings) (row_count calls)
        pairs true = plain.outputs
        pairs false = plain.inputs
