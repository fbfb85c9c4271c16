-- Acceptance says yes exactly when the settings are lawful, for any call table in order and any settings; and two answers
-- that satisfy its guarantee are the same.
--   numbers_are         == what the test of 9 says
--   light_passes        == 9, 10 and 11 pass exactly where the ports are those of the row
--   row_passes, rows_pass == 9 to 13 pass exactly where the row's light arrives, and no pair is used twice
--   rows_lawful         == for a table in order: exactly where the settings are lawful
--   accepted_exactly    == the number is 0 exactly when the settings are lawful
--   accepted_is         == so it is 0 exactly for tables in order with lawful settings
--   accepted_k          == and then the row is K
--   accepts, one_answer == the answer has the guarantee, and no other answer has it
--   never_eight         == acceptance never gives 8
use Rattle.std.specs.Prelude.{◌≡◌, ◌↔◌, Bool, not, List, ℕ, ◌*◌, ◌<◌, T, eqb, length}
use Rattle.std.proofs.Common.{sym, ◌∙◌}
use Rattle.std.proofs.Math.Path.{ap}
use Rattle.std.proofs.Math.Logic.Iff
use Rattle.ground.specs.TruthLaws.{not_is, holds_is, all_is}
use Rattle.ground.specs.Numbers.{eqb_is, equal_is}
use Rattle.ground.specs.Below.{used_earlier, Once}
use Rattle.ground.specs.BelowLaws.{once_is}
use Rattle.shelf.specs.declared.Network.{Network}
use Rattle.shelf.specs.Network.{cycle, has_central}
use Rattle.shelf.specs.NetworkLaws.{own_wavelength_is, own_central_is}
use Rattle.shelf.specs.Rows.{row_count, α, β, γ}
use Rattle.shelf.specs.Light.{Row, row_at, Lawful}
use Rattle.shelf.proofs.Arrival.{Ports, Through, ports_through}
use Rattle.shelf.proofs.LawfulLaws.{lawful_plain}
use Rattle.calls.specs.declared.Verdict.{Verdict}
use Rattle.calls.specs.Verdict.{success, refused_if}
use Rattle.calls.specs.VerdictLaws.{turn_passes, answer_passes, answer_success, turn_number, answer_number, refused_zero, seek_passes, test_number, seek_number}
use Rattle.calls.specs.Table.{InOrder}
use Rattle.calls.specs.TableLaws.{in_order_is, own_modules, size_number, call_number}
use Rattle.acceptance.specs.Acceptance.{has_numbers, light_verdict, row_verdict, unlawful_row, row_checks, acceptance, Accepts}

pub numbers_are : (net : Network) (x γ y : ℕ) → T (has_numbers net x γ y) ↔ ((x < cycle net) × (y < cycle net) × T (has_central net γ))
unfolding has_numbers
numbers_are net x γ y = Iff.trans (all_is _) (
  λ (in-x, (in-y, (in-γ, _))). ((own_wavelength_is net x).0 in-x, (own_wavelength_is net y).0 in-y, in-γ),
  λ h. ((own_wavelength_is net x).1 h.0, ((own_wavelength_is net y).1 h.1, (h.2, tt))),
)

-- the light of the row goes by its central to its output module
pub light_passes : (net : Network) (i : ℕ) (ρ : Row) → ((light_verdict net i ρ).number ≡ 0) ↔ Ports net ρ
unfolding light_verdict
light_passes net i ρ = Iff.trans (turn_passes _) (
  λ (nine, (ten, (eleven, _))).
      let n = (numbers_are net ρ.x ρ.γ ρ.y).0 ((holds_is (has_numbers net ρ.x ρ.γ ρ.y)).0 ((refused_zero 8 i _).0 nine)) in
      record {
        own_x = n.0;
        own_y = n.1;
        own_γ = (own_central_is net ρ.γ).1 n.2;
        at_central = (equal_is _ ρ.γ).0 ((refused_zero 9 i _).0 ten);
        at_output = (equal_is _ ρ.β).0 ((refused_zero 10 i _).0 eleven);
      },
  λ h.
      let n = (numbers_are net ρ.x ρ.γ ρ.y).1 (h.own_x, h.own_y, (own_central_is net ρ.γ).0 h.own_γ) in (
        (refused_zero 8 i _).1 ((holds_is (has_numbers net ρ.x ρ.γ ρ.y)).1 n),
        ((refused_zero 9 i _).1 ((equal_is _ ρ.γ).1 h.at_central), ((refused_zero 10 i _).1 ((equal_is _ ρ.β).1 h.at_output), tt)),
      ),
)

module _ (net : Network) (calls settings : List ℕ) where
  pub row_passes : (i : ℕ) → ((row_verdict net calls settings i).number ≡ 0)
      ↔ (Ports net (row_at calls settings i) × T (not (used_earlier (α calls) (γ settings) i)) × T (not (used_earlier (β calls) (γ settings) i)))
  unfolding row_verdict
  row_passes i = Iff.trans (turn_passes _) (
    λ (light, (twelve, (thirteen, _))). ((light_passes net i (row_at calls settings i)).0 light, (refused_zero 11 i _).0 twelve, (refused_zero 12 i _).0 thirteen),
    λ h. ((light_passes net i (row_at calls settings i)).1 h.0, ((refused_zero 11 i _).1 h.1, ((refused_zero 12 i _).1 h.2, tt))),
  )

  -- no row is refused: every row's light arrives, and no pair is used twice
  pub rows_pass : ((unlawful_row net calls settings).number ≡ 0)
      ↔ (((i : ℕ) → i < row_count calls → Ports net (row_at calls settings i)) × Once (α calls) (γ settings) (row_count calls) × Once (β calls) (γ settings) (row_count calls))
  unfolding unlawful_row
  rows_pass = Iff.trans (seek_passes (row_verdict net calls settings) (row_count calls)) (
    λ h. (
      λ i l. ((row_passes i).0 (h i l)).0,
      (once_is (α calls) (γ settings) (row_count calls)).0 (λ i l. ((row_passes i).0 (h i l)).1),
      (once_is (β calls) (γ settings) (row_count calls)).0 (λ i l. ((row_passes i).0 (h i l)).2),
    ),
    λ h i l. (row_passes i).1 (h.0 i l, (once_is (α calls) (γ settings) (row_count calls)).1 h.1 i l, (once_is (β calls) (γ settings) (row_count calls)).1 h.2 i l),
  )

  -- for a table in order, that is the plain statement that lawful settings come down to
  pub rows_lawful : InOrder net calls → (((unlawful_row net calls settings).number ≡ 0) × (length settings ≡ 3 * row_count calls)) ↔ Lawful net calls settings
  unfolding row_at
  rows_lawful table = Iff.trans (
    λ h. let p = rows_pass.0 h.0 in record { whole = h.1; through = λ i l. (through i l).0 (p.0 i l); inputs = p.1; outputs = p.2 },
    λ p. (rows_pass.1 ((λ i l. (through i l).1 (p.through i l)), p.inputs, p.outputs), p.whole),
  ) (Iff.symm (lawful_plain net calls settings table.limits (own_modules table)))
    where
      through : (i : ℕ) → i < row_count calls → Ports net (row_at calls settings i) ↔ Through net (row_at calls settings i)
      through i l = ports_through net (row_at calls settings i) table.limits (table.inside i l).own_β

  -- "acceptance says yes exactly when .."
  pub accepted_exactly : InOrder net calls → ((acceptance net calls settings).number ≡ 0) ↔ Lawful net calls settings
  unfolding acceptance row_checks
  accepted_exactly table = Iff.trans (answer_passes _ (row_count calls)) (Iff.trans (
    λ (sizes, (rows, _)).
        let (in-calls, (in_rows, _)) = (turn_passes _).0 rows in
        (in_rows, ((in_order_is net calls (length settings) 3).0 (sizes, in-calls)).1),
    λ h.
        let t = (in_order_is net calls (length settings) 3).1 (table, h.1) in
        (t.0, ((turn_passes _).1 (t.1, (h.0, tt)), tt)),
  ) (rows_lawful table))

  pub accepted_is : ((acceptance net calls settings).number ≡ 0) ↔ (InOrder net calls × Lawful net calls settings)
  unfolding acceptance row_checks
  accepted_is = (λ h. (in_order h, (accepted_exactly (in_order h)).0 h), λ h. (accepted_exactly h.0).1 h.1)
    where
      in_order : (acceptance net calls settings).number ≡ 0 → InOrder net calls
      in_order h =
          let (sizes, (rows, _)) = (answer_passes _ (row_count calls)).0 h in
          ((in_order_is net calls (length settings) 3).0 (sizes, ((turn_passes _).0 rows).0)).0

  pub accepted_k : (acceptance net calls settings).number ≡ 0 → (acceptance net calls settings).row ≡ row_count calls
  unfolding acceptance success
  accepted_k h = ap (λ (v : Verdict). v.row) (answer_success _ (row_count calls) h)

  -- the guarantee, from the answer alone
  pub accepts : (v : Verdict) → v ≡ acceptance net calls settings → Accepts net calls settings v
  accepts v e = record {
    answer = e;
    exactly = λ table. rw e (accepted_exactly table);
    tells_k = λ z. rw e (accepted_k (rw e at z));
  }

  -- two answers that satisfy the guarantee are the same
  pub one_answer : (v w : Verdict) → Accepts net calls settings v → Accepts net calls settings w → v ≡ w
  one_answer v w g h = g.answer ∙ sym h.answer

-- "it never gives 8"
pub never_eight : (net : Network) (calls settings : List ℕ) → (acceptance net calls settings).number ≡ 8 → ⊥
unfolding acceptance row_checks unlawful_row row_verdict light_verdict
never_eight net calls settings =
    answer_number Other _ (row_count calls) (other 0 tt) (
      size_number Other (other 0 tt) net (length calls) (length settings) 3 (other 1 tt) (other 2 tt) (other 3 tt),
      (turn_number Other _ (other 0 tt) (call_number Other (other 0 tt) net calls (other 5 tt) (other 6 tt) (other 7 tt), (seek_number Other (row_count calls) (row_verdict net calls settings) row (other 0 tt), tt)), tt),
    )
  where
    Other : ℕ → Type 0
    Other n = n ≡ 8 → ⊥

    other : (n : ℕ) → T (not (eqb n 8)) → Other n
    other n t e = (not_is (eqb n 8)).0 t ((eqb_is n 8).1 e)

    test : (n i : ℕ) (bad : Bool) → T (not (eqb n 8)) → Other (refused_if n i bad).number
    test n i bad t = test_number Other n i bad (other n t) (other 0 tt)

    row : (i : ℕ) → Other (row_verdict net calls settings i).number
    row i =
        turn_number Other _ (other 0 tt) (
          turn_number Other _ (other 0 tt) (test 9 i _ tt, (test 10 i _ tt, (test 11 i _ tt, tt))),
          (test 12 i _ tt, (test 13 i _ tt, tt)),
        )
