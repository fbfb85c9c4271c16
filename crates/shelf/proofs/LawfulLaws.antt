-- Lawful settings, as a plain statement on numbers: what floors above use.
--   Parts net calls settings == the parts of the definition, one by one
--   Plain net calls settings == each row's central and wavelengths by the grating rule, no pair (α, γ) and no pair
--                             (γ, β) used twice
--   lawful_parts, lawful_plain == settings are lawful exactly where these hold, the second for calls between the shelf's own modules
--   row_read               == a row read from the two tables is the row of their bytes
use Rattle.std.specs.Prelude.{◌≡◌, ◌↔◌, List, ℕ, ◌*◌, ◌<◌, length}
use Rattle.std.proofs.Common.{inl, inr, ⊎_elim, arith}
use Rattle.std.proofs.Math.Logic.Iff
use Rattle.std.proofs.Math.Dec.{T}
use Rattle.ground.specs.TruthLaws.{not_is, all_is}
use Rattle.ground.specs.Numbers.{eqb_is}
use Rattle.ground.specs.Below.{Once}
use Rattle.ground.specs.BelowLaws.{every_is, once_apart}
use Rattle.shelf.specs.declared.Network.{Network}
use Rattle.shelf.specs.declared.CallRow.{CallRow}
use Rattle.shelf.specs.declared.SettingsRow.{SettingsRow}
use Rattle.shelf.specs.Network.{within_limits}
use Rattle.shelf.specs.Rows.{row_count, α, β, γ, ModulesBelow, CallRead, SettingsRead}
use Rattle.shelf.specs.Light.{row_at, row_of, collide, Collide, arrives, row_for_each_call, every_row_arrives, no_two_rows_collide, lawful, Lawful}
use Rattle.shelf.proofs.Arrival.{Through, arrives_through}
use Rattle.shelf.proofs.Collisions.{OnePair, collide_pair}

pub record Parts (net : Network) (calls settings : List ℕ) : Type 0 where
  pub whole : length settings ≡ 3 * row_count calls
  pub arrive : (i : ℕ) → i < row_count calls → T (arrives net (row_at calls settings i))
  pub apart : (j : ℕ) → j < row_count calls → (i : ℕ) → i < j → Collide net (row_at calls settings i) (row_at calls settings j) → ⊥

pub record Plain (net : Network) (calls settings : List ℕ) : Type 0 where
  pub whole : length settings ≡ 3 * row_count calls
  pub through : (i : ℕ) → i < row_count calls → Through net (row_at calls settings i)
  pub inputs : Once (α calls) (γ settings) (row_count calls)
  pub outputs : Once (β calls) (γ settings) (row_count calls)

module _ (net : Network) (calls settings : List ℕ) where
  pub lawful_parts : Lawful net calls settings ↔ Parts net calls settings
  unfolding lawful row_for_each_call every_row_arrives no_two_rows_collide
  lawful_parts = Iff.trans (all_is _) (
    λ (whole, (arrive, (apart, _))).
        record {
          whole = (eqb_is (length settings) (3 * row_count calls)).0 whole;
          arrive = (every_is (row_count calls) _).0 arrive;
          apart = λ j k i l. (not_is (collide net (row_at calls settings i) (row_at calls settings j))).0 ((every_is j _).0 ((every_is (row_count calls) _).0 apart j k) i l);
        },
    λ h. (
      (eqb_is (length settings) (3 * row_count calls)).1 h.whole,
      (
        (every_is (row_count calls) _).1 h.arrive,
        ((every_is (row_count calls) _).1 (λ j k. (every_is j _).1 (λ i l. (not_is (collide net (row_at calls settings i) (row_at calls settings j))).1 (h.apart j k i l))), tt),
      ),
    ),
  )

  pub lawful_plain : T (within_limits net) → ModulesBelow (α calls) (β calls) net.r (row_count calls) → Lawful net calls settings ↔ Plain net calls settings
  unfolding row_at
  lawful_plain limits own = (λ h. plain (lawful_parts.0 h), λ h. lawful_parts.1 (parts h))
    where
      pair : ((i : ℕ) → i < row_count calls → T (arrives net (row_at calls settings i))) → (j : ℕ) → j < row_count calls → (i : ℕ) → i < j
          → Collide net (row_at calls settings i) (row_at calls settings j) ↔ OnePair (row_at calls settings i) (row_at calls settings j)
      pair arrive j k i l =
          collide_pair net (row_at calls settings i) (row_at calls settings j) limits (arrive i (omega arith)) (arrive j k) (own i (omega arith)).0 (own j k).0

      plain : Parts net calls settings → Plain net calls settings
      plain h = record {
        whole = h.whole;
        through = λ i l. ((arrives_through net (row_at calls settings i) limits).0 (h.arrive i l)).1;
        inputs = (once_apart (α calls) (γ settings) (row_count calls)).1 (λ j k i l e f. h.apart j k i l ((pair h.arrive j k i l).1 (inl (e, f))));
        outputs = (once_apart (β calls) (γ settings) (row_count calls)).1 (λ j k i l e f. h.apart j k i l ((pair h.arrive j k i l).1 (inr (f, e))));
      }

      parts : Plain net calls settings → Parts net calls settings
      parts h =
          let arrive : (i : ℕ) → i < row_count calls → T (arrives net (row_at calls settings i)) = λ i l. (arrives_through net (row_at calls settings i) limits).1 ((own i l).1, h.through i l) in
          record {
            whole = h.whole;
            arrive = arrive;
            apart = λ j k i l c.
                ⊎_elim
                (λ p. (once_apart (α calls) (γ settings) (row_count calls)).0 h.inputs j k i l p.0 p.1)
                (λ p. (once_apart (β calls) (γ settings) (row_count calls)).0 h.outputs j k i l p.1 p.0)
                ((pair arrive j k i l).0 c);
          }

pub row_read : (calls settings : List ℕ) (i : ℕ) (call : CallRow) (set : SettingsRow) → CallRead calls i call → SettingsRead settings i set → row_of call set ≡ row_at calls settings i
unfolding row_at
row_read calls settings i call set c s = rw (c.input_module, c.output_module, s.to_central, s.central, s.from_central)
