-- "A freed central is used again."
--   CommonFree ..        == a central that the shelf has and that is free at both modules of a call
--   freed_common         == the central of a dropped call is such a one for any call between the same modules
--   nothing_moves        == so an add of such a call moves nothing
--   used_again           == and it takes that central, if no central that is searched before it is free at both modules
use Rattle.std.specs.Prelude.{◌≡◌, refl, ◌↔◌, Bool, true, ◌&&◌, List, [], ◌∷◌, ◌++◌, ℕ, suc, ◌*◌, ◌<◌, T, length}
use Rattle.std.proofs.Common.{sym, ◌∙◌, arith}
use Rattle.std.proofs.Math.Path.{ap}
use Rattle.std.proofs.Math.Logic.Iff
use Rattle.std.proofs.Math.Bool.{false}
use Rattle.std.proofs.Math.Option.{Option, none, some}
use Rattle.ground.specs.TruthLaws.{both_is, not_is, test_fails, same_test}
use Rattle.ground.specs.Lists.{In, here, there}
use Rattle.shelf.specs.declared.Network.{Network}
use Rattle.shelf.specs.Network.{cycle}
use Rattle.shelf.specs.Rows.{row_count, α, β, γ, module_of}
use Rattle.shelf.proofs.LawfulLaws.{lawful_parts}
use Rattle.shelf.specs.Order.{order}
use Rattle.calls.specs.declared.Verdict.{Verdict}
use Rattle.choice.specs.Rule.{at, is_free, first_of, Step}
use Rattle.choice.specs.Colouring.{Free}
use Rattle.choice.specs.Rows.{centrals_of}
use Rattle.choice.proofs.RowsLaws.{centrals_length}
use Rattle.choice.proofs.Search.{Picked, nothing, picked, free_iff}
use Rattle.choice.proofs.StepLaws.{step_common, placed_new}
use Rattle.planner.specs.declared.Planned.{Planned}
use Rattle.planner.proofs.SettingsLaws.{central_of, settings_γ}
use Rattle.planner.proofs.Owed.{lawful_colours}
use Rattle.adding.specs.Adding as adding
use Rattle.adding.specs.Adding.{AddsCall, add_step, added_settings}
use Rattle.adding.specs.Appending.{module_before, module_new}
use Rattle.adding.proofs.AddingLaws.{whole_before}
use Rattle.dropping.specs.Dropping as dropping
use Rattle.dropping.specs.Dropping.{DropsCall, without_row}

abbrev pub CommonFree : Network → (calls settings call : List ℕ) → ℕ → Type 0
CommonFree net calls settings call c = In c (order net) × ((output : Bool) → Free (module_of calls output) (γ settings) (row_count calls) (module_of call output 0) c)

pub freed_common : {net : Network} {calls settings : List ℕ} {row : ℕ} {before after : dropping.Lent} {v : Verdict} → DropsCall net calls settings row before after v → v.number ≡ 0
    → (call : List ℕ) → ((output : Bool) → module_of call output 0 ≡ module_of calls output row)
    → CommonFree net (without_row 4 row calls) (without_row 3 row settings) call (γ settings row)
freed_common {net} {calls} {settings} {row} drops z call same =
    let h = drops.exactly.0 z in
    ((lawful_colours h.0 settings h.1).inside row h.2, λ output. rw (same output, ← (drops.tells_k z).0) (drops.freed z output))

-- a list is searched in its order: what stands in front of the first that passes fails
first_behind : (earlier later : List ℕ) (c : ℕ) (test : ℕ → Bool) → ((d : ℕ) → In d earlier → test d ≡ false) → test c ≡ true → first_of (earlier ++ (c ∷ later)) test ≡ some c
unfolding first_of
first_behind [] later c test fails passes = rw passes
first_behind (d ∷ earlier) later c test fails passes = rw (fails d (here refl)) (first_behind earlier later c test (λ e p. fails e (there p)) passes)

in_front : {x : ℕ} (xs ys : List ℕ) → In x xs → In x (xs ++ ys)
in_front [] ys p = elim p [ ]
in_front (y ∷ xs) ys (here e) = here e
in_front (y ∷ xs) ys (there p) = there (in_front xs ys p)

module _ {net : Network} {calls settings call : List ℕ} {before after : adding.Lent} {a : Planned} (adds : AddsCall net calls settings call before after a) (z : a.number ≡ 0) where
  abbrev K : ℕ
  K = row_count calls

  abbrev table : List ℕ
  table = calls ++ call

  abbrev test : ℕ → Bool
  test c = is_free (α table) (at (centrals_of settings)) K (α table K) c && is_free (β table) (at (centrals_of settings)) K (β table K) c

  whole : length calls ≡ 4 * K
  whole = whole_before calls call (adds.exactly.0 z).1 (adds.exactly.0 z).2

  settings_whole : length settings ≡ 3 * K
  settings_whole = ((lawful_parts net calls settings).0 (adds.exactly.0 z).0).whole

  central : (i : ℕ) → i < K → at (centrals_of settings) i ≡ γ settings i
  central = central_of settings K settings_whole

  free_is : (output : Bool) (c : ℕ) → Free (module_of table output) (at (centrals_of settings)) K (module_of table output K) c ↔ Free (module_of calls output) (γ settings) K (module_of call output 0) c
  free_is output c = (
    λ h q l e f. h q l (module_before calls call whole output q l ∙ e ∙ sym (module_new calls call whole output)) (central q l ∙ f),
    λ h q l e f. h q l (sym (module_before calls call whole output q l) ∙ e ∙ module_new calls call whole output) (sym (central q l) ∙ f),
  )

  -- what the choice rule's first search looks for
  common_is : (c : ℕ) → T (test c) ↔ ((output : Bool) → Free (module_of calls output) (γ settings) K (module_of call output 0) c)
  common_is c = Iff.trans (both_is (is_free (α table) (at (centrals_of settings)) K (α table K) c) (is_free (β table) (at (centrals_of settings)) K (β table K) c)) (
    λ h. sides ((free_is false c).0 ((free_iff (α table) (at (centrals_of settings)) K (α table K) c).0 h.0)) ((free_is true c).0 ((free_iff (β table) (at (centrals_of settings)) K (β table K) c).0 h.1)),
    λ h. ((free_iff (α table) (at (centrals_of settings)) K (α table K) c).1 ((free_is false c).1 (h false)), (free_iff (β table) (at (centrals_of settings)) K (β table K) c).1 ((free_is true c).1 (h true))),
  )
    where
      sides : Free (α calls) (γ settings) K (α call 0) c → Free (β calls) (γ settings) K (β call 0) c → (output : Bool) → Free (module_of calls output) (γ settings) K (module_of call output 0) c
      sides f t true = t
      sides f t false = f

  found : {c : ℕ} → first_of (order net) test ≡ some c → add_step net calls settings call ≡ record { centrals = centrals_of settings ++ (c ∷ []); moved = [] }
  unfolding add_step
  found {c} e = step_common (α table) (β table) (order net) (centrals_of settings) K c e

  pub nothing_moves : (c : ℕ) → CommonFree net calls settings call c → (add_step net calls settings call).moved ≡ []
  nothing_moves c h = go (first_of (order net) test) refl (picked (order net) test)
    where
      go : (o : Option ℕ) → first_of (order net) test ≡ o → Picked (order net) test o → (add_step net calls settings call).moved ≡ []
      go (some d) e p = ap (λ (s : Step). s.moved) (found e)
      go none e (nothing n) = absurd (n c h.0 ((common_is c).1 h.1))

  pub used_again : (c : ℕ) (earlier later : List ℕ) → order net ≡ earlier ++ (c ∷ later) → ((d : ℕ) → In d earlier → CommonFree net calls settings call d → ⊥)
      → CommonFree net calls settings call c → γ (added_settings net calls settings call) K ≡ c
  unfolding added_settings
  used_again c earlier later split none_before h =
      settings_γ (cycle net) (α table) (β table) (at (add_step net calls settings call).centrals) (suc K) K (omega arith)
      ∙ ap (λ (s : Step). at s.centrals K) (found first)
      ∙ placed_new (centrals_of settings) K c (centrals_length settings K settings_whole)
    where
      fails : (d : ℕ) → In d earlier → test d ≡ false
      fails d p = test_fails (test d) ((not_is (test d)).1 (λ t. none_before d p (rw split (in_front earlier (c ∷ later) p), (common_is d).0 t)))

      first : first_of (order net) test ≡ some c
      first = rw split (first_behind earlier later c test fails (same_test (test c) true (λ t. tt, λ t. (common_is c).1 h.1)))
