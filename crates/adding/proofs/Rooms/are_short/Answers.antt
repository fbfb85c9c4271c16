-- `adding::Rooms::are_short` meets its contract: the tests of the three buffers.
use Rattle.std.proofs.Common.{◌≡◌, ◌∙◌, sym, ⊎_elim, Bool, true, false, ℕ, ◌≤◌, ◌<◌, ◌*◌, ltb, arith, lt-ltb, le-ltb}
use Rattle.std.proofs.lemmas.Bool.{cases_lt}
use Rattle.ground.specs.TruthLaws.{not_both}
use Rattle.adding.proofs.AddingLaws.{short_calls, short_settings, short_moved, enough}
use Rattle.adding.proofs.Rooms.are_short.Goals as goal
use Rattle.adding.proofs.Rooms.are_short.Goals.{then-self-row, else-self-row}

less : {v : Bool} {a b : ℕ} → v ≡ ltb a b → v ≡ true → a < b
less {a = a} {b = b} e h = ⊎_elim (λ l. l) (λ m. not_both h (e ∙ le-ltb a b m)) (cases_lt a b)

at_most : {v : Bool} {a b : ℕ} → v ≡ ltb a b → v ≡ false → b ≤ a
at_most {a = a} {b = b} e h = ⊎_elim (λ l. not_both (e ∙ lt-ltb a b l) h) (λ m. m) (cases_lt a b)

pub returns-then-self-row-2 : goal.returns-then-self-row-2
returns-then-self-row-2 c =
    c.if-self-row-2.true
    ∙ sym (elim c.if-self-row.branch [
      | then-self-row w ↦ short_calls _ _ _ _ (omega (arith, w.if-self-row.true))
      | else-self-row w ↦ short_settings _ _ _ _ (omega (arith, less w.value-is c.if-self-row-2.true))
    ])

pub returns-else-self-row-2 : goal.returns-else-self-row-2
returns-else-self-row-2 c = elim c.if-self-row.branch [
  | then-self-row w ↦ not_both (w.value-is ∙ lt-ltb _ _ w.if-self-row.true) c.if-self-row-2.false
  | else-self-row w ↦
      ⊎_elim (λ l. lt-ltb _ _ l ∙ sym (short_moved _ _ _ _ l))
      (λ m. le-ltb _ _ m ∙ sym (enough _ _ _ _ (omega (arith, w.if-self-row.false)) (omega (arith, at_most w.value-is c.if-self-row-2.false)) m))
      (cases_lt c.args.self.moved (2 * c.args.row))
]
