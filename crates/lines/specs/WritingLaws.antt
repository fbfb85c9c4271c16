-- Laws of what is written behind a text.
--   writes_none, writes_both, writes_same == nothing written, one part written behind the other, and equal bytes
use Rattle.std.specs.Prelude.{◌≡◌, refl, List, [], ◌++◌, ℕ}
use Rattle.std.proofs.Common.{◌∙◌, arith}
use Rattle.ground.specs.BytesLaws.{adds_none, adds_both, adds_same}
use Rattle.lines.specs.declared.text.Text.{Text}
use Rattle.lines.specs.Writing.{TextRoom, WritesText}

pub writes_none : (text : Text) → TextRoom text 0 → WritesText text text []
writes_none text room = record { same_buffer = refl; same_length = refl; adds = adds_none _ _ (omega arith) }

pub writes_both : {before between after : Text} {first second : List ℕ}
    → WritesText before between first → WritesText between after second → WritesText before after (first ++ second)
writes_both a b =
    record { same_buffer = b.same_buffer ∙ a.same_buffer; same_length = b.same_length ∙ a.same_length; adds = adds_both a.adds b.adds }

pub writes_same : {before after : Text} {bytes other : List ℕ} → WritesText before after bytes → bytes ≡ other → WritesText before after other
writes_same a e = record { same_buffer = a.same_buffer; same_length = a.same_length; adds = adds_same a.adds e }
