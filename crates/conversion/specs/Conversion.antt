-- What the conversions answer and what they leave in the buffer, as functions of their input: one definition for both ways.
--   kinds_for to, cycle_for to == the kinds that are converted this way, and whether the files that are made hold the cycle
--   recast_file cycle layout file == the parts of a file with this layout, as a file with the cycle or without it
--   recast_checks cycle layout file room == 18 and 4
--   converted_file cycle file == the converted file
--   conversion_checks kinds cycle file room == all checks of a reader that takes these kinds, then 18 and 4
--   conversion_verdict .., conversion_buffer .. == the answer, and the buffer afterwards
--   Recasts, Converts     == what the functions guarantee
--   as_kind kind told      == what is told, but for the kind
use Rattle.std.specs.Prelude.{◌≡◌, Bool, true, false, cond, List, [], ◌∷◌, ℕ, T, eqb, length}
use Rattle.ground.specs.Bytes.{part, front}
use Rattle.shelf.specs.Network.{has_least_cycle}
use Rattle.calls.specs.declared.Verdict.{Verdict}
use Rattle.calls.specs.Verdict.{answer}
use Rattle.trailer.specs.declared.Kinds.{Kinds}
use Rattle.trailer.specs.declared.Layout.{Layout}
use Rattle.trailer.specs.declared.Told.{Told}
use Rattle.trailer.specs.File.{has_settings, kind_with, old_kinds, new_kinds, takes, file_of}
use Rattle.trailer.specs.Trailer.{kind_in, told_net, layout_of}
use Rattle.planfile.specs.Reader.{reader_verdict}
use Rattle.planwriter.specs.Writer.{short_buffer, other_cycle}
use Rattle.conversion.specs.declared.To.{To}
use Rattle.conversion.specs.declared.To.TheVariants.{New, Old}

-- "Old files convert to new and new to old"
abbrev pub kinds_for : To → Kinds
kinds_for New = old_kinds
kinds_for Old = new_kinds

abbrev pub cycle_for : To → Bool
cycle_for New = true
cycle_for Old = false

-- "Old files convert to new and new to old": note, calls, settings and network stay, and the kind has the cycle or not
unfoldable pub recast_file : Bool → Layout → List ℕ → List ℕ
recast_file cycle layout file =
    file_of layout.net (kind_with (has_settings layout.kind) cycle)
    (part file 0 layout.calls_at)
    (part file layout.calls_at layout.settings_at)
    (part file layout.settings_at layout.trailer_at)

unfoldable pub converted_file : Bool → List ℕ → List ℕ
converted_file cycle file = recast_file cycle (layout_of file) file

-- "in a conversion, after all reader checks, 18 for a W that isn't the larger of r and m, then 4"
unfoldable pub recast_checks : Bool → Layout → List ℕ → ℕ → List Verdict
recast_checks cycle layout file room = other_cycle layout.net ∷ short_buffer (length (recast_file cycle layout file)) room ∷ []

unfoldable pub conversion_checks : Kinds → Bool → List ℕ → ℕ → List Verdict
conversion_checks kinds cycle file room = reader_verdict kinds file ∷ recast_checks cycle (layout_of file) file room

unfoldable pub conversion_verdict : Kinds → Bool → List ℕ → ℕ → Verdict
conversion_verdict kinds cycle file room = answer (conversion_checks kinds cycle file room) (layout_of file).count

-- "All refusals .. write nothing anywhere. Success writes .. exactly the file ..; bytes beyond keep their values."
unfoldable pub conversion_buffer : Kinds → Bool → List ℕ → List ℕ → List ℕ
conversion_buffer kinds cycle file before =
    cond (eqb (conversion_verdict kinds cycle file (length before)).number 0) (front before (converted_file cycle file)) before

-- ---- what is guaranteed

pub record Recasts (cycle : Bool) (layout : Layout) (file before after : List ℕ) (v : Verdict) : Type 0 where
  pub answer : v ≡ answer (recast_checks cycle layout file (length before)) layout.count
  pub unchanged : (v.number ≡ 0 → ⊥) → after ≡ before
  pub written : v.number ≡ 0 → after ≡ front before (recast_file cycle layout file)

pub record Converts (kinds : Kinds) (cycle : Bool) (file before after : List ℕ) (v : Verdict) : Type 0 where
  -- number and row, and every byte of the buffer, for every input
  pub answer : v ≡ conversion_verdict kinds cycle file (length before)
  pub buffer : after ≡ conversion_buffer kinds cycle file before
  -- a refusal changes no byte; success writes exactly the converted file, and bytes beyond keep their values
  pub unchanged : (v.number ≡ 0 → ⊥) → after ≡ before
  pub written : v.number ≡ 0 → after ≡ front before (converted_file cycle file)
  -- "Success is 0, with K in the place of the row"
  pub tells_k : v.number ≡ 0 → v.row ≡ (layout_of file).count
  -- what was converted is of a kind that is taken, and its cycle is the larger of r and m, so that none is lost
  pub taken : v.number ≡ 0 → T (takes kinds (kind_in file))
  pub least_cycle : v.number ≡ 0 → T (has_least_cycle (told_net file))

-- what a reader tells, with another kind
unfoldable pub as_kind : ℕ → Told → Told
as_kind kind told = record {
  number = told.number;
  row = told.row;
  n = told.n;
  m = told.m;
  r = told.r;
  w = told.w;
  kind = kind;
  count = told.count;
  note_at = told.note_at;
  calls_at = told.calls_at;
  settings_at = told.settings_at;
}
