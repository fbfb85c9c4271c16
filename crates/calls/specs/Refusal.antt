-- "If an answer is an enum, a definition states this paper's number and values for each of the enum's cases. The promises use that
-- definition."
--   number_of, row_of   == the number and the row that a refusal tells
--   refused_by refusal  == both
--   checked_by check    == what a check tells: it passes, or a refusal
--   answered_by answer  == what an entry tells: success with K, or a refusal
--   with_verdict answer == a value, or what the refusal tells
use Rattle.std.specs.Prelude.{ℕ, Result, Ok, Err}
use Rattle.calls.specs.declared.refusal.Refusal.{Refusal}
use Rattle.calls.specs.declared.refusal.Refusal.TheVariants.{Sizes, Lengths, TooManyCalls, NoRoom, Outside, InletTwice, OutletTwice, Overfull, NotOwned, WrongCentral, WrongOutput, InputPairTwice, OutputPairTwice, NoTrailer, Distances, LongNote, NoSuchRow, UntoldCycle}
use Rattle.calls.specs.declared.Verdict.{Verdict}
use Rattle.calls.specs.Verdict.{success, passed}

abbrev pub number_of : Refusal → ℕ
number_of Sizes = 1
number_of Lengths = 2
number_of TooManyCalls = 3
number_of NoRoom = 4
number_of (Outside row) = 5
number_of (InletTwice row) = 6
number_of (OutletTwice row) = 7
number_of (Overfull row) = 8
number_of (NotOwned row) = 9
number_of (WrongCentral row) = 10
number_of (WrongOutput row) = 11
number_of (InputPairTwice row) = 12
number_of (OutputPairTwice row) = 13
number_of NoTrailer = 14
number_of Distances = 15
number_of LongNote = 16
number_of NoSuchRow = 17
number_of UntoldCycle = 18

-- "A refusal sought row by row tells the first such row, any other row 0."
abbrev pub row_of : Refusal → ℕ
row_of (Outside row) = row
row_of (InletTwice row) = row
row_of (OutletTwice row) = row
row_of (Overfull row) = row
row_of (NotOwned row) = row
row_of (WrongCentral row) = row
row_of (WrongOutput row) = row
row_of (InputPairTwice row) = row
row_of (OutputPairTwice row) = row
row_of Sizes = 0
row_of Lengths = 0
row_of TooManyCalls = 0
row_of NoRoom = 0
row_of NoTrailer = 0
row_of Distances = 0
row_of LongNote = 0
row_of NoSuchRow = 0
row_of UntoldCycle = 0

abbrev pub refused_by : Refusal → Verdict
refused_by refusal = record { number = number_of refusal; row = row_of refusal }

abbrev pub checked_by : {A : Type 0} → Result A Refusal → Verdict
checked_by (Ok value) = passed
checked_by (Err refusal) = refused_by refusal

abbrev pub answered_by : Result ℕ Refusal → Verdict
answered_by (Ok count) = success count
answered_by (Err refusal) = refused_by refusal

abbrev pub with_verdict : {A : Type 0} → Result A Refusal → Result A Verdict
with_verdict (Ok value) = Ok value
with_verdict (Err refusal) = Err (refused_by refusal)
