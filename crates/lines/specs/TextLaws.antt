-- Laws of the text: a number's digits one by one and how many there are, and a line as the numbers before its last word.
--   decimal_one, decimal_more == a number of one digit, and the last digit of another
--   decimal_printed        == what the library prints of any number in the code is its `decimal`
--   number_length          == how many digits any number in the code has at most
--   spaced_more, spaced_room == one number more with a space behind it, and that there is room for it among all of them
--   first_line_is, table_text_is, planned_text_is, too_long_is, refused_is == the texts as they are written
--   sizes_length           == the room that the sizes and K take
--   listing_room, first_line_room == the longest listing has room for a first line, and behind it for the lines of all rows
--   RowWidths i call light == how many digits the numbers of a row's line have at most, and row_widths that they do
--   numbers ..             == the numbers of a row's line before the last, and row_line_told that they are that line
use Rattle.std.specs.Fmt as Fmt
use Rattle.std.specs.Prelude.{◌≡◌, refl, Bool, true, false, List, [], ◌∷◌, ◌++◌, ℕ, zero, suc, ◌+◌, ◌*◌, ◌/◌, ◌%◌, ◌^◌, ◌≤◌, ◌<◌, ltb, length, take, get_or}
use Rattle.std.proofs.Common.{sym, ap, ◌∙◌, append_assoc, arith, length-append, lt-ltb, le-ltb, ltb-true, ltb-false}
use Rattle.std.proofs.lemmas.Fmt.{AppendsLastDigit, decimal_from_appends, length-decimal-le}
use Rattle.shelf.specs.declared.Network.{Network}
use Rattle.shelf.specs.declared.CallRow.{CallRow}
use Rattle.shelf.specs.declared.SettingsRow.{SettingsRow}
use Rattle.shelf.specs.Network.{most_calls}
use Rattle.shelf.specs.Rows.{row_count, α, ω, β, ω', x, γ, y, CallRead, SettingsRead}
use Rattle.lines.specs.Text.{space, newline, digits, decimal, line, too_word, long_word, too_long_text, refused_word, row_word, refused_text, first_line, row_line, row_lines, table_text, planned_text, dash}
use Rattle.lines.specs.Writing.{byte_digits, row_digits, number_digits, most_sizes, most_first_line, most_row_line, longest_listing, spaced}

-- more steps than the number has change nothing
same_digits : (s t n : ℕ) → n < s → n < t → digits s n ≡ digits t n
unfolding digits
same_digits zero t n h k = absurd (omega arith)
same_digits (suc s) zero n h k = absurd (omega arith)
same_digits (suc s) (suc t) n h k = go (λ l. same_digits s t (n / 10) (omega arith) (omega arith)) (ltb n 10) refl
  where
    go : (10 ≤ n → digits s (n / 10) ≡ digits t (n / 10)) → (b : Bool) → ltb n 10 ≡ b → digits (suc s) n ≡ digits (suc t) n
    go rest true e = rw e
    go rest false e = let r = rest (ltb-false n 10 e) in rw (e, r)

-- one digit, and the last of several
pub decimal_one : (n : ℕ) → n < 10 → decimal n ≡ (48 + n) ∷ []
unfolding decimal digits
decimal_one n h = rw (lt-ltb n 10 h)

pub decimal_more : (n : ℕ) → 10 ≤ n → decimal n ≡ decimal (n / 10) ++ (48 + n % 10) ∷ []
unfolding decimal digits
decimal_more n h = rw (le-ltb n 10 h) (ap (λ (d : List ℕ). d ++ (48 + n % 10) ∷ []) (same_digits n (suc (n / 10)) (n / 10) (omega arith) (omega arith)))

-- 1 with k zeros behind it
unfoldable tens : ℕ → ℕ
tens zero = 1
tens (suc k) = 10 * tens k

-- how many digits there are
decimal_length : (k n : ℕ) → n < tens (suc k) → length (decimal n) ≤ suc k
unfolding tens
decimal_length zero n h = rw (decimal_one n (omega arith)) (omega arith)
decimal_length (suc k) n h = go (decimal_length k (n / 10) (omega arith)) (ltb n 10) refl
  where
    go : length (decimal (n / 10)) ≤ suc k → (b : Bool) → ltb n 10 ≡ b → length (decimal n) ≤ suc (suc k)
    go rest true e = rw (decimal_one n (ltb-true n 10 e)) (omega arith)
    go rest false e = rw (decimal_more n (ltb-false n 10 e)) (simp length-append (omega arith))

-- what the library prints
pub decimal_printed : (n : ℕ) → n < 2 ^ 64 → Fmt.decimal n ≡ decimal n
decimal_printed n h =
    let appends : AppendsLastDigit (λ _ m. decimal m) = record { one = λ _. decimal_one; more = λ _. decimal_more } in
    sym (decimal_from_appends (λ _ m. decimal m) appends 20 n h (length-decimal-le 20 n (omega arith) (omega arith) h))

-- of a byte, of a row's number, and of any number in the code
byte_length : (n : ℕ) → n < 256 → length (decimal n) ≤ byte_digits
unfolding byte_digits tens
byte_length n h = decimal_length 2 n (omega arith)

row_length : (n : ℕ) → n < most_calls → length (decimal n) ≤ row_digits
unfolding row_digits most_calls tens
row_length n h = decimal_length 3 n (omega arith)

pub number_length : (n : ℕ) → n < 2 ^ 64 → length (decimal n) ≤ number_digits
unfolding number_digits tens
number_length n h = decimal_length 19 n (omega arith)

-- numbers one behind the other
pub spaced_more : (numbers : List ℕ) (i : ℕ) → i < length numbers
    → spaced (take (suc i) numbers) ≡ spaced (take i numbers) ++ decimal (get_or numbers i 0) ++ space ∷ []
unfolding spaced
spaced_more [] i h = absurd (omega arith)
spaced_more (number ∷ numbers) zero h = refl
spaced_more (number ∷ numbers) (suc i) h =
    ap (λ (r : List ℕ). decimal number ++ space ∷ r) (spaced_more numbers i (omega arith)) ∙ simp append_assoc

pub spaced_room : (numbers : List ℕ) (i : ℕ) → i < length numbers
    → length (spaced (take i numbers)) + length (decimal (get_or numbers i 0)) + 1 ≤ length (spaced numbers)
unfolding spaced
spaced_room [] i h = absurd (omega arith)
spaced_room (number ∷ numbers) zero h = simp length-append (omega arith)
spaced_room (number ∷ numbers) (suc i) h = simp length-append (omega (arith, spaced_room numbers i (omega arith)))

-- the words of a first line, of a row's line, of a refusal and of a file that is too long, as they are written
pub first_line_is : (net : Network) (K : ℕ) (moved : List ℕ)
    → first_line net K moved ≡ spaced (net.n ∷ net.m ∷ net.r ∷ K ∷ []) ++ moved ++ newline ∷ []
unfolding first_line line spaced
first_line_is net K moved = simp append_assoc

pub table_text_is : (net : Network) (calls settings moved : List ℕ)
    → table_text net calls settings moved ≡ spaced (net.n ∷ net.m ∷ net.r ∷ row_count calls ∷ []) ++ moved ++ newline ∷ [] ++ row_lines calls settings (row_count calls)
unfolding table_text
table_text_is net calls settings moved = rw (first_line_is net (row_count calls) moved)

pub planned_text_is : (net : Network) (calls settings : List ℕ)
    → planned_text net calls settings ≡ spaced (net.n ∷ net.m ∷ net.r ∷ row_count calls ∷ []) ++ (45 ∷ 10 ∷ []) ++ row_lines calls settings (row_count calls)
unfolding planned_text dash newline
planned_text_is net calls settings = table_text_is net calls settings (dash ∷ []) ∙ simp append_assoc

row_line_is : (calls settings : List ℕ) (i : ℕ)
    → row_line calls settings i ≡ spaced (i ∷ α calls i ∷ ω calls i ∷ x settings i ∷ γ settings i ∷ y settings i ∷ β calls i ∷ []) ++ decimal (ω' calls i) ++ newline ∷ []
unfolding row_line line spaced
row_line_is calls settings i = simp append_assoc

pub too_long_is : too_long_text ≡ 116 ∷ 111 ∷ 111 ∷ 32 ∷ 108 ∷ 111 ∷ 110 ∷ 103 ∷ 10 ∷ []
unfolding too_long_text too_word long_word line space newline
too_long_is = refl

pub refused_is : (number row : ℕ)
    → refused_text number row ≡ (114 ∷ 101 ∷ 102 ∷ 117 ∷ 115 ∷ 101 ∷ 100 ∷ 32 ∷ []) ++ decimal number ++ (32 ∷ 114 ∷ 111 ∷ 119 ∷ 32 ∷ []) ++ decimal row ++ newline ∷ []
unfolding refused_text refused_word row_word line space
refused_is number row = simp append_assoc

-- the room that they take
pub sizes_length : (n m r K : ℕ) → length (decimal n) ≤ number_digits → length (decimal m) ≤ number_digits → length (decimal r) ≤ number_digits → length (decimal K) ≤ number_digits
    → length (spaced (n ∷ m ∷ r ∷ K ∷ [])) ≤ most_sizes
unfolding spaced most_sizes
sizes_length n m r K a b c d = simp length-append (omega arith)

-- the longest listing has room for a first line, and behind it for the lines of all rows
pub listing_room : (K : ℕ) → K ≤ most_calls → most_first_line + most_row_line * K ≤ longest_listing
unfolding longest_listing most_row_line byte_digits row_digits
listing_room K h = omega arith

pub first_line_room : most_first_line ≤ longest_listing
first_line_room = omega (arith, listing_room 0 (omega arith))

pub record RowWidths (i : ℕ) (call : CallRow) (light : SettingsRow) : Type 0 where
  pub row : length (decimal i) ≤ row_digits
  pub input_module : length (decimal call.input_module) ≤ byte_digits
  pub input_channel : length (decimal call.input_channel) ≤ byte_digits
  pub output_module : length (decimal call.output_module) ≤ byte_digits
  pub output_channel : length (decimal call.output_channel) ≤ byte_digits
  pub to_central : length (decimal light.to_central) ≤ byte_digits
  pub central : length (decimal light.central) ≤ byte_digits
  pub from_central : length (decimal light.from_central) ≤ byte_digits

module _ (calls settings : List ℕ) (i : ℕ) (below : i < most_calls) (call : CallRow) (light : SettingsRow) (read : CallRead calls i call) (lit : SettingsRead settings i light) where
  -- the numbers of a row's line, as the code's row records hold them
  abbrev pub numbers : List ℕ
  numbers =
      i ∷ call.input_module ∷ call.input_channel ∷ light.to_central ∷ light.central ∷ light.from_central ∷ call.output_module ∷ []

  pub row_line_told : spaced numbers ++ decimal call.output_channel ++ newline ∷ [] ≡ row_line calls settings i
  row_line_told = rw (read.input_module, read.input_channel, read.output_module, read.output_channel, lit.to_central, lit.central, lit.from_central) (sym (row_line_is calls settings i))

  -- how long they are at most, one by one
  pub row_widths : RowWidths i call light
  row_widths = record {
    row = row_length i below;
    input_module = byte_length call.input_module read.small_input_module;
    input_channel = byte_length call.input_channel read.small_input_channel;
    output_module = byte_length call.output_module read.small_output_module;
    output_channel = byte_length call.output_channel read.small_output_channel;
    to_central = byte_length light.to_central lit.small_to_central;
    central = byte_length light.central lit.small_central;
    from_central = byte_length light.from_central lit.small_from_central;
  }
