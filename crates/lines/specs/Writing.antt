-- What the writing functions guarantee, and the room that they need.
--   spaced numbers  == each number in decimal with a space behind it
--   byte_digits, row_digits, number_digits == the most digits of a byte, of a row's number, and of any number in the code
--   most_sizes, most_first_line, most_row_line == so many bytes are enough for the sizes and K, for a first line or a refusal, and for
--                      the line of a row
--   longest_listing  == so many bytes are enough for every listing
--   TextRoom text size == the text's buffer has room for so many bytes more
--   WritesText before after bytes == these bytes were written behind the text so far, in the same buffer
--   moved_word moved == the word for the moved count: the count in decimal, or a dash where there is none
--   HasRow calls settings row, HasRows calls settings == the row, and all rows, stand in calls and settings
--   Lists file before after size == what the entry guarantees
use Rattle.std.specs.Prelude.{◌≡◌, Option, Some, None, List, [], ◌∷◌, ◌++◌, ℕ, ◌+◌, ◌*◌, ◌≤◌, ◌<◌, length}
use Rattle.ground.specs.Bytes.{front, Adds}
use Rattle.shelf.specs.Network.{most_calls}
use Rattle.shelf.specs.Rows.{row_count}
use Rattle.lines.specs.declared.text.Text.{Text}
use Rattle.lines.specs.Text.{space, dash, decimal, listing}

unfoldable pub spaced : List ℕ → List ℕ
spaced [] = []
spaced (number ∷ numbers) = decimal number ++ space ∷ spaced numbers

-- a byte is below 256, a row's number below the most calls, and any number in the code below 2 ^ 64
unfoldable pub byte_digits : ℕ
byte_digits = 3

unfoldable pub row_digits : ℕ
row_digits = 4

unfoldable pub number_digits : ℕ
number_digits = 20

-- n, m, r and K, and behind them the moved count: any numbers, each with a space or a newline behind it
unfoldable pub most_sizes : ℕ
most_sizes = 4 * (number_digits + 1)

unfoldable pub most_first_line : ℕ
most_first_line = most_sizes + (number_digits + 1)

-- a row's number and the seven bytes of its call and its settings, each with a space or a newline behind it
unfoldable pub most_row_line : ℕ
most_row_line = (row_digits + 1) + 7 * (byte_digits + 1)

unfoldable pub longest_listing : ℕ
longest_listing = most_first_line + most_row_line * most_calls

abbrev pub TextRoom : Text → ℕ → Type 0
TextRoom text size = text.end + size ≤ length text.out.now

pub record WritesText (before after : Text) (bytes : List ℕ) : Type 0 where
  pub same_buffer : after.out.ghost_name ≡ before.out.ghost_name
  pub same_length : length after.out.now ≡ length before.out.now
  pub adds : Adds before.out.now after.out.now before.end after.end bytes

abbrev pub moved_word : Option ℕ → List ℕ
moved_word (Some moved) = decimal moved
moved_word None = dash ∷ []

pub record HasRow (calls settings : List ℕ) (row : ℕ) : Type 0 where
  pub below : row < most_calls
  pub a_call : 4 * row + 4 ≤ length calls
  pub its_settings : 3 * row + 3 ≤ length settings

pub record HasRows (calls settings : List ℕ) : Type 0 where
  pub few : row_count calls ≤ most_calls
  pub settings_length : 3 * row_count calls ≤ length settings

pub record Lists (file before after : List ℕ) (size : ℕ) : Type 0 where
  -- every byte of the buffer: the text stands at its front, and the bytes beyond keep their values
  pub buffer : after ≡ front before (listing file)
  pub is_size : size ≡ length (listing file)
  pub inside : size ≤ length before
