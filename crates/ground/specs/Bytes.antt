-- Bytes: numbers of two bytes, parts of a file, and what is written into a buffer. "Two-byte numbers have the high byte first."
--   high_byte v, low_byte v == the two bytes of a number
--   number_at bytes i      == the number whose two bytes stand at i
--   AllBytes bytes        == every element of the list is a byte
--   part bytes from to    == those from one position up to another
--   front buffer bytes    == the buffer with these bytes at its front, and those beyond as they were
--   Adds before after at next bytes == these bytes were written into the buffer from `at` on, and `next` is the position behind them
use Rattle.std.specs.Prelude.{◌≡◌, List, ◌++◌, ℕ, ◌+◌, ◌-◌, ◌*◌, ◌/◌, ◌%◌, ◌≤◌, ◌<◌, length, get_or, take, drop}

unfoldable pub high_byte : ℕ → ℕ
high_byte v = v / 256 % 256

unfoldable pub low_byte : ℕ → ℕ
low_byte v = v % 256

unfoldable pub number_at : List ℕ → ℕ → ℕ
number_at bytes i = get_or bytes i 0 * 256 + get_or bytes (i + 1) 0

abbrev pub AllBytes : List ℕ → Type 0
AllBytes bytes = (i : ℕ) → get_or bytes i 0 < 256

unfoldable pub part : List ℕ → ℕ → ℕ → List ℕ
part bytes from to = take (to - from) (drop from bytes)

unfoldable pub front : List ℕ → List ℕ → List ℕ
front buffer bytes = bytes ++ drop (length bytes) buffer

pub record Adds (before after : List ℕ) (at next : ℕ) (bytes : List ℕ) : Type 0 where
  pub fits : at + length bytes ≤ length before
  pub is_there : after ≡ take at before ++ bytes ++ drop (at + length bytes) before
  pub is_next : next ≡ at + length bytes
