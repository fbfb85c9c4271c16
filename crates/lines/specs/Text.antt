-- The text that the listing prints, as a function of the file's bytes.
--   space, newline, dash  == the bytes between the words of a line, after a line, and in the place of a moved count
--   decimal n             == the decimal digits of n as bytes, the highest first: no zero leads, and 0 is `0`; digits steps n, at most
--                            so many of them
--   line words            == a line of these words: one space between, a newline after
--   too_word, long_word, refused_word, row_word == the words `too`, `long`, `refused` and `row`
--   too_long_text           == `too long`
--   refused_text C R       == `refused C row R`
--   first_line net K moved == the first line: n, m, r, K and the word for the moved count
--   row_line calls settings i == the line of row i, and row_lines calls settings k those of the rows below k
--   table_text net calls settings moved == the first line and the lines of all rows
--   planned_text, calls_text == what is printed of a file with settings, and of one without
--   told_text file told    == what is printed of a file of which a reader tells this
--   listing file          == all that is printed
use Rattle.std.specs.Prelude.{cond, List, [], ◌∷◌, ◌++◌, map, ℕ, zero, suc, ◌+◌, ◌*◌, ◌/◌, ◌%◌, eqb, ltb, length}
use Rattle.shelf.specs.declared.Network.{Network}
use Rattle.shelf.specs.Network.{most_calls}
use Rattle.shelf.specs.Rows.{row_count, α, ω, β, ω', x, γ, y}
use Rattle.planner.specs.Planner.{planned_settings, plan_answer}
use Rattle.trailer.specs.declared.Told.{Told}
use Rattle.trailer.specs.File.{has_settings, all_kinds, longest_file}
use Rattle.planfile.specs.Reader.{read_answer, calls_in, settings_in, net_of}

unfoldable pub space : ℕ
space = 32

unfoldable pub newline : ℕ
newline = 10

unfoldable pub dash : ℕ
dash = 45

-- "decimal": the digit d is the byte 48 + d. Each step takes the last digit off, so n + 1 steps are enough.
unfoldable pub digits : ℕ → ℕ → List ℕ
digits zero n = []
digits (suc steps) n = cond (ltb n 10) ((48 + n) ∷ []) (digits steps (n / 10) ++ (48 + n % 10) ∷ [])

unfoldable pub decimal : ℕ → List ℕ
decimal n = digits (suc n) n

-- "One space between, decimal, a newline after each line."
unfoldable pub line : List (List ℕ) → List ℕ
line [] = newline ∷ []
line (word ∷ []) = word ++ newline ∷ []
line (word ∷ next ∷ words) = word ++ space ∷ line (next ∷ words)

-- "if more comes it prints `too long`"
unfoldable pub too_word : List ℕ
too_word = 116 ∷ 111 ∷ 111 ∷ []

unfoldable pub long_word : List ℕ
long_word = 108 ∷ 111 ∷ 110 ∷ 103 ∷ []

unfoldable pub too_long_text : List ℕ
too_long_text = line (too_word ∷ long_word ∷ [])

-- "A refusal prints `refused C row R`."
unfoldable pub refused_word : List ℕ
refused_word = 114 ∷ 101 ∷ 102 ∷ 117 ∷ 115 ∷ 101 ∷ 100 ∷ []

unfoldable pub row_word : List ℕ
row_word = 114 ∷ 111 ∷ 119 ∷ []

unfoldable pub refused_text : ℕ → ℕ → List ℕ
refused_text number row = line (refused_word ∷ decimal number ∷ row_word ∷ decimal row ∷ [])

-- "The first line is n, m, r, K and the moved count (`-` for kind 2)"
unfoldable pub first_line : Network → ℕ → List ℕ → List ℕ
first_line net K moved = line (decimal net.n ∷ decimal net.m ∷ decimal net.r ∷ decimal K ∷ moved ∷ [])

-- "then per row: row, α, ω, x, γ, y, β, ω'"
unfoldable pub row_line : List ℕ → List ℕ → ℕ → List ℕ
row_line calls settings i =
    line (map decimal (i ∷ α calls i ∷ ω calls i ∷ x settings i ∷ γ settings i ∷ y settings i ∷ β calls i ∷ ω' calls i ∷ []))

unfoldable pub row_lines : List ℕ → List ℕ → ℕ → List ℕ
row_lines calls settings zero = []
row_lines calls settings (suc k) = row_lines calls settings k ++ row_line calls settings k

unfoldable pub table_text : Network → List ℕ → List ℕ → List ℕ → List ℕ
table_text net calls settings moved = first_line net (row_count calls) moved ++ row_lines calls settings (row_count calls)

-- "kind 2 accepted": by the reader, which refuses settings that are not accepted
unfoldable pub planned_text : Network → List ℕ → List ℕ → List ℕ
planned_text net calls settings = table_text net calls settings (dash ∷ [])

-- "Kind 1 is planned", with room for the settings of the longest table
unfoldable pub calls_text : Network → List ℕ → List ℕ
calls_text net calls =
    let answer = plan_answer net calls (3 * most_calls) in
    cond (eqb answer.number 0)
    (table_text net calls (planned_settings net calls) (decimal answer.moved))
    (refused_text answer.number answer.row)

-- "The listing program treats 3 as 1 and 4 as 2, prints no W"
unfoldable pub told_text : List ℕ → Told → List ℕ
told_text file told =
    cond (eqb told.number 0)
    (cond (has_settings told.kind) (planned_text (net_of told) (calls_in file told) (settings_in file told)) (calls_text (net_of told) (calls_in file told)))
    (refused_text told.number told.row)

-- "It reads one file on standard input, up to 7,435 bytes; if more comes it prints `too long`."; now it "reads up to 7,437 bytes"
unfoldable pub listing : List ℕ → List ℕ
listing file = cond (ltb longest_file (length file)) too_long_text (told_text file (read_answer all_kinds file))
