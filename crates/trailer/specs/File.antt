-- The kinds of plan file, and the file's layout, stated once for all kinds.
--   calls_only, planned, calls_with_cycle, planned_with_cycle == the four kinds
--   kind_number kind       == the number by which a kind is told, and Decodes number answer that the answer is the kind of this number, or that
--                            there is none
--   has_settings kind, has_cycle kind == what a kind is: whether its files hold settings, and whether their trailer holds the cycle
--   kind_with settings cycle == the kind that is both, either or neither
--   old_kinds, new_kinds, all_kinds == the kinds of the first issue, those with the cycle, and all; takes kinds kind that it is one of them
--   short_trailer, long_trailer == the bytes of a trailer without the cycle and with it, and trailer_length kind those of the kind's
--   most_note              == the most bytes that a note may have
--   mark                  == the mark at the trailer's end
--   settings_per_call kind  == the bytes of settings for each call
--   settings_distance kind K, calls_distance kind K == how far back from the trailer's start settings and calls begin
--   cycle_bytes net kind   == the bytes at the trailer's front that hold the cycle, and last_twelve net kind K the other twelve
--   trailer_of net kind K  == the trailer's bytes
--   file_of net kind note calls settings == the whole file
--   longest_of kind        == the bytes of the longest file of a kind, and longest_file of the longest file
use Rattle.std.specs.Prelude.{◌≡◌, Bool, false, cond, List, [], ◌∷◌, ◌++◌, ℕ, ◌+◌, ◌*◌, eqb, leb, Result, MatchResult}
use Rattle.ground.specs.Truth.{all, any}
use Rattle.ground.specs.Bytes.{high_byte, low_byte}
use Rattle.shelf.specs.declared.Network.{Network}
use Rattle.shelf.specs.Network.{most_calls}
use Rattle.shelf.specs.Rows.{row_count}
use Rattle.trailer.specs.declared.Kinds.{Kinds}
use Rattle.trailer.specs.declared.kind.Kind.{Kind}
use Rattle.trailer.specs.declared.kind.Kind.TheVariants.{CallsOnly, Planned, CallsWithCycle, PlannedWithCycle}
use Rattle.trailer.specs.declared.kind.UnknownKind.{UnknownKind}

-- ---- the kinds

-- "kind (1 calls only, 2 planned)"; "Kinds 3 (calls only) and 4 (planned)", with the cycle in them
unfoldable pub calls_only : ℕ
calls_only = 1

unfoldable pub planned : ℕ
planned = 2

unfoldable pub calls_with_cycle : ℕ
calls_with_cycle = 3

unfoldable pub planned_with_cycle : ℕ
planned_with_cycle = 4

abbrev pub kind_number : Kind → ℕ
kind_number CallsOnly = calls_only
kind_number Planned = planned
kind_number CallsWithCycle = calls_with_cycle
kind_number PlannedWithCycle = planned_with_cycle

-- what a kind is: two facts
unfoldable pub has_settings : ℕ → Bool
has_settings kind = any (eqb kind planned ∷ eqb kind planned_with_cycle ∷ [])

unfoldable pub has_cycle : ℕ → Bool
has_cycle kind = any (eqb kind calls_with_cycle ∷ eqb kind planned_with_cycle ∷ [])

unfoldable pub kind_with : Bool → Bool → ℕ
kind_with settings cycle = cond cycle (cond settings planned_with_cycle calls_with_cycle) (cond settings planned calls_only)

-- The kinds that a reader takes. Of the first issue: "kind not 1 or 2" is 14. "in 14 the kinds are now 1 to 4, or those the conversion takes"
unfoldable pub takes : Kinds → ℕ → Bool
takes kinds kind = all (leb kinds.first kind ∷ leb kind kinds.last ∷ [])

unfoldable pub old_kinds : Kinds
old_kinds = record { first = calls_only; last = planned }

unfoldable pub new_kinds : Kinds
new_kinds = record { first = calls_with_cycle; last = planned_with_cycle }

unfoldable pub all_kinds : Kinds
all_kinds = record { first = calls_only; last = planned_with_cycle }

abbrev pub Decodes : ℕ → Result Kind UnknownKind → Type 0
Decodes number answer = MatchResult answer (λ kind. kind_number kind ≡ number) (λ unknown. (unknown.0 ≡ number) × (takes all_kinds number ≡ false))

-- ---- the layout

-- "12 trailer bytes"; kinds 3 and 4 "have two more bytes at the front of the trailer"
unfoldable pub short_trailer : ℕ
short_trailer = 12

unfoldable pub long_trailer : ℕ
long_trailer = 14

unfoldable pub trailer_length : ℕ → ℕ
trailer_length kind = cond (has_cycle kind) long_trailer short_trailer

-- "a note (0 to 255 bytes of any value)"
unfoldable pub most_note : ℕ
most_note = 255

-- "the mark 41 57 hexadecimal", two bytes as one number
unfoldable pub mark : ℕ
mark = 0x4157

-- "K settings rows if planned", of 3 bytes each
unfoldable pub settings_per_call : ℕ → ℕ
settings_per_call kind = cond (has_settings kind) 3 0

-- "distance from the trailer's start back to the first settings row (2 bytes: 0 for kind 1, 3K for kind 2), distance back to
-- the first call row (2 bytes: 4K or 7K)"; "distances count from the start of the longer trailer"
unfoldable pub settings_distance : ℕ → ℕ → ℕ
settings_distance kind K = settings_per_call kind * K

unfoldable pub calls_distance : ℕ → ℕ → ℕ
calls_distance kind K = 4 * K + settings_distance kind K

-- "W and a zero"
unfoldable pub cycle_bytes : Network → ℕ → List ℕ
cycle_bytes net kind = cond (has_cycle kind) (net.w ∷ 0 ∷ []) []

-- "12 trailer bytes: n, m, r, kind .., K (2 bytes), distance .. back to the first settings row (2 bytes ..), distance back to
-- the first call row (2 bytes ..), and the mark"; "The other twelve are as before"
unfoldable pub last_twelve : Network → ℕ → ℕ → List ℕ
last_twelve net kind K =
    net.n ∷ net.m ∷ net.r ∷ kind
    ∷ high_byte K ∷ low_byte K
    ∷ high_byte (settings_distance kind K) ∷ low_byte (settings_distance kind K)
    ∷ high_byte (calls_distance kind K) ∷ low_byte (calls_distance kind K)
    ∷ high_byte mark ∷ low_byte mark ∷ []

unfoldable pub trailer_of : Network → ℕ → ℕ → List ℕ
trailer_of net kind K = cycle_bytes net kind ++ last_twelve net kind K

-- "the trailer stands last and points back. A file is a note .., K call rows, K settings rows if planned, and 12 trailer bytes", or 14
unfoldable pub file_of : Network → ℕ → List ℕ → List ℕ → List ℕ → List ℕ
file_of net kind note calls settings = note ++ calls ++ settings ++ trailer_of net kind (row_count calls)

-- "The longest file is 7,435 bytes.": the longest note, the most calls, and their settings. The longest with the cycle has two bytes more.
unfoldable pub longest_of : ℕ → ℕ
longest_of kind = most_note + calls_distance kind most_calls + trailer_length kind

unfoldable pub longest_file : ℕ
longest_file = longest_of planned_with_cycle
