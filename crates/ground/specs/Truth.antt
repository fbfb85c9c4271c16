-- Tests in a list, and what they say as types: one part for each test, from the front.
--   all ts       == every test of the list holds
--   any ts       == some test of the list holds
--   AllHold ts   == each of them holds
--   SomeHolds ts == one of them holds
--   NoneHolds ts == each of them fails
use Rattle.std.specs.Prelude.{◌⊎◌, Bool, true, false, not, ◌&&◌, ◌||◌, List, [], ◌∷◌, T}

unfoldable pub all : List Bool → Bool
all [] = true
all (t ∷ ts) = t && all ts

unfoldable pub any : List Bool → Bool
any [] = false
any (t ∷ ts) = t || any ts

abbrev pub AllHold : List Bool → Type 0
AllHold [] = Unit {0}
AllHold (t ∷ ts) = T t × AllHold ts

abbrev pub SomeHolds : List Bool → Type 0
SomeHolds [] = ⊥
SomeHolds (t ∷ ts) = T t ⊎ SomeHolds ts

abbrev pub NoneHolds : List Bool → Type 0
NoneHolds [] = Unit {0}
NoneHolds (t ∷ ts) = T (not t) × NoneHolds ts
