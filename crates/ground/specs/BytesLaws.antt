-- Laws of bytes.
--   number_of_bytes       == the two bytes of a number, one behind the other, are the number
--   high_number, low_number == and taken from it again, they are the bytes
--   length_part, part_at, part_none, part_bytes == how long a part is, what stands in it, a part with nothing in it, and that it holds bytes
--   take_part, part_middle == what stands before a part, with the part behind it; and the part between two others
--   listed i k bytes      == k bytes from i on, one by one, and listed_all that they are all that there are
--   adds_none, adds_byte, adds_both == nothing written, one byte written, and one part written behind the other
--   take_front            == the bytes at a buffer's front, taken from it again
--   adds_length, adds_front, adds_taken, adds_same == the buffer keeps its length; what is written from 0 on stands at its front, and is taken
--                            from there again; equal bytes
use Rattle.std.specs.Prelude.{◌≡◌, refl, List, [], ◌∷◌, ◌++◌, ℕ, zero, suc, ◌+◌, ◌-◌, ◌*◌, ◌≤◌, ◌<◌, get_or, take, drop, set}
use Rattle.std.proofs.Common.{sym, ap, subst, ◌∙◌, append_assoc, zero-add, add-one, arith, length-append, length-drop, drop_of_length-le, drop-cons, take-add, take_at, drop_at, drop-drop, get_or-take, get_or-drop}
use Rattle.std.proofs.Math.Decide.{dec_lt}
use Rattle.std.proofs.Math.Nat.{add-sub_cancel_left}
use Rattle.std.proofs.Math.ListN.{length, length-take, get_or-eq_default}
use Rattle.std.proofs.Math.Seq.{append_snoc, paste-zero, take-append_seam, drop-append_seam}
use Rattle.std.proofs.lemmas.List.{set_split}
use Rattle.ground.specs.Bytes.{high_byte, low_byte, number_at, AllBytes, part, front, Adds}

pub number_of_bytes : (v : ℕ) → v < 65536 → high_byte v * 256 + low_byte v ≡ v
unfolding high_byte low_byte
number_of_bytes v h = omega arith

pub part_at : (bytes : List ℕ) (from to i : ℕ) → i < to - from → get_or (part bytes from to) i 0 ≡ get_or bytes (from + i) 0
unfolding part
part_at bytes from to i l = get_or-take (to - from) (drop from bytes) i 0 l ∙ get_or-drop from bytes i 0

module _ (bytes : List ℕ) (small : AllBytes bytes) where
  pub high_number : (i : ℕ) → high_byte (number_at bytes i) ≡ get_or bytes i 0
  unfolding high_byte number_at
  high_number i = omega (arith, small i, small (i + 1))

  pub low_number : (i : ℕ) → low_byte (number_at bytes i) ≡ get_or bytes (i + 1) 0
  unfolding low_byte number_at
  low_number i = omega (arith, small i, small (i + 1))

  pub part_bytes : (from to : ℕ) → AllBytes (part bytes from to)
  unfolding part
  part_bytes from to i = elim (dec_lt i (to - from)) [
    | yes l ↦ rw (part_at bytes from to i l) (small (from + i))
    | no n ↦
        let short : length (take (to - from) (drop from bytes)) ≤ i = simp length-take (omega arith) in
        rw (get_or-eq_default (take (to - from) (drop from bytes)) 0 {n = i} short) (omega arith)
  ]

-- ---- parts

pub length_part : (bytes : List ℕ) (from to : ℕ) → to ≤ length bytes → length (part bytes from to) ≡ to - from
unfolding part
length_part bytes from to h = simp (length-take, length-drop) (omega arith)

pub part_none : (bytes : List ℕ) (from to : ℕ) → to ≤ from → part bytes from to ≡ []
unfolding part
part_none bytes from to h = let e : to - from ≡ 0 = omega arith in rw e

pub take_part : (bytes : List ℕ) (from to : ℕ) → from ≤ to → take from bytes ++ part bytes from to ≡ take to bytes
unfolding part
take_part bytes from to h =
    let e : from + (to - from) ≡ to = omega arith in
    sym (take-add from (to - from) bytes) ∙ ap (λ (n : ℕ). take n bytes) e

pub part_middle : (x y z : List ℕ) {bytes : List ℕ} {from to : ℕ} → bytes ≡ x ++ (y ++ z) → from ≡ length x → to ≡ length x + length y → part bytes from to ≡ y
unfolding part
part_middle x y z e f t = rw (e, f, t, add-sub_cancel_left, drop-append_seam x (y ++ z), take-append_seam y z)

unfoldable pub listed : ℕ → ℕ → List ℕ → List ℕ
listed i zero bytes = []
listed i (suc k) bytes = get_or bytes i 0 ∷ listed (suc i) k bytes

listed_drop : (k i : ℕ) (bytes : List ℕ) → i + k ≡ length bytes → drop i bytes ≡ listed i k bytes
unfolding listed
listed_drop zero i bytes e = drop_of_length-le bytes {i = i} (omega arith)
listed_drop (suc k) i bytes e = drop-cons bytes i 0 (omega arith) ∙ ap (λ (r : List ℕ). get_or bytes i 0 ∷ r) (listed_drop k (suc i) bytes (omega arith))

pub listed_all : (k : ℕ) (bytes : List ℕ) → length bytes ≡ k → bytes ≡ listed 0 k bytes
listed_all k bytes e = listed_drop k 0 bytes (omega arith)

-- ---- what is written into a buffer

pub adds_none : (buffer : List ℕ) (at : ℕ) → at ≤ length buffer → Adds buffer buffer at at []
adds_none buffer at h = record { fits = omega arith; is_there = paste-zero buffer at []; is_next = omega arith }

pub adds_byte : (buffer : List ℕ) (at byte : ℕ) → at < length buffer → Adds buffer (set buffer at byte) at (at + 1) (byte ∷ [])
adds_byte buffer at byte h =
    record { fits = omega arith; is_there = set_split buffer at byte h ∙ sym (append_snoc (take at buffer) byte (drop (suc at) buffer)) ∙ rw (add-one at); is_next = refl }

pub adds_length : {before after : List ℕ} {at next : ℕ} {bytes : List ℕ} → Adds before after at next bytes → length after ≡ length before
adds_length a = let f = a.fits in rw a.is_there (simp (length-append, length-take, length-drop) (omega arith))

pub take_front : (buffer bytes : List ℕ) (n : ℕ) → length bytes ≡ n → take n (front buffer bytes) ≡ bytes
unfolding front
take_front buffer bytes n e = take_at bytes (drop (length bytes) buffer) n e

pub adds_front : {before after : List ℕ} {next : ℕ} {bytes : List ℕ} → Adds before after 0 next bytes → after ≡ front before bytes
unfolding front
adds_front {bytes = bytes} a = a.is_there ∙ rw (zero-add (length bytes))

pub adds_taken : {before after : List ℕ} {next : ℕ} {bytes : List ℕ} → Adds before after 0 next bytes → take next after ≡ bytes
adds_taken {before} {after} {next} {bytes} a = ap (take next) (adds_front a) ∙ take_front before bytes next (omega (arith, a.is_next))

pub adds_same : {before after : List ℕ} {at next : ℕ} {bytes other : List ℕ} → Adds before after at next bytes → bytes ≡ other → Adds before after at next other
adds_same {before} {after} {at} {next} a e = subst (λ (b : List ℕ). Adds before after at next b) e a

pub adds_both : {before between after : List ℕ} {at next end : ℕ} {first second : List ℕ}
    → Adds before between at next first → Adds between after next end second → Adds before after at end (first ++ second)
adds_both {before} {between} {after} {at} {next} {end} {first} {second} a b = record {
  fits = simp length-append (omega (arith, a.is_next, b.fits, adds_length a));
  is_there = b.is_there ∙ rw (kept, dropped) (rw (append_assoc (take at before) first second));
  is_next = simp length-append (omega (arith, a.is_next, b.is_next));
}
  where
    reached : length (take at before ++ first) ≡ next
    reached = simp (length-append, length-take) (omega (arith, a.fits, a.is_next))

    kept : take next between ≡ take at before ++ first
    kept = ap (take next) a.is_there ∙ take_at (take at before ++ first) (drop (at + length first) before) next reached

    dropped : drop (next + length second) between ≡ drop (at + length (first ++ second)) before
    dropped =
        let e : at + length first + length second ≡ at + length (first ++ second) = simp length-append (omega arith) in
        rw (← drop-drop (length second) next between, a.is_there, drop_at (take at before ++ first) (drop (at + length first) before) next reached, drop-drop, e)
