-- The bytes of a codestream as numbers, highest byte first.
use Rattle.std.specs.Prelude.{◌≡◌, ℕ, ◌+◌, ◌*◌, if◌then◌else◌, List, length, take, drop, Some, None, Option, ◌==◌, nat_le, slice_index}
use Rattle.std.specs.Borrow.{Bor}

-- the byte at a place
abbrev pub byte_at : List ℕ → ℕ → ℕ
byte_at d p = slice_index d p

-- the two bytes from a place on
abbrev pub word_at : List ℕ → ℕ → ℕ
word_at d p = byte_at d p * 256 + byte_at d (p + 1)

-- the four bytes from a place on
abbrev pub long_at : List ℕ → ℕ → ℕ
long_at d p = word_at d p * 65536 + word_at d (p + 2)

-- the n bytes from a place on
abbrev pub part : ℕ → List ℕ → ℕ → List ℕ
part n d p = take n (drop p d)

-- the code byte of the marker at a place: 0xFF, and the byte behind it (A.2)
abbrev pub marker_at : List ℕ → ℕ → Option ℕ
marker_at d p =
    if nat_le (p + 2) (length d) then (if byte_at d p == 255 then Some (byte_at d (p + 1)) else None)
    else None

-- what a read at a place of the codestream s answers
abbrev pub IsByte : Bor (List ℕ) → ℕ → ℕ → Type 0
IsByte s p v = v ≡ byte_at s.now p

abbrev pub IsWord : Bor (List ℕ) → ℕ → ℕ → Type 0
IsWord s p v = v ≡ word_at s.now p

abbrev pub IsLong : Bor (List ℕ) → ℕ → ℕ → Type 0
IsLong s p v = v ≡ long_at s.now p

-- v holds the n bytes from p on
abbrev pub IsArray : ℕ → Bor (List ℕ) → ℕ → List ℕ → Type 0
IsArray n s p v = v ≡ part n s.now p

-- v is the part of n bytes of the codestream s itself, at p: its bytes, and where they lie in memory
abbrev pub IsPartOf : ℕ → Bor (List ℕ) → ℕ → Bor (List ℕ) → Type 0
IsPartOf n s p v = (v.now ≡ part n s.now p) × (v.ref_ptr.0 ≡ s.ref_ptr.0) × (v.ref_ptr.1 ≡ s.ref_ptr.1 + p)
