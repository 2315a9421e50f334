-- What a reader's calls answer, and where it stands after them.
use Rattle.std.specs.Prelude.{◌≡◌, ℕ, ◌+◌, ◌-◌, ◌<◌, ◌≤◌, List, length, Some, None, Ok, Err, Option, Result}
use Rattle.std.specs.Borrow.{Bor}
use Rattle.faults.specs.declared.segment.ReadFault.{ReadFault}
use Rattle.faults.specs.declared.decode.MarkerError.{MarkerError}
use Rattle.faults.specs.declared.decode.MarkerError.TheVariants.{Invalid}
use Rattle.reader.specs.declared.reader.BitReader.{BitReader}
use Rattle.reader.specs.Bytes.{IsPartOf, marker_at}

-- the codestream that is read
abbrev pub bytes_of : BitReader → List ℕ
bytes_of b = b.«data».now

-- a look at w bytes: `is` says what it gives; None exactly where fewer are left
abbrev pub Peeks : {V : Type 0} → ℕ → (Bor (List ℕ) → ℕ → V → Type 0) → BitReader → Option V → Type 0
Peeks w is b None = length (bytes_of b) < b.place + w
Peeks w is b (Some v) = (b.place + w ≤ length (bytes_of b)) × is b.«data» b.place v

-- a read of w bytes: it ends behind them; it is refused exactly where fewer are left, with the place, and then stays
abbrev pub Reads : {V : Type 0} → ℕ → (Bor (List ℕ) → ℕ → V → Type 0) → BitReader → BitReader → Result V ReadFault → Type 0
Reads w is b a (Ok v) = (b.place + w ≤ length (bytes_of b)) × is b.«data» b.place v × (a.place ≡ b.place + w)
Reads w is b a (Err e) = (length (bytes_of b) < b.place + w) × (e ≡ record { place = b.place }) × (a.place ≡ b.place)

-- a reader of the same codestream
abbrev pub SameData : BitReader → BitReader → Type 0
SameData b a = a.«data» ≡ b.«data»

-- a read of w bytes, after which the reader is still one of the same codestream
abbrev pub Advances : {V : Type 0} → ℕ → (Bor (List ℕ) → ℕ → V → Type 0) → BitReader → BitReader → Result V ReadFault → Type 0
Advances w is b a r = Reads w is b a r × SameData b a

-- a read of a marker: its code byte; or refused, and the place stays
abbrev pub ReadsMarker : BitReader → BitReader → Result ℕ MarkerError → Type 0
ReadsMarker b a (Ok m) = (marker_at (bytes_of b) b.place ≡ Some m) × (a.place ≡ b.place + 2)
ReadsMarker b a (Err e) = (marker_at (bytes_of b) b.place ≡ None) × (e ≡ Invalid b.place) × (a.place ≡ b.place)

-- the rest of the codestream, which is there up to its end
abbrev pub Tails : BitReader → Option (Bor (List ℕ)) → Type 0
Tails b None = length (bytes_of b) < b.place
Tails b (Some v) = (b.place ≤ length (bytes_of b)) × IsPartOf (length (bytes_of b) - b.place) b.«data» b.place v
