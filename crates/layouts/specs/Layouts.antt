-- A marker segment's table of fields, and what reading it comes to.
use Rattle.std.specs.Prelude.{◌≡◌, ℕ, zero, suc, ◌+◌, Bool, true, if◌then◌else◌, List, [], ◌∷◌, ◌++◌, length, Ok, Err, Result, nat_le}
use Rattle.faults.specs.declared.segment.Cause.{Cause}
use Rattle.faults.specs.declared.segment.Cause.TheVariants.{Short, Value}
use Rattle.faults.specs.declared.segment.SegmentFault.{SegmentFault}
use Rattle.reader.specs.Bytes.{byte_at, word_at, long_at}
use Rattle.reader.specs.Reads.{bytes_of, SameData}
use Rattle.reader.specs.declared.reader.BitReader.{BitReader}

-- how many bytes a field has: a number of one, two or four, or a run of any number of bytes
pub data Width : Type 0 where
  one two four : Width
  run : ℕ → Width

abbrev pub size : Width → ℕ
size one = 1
size two = 2
size four = 4
size (run n) = n

-- a number is its own value; a run of bytes stands for the place where it begins
abbrev pub value_at : Width → List ℕ → ℕ → ℕ
value_at one d p = byte_at d p
value_at two d p = word_at d p
value_at four d p = long_at d p
value_at (run n) d p = p

-- a field: its width, and whether a value is admitted behind the values of the fields before it in its table
pub record Field : Type 0 where
  pub width : Width
  pub admits : List ℕ → ℕ → Bool

abbrev pub field : Width → (List ℕ → ℕ → Bool) → Field
field w a = record { width = w; admits = a }

abbrev pub any : List ℕ → ℕ → Bool
any vs v = true

abbrev pub at_least : ℕ → List ℕ → ℕ → Bool
at_least m vs v = nat_le m v

-- a layout: a table of fields; or one layout and behind it another, which the first one's values shape
pub data Layout : Type 0 where
  fields : List Field → Layout
  behind : Layout → (List ℕ → Layout) → Layout

-- the same layout n times
abbrev pub times : ℕ → Layout → Layout
times zero l = fields []
times (suc n) l = behind l (λ _. times n l)

-- what reading comes to: the values in their order, or why the first field that is missing or refused is not taken; and the place after
pub data Reading : Type 0 where
  read : List ℕ → ℕ → Reading
  failed : Cause → ℕ → Reading

-- the fields of a table one behind another from the place p, behind the values vs
abbrev pub reading : List Field → List ℕ → ℕ → List ℕ → Reading
reading [] d p vs = read vs p
reading (f ∷ fs) d p vs =
    if nat_le (p + size f.width) (length d) then
    (if f.admits vs (value_at f.width d p) then reading fs d (p + size f.width) (vs ++ value_at f.width d p ∷ [])
    else failed (Value p) (p + size f.width))
    else failed (Short (record { place = p })) p

abbrev pub prefixed : List ℕ → Reading → Reading
prefixed vs (read ws q) = read (vs ++ ws) q
prefixed vs (failed e q) = failed e q

abbrev pub followed : Reading → (List ℕ → ℕ → Reading) → Reading
followed (read vs q) k = prefixed vs (k vs q)
followed (failed e q) k = failed e q

-- the meaning of a layout at the place p of the codestream d
abbrev pub meaning : Layout → List ℕ → ℕ → Reading
meaning (fields fs) d p = reading fs d p []
meaning (behind l k) d p = followed (meaning l d p) (λ vs q. meaning (k vs) d q)

-- how many bytes the fields of a table have, and the values that stand at their places
abbrev pub total : List Field → ℕ
total [] = 0
total (f ∷ fs) = size f.width + total fs

abbrev pub values_at : List Field → List ℕ → ℕ → List ℕ
values_at [] d p = []
values_at (f ∷ fs) d p = value_at f.width d p ∷ values_at fs d (p + size f.width)

abbrev pub values_of : Reading → List ℕ
values_of (read vs q) = vs
values_of (failed e q) = []

-- a reader's call answers a reading: a value that is made of what was read, or the cause; and it stands at the place after
abbrev pub Answers : {V : Type 0} {m : ℕ} → Reading → (V → List ℕ → Type 0) → BitReader → Result V (SegmentFault m) → Type 0
Answers R is a (Ok v) = (R ≡ read (values_of R) a.place) × is v (values_of R)
Answers R is a (Err e) = R ≡ failed e.cause a.place

-- the meaning of a layout where a reader stands
abbrev pub here : Layout → BitReader → Reading
here l b = meaning l (bytes_of b) b.place

-- a reader's call parses a layout: it answers the layout's meaning where it stood, and goes on in the same codestream
abbrev pub Parses : {V : Type 0} {m : ℕ} → Layout → (V → List ℕ → Type 0) → BitReader → BitReader → Result V (SegmentFault m) → Type 0
Parses l is b a r = Answers (here l b) is a r × SameData b a

-- a table that is read gives the values at their places, and ends behind them
abbrev pub ReadsAll : Type 0
ReadsAll =
    (fs : List Field) (d : List ℕ) (p : ℕ) (vs : List ℕ) (q : ℕ) → reading fs d p [] ≡ read vs q
    → (vs ≡ values_at fs d p) × (q ≡ p + total fs)
