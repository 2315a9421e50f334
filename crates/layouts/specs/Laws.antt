-- What reading comes to for every layout: which fields stand where, and which of them is the first that is not taken.
use Rattle.std.specs.Prelude.{◌≡◌, ℕ, ◌+◌, ◌<◌, ◌≤◌, Bool, true, false, List, [], ◌∷◌, ◌++◌, length, slice_index}
use Rattle.faults.specs.declared.segment.Cause.{Cause}
use Rattle.faults.specs.declared.segment.Cause.TheVariants.{Short, Value}
use Rattle.layouts.specs.Layouts.{Width, Field, Layout, fields, behind, Reading, read, failed, size, value_at, meaning}

-- a field as it stands in a codestream: its width, and which values are admitted there
pub record Stand : Type 0 where
  pub width : Width
  pub admits : ℕ → Bool

-- how many bytes fields have together
abbrev pub extent : List Stand → ℕ
extent [] = 0
extent (f ∷ fs) = size f.width + extent fs

-- the values of fields that stand one behind another from the place p
abbrev pub values_from : List Stand → List ℕ → ℕ → List ℕ
values_from [] d p = []
values_from (f ∷ fs) d p = value_at f.width d p ∷ values_from fs d (p + size f.width)

-- the fields of a table from the place p, behind the values vs
abbrev pub standing_table : List Field → List ℕ → ℕ → List ℕ → List Stand
standing_table [] d p vs = []
standing_table (f ∷ fs) d p vs =
    record { width = f.width; admits = f.admits vs } ∷ standing_table fs d (p + size f.width) (vs ++ value_at f.width d p ∷ [])

-- the fields of a layout from the place p, in their order
abbrev pub standing : Layout → List ℕ → ℕ → List Stand
standing (fields fs) d p = standing_table fs d p []
standing (behind l k) d p = standing l d p ++ standing (k (values_from (standing l d p) d p)) d (p + extent (standing l d p))

-- a field at the place p is there, and its value is admitted
pub record Taken (f : Stand) (d : List ℕ) (p : ℕ) : Type 0 where
  pub there : p + size f.width ≤ length d
  pub admitted : f.admits (value_at f.width d p) ≡ true

-- why it is not taken, and where the reading then ends: its bytes are missing, and the place stays; or its value is refused, behind it
abbrev pub NotTaken : Stand → List ℕ → ℕ → Cause → ℕ → Type 0
NotTaken f d p (Short e) q = (length d < p + size f.width) × (e.place ≡ p) × (q ≡ p)
NotTaken f d p (Value at) q =
    (p + size f.width ≤ length d) × (f.admits (value_at f.width d p) ≡ false) × (at ≡ p) × (q ≡ p + size f.width)

-- each of the fields is taken, at the place that the widths of those before it add up to
abbrev pub AllTaken : List Stand → List ℕ → ℕ → Type 0
AllTaken ss d p = (before : List Stand) (f : Stand) (after : List Stand) → ss ≡ before ++ f ∷ after → Taken f d (p + extent before)

-- an accepted reading: all fields are taken, their values are those at their places, and it ends behind the last
pub record Accepted (ss : List Stand) (d : List ℕ) (p : ℕ) (vs : List ℕ) (q : ℕ) : Type 0 where
  pub taken : AllTaken ss d p
  pub count : length vs ≡ length ss
  pub values :
      (before : List Stand) (f : Stand) (after : List Stand) → ss ≡ before ++ f ∷ after
      → slice_index vs (length before) ≡ value_at f.width d (p + extent before)
  pub ends : q ≡ p + extent ss

-- a refused reading: the first field that is not taken, and why
pub record Refused (ss : List Stand) (d : List ℕ) (p : ℕ) (e : Cause) (q : ℕ) : Type 0 where
  pub before : List Stand
  pub first : Stand
  pub after : List Stand
  pub parted : ss ≡ before ++ first ∷ after
  pub taken : AllTaken before d p
  pub refused : NotTaken first d (p + extent before) e q

abbrev pub ReadsAs : List Stand → List ℕ → ℕ → Reading → Type 0
ReadsAs ss d p (read vs q) = Accepted ss d p vs q
ReadsAs ss d p (failed e q) = Refused ss d p e q

-- every layout is read so, at every place of every codestream
abbrev pub LayoutsRead : Type 0
LayoutsRead = (l : Layout) (d : List ℕ) (p : ℕ) → ReadsAs (standing l d p) d p (meaning l d p)
