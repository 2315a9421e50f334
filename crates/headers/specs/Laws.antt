-- Laws of headers.
use Rattle.std.specs.Prelude.{◌≡◌, ℕ, ◌+◌, ◌≤◌, Bool, List, length}
use Rattle.headers.specs.Standing.{Item, Ending, Standing, stands, main_standing, part_standing}
use Rattle.headers.specs.Grammar.{Headed, MainHeaded, PartHeaded}

-- a header has one list of segments and one ending
abbrev pub OneHeader : Type 0
OneHeader =
    (at : ℕ → Standing) (p : ℕ) (xs ys : List Item) (e f : Ending) → Headed at p xs e → Headed at p ys f → (xs ≡ ys) × (e ≡ f)

-- at every place of every codestream a main header and a tile-part header begin, well formed or not
abbrev pub SomeMain : Type 0
SomeMain = (d : List ℕ) (csiz p : ℕ) → (xs : List Item) × (e : Ending) × MainHeaded d csiz p xs e

abbrev pub SomePart : Type 0
SomePart = (d : List ℕ) (csiz : ℕ) (packets strict : Bool) (p : ℕ) → (xs : List Item) × (e : Ending) × PartHeaded d csiz packets strict p xs e

-- a segment ends behind its marker and in the codestream of n bytes
abbrev pub Onward : (ℕ → Standing) → ℕ → Type 0
Onward at n = (p : ℕ) (x : Item) → at p ≡ stands x → (p + 2 ≤ x.behind) × (x.behind ≤ n)

abbrev pub MainOnward : Type 0
MainOnward = (d : List ℕ) (csiz : ℕ) → Onward (main_standing d csiz) (length d)

abbrev pub PartOnward : Type 0
PartOnward = (d : List ℕ) (csiz : ℕ) (packets strict : Bool) → Onward (part_standing d csiz packets strict) (length d)
