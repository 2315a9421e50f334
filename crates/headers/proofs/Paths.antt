-- How far a header has been gone through.
use Rattle.std.proofs.Common.{◌≡◌, ℕ, List, [], ◌∷◌, ◌++◌, Ok, subst, append_assoc, append-nil}
use Rattle.reader.specs.declared.reader.BitReader.{BitReader}
use Rattle.headers.specs.declared.found.Found.{Found}
use Rattle.headers.specs.declared.found.Found.TheVariants.{Stands, Ends, NoMarker}
use Rattle.headers.specs.declared.found.Segment.{Segment}
use Rattle.headers.specs.Standing.{Item, Ending, by_marker, by_none, Standing, stands, ends, KeptOf, item_of, FoundAs}
use Rattle.headers.specs.Grammar.{Headed}

-- the segments xs stand from p0 up to p: whatever header begins at p makes one with them
abbrev pub Path : (ℕ → Standing) → ℕ → List Item → ℕ → Type 0
Path at p0 xs p = (ys : List Item) (e : Ending) → Headed at p ys e → Headed at p0 (xs ++ ys) e

pub path_none : (at : ℕ → Standing) (p : ℕ) → Path at p [] p
path_none at p ys e h = h

pub path_more :
    (at : ℕ → Standing) (p0 p : ℕ) (xs : List Item) (x : Item) → Path at p0 xs p → at p ≡ stands x → Path at p0 (xs ++ x ∷ []) x.behind
path_more at p0 p xs x path s ys e h = rw append_assoc (path (x ∷ ys) e (s, h))

pub path_ends :
    (at : ℕ → Standing) (p0 p : ℕ) (xs : List Item) (e : Ending) → Path at p0 xs p → at p ≡ ends e → Headed at p0 xs e
path_ends at p0 p xs e path s = subst (λ (ys : List Item). Headed at p0 ys e) (append-nil xs) (path [] e s)

-- what a look at a place found
pub found_stands :
    (s t : Standing) (f : Found) (g : Segment) (a : BitReader) → s ≡ t → FoundAs s a (Ok f) → f ≡ Stands g
    → (x : Item) × (t ≡ stands x) × (x.behind ≡ a.place) × KeptOf g x
found_stands s t f g a e h is =
    let k : FoundAs t a (Ok (Stands g)) = subst (λ (z : Standing). FoundAs z a (Ok (Stands g))) e (subst (λ (z : Found). FoundAs s a (Ok z)) is h) in
    (item_of t, k.0, k.1, k.2)

pub found_ends : (s t : Standing) (f : Found) (a : BitReader) → s ≡ t → FoundAs s a (Ok f) → f ≡ Ends → t ≡ ends (by_marker a.place)
found_ends s t f a e h is = subst (λ (z : Standing). FoundAs z a (Ok Ends)) e (subst (λ (z : Found). FoundAs s a (Ok z)) is h)

pub found_none : (s t : Standing) (f : Found) (a : BitReader) → s ≡ t → FoundAs s a (Ok f) → f ≡ NoMarker → t ≡ ends (by_none a.place)
found_none s t f a e h is = subst (λ (z : Standing). FoundAs z a (Ok NoMarker)) e (subst (λ (z : Found). FoundAs s a (Ok z)) is h)
