-- Sums over lists, lists row by row, and what it is to cut a rectangle up.
use Rattle.std.specs.Prelude.{◌≡◌, ℕ, ◌+◌, ◌<◌, Bool, true, false, List, [], ◌∷◌, ◌++◌, map, length, if◌then◌else◌, slice_index_or}
use Rattle.rect.specs.Spans.{Rect, area, holds}

-- the sum of a number of each item
abbrev pub total : {A : Type 0} → (A → ℕ) → List A → ℕ
total f [] = 0
total f (a ∷ l) = f a + total f l

-- the lists of all items, joined
abbrev pub each : {A B : Type 0} → (A → List B) → List A → List B
each f [] = []
each f (a ∷ l) = f a ++ each f l

-- an item for each column and row, row by row
abbrev pub product : {A B C : Type 0} → (A → B → C) → List A → List B → List C
product f columns rows = each (λ b. map (λ a. f a b) columns) rows

-- how many of the rectangles hold the point
abbrev pub holders : ℕ → ℕ → List Rect → ℕ
holders px py l = total (λ r. if holds px py r then 1 else 0) l

-- a point of the whole lies in exactly one of the parts, a point outside it in none
pub record ExactlyOne (whole : Rect) (parts : List Rect) : Type 0 where
  pub inside : (x y : ℕ) → holds x y whole ≡ true → holders x y parts ≡ 1
  pub outside : (x y : ℕ) → holds x y whole ≡ false → holders x y parts ≡ 0

-- the parts cut the whole up
pub record Partition (whole : Rect) (parts : List Rect) : Type 0 where
  pub areas : total area parts ≡ area whole
  pub points : ExactlyOne whole parts

-- exactly one item passes the test, and its place
pub record Sole {A : Type 0} (p : A → Bool) (l : List A) : Type 0 where
  pub place : ℕ
  pub there : place < length l
  pub passes : (d : A) → p (slice_index_or l place d) ≡ true
  pub only : (k : ℕ) (d : A) → k < length l → p (slice_index_or l k d) ≡ true → k ≡ place

-- one holder is one place in the list
abbrev pub CountOne : Type 0
CountOne = (x y : ℕ) (l : List Rect) → holders x y l ≡ 1 → Sole (holds x y) l
