use Rattle.std.specs.Prelude.{◌≡◌, ℕ, ◌+◌, ◌<◌, ◌≤◌, Bool, cond, ◌||◌, List, [], ◌∷◌, ◌++◌, length, take, drop, filter, fold, Some, None, Ok, Err, Option, Result, ◌==◌, nat_le, slice_index_or}
use Rattle.std.specs.List.{list_any}
use Rattle.std.specs.List.Sorted.{IsNonDecreasingBy, IsPermutation}

-- Whether some record has an index that is not greater than n.
abbrev pub some_up_to : {X : Type 0} → (X → ℕ) → ℕ → List X → Bool
some_up_to key n = list_any (λ y. nat_le (key y) n)

-- The records with x put behind all whose index is not greater than x's, and no further.
abbrev pub placed : {X : Type 0} → (X → ℕ) → X → List X → List X
placed key x [] = x ∷ []
placed key x (y ∷ ys) = cond (nat_le (key y) (key x) || some_up_to key (key x) ys) (y ∷ placed key x ys) (x ∷ y ∷ ys)

-- The records whose index is n, in their order.
abbrev pub with_index : {X : Type 0} → (X → ℕ) → ℕ → List X → List X
with_index key n = filter (λ y. key y == n)

-- The records put in one after another, each behind all whose index is not greater.
abbrev pub placed_all : {X : Type 0} → (X → ℕ) → List X → List X → List X
placed_all key xs rows = fold (λ ys x. placed key x ys) rows xs

-- The ordered arrangement of what arrived: in order of the index, those of one index in the order of arrival, nothing lost or added.
pub record Arranged (X : Type 0) (key : X → ℕ) (arrivals rows : List X) : Type 0 where
  pub in_order : IsNonDecreasingBy key rows
  pub equals_as_arrived : (n : ℕ) → with_index key n rows ≡ with_index key n arrivals
  pub rearranged : IsPermutation arrivals rows

-- Each list of arrivals has one ordered arrangement and no other, and one more arrival is put behind all whose index is not greater.
pub record ArrangementLaw (X : Type 0) (key : X → ℕ) : Type 0 where
  pub one : (arrivals : List X) → Arranged X key arrivals (placed_all key arrivals [])
  pub no_other : (arrivals rows : List X) → Arranged X key arrivals rows → rows ≡ placed_all key arrivals []
  pub next : (arrivals rows : List X) (x : X) → Arranged X key arrivals rows → Arranged X key (arrivals ++ x ∷ []) (placed key x rows)

-- The place behind the last row whose index is not greater than x's.
pub record IsPlace {X : Type 0} (key : X → ℕ) (x : X) (rows : List X) (at : ℕ) : Type 0 where
  pub within : at ≤ length rows
  pub behind : (k : ℕ) (d : X) → k + 1 ≡ at → key (slice_index_or rows k d) ≤ key x
  pub greater : (k : ℕ) (d : X) → at ≤ k → k < length rows → key x < key (slice_index_or rows k d)

-- One record put into rows of which the first `len` are filled.
pub record Inserted (X : Type 0) (key : X → ℕ) (x : X) (before : List X) (len : ℕ) (after : List X) (count : ℕ) : Type 0 where
  pub free : len < length before
  pub long : length after ≡ length before
  pub counted : count ≡ len + 1
  pub filled : take count after ≡ placed key x (take len before)
  pub others : drop count after ≡ drop count before
  pub arranged : (arrivals : List X) → Arranged X key arrivals (take len before) → Arranged X key (arrivals ++ x ∷ []) (take count after)

-- Records put into rows of which the first `len` are filled, the first of them first.
pub record InsertedAll (X : Type 0) (key : X → ℕ) (xs before : List X) (len : ℕ) (after : List X) (count : ℕ) : Type 0 where
  pub free : len + length xs ≤ length before
  pub long : length after ≡ length before
  pub counted : count ≡ len + length xs
  pub filled : take count after ≡ placed_all key xs (take len before)
  pub others : drop count after ≡ drop count before
  pub arranged : (arrivals : List X) → Arranged X key arrivals (take len before) → Arranged X key (arrivals ++ xs) (take count after)
  pub alone : len ≡ 0 → Arranged X key xs (take count after)

-- Records put into rows of which none is filled.
pub record Filled (X : Type 0) (key : X → ℕ) (xs before after : List X) (count : ℕ) : Type 0 where
  pub free : length xs ≤ length before
  pub counted : count ≡ length xs
  pub arranged : Arranged X key xs (take count after)
  pub others : drop count after ≡ drop count before

-- A refusal: fewer rows than n are free, and nothing changes.
pub record Refused (X : Type 0) (n : ℕ) (before : List X) (len : ℕ) (after : List X) (count : ℕ) : Type 0 where
  pub full : length before < len + n
  pub counted : count ≡ len
  pub same : after ≡ before

abbrev pub Insertion : {X A E : Type 0} → (X → ℕ) → X → List X → ℕ → List X → ℕ → Result A E → Type 0
Insertion {X} key x before len after count (Ok _) = Inserted X key x before len after count
Insertion {X} key x before len after count (Err _) = Refused X 1 before len after count

abbrev pub Insertions : {X A E : Type 0} → (X → ℕ) → List X → List X → ℕ → List X → ℕ → Result A E → Type 0
Insertions {X} key xs before len after count (Ok _) = InsertedAll X key xs before len after count
Insertions {X} key xs before len after count (Err _) = Refused X (length xs) before len after count

abbrev pub Filling : {X E : Type 0} → (X → ℕ) → List X → List X → List X → Result ℕ E → Type 0
Filling {X} key xs before after (Ok n) = Filled X key xs before after n
Filling {X} key xs before after (Err _) = Refused X (length xs) before 0 after 0

-- The count after a call that answers the new one, or refuses and leaves it.
abbrev pub count_after : {E : Type 0} → ℕ → Result ℕ E → ℕ
count_after len (Ok n) = n
count_after len (Err _) = len

-- Row k of the first `len`, if there is one.
abbrev pub RowAt : {X : Type 0} → List X → ℕ → ℕ → Option X → Type 0
RowAt rows len k (Some x) = (k < len) × (x ≡ slice_index_or rows k x)
RowAt rows len k None = len ≤ k
