-- What a call makes of the rows of a table.
use Rattle.std.specs.Prelude.{Bool, true, false, List, ◌≡◌, ℕ, ◌<◌, length, slice_index_or}

-- as many rows as before, and R relates each row's number, what it was and what it is
pub record Rows (X : Type 0) (R : ℕ → X → X → Type 0) (before after : List X) : Type 0 where
  pub long : length after ≡ length before
  pub row : (k : ℕ) (d : X) → k < length before → R k (slice_index_or before k d) (slice_index_or after k d)

-- one thing where the test holds, and another elsewhere
abbrev pub When : Bool → Type 0 → Type 0 → Type 0
When true a b = a
When false a b = b
