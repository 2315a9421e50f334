-- Places on a line that stand at multiples of a step, but for the first.
use Rattle.std.specs.Prelude.{◌≡◌, ℕ, zero, suc, ◌+◌, ◌*◌, ◌/◌, ◌%◌, ◌<◌, ◌≤◌, List, [], ◌∷◌, ◌==◌, if◌then◌else◌}

-- y is the next multiple of d above x
pub record Next (d x y : ℕ) : Type 0 where
  pub multiple : y % d ≡ 0
  pub greater : x < y
  pub least : (z : ℕ) → z % d ≡ 0 → x < z → y ≤ z

abbrev pub above : ℕ → ℕ → ℕ
above d x = (x / d + 1) * d

-- the first place: x, or the next multiple of d where x is none but u is a multiple of p
abbrev pub first : ℕ → ℕ → ℕ → ℕ → ℕ
first d p x u = if x % d == 0 then x else if u % p == 0 then above d x else x

-- n places: x, and each later one the next multiple of d above the one before
abbrev pub climb : ℕ → ℕ → ℕ → List ℕ
climb d x zero = []
climb d x (suc n) = x ∷ climb d (above d x) n
