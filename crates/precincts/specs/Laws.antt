-- What is proved of the precincts of one direction.
use Rattle.std.specs.Prelude.{◌≡◌, ℕ, ◌^◌, ◌<◌, ◌≤◌, true, false, map}
use Rattle.std.specs.List.{range_with_len}
use Rattle.precincts.specs.Places.{Next, above}
use Rattle.precincts.specs.Precincts.{Direction, count, cover, far, start, starts}

-- each place behind the first is the next multiple of the step above the one before; the places in closed form; a direction is far where some
-- precinct ends at 2^32 or behind it
pub record PrecinctLaws : Type 0 where
  pub next : (d x : ℕ) → 0 < d → Next d x (above d x)
  pub closed : (d : Direction) → 0 < d.step → starts d ≡ map (start d) (range_with_len 0 (count d))
  pub far_some : (d : Direction) → 0 < count d → far d ≡ true → (k : ℕ) × ((k < count d) × (2 ^ 32 ≤ (cover d k).to))
  pub far_none : (d : Direction) → far d ≡ false → (k : ℕ) → k < count d → (cover d k).to < 2 ^ 32
