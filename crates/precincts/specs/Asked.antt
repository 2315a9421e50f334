-- What the calls on precincts answer.
use Rattle.std.specs.Prelude.{◌≡◌, ℕ, ◌<◌, ◌≤◌, ◌⊎◌, map, length, Some, None, Ok, Err, Option, Result, slice_index_or}
use Rattle.std.specs.List.{range_with_len}
use Rattle.faults.specs.declared.decode.BookError.TheVariants.{NoSuchIndex}
use Rattle.faults.specs.declared.decode.DecodeError.{DecodeError}
use Rattle.faults.specs.declared.decode.DecodeError.TheVariants.{Book}
use Rattle.rect.specs.declared.IntRect.{IntRect}
use Rattle.rect.specs.Rects.{nowhere, region}
use Rattle.rect.specs.Spans.{Span, span}
use Rattle.bands.specs.declared.resolution.Resolution.{Resolution}
use Rattle.precincts.specs.declared.axis.PrecinctAxis.{PrecinctAxis}
use Rattle.precincts.specs.declared.grid.PrecinctGrid.{PrecinctGrid}
use Rattle.precincts.specs.declared.precinct.PrecinctData.{PrecinctData}
use Rattle.precincts.specs.Precincts.{Direction, bounds, precinct_at, precincts, refusal}

abbrev pub direction : PrecinctAxis → Direction
direction a = record {
  over = span a.from a.to;
  step = a.step;
  levels = a.resolution.levels;
  r = a.resolution.r;
  exponent = a.exponent;
}

abbrev pub across : PrecinctGrid → Direction
across g = direction g.x

abbrev pub down : PrecinctGrid → Direction
down g = direction g.y

-- steps that are not 0, exponents up to 15
pub record Ranged (xrsiz yrsiz ppx ppy : ℕ) : Type 0 where
  pub step_x : 0 < xrsiz
  pub step_y : 0 < yrsiz
  pub exponent_x : ppx ≤ 15
  pub exponent_y : ppy ≤ 15

-- one direction of a resolution
abbrev pub wanted : Span → ℕ → Resolution → ℕ → Direction
wanted s step n e = record { over = s; step = step; levels = n.levels; r = n.r; exponent = e }

abbrev pub Made : IntRect → ℕ → ℕ → Resolution → ℕ → ℕ → Option PrecinctGrid → Type 0
Made t xrsiz yrsiz n ppx ppy None = Ranged xrsiz yrsiz ppx ppy → ⊥
Made t xrsiz yrsiz n ppx ppy (Some g) =
    (across g ≡ wanted (region t).x xrsiz n ppx) × (down g ≡ wanted (region t).y yrsiz n ppy)

-- the number of precincts, and all of them by number
pub record NumberIs (x y : Direction) (n : ℕ) : Type 0 where
  pub accepted : refusal x y ≡ None
  pub number : n ≡ length (precincts x y)
  pub closed : precincts x y ≡ map (precinct_at x y) (range_with_len 0 n)

abbrev pub Counted : Direction → Direction → Result ℕ DecodeError → Type 0
Counted x y (Ok n) = NumberIs x y n
Counted x y (Err e) = refusal x y ≡ Some e

abbrev pub blank : PrecinctData
blank = record { r_x = 0; r_y = 0; rect = bounds nowhere; idx = 0 }

-- precinct k is item k of the list, has its closed form, and begins in the tile
pub record PrecinctIs (x y : Direction) (k : ℕ) (p : PrecinctData) : Type 0 where
  pub accepted : refusal x y ≡ None
  pub there : k < length (precincts x y)
  pub listed : p ≡ slice_index_or (precincts x y) k blank
  pub closed : p ≡ precinct_at x y k
  pub in_column : (x.over.from ≤ p.r_x) × (p.r_x < x.over.to)
  pub in_row : (y.over.from ≤ p.r_y) × (p.r_y < y.over.to)

-- a number that is not there comes before what refuses the precincts
abbrev pub PrecinctAnswer : Direction → Direction → ℕ → Result PrecinctData DecodeError → Type 0
PrecinctAnswer x y k (Ok p) = PrecinctIs x y k p
PrecinctAnswer x y k (Err e) =
    ((length (precincts x y) ≤ k) × (e ≡ Book NoSuchIndex)) ⊎ ((k < length (precincts x y)) × (refusal x y ≡ Some e))
