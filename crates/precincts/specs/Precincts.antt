-- The precincts of a resolution of a component tile (T.800 B.6), and their places on the reference grid (B.12.1.3).
use Rattle.std.specs.Prelude.{ℕ, zero, suc, ◌+◌, ◌-◌, ◌*◌, ◌/◌, ◌%◌, ◌^◌, Bool, ◌&&◌, ◌||◌, List, Some, None, Option, ◌==◌, nat_le, nat_lt, if◌then◌else◌, slice_index}
use Rattle.std.specs.List.{range_with_len}
use Rattle.faults.specs.declared.decode.DecodeError.{DecodeError}
use Rattle.faults.specs.declared.decode.DecodeError.TheVariants.{Decoding}
use Rattle.faults.specs.declared.decode.DecodingError.TheVariants.{InvalidPrecinct, PrecinctTooFar}
use Rattle.rect.specs.declared.IntRect.{IntRect}
use Rattle.rect.specs.Numbers.{ceil}
use Rattle.rect.specs.Spans.{Span, Rect, rect, cell, shrunk}
use Rattle.rect.specs.Sums.{product}
use Rattle.precincts.specs.declared.precinct.PrecinctData.{PrecinctData}
use Rattle.precincts.specs.Places.{climb, first}

-- one direction: the tile on the reference grid, XRsiz or YRsiz, N_L, the resolution r and its exponent PPx or PPy
pub record Direction : Type 0 where
  pub over : Span
  pub step : ℕ
  pub levels : ℕ
  pub r : ℕ
  pub exponent : ℕ

-- the component tile: every edge divided by XRsiz or YRsiz, rounded up (B-12)
abbrev pub component_tile_of : Direction → Direction → Rect
component_tile_of x y = rect (shrunk x.step x.over) (shrunk y.step y.over)

-- [trx0, trx1) or [try0, try1): the component tile's edges divided by 2^(N_L − r), rounded up (B-14)
abbrev pub reach : Direction → Span
reach d = shrunk (2 ^ (d.levels - d.r)) (shrunk d.step d.over)

-- numprecinctswide, numprecinctshigh (B-16)
abbrev pub count : Direction → ℕ
count d =
    if nat_lt (reach d).from (reach d).to then ceil (reach d).to (2 ^ d.exponent) - (reach d).from / 2 ^ d.exponent else 0

-- the exponent in the coordinates of the sub-bands, which halve those of a resolution above 0
abbrev pub halved : ℕ → ℕ → ℕ
halved zero e = e
halved (suc r) e = e - 1

-- precinct k in the coordinates of the sub-bands
abbrev pub cover : Direction → ℕ → Span
cover d k = cell ((reach d).from / 2 ^ d.exponent * 2 ^ halved d.r d.exponent) (2 ^ halved d.r d.exponent) k

-- a precinct's size on the reference grid
abbrev pub stride : Direction → ℕ
stride d = d.step * 2 ^ (d.exponent + (d.levels - d.r))

-- the places of the precincts on the reference grid
abbrev pub first_start_of : Direction → ℕ
first_start_of d = first (stride d) (2 ^ d.exponent) d.over.from (reach d).from

abbrev pub starts : Direction → List ℕ
starts d = climb (stride d) (first_start_of d) (count d)

-- the same in closed form: the first lies in the cell of the first precinct, and each later one begins its own
abbrev pub start : Direction → ℕ → ℕ
start d k = if k == 0 then first_start_of d else ((reach d).from / 2 ^ d.exponent + k) * stride d

-- a size of 2^0 that cannot be halved, or one of 2^32 or more
abbrev pub unfit : Direction → Bool
unfit d =
    (nat_lt 0 d.r && d.exponent == 0) || (nat_le 32 (d.exponent + (d.levels - d.r)) || nat_le (2 ^ 32) (stride d))

-- the last precinct ends at 2^32 or behind it
abbrev pub far : Direction → Bool
far d = nat_le (2 ^ 32) (cover d (count d - 1)).to

-- nothing is refused where there are no precincts; else first sizes, then ends
abbrev pub refusal : Direction → Direction → Option DecodeError
refusal x y =
    if count x == 0 || count y == 0 then None
    else if unfit x || unfit y then Some (Decoding InvalidPrecinct)
    else if far x || far y then Some (Decoding PrecinctTooFar)
    else None

abbrev pub bounds : Rect → IntRect
bounds r = record { x0 = r.x.from; y0 = r.y.from; x1 = r.x.to; y1 = r.y.to }

-- the precinct in column i and row j
abbrev pub precinct_in : Direction → Direction → ℕ → ℕ → PrecinctData
precinct_in x y i j = record {
  r_x = slice_index (starts x) i;
  r_y = slice_index (starts y) j;
  rect = bounds (rect (cover x i) (cover y j));
  idx = j * count x + i;
}

-- all precincts, row by row
abbrev pub precincts : Direction → Direction → List PrecinctData
precincts x y = product (precinct_in x y) (range_with_len 0 (count x)) (range_with_len 0 (count y))

-- precinct k in closed form
abbrev pub precinct_at : Direction → Direction → ℕ → PrecinctData
precinct_at x y k = record {
  r_x = start x (k % count x);
  r_y = start y (k / count x);
  rect = bounds (rect (cover x (k % count x)) (cover y (k / count x)));
  idx = k;
}
