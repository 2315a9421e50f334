-- The code-blocks of a sub-band, a resolution, a component tile and a component.
use Rattle.std.specs.Prelude.{◌≡◌, ℕ, ◌+◌, ◌*◌, ◌^◌, ◌<◌, ◌≤◌, true, List, length, None, All}
use Rattle.std.specs.List.{range_with_len}
use Rattle.rect.specs.Rects.{region}
use Rattle.rect.specs.Spans.{Rect, area, meets}
use Rattle.rect.specs.Sums.{each, total, Partition}
use Rattle.geometry.specs.declared.grid.TileGrid.{TileGrid}
use Rattle.geometry.specs.declared.sampling.Sampling.{Sampling}
use Rattle.geometry.specs.Tiles.{columns, rows, tile_of}
use Rattle.bands.specs.declared.sub_band.SubBandType.{SubBandType}
use Rattle.bands.specs.SubBands.{band, bands, has}
use Rattle.precincts.specs.declared.precinct.PrecinctData.{PrecinctData}
use Rattle.precincts.specs.Precincts.{Direction, component_tile_of, precincts, refusal}
use Rattle.blocks.specs.CodeBlocks.{block_exponent_of, blocks, Proper}

-- a sub-band of the resolution that the two directions are of
abbrev pub sub_band : Direction → Direction → SubBandType → Rect
sub_band x y b = band x.levels x.r b (component_tile_of x y)

-- the code-blocks of sub-band b in one precinct
abbrev pub precinct_blocks : ℕ → ℕ → Direction → Direction → SubBandType → PrecinctData → List Rect
precinct_blocks xcb ycb x y b p =
    blocks (2 ^ block_exponent_of xcb x) (2 ^ block_exponent_of ycb y) (meets (region p.rect) (sub_band x y b))

-- in all precincts
abbrev pub band_blocks : ℕ → ℕ → Direction → Direction → SubBandType → List Rect
band_blocks xcb ycb x y b = each (precinct_blocks xcb ycb x y b) (precincts x y)

-- those of a resolution, precinct by precinct, sub-band by sub-band
abbrev pub resolution_blocks : ℕ → ℕ → Direction → Direction → List Rect
resolution_blocks xcb ycb x y = each (λ p. each (λ b. precinct_blocks xcb ycb x y b p) (bands x.r)) (precincts x y)

-- the code-blocks of all precincts cut the sub-band up, none is empty, each lies in one cell of its grid, and there are no more than samples
pub record CutUp (xcb ycb : ℕ) (x y : Direction) (b : SubBandType) : Type 0 where
  pub partition : Partition (sub_band x y b) (band_blocks xcb ycb x y b)
  pub proper : All (Proper (2 ^ block_exponent_of xcb x) (2 ^ block_exponent_of ycb y)) (band_blocks xcb ycb x y b)
  pub few : length (band_blocks xcb ycb x y b) ≤ area (sub_band x y b)

-- a component's coding parameters in one tile: N_L, each resolution's PPx and PPy, xcb and ycb
pub record Coding : Type 0 where
  pub levels : ℕ
  pub ppx : ℕ → ℕ
  pub ppy : ℕ → ℕ
  pub xcb : ℕ
  pub ycb : ℕ

-- resolution r of a tile, across and down
abbrev pub across_at : Coding → ℕ → Rect → ℕ → Direction
across_at c step t r = record { over = t.x; step = step; levels = c.levels; r = r; exponent = c.ppx r }

abbrev pub down_at : Coding → ℕ → Rect → ℕ → Direction
down_at c step t r = record { over = t.y; step = step; levels = c.levels; r = r; exponent = c.ppy r }

-- the code-blocks of a component tile, resolution by resolution
abbrev pub tile_blocks : Coding → ℕ → ℕ → Rect → List Rect
tile_blocks c dx dy t = each (λ r. resolution_blocks c.xcb c.ycb (across_at c dx t r) (down_at c dy t r)) (range_with_len 0 (c.levels + 1))

-- those of a component, tile by tile; the coding parameters go by the tile's number
abbrev pub component_blocks : TileGrid → Sampling → (ℕ → Coding) → List Rect
component_blocks g s c = each (λ t. tile_blocks (c t) s.x s.y (tile_of g t)) (range_with_len 0 (columns g * rows g))

-- no precincts of the component are refused
abbrev pub Accepted : TileGrid → Sampling → (ℕ → Coding) → Type 0
Accepted g s c =
    (t r : ℕ) → t < columns g * rows g → r ≤ (c t).levels
    → refusal (across_at (c t) s.x (tile_of g t) r) (down_at (c t) s.y (tile_of g t) r) ≡ None

-- n is the area of the component's code-blocks, of which there are no more; in every tile and resolution they cut every sub-band up
pub record Covered (g : TileGrid) (s : Sampling) (c : ℕ → Coding) (n : ℕ) : Type 0 where
  pub areas : total area (component_blocks g s c) ≡ n
  pub few : length (component_blocks g s c) ≤ n
  pub sub_bands : (t r : ℕ) (b : SubBandType) → t < columns g * rows g → r ≤ (c t).levels → has r b ≡ true
      → CutUp (c t).xcb (c t).ycb (across_at (c t) s.x (tile_of g t) r) (down_at (c t) s.y (tile_of g t) r) b

abbrev pub BlocksCover : TileGrid → Sampling → ℕ → Type 0
BlocksCover g s n = (c : ℕ → Coding) → Accepted g s c → Covered g s c n
