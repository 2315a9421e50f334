-- What a component has of the image area and of the tiles, as the calls hand it out (T.800 B.4).
use Rattle.std.specs.Prelude.{◌≡◌, ℕ, ◌-◌, ◌*◌, ◌<◌, ◌≤◌, List, length, Some, None, Option, slice_index_or}
use Rattle.rect.specs.declared.IntRect.{IntRect}
use Rattle.rect.specs.Numbers.{ceil}
use Rattle.rect.specs.Rects.{region, nowhere}
use Rattle.rect.specs.Spans.{Rect, shrink}
use Rattle.geometry.specs.declared.grid.TileGrid.{TileGrid}
use Rattle.geometry.specs.declared.sampling.Sampling.{Sampling}
use Rattle.geometry.specs.TileGrid.{component_tiles}
use Rattle.geometry.specs.Tiles.{axis, tile_of, grid_tiles}

-- a component's part of a rectangle: every edge divided by XRsiz or YRsiz, rounded up (B-12)
abbrev pub sampled : Sampling → Rect → Rect
sampled s r = shrink s.x s.y r

abbrev pub component_tiles_of : TileGrid → Sampling → List Rect
component_tiles_of g s = component_tiles (axis g.x) (axis g.y) s.x s.y

-- the number of a component's samples in the image area
abbrev pub samples : TileGrid → Sampling → ℕ
samples g s =
    (ceil g.x.size s.x - ceil g.x.offset s.x) * (ceil g.y.size s.y - ceil g.y.offset s.y)

-- the component's part of tile t
abbrev pub ComponentTileAnswer : TileGrid → Sampling → ℕ → Option IntRect → Type 0
ComponentTileAnswer g s t None = length (grid_tiles g) ≤ t
ComponentTileAnswer g s t (Some r) = (t < length (grid_tiles g)) × (region r ≡ sampled s (tile_of g t))

-- the list of these parts, by number
abbrev pub ComponentTilesListed : TileGrid → Sampling → Type 0
ComponentTilesListed g s = (t : ℕ) → t < length (grid_tiles g) → slice_index_or (component_tiles_of g s) t nowhere ≡ sampled s (tile_of g t)
