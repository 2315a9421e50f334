-- The tiles of a grid as the calls hand them out.
use Rattle.std.specs.Prelude.{◌≡◌, ℕ, ◌*◌, ◌/◌, ◌%◌, ◌^◌, ◌<◌, ◌≤◌, true, List, length, Some, None, Option, slice_index_or}
use Rattle.rect.specs.declared.IntRect.{IntRect}
use Rattle.rect.specs.Rects.{region, nowhere}
use Rattle.rect.specs.Spans.{Rect, rect, filled}
use Rattle.geometry.specs.declared.axis.TileAxis.{TileAxis}
use Rattle.geometry.specs.declared.grid.TileGrid.{TileGrid}
use Rattle.geometry.specs.TileGrid.{Axis, image, tile, tile_count, tiles}

abbrev pub axis : TileAxis → Axis
axis a = record { size = a.size; offset = a.offset; side = a.side; origin = a.origin }

abbrev pub columns : TileGrid → ℕ
columns g = tile_count (axis g.x)

abbrev pub rows : TileGrid → ℕ
rows g = tile_count (axis g.y)

-- [XOsiz, Xsiz) × [YOsiz, Ysiz)
abbrev pub image_of : TileGrid → Rect
image_of g = rect (image (axis g.x)) (image (axis g.y))

abbrev pub grid_tiles : TileGrid → List Rect
grid_tiles g = tiles (axis g.x) (axis g.y)

-- tile t stands in column t mod numXtiles and row ⌊t / numXtiles⌋ (B-6)
abbrev pub tile_of : TileGrid → ℕ → Rect
tile_of g t = tile (axis g.x) (axis g.y) (t % columns g) (t / columns g)

-- the two directions as a grid, or none where there are 2^32 tiles or more
abbrev pub Joined : TileAxis → TileAxis → Option TileGrid → Type 0
Joined x y None = 2 ^ 32 ≤ tile_count (axis x) * tile_count (axis y)
Joined x y (Some g) = (tile_count (axis x) * tile_count (axis y) < 2 ^ 32) × (g.x ≡ x) × (g.y ≡ y)

-- tile t is item t of the list of all tiles; by its column and row; not empty
pub record TileIs (g : TileGrid) (t : ℕ) (r : IntRect) : Type 0 where
  pub there : t < length (grid_tiles g)
  pub listed : region r ≡ slice_index_or (grid_tiles g) t nowhere
  pub edges : region r ≡ tile_of g t
  pub filled : filled (region r) ≡ true

abbrev pub TileAnswer : TileGrid → ℕ → Option IntRect → Type 0
TileAnswer g t None = length (grid_tiles g) ≤ t
TileAnswer g t (Some r) = TileIs g t r
