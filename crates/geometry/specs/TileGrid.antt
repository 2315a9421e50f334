-- The image area and the tiles on the reference grid (T.800 B.2 and B.3), and the tiles of a component (B.4).
use Rattle.std.specs.Prelude.{ℕ, ◌+◌, ◌<◌, ◌≤◌, List, map}
use Rattle.std.specs.List.{range_with_len}
use Rattle.rect.specs.Spans.{Span, Rect, span, rect, meet, cell, reaching, shrink}
use Rattle.rect.specs.Sums.{product}

-- one direction: Xsiz, XOsiz, XTsiz and XTOsiz, or Ysiz, YOsiz, YTsiz and YTOsiz
pub record Axis : Type 0 where
  pub size : ℕ
  pub offset : ℕ
  pub side : ℕ
  pub origin : ℕ

-- the image is not empty, and tile 0 reaches into it (B-3, B-4)
pub record Accepted (a : Axis) : Type 0 where
  pub filled : a.offset < a.size
  pub sided : 0 < a.side
  pub before : a.origin ≤ a.offset
  pub reached : a.offset < a.origin + a.side

-- the image area, one direction (B.2)
abbrev pub image : Axis → Span
image a = span a.offset a.size

-- numXtiles, numYtiles (B-5)
abbrev pub tile_count : Axis → ℕ
tile_count a = reaching a.origin a.side a.size

-- column or row p: from max(XTOsiz + p XTsiz, XOsiz) to min(XTOsiz + (p + 1) XTsiz, Xsiz) (B-7 to B-10)
abbrev pub tile_span : Axis → ℕ → Span
tile_span a p = meet (cell a.origin a.side p) (image a)

-- the tile in column p and row q
abbrev pub tile : Axis → Axis → ℕ → ℕ → Rect
tile h v p q = rect (tile_span h p) (tile_span v q)

-- all tiles, row by row
abbrev pub tiles : Axis → Axis → List Rect
tiles h v = product (tile h v) (range_with_len 0 (tile_count h)) (range_with_len 0 (tile_count v))

-- the tiles of a component whose samples stand dx and dy apart: every edge divided, rounded up (B-12)
abbrev pub component_tiles : Axis → Axis → ℕ → ℕ → List Rect
component_tiles h v dx dy = map (shrink dx dy) (tiles h v)
