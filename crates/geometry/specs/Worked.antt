-- A worked example: Xsiz 17, Ysiz 11, XOsiz 3, YOsiz 2, XTsiz 8, YTsiz 6, XTOsiz 1, YTOsiz 1.
use Rattle.std.specs.Prelude.{◌≡◌, ℕ, [], ◌∷◌}
use Rattle.rect.specs.Spans.{Rect, span, rect, shrink}
use Rattle.geometry.specs.TileGrid.{Axis, Accepted, tile, tile_count, tiles}

abbrev pub across : Axis
across = record { size = 17; offset = 3; side = 8; origin = 1 }

abbrev pub down : Axis
down = record { size = 11; offset = 2; side = 6; origin = 1 }

-- [a, b) × [c, d)
abbrev pub box : ℕ → ℕ → ℕ → ℕ → Rect
box a b c d = rect (span a b) (span c d)

pub record TilesWorked : Type 0 where
  pub accepted_across : Accepted across
  pub accepted_down : Accepted down
  pub columns : tile_count across ≡ 2
  pub rows : tile_count down ≡ 2
  pub tile_2 : tile across down 0 1 ≡ box 3 9 7 11
  pub all : tiles across down ≡ box 3 9 2 7 ∷ box 9 17 2 7 ∷ box 3 9 7 11 ∷ box 9 17 7 11 ∷ []
  pub sampled : shrink 2 2 (tile across down 0 0) ≡ box 2 5 1 4
