-- Worked examples: y [3, 5) in blocks 4 high; and the component of Xsiz 17, Ysiz 11, XOsiz 3, YOsiz 2, XTsiz 8, YTsiz 6, XTOsiz 1, YTOsiz 1
-- with steps 1, one level, exponents 15 and code-blocks of 4 × 4.
use Rattle.std.specs.Prelude.{◌≡◌, ℕ, List, [], ◌∷◌, length, None}
use Rattle.rect.specs.Spans.{Rect, area, span}
use Rattle.rect.specs.Sums.{each, total}
use Rattle.geometry.specs.TileGrid.{tiles}
use Rattle.geometry.specs.Worked.{across, down, box}
use Rattle.precincts.specs.Precincts.{refusal}
use Rattle.blocks.specs.CodeBlocks.{block_count_of, blocks}
use Rattle.blocks.specs.Components.{Coding, across_at, down_at, tile_blocks}

abbrev pub plain : Coding
plain = record { levels = 1; ppx = λ _. 15; ppy = λ _. 15; xcb = 2; ycb = 2 }

-- no precincts of resolution r of tile t are refused
abbrev pub Taken : Rect → ℕ → Type 0
Taken t r = refusal (across_at plain 1 t r) (down_at plain 1 t r) ≡ None

abbrev pub all_blocks : List Rect
all_blocks = each (tile_blocks plain 1 1) (tiles across down)

pub record BlocksWorked : Type 0 where
  pub two_rows : blocks 4 4 (box 0 2 3 5) ≡ box 0 2 3 4 ∷ box 0 2 4 5 ∷ []
  pub rows : block_count_of 4 (span 3 5) ≡ 2
  pub lowest : Taken (box 3 9 2 7) 0
  pub highest : Taken (box 3 9 2 7) 1
  pub number : length all_blocks ≡ 30
  pub samples : total area all_blocks ≡ 126
