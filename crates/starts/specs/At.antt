-- What the rows of the tables have of a tile, a component, and a component in a tile.
use Rattle.std.specs.Prelude.{ℕ, ◌+◌, ◌*◌, map, slice_index, slice_index_or}
use Rattle.rect.specs.Rects.{region, nowhere}
use Rattle.rect.specs.Spans.{Rect}
use Rattle.blocks.specs.Components.{Coding}
use Rattle.coding.specs.Coding.{widths_of, heights_of}
use Rattle.settings.specs.declared.rows.ComponentSettings.{ComponentSettings}
use Rattle.tables.specs.State.{State}
use Rattle.tables.specs.declared.book.OpenBook.{OpenBook}

-- the coding parameters of a settings row
abbrev pub coding_of : ComponentSettings → Coding
coding_of s =
    record {
      levels = s.parameters.levels;
      ppx = λ r. slice_index (widths_of s.parameters.precincts) r;
      ppy = λ r. slice_index (heights_of s.parameters.precincts) r;
      xcb = s.parameters.width;
      ycb = s.parameters.height;
    }

abbrev pub no_coding : Coding
no_coding = record { levels = 0; ppx = λ _. 0; ppy = λ _. 0; xcb = 0; ycb = 0 }

-- what the rows have: the coding parameters of component c in tile t, the tile's rectangle, XRsiz and YRsiz
abbrev pub coding_at : OpenBook → State → ℕ → ℕ → Coding
coding_at b s c t = slice_index_or (map coding_of s.settings) (t * b.size.csiz + c) no_coding

abbrev pub tile_at : State → ℕ → Rect
tile_at s t = slice_index_or (map (λ x. region x.area) s.tiles) t nowhere

abbrev pub step_x : State → ℕ → ℕ
step_x s c = slice_index (map (λ x. x.xrsiz) s.components) c

abbrev pub step_y : State → ℕ → ℕ
step_y s c = slice_index (map (λ x. x.yrsiz) s.components) c
