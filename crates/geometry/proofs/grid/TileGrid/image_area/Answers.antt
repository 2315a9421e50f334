use Rattle.std.proofs.Common.{sym, ap, ◌∙◌, subst}
use Rattle.rect.specs.Spans.{Rect, area}
use Rattle.rect.specs.Sums.{ExactlyOne}
use Rattle.geometry.specs.Tiles.{grid_tiles}
use Rattle.geometry.proofs.TileLaws.{image_partition}
use Rattle.geometry.proofs.grid.TileGrid.image_area.Goals as goal

pub returns-clause-areas_add_up : goal.returns-clause-areas_add_up
returns-clause-areas_add_up c = (image_partition c.args.self.now).areas ∙ ap area (sym c.from_ltrb.ensures)

pub returns-clause-exactly_one : goal.returns-clause-exactly_one
returns-clause-exactly_one c =
    let g = c.args.self.now in
    subst (λ (whole : Rect). ExactlyOne whole (grid_tiles g)) (sym c.from_ltrb.ensures) (image_partition g).points
