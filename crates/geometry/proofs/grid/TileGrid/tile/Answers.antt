use Rattle.std.proofs.Common.{◌≡◌, ◌∙◌}
use Rattle.rect.specs.Rects.{region}
use Rattle.geometry.specs.Tiles.{columns, rows, tile_of}
use Rattle.geometry.proofs.TileLaws.{tile_is}
use Rattle.geometry.proofs.grid.TileGrid.tile.Goals as goal

pub returns : goal.returns
returns c =
    let g = c.args.self.now in
    let cell = c.in_ok-cell.cell in
    let e = c.in_ok-cell.ensures in
    let k : cell.k ≡ c.args.idx = e.number ∙ c.from.ensures in
    let w : cell.columns ≡ columns g = e.grid.0 ∙ c.num_x_tiles.ensures in
    let h : cell.rows ≡ rows g = e.grid.1 ∙ c.num_y_tiles.ensures in
    let edges : region c.from_ltrb.result ≡ tile_of g c.args.idx = cc in
    tile_is g c.args.idx c.from_ltrb.result (simp (k, w, h) at cell.inside) edges
