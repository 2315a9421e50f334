use Rattle.precincts.specs.Asked.{across, down}
use Rattle.blocks.proofs.BandBlocks.{cut_up, together}
use Rattle.blocks.proofs.grid.BlockGrid.sub_band_rect.Goals as goal

pub returns-clause-cut_up : goal.returns-clause-cut_up
returns-clause-cut_up c =
    let g = c.args.self.now in
    let p = g.precincts in
    λ hb ok. cut_up g.xcb g.ycb (across p) (down p) c.args.band (together p) ok hb
