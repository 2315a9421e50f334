use Rattle.std.proofs.Common.{◌≡◌, ◌∙◌}
use Rattle.rect.specs.Rects.{region}
use Rattle.blocks.specs.Asked.{block_of, columns}
use Rattle.blocks.proofs.Numbered.{block_is}
use Rattle.blocks.proofs.cells.CodeBlocks.code_block.Goals as goal

pub returns : goal.returns
returns c =
    let b = c.args.self.now in
    let k = c.args.k in
    let cell = c.in_ok-cell.cell in
    let e = c.in_ok-cell.ensures in
    let w : cell.columns ≡ columns b = e.grid.0 ∙ c.num_columns.ensures in
    let there = simp (e.number, w, e.grid.1 ∙ c.num_rows.ensures) at cell.inside in
    let closed : region c.from_ltrb.result ≡ block_of b k = cc in
    block_is b k c.from_ltrb.result there closed
