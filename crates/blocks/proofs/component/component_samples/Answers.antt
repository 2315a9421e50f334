use Rattle.std.proofs.Common.{◌≡◌, ℕ, sym, subst}
use Rattle.geometry.specs.Components.{samples}
use Rattle.blocks.specs.Components.{BlocksCover}
use Rattle.blocks.proofs.Cover.{blocks_cover}
use Rattle.blocks.proofs.component.component_samples.Goals as goal

pub returns-clause-blocks_cover : goal.returns-clause-blocks_cover
returns-clause-blocks_cover c =
    let g = c.args.tiles.now in
    let s = c.args.sampling in
    let e : c.area.result ≡ samples g s = cc in
    subst (λ (n : ℕ). BlocksCover g s n) (sym e) (blocks_cover g s)
