use Rattle.std.proofs.Common.{sym, ◌∙◌, ap, subst}
use Rattle.rect.specs.Spans.{Rect}
use Rattle.rect.specs.Sums.{ExactlyOne}
use Rattle.geometry.specs.Components.{component_tiles_of, sampled}
use Rattle.geometry.proofs.TileLaws.{component_tiles_listed, sampled_partition}
use Rattle.geometry.proofs.grid.TileGrid.component_area.Goals as goal

pub returns-clause-listed : goal.returns-clause-listed
returns-clause-listed c = component_tiles_listed c.args.self.now c.args.sampling

pub returns-clause-areas_add_up : goal.returns-clause-areas_add_up
returns-clause-areas_add_up c = (sampled_partition c.args.self.now c.args.sampling).areas

pub returns-clause-exactly_one : goal.returns-clause-exactly_one
returns-clause-exactly_one c =
    let g = c.args.self.now in
    let s = c.args.sampling in
    let e = c.samples_in.ensures ∙ ap (sampled s) c.image_area.ensures.edges in
    subst (λ (whole : Rect). ExactlyOne whole (component_tiles_of g s)) (sym e) (sampled_partition g s).points
