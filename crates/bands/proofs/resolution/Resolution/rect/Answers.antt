use Rattle.std.proofs.Common.{◌≡◌, sym, ap, ◌∙◌}
use Rattle.rect.specs.Rects.{region}
use Rattle.rect.specs.Spans.{area}
use Rattle.bands.specs.SubBands.{resolution}
use Rattle.bands.proofs.BandLaws.{resolution_area}
use Rattle.bands.proofs.resolution.Resolution.rect.Goals as goal

pub returns-clause-areas_add_up : goal.returns-clause-areas_add_up
returns-clause-areas_add_up c =
    let s = c.args.self.now in
    let e : region c.from_ltrb.result ≡ resolution s.levels s.r (region c.args.tile) = cc in
    resolution_area s.levels s.r (region c.args.tile) s.there ∙ ap area (sym e)
