use Rattle.std.proofs.Common.{refl}
use Rattle.layouts.specs.Layouts.{here}
use Rattle.quantization.specs.Quantization.{qcd_layout}
use Rattle.headers.specs.declared.found.Segment.TheVariants.{Sets}
use Rattle.settings.specs.declared.inherit.Setting.TheVariants.{Qcd}
use Rattle.headers.specs.Standing as standing
use Rattle.headers.proofs.Founds.{as_found}
use Rattle.headers.proofs.contents.qcd_found.Goals as goal

pub returns : goal.returns
returns c =
    let f = c.in_ok-qcd.ensures in
    (as_found standing.qcd 92 (here qcd_layout c.args.reader.now) (Sets (Qcd c.in_ok-qcd.qcd)) c.qcd_marker.new.reader f.0.0 (refl, f.0.1), f.1)
