use Rattle.std.proofs.Common.{refl, arith}
use Rattle.layouts.specs.declared.header.HeaderKind.TheVariants.{TilePart}
use Rattle.layouts.specs.Layouts.{here}
use Rattle.quantization.specs.Quantization.{qcc_layout}
use Rattle.headers.specs.declared.found.Segment.TheVariants.{Sets}
use Rattle.settings.specs.declared.inherit.Setting.TheVariants.{Qcc}
use Rattle.headers.specs.Standing as standing
use Rattle.headers.proofs.Founds.{image_found}
use Rattle.headers.proofs.contents.tile_qcc_found.Goals as goal

pub returns : goal.returns
returns c =
    let f = c.in_ok-index.ensures in (
      image_found c.args.csiz c.args.place standing.qcc 93 (here (qcc_layout TilePart c.args.csiz) c.args.reader.now)
          (Sets (Qcc c.in_ok-index.index c.in_ok-index.qcc)) c.qcc_marker.new.reader f.0.0
          (omega (arith, f.0.1.index, c.in_ok-test_component.ensures)) (refl, f.0.1),
      f.1,
    )
