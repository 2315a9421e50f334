use Rattle.std.proofs.Common.{refl}
use Rattle.packed.specs.Ppm.{ppm_reading}
use Rattle.headers.specs.declared.found.Segment.TheVariants.{Ppm}
use Rattle.headers.specs.Standing as standing
use Rattle.headers.proofs.Founds.{as_found}
use Rattle.headers.proofs.contents.ppm_found.Goals as goal

pub returns : goal.returns
returns c =
    let f = c.in_ok-ppm.ensures in
    (as_found standing.ppm 96 (ppm_reading c.args.reader.now.«data».now c.args.reader.now.place) (Ppm c.in_ok-ppm.ppm.count) c.ppm_marker.new.reader f.answers.0 (refl, f.answers.1.count), f.same)
