use Rattle.bands.proofs.BandLaws.{bands_cover}
use Rattle.bands.proofs.bands_cover.Goals as goal

pub returns : goal.returns
returns c = bands_cover
