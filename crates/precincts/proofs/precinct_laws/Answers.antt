use Rattle.precincts.proofs.Ways.{precinct_laws}
use Rattle.precincts.proofs.precinct_laws.Goals as goal

pub returns : goal.returns
returns c = precinct_laws
