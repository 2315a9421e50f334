use Rattle.ordered.proofs.Arrangement.{arrangement_law}
use Rattle.ordered.proofs.arrangement_law.Goals as goal

pub returns : goal.returns
returns g c = arrangement_law g.T.Sequenced.sequence
