use Rattle.headers.proofs.Once.{one_header}
use Rattle.headers.proofs.laws.one_header.Goals as goal

pub returns : goal.returns
returns c = one_header
