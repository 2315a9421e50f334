use Rattle.headers.proofs.Once.{some_main, some_part}
use Rattle.headers.proofs.laws.some_header.Goals as goal

pub returns : goal.returns
returns c = record { main = some_main; part = some_part }
