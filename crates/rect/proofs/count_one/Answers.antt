use Rattle.rect.proofs.count_one.Goals as goal
use Rattle.rect.proofs.Places.{count_one}

pub returns : goal.returns
returns c = count_one
