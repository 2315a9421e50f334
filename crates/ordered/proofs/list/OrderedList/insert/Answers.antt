use Rattle.std.proofs.Common.{arith}
use Rattle.ordered.proofs.Placement.{inserted_at}
use Rattle.ordered.proofs.list.OrderedList.insert.Goals as goal

pub returns-clause-inserted : goal.returns-clause-inserted
returns-clause-inserted g c = inserted_at g.T.Sequenced.sequence _ _ _ _ _ (omega arith) c.place_of-at.ensures c.copy_within.ensures.after c.copy_within.ensures.len
