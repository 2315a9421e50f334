use Rattle.ordered.proofs.Progress.{progress_all}
use Rattle.ordered.proofs.list.OrderedList.insert_all.Goals as goal

pub returns-clause-inserted : goal.returns-clause-inserted
returns-clause-inserted g c = progress_all _ _ _ _ _ _ _ c.loop-record.invariant.0 c.loop-record-test.false c.loop-record.auto.record-index-end
