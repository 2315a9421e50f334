use Rattle.std.proofs.Common.{◌≡◌}
use Rattle.ordered.proofs.Progress.{Progress}
use Rattle.ordered.proofs.list.OrderedList.insert_all.Given as goal

abbrev pub invariant-loop-record : goal.invariant-loop-record
invariant-loop-record g l =
    Progress g.T.Sequenced.sequence l.records l.initial.self.rows.now l.initial.self.len l.self.rows.now l.self.len l.record-index
    × (l.self.rows.ghost_name ≡ l.initial.self.rows.ghost_name)
