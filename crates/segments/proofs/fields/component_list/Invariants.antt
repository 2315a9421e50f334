use Rattle.std.proofs.Common.{◌≡◌}
use Rattle.segments.proofs.Components.{Listed}
use Rattle.segments.proofs.fields.component_list.Given as goal

abbrev pub invariant-loop-k : goal.invariant-loop-k
invariant-loop-k l =
    Listed l.count l.initial.reader.«data».now l.initial.reader.place l._k l.reader.place l.sampled
    × (l.reader.«data» ≡ l.initial.reader.«data»)
