use Rattle.std.proofs.Common.{◌≡◌}
use Rattle.coding.proofs.Precincts.{Rows}
use Rattle.coding.proofs.fields.precinct_sizes.Given as goal

abbrev pub invariant-loop-size : goal.invariant-loop-size
invariant-loop-size g l =
    Rows l.count l.initial.reader.«data».now l.initial.reader.place l.size-index l.reader.place l.size-items
    × (l.reader.«data» ≡ l.initial.reader.«data»)
