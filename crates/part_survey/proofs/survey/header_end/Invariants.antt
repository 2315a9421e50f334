use Rattle.std.proofs.Common.{◌≡◌, ◌-◌, length}
use Rattle.part_survey.proofs.Runs.{Run}
use Rattle.part_survey.proofs.survey.header_end.Given as goal

abbrev pub invariant-loop-segment : goal.invariant-loop-segment
invariant-loop-segment l =
    Run l.initial.reader.«data».now l.rules.csiz l.rules.packets l.rules.strict l.initial.reader.place l.reader.place l.headers
    × (l.reader.«data» ≡ l.initial.reader.«data»)

abbrev pub decreases-loop-segment : goal.decreases-loop-segment
decreases-loop-segment l = length l.initial.reader.«data».now - l.reader.place
