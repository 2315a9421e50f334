use Rattle.std.proofs.Common.{◌≡◌}
use Rattle.quantization.proofs.Stepped.{Stepped}
use Rattle.quantization.proofs.steps.step_sizes.Given as goal

abbrev pub invariant-loop-k : goal.invariant-loop-k
invariant-loop-k g l =
    Stepped l.style l.count l.initial.reader.«data».now l.initial.reader.place l.k l.reader.place l.steps
    × (l.reader.«data» ≡ l.initial.reader.«data»)
