use Rattle.std.proofs.Common.{◌≡◌, drop}
use Rattle.settings.specs.Inheritance.{applied}
use Rattle.settings.proofs.rows.ComponentSettings.after_all.Given as goal

abbrev pub invariant-loop-segment : goal.invariant-loop-segment
invariant-loop-segment l = applied l.index l.row (drop l.segment-index l.segments) ≡ applied l.index l.self l.segments
