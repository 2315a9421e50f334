use Rattle.std.proofs.Common.{◌≡◌, ◌-◌, ◌≤◌}
use Rattle.layouts.specs.Layouts.{here}
use Rattle.packed.specs.Segment.{cut, Inside}
use Rattle.packed.specs.Ppm.{rest_layout}
use Rattle.packed.proofs.Packets.{counted}
use Rattle.packed.proofs.ppm.count_packets.Given as goal

abbrev pub invariant-loop-inside : goal.invariant-loop-inside
invariant-loop-inside l = record {
  counts : counted 0 (here (rest_layout l.initial.inside) (cut l.initial.inside)) ≡ counted l.count (here (rest_layout l.inside) (cut l.inside));
  inside : Inside l.initial.inside l.inside;
  fits : l.count ≤ l.inside.reader.place;
}

abbrev pub decreases-loop-inside : goal.decreases-loop-inside
decreases-loop-inside l = l.inside.end - l.inside.reader.place
