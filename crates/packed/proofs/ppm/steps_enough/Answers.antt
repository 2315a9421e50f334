use Rattle.std.proofs.Common.{length, arith}
use Rattle.packed.proofs.Packets.{steps_same, left_same}
use Rattle.packed.proofs.ppm.steps_enough.Goals as goal

pub returns : goal.returns
returns c = record {
  reading = λ n end d p h. steps_same n end end d p h (omega arith);
  left = λ n d p h. left_same n (length d) d p h (omega arith);
}
