use Rattle.std.proofs.Common.{rules}
use Rattle.packed.proofs.Packets.{turn_more}
use Rattle.packed.proofs.ppm.count_packets.Goals as goal

pub loop-inside-preserved : goal.loop-inside-preserved
loop-inside-preserved c = search (rules, turn_more)
