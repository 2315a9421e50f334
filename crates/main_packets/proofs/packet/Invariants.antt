use Rattle.main_packets.proofs.Ordered.{Left}
use Rattle.main_packets.proofs.packet.Given as goal

abbrev pub invariant-loop-zppm : goal.invariant-loop-zppm
invariant-loop-zppm l = Left l.header.codestream.now l.header.csiz l.header.segments l.k l.zppm l.left
