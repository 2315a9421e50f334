use Rattle.std.proofs.Common.{rules}
use Rattle.packed.proofs.Packets.{left_more}
use Rattle.packed.proofs.segment.SegmentReader.next_packet.Goals as goal

pub returns : goal.returns
returns c = search (rules, left_more)
