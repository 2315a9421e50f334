use Rattle.std.proofs.Common.{◌+◌, arith}
use Rattle.main_packets.proofs.Ordered.{Left, left_all, left_found, left_others, left_none}
use Rattle.main_packets.proofs.packet.Goals as goal
use Rattle.main_packets.proofs.packet.Goals.{In-Continue}

pub loop-zppm-init : goal.loop-zppm-init
loop-zppm-init c = left_all c.args.header.codestream.now c.args.header.csiz c.args.header.segments c.args.k

pub returns-in-Break : goal.returns-in-Break
returns-in-Break c = left_found c.in-Break.row c.loop-zppm.invariant c.in-Break.ensures

-- the packets of greater indices are left
others :
    (c : In-Continue)
    → Left c.args.header.codestream.now c.args.header.csiz c.args.header.segments c.args.k (c.loop-zppm.zppm + 1) c.in-Continue.rest
others c = left_others c.in-Continue.rest c.loop-zppm.invariant c.in-Continue.ensures

pub loop-zppm-preserved : goal.loop-zppm-preserved
loop-zppm-preserved c = others (goal.at.loop-zppm-preserved c).In-Continue

pub returns-in-Continue : goal.returns-in-Continue
returns-in-Continue c = left_none (omega arith) (others (goal.at.returns-in-Continue c).In-Continue)
