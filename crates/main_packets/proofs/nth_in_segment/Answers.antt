use Rattle.std.proofs.Common.{◌≡◌, ℕ, List, drop, rules}
use Rattle.std.specs.Prelude.{slice_index}
use Rattle.layouts.specs.Layouts.{read}
use Rattle.packed.specs.Ppm.{packets_left, packets_of, ppm_reading}
use Rattle.main_packets.proofs.Indices.{same_index, other_index}
use Rattle.main_packets.proofs.nth_in_segment.Goals as goal
use Rattle.main_packets.proofs.nth_in_segment.Goals.{In-Ok}

-- the segment that was read
made :
    (c : In-Ok) (vs : List ℕ) (q : ℕ) → ppm_reading c.args.codestream.now c.args.place ≡ read vs q
    → (c.in-Ok.segment.zppm ≡ slice_index vs 2) × (packets_left c.in-Ok.segment.packets ≡ packets_of (drop 3 vs))
made c vs q e =
    let of : c.new-reader.result.«data».now ≡ c.args.codestream.now = search rules in
    let m = rw (of, c.new-reader.ensures.at, e) at c.in-Ok.ensures.answers.1 in
    (m.zppm, m.packets)

pub returns-in-Ok : goal.returns-in-Ok
returns-in-Ok c vs q e =
    let m = made (goal.at.returns-in-Ok c).In-Ok vs q e in
    rw (← m.0, ← m.1, ← c.if-segment-zppm.true)
    (same_index c.in-Ok.segment.zppm (packets_left c.in-Ok.segment.packets) c.args.n c.nth_packet.result (search rules) c.nth_packet.ensures)

pub returns-in_default : goal.returns-in_default
returns-in_default c vs q e =
    let m = made (goal.at.returns-in_default c).In-Ok vs q e in
    rw (← m.0, ← m.1)
    (other_index c.in-Ok.segment.zppm c.args.zppm (packets_left c.in-Ok.segment.packets) c.args.n (search rules) c.if-segment-zppm.false)
