use Rattle.std.proofs.Common.{◌≤◌, length, sym, ap, ◌∙◌, arith}
use Rattle.std.specs.Prelude.{option_map}
use Rattle.std.proofs.lemmas.Iterator.Consumers.{nth_from_yields_List}
use Rattle.std.proofs.lemmas.List.{length-map}
use Rattle.packed.specs.Ppm.{packet_of, packets_left}
use Rattle.main_packets.proofs.Rows.{packets_listed, nth_found, nth_past}
use Rattle.main_packets.proofs.nth_packet.Goals as goal
use Rattle.main_packets.proofs.nth_packet.Goals.{In-Some, In-None}

pub returns-in-Some : goal.returns-in-Some
returns-in-Some c =
    nth_found c.args.segment.zppm (packets_left c.args.segment.packets) c.args.n (packet_of c.in-Some.packet)
    (sym (nth_from_yields_List _ _ _ c.nth.ensures.ran (packets_listed c.args.segment.packets)) ∙ ap (option_map packet_of) c.in-Some.is)

-- there are no more than n
past : (c : In-None) → length (packets_left c.args.segment.packets) ≤ c.args.n
past c =
    nth_past (packets_left c.args.segment.packets) c.args.n
    (sym (nth_from_yields_List _ _ _ c.nth.ensures.ran (packets_listed c.args.segment.packets)) ∙ ap (option_map packet_of) c.in-None.is)

pub overflow_sub-result : goal.overflow_sub-result
overflow_sub-result c =
    let few = past (goal.at.overflow_sub-result c).In-None in
    rw (c.requires) few

pub returns-in-None : goal.returns-in-None
returns-in-None c =
    let few = past (goal.at.returns-in-None c).In-None in
    simp length-map (omega (arith, c.requires))
