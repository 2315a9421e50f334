use Rattle.std.proofs.Common.{refl}
use Rattle.packed.proofs.Segments.{ppm_read}
use Rattle.packed.proofs.ppm.ppm_marker.Goals as goal

pub returns-clause-answers : goal.returns-clause-answers
returns-clause-answers c =
    ppm_read 96 c.args.reader.now c.take_segment.new.reader c.in_ok-inside.inside c.read_byte.new.self c.count_packets.new.inside
    (record { zppm = c.in_ok-zppm.zppm; count = c.in_ok-count.count; packets = c.read_byte.new.self }) c.in_ok-inside.ensures
    c.in_ok-zppm.ensures c.in_ok-count.ensures refl
