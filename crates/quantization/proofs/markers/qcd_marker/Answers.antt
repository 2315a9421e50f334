use Rattle.std.proofs.Common.{arith, rules}
use Rattle.quantization.proofs.Joins.{qcd_exit}
use Rattle.quantization.proofs.markers.qcd_marker.Goals as goal

pub returns : goal.returns
returns c =
    let f = c.in_ok-length.ensures in
    let h = c.quantization_parameters.ensures in (
      qcd_exit c.args.reader.now.«data».now c.read_u16.new.self.«data».now c.args.reader.now.place c.in_ok-length.length
          c.read_u16.new.self.place c.quantization_parameters.new.reader c.quantization_parameters.result f.0.0 f.0.1
          f.0.2 (omega arith) (cc) h.0,
      search rules,
    )
