use Rattle.std.proofs.Common.{◌≡◌, rules}
use Rattle.quantization.proofs.Joins.{qcc_exit}
use Rattle.quantization.proofs.markers.qcc_marker.Goals as goal

pub returns : goal.returns
returns c =
    let h = c.in_ok-index.ensures.0 in
    let s = c.in_ok-info.ensures.0 in
    let e : c.qcc_fields.new.reader.«data».now ≡ c.args.reader.now.«data».now = cc in (
      qcc_exit c.args.header c.args.csiz c.args.reader.now.«data».now c.qcc_fields.new.reader.«data».now
          c.args.reader.now.place c.qcc_fields.new.reader.place c.quantization_parameters.new.reader.place
          (c.in_ok-index.index, c.in_ok-index.len) c.in_ok-info.info _ _ e h.0 h.1 s.0 s.1,
      search rules,
    )
