use Rattle.std.proofs.Common.{rules}
use Rattle.quantization.proofs.Joins.{parameters_exit}
use Rattle.quantization.proofs.parameters.quantization_parameters.Goals as goal

pub returns : goal.returns
returns g c =
    let f = c.in_ok-sq.ensures in
    let h = c.in_ok-steps.ensures in (
      parameters_exit c.args.len c.args.reader.now.«data».now c.read_byte.new.self.«data».now c.args.reader.now.place
          c.in_ok-sq.sq c.read_byte.new.self.place c.step_sizes.new.reader.place c.step_count-count.result
          c.in-Ok.style c.in_ok-steps.steps f.0.0 f.0.1 f.0.2 (cc)
          c.in-Ok.ensures c.step_count-count.ensures h.0.0 h.0.1,
      search rules,
    )
