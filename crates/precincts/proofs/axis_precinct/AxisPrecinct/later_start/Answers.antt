use Rattle.std.proofs.Common.{◌≡◌, ◌+◌, ◌*◌, ◌/◌, ◌^◌, ◌<◌, ◌∙◌, ap₂, arith}
use Rattle.precincts.specs.Precincts.{reach, stride}
use Rattle.precincts.specs.Asked.{direction}
use Rattle.precincts.proofs.Ways.{later_before}
use Rattle.precincts.proofs.axis_precinct.AxisPrecinct.later_start.Goals as goal

below : (c : goal.After-stride-d) → (c.from.result + c.from-2.result) * c.stride-d.result < 2 ^ 32
below c =
    let a = c.args.self.axis in
    let w = direction a in
    let e : (c.from.result + c.from-2.result) * c.stride-d.result ≡ ((reach w).from / 2 ^ a.exponent + c.args.self.k) * stride w =
    ap₂ ◌*◌ (ap₂ ◌+◌ (c.from.ensures ∙ c.first_cell.ensures) c.from-2.ensures) c.stride-d.ensures.value in
    omega (arith, later_before w a.stepped c.args.self.k c.args.self.there)

pub overflow_mul-result : goal.overflow_mul-result
overflow_mul-result c = record { fits = omega (arith, below c) }

pub overflow_cast-result : goal.overflow_cast-result
overflow_cast-result c = record { fits = below c }
