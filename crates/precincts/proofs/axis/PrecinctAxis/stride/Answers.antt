use Rattle.std.proofs.Common.{◌≡◌, ◌+◌, ◌*◌, ◌%◌, ◌^◌, ap, ◌∙◌, ap₂, mod-eq_of_lt, arith}
use Rattle.precincts.specs.Precincts.{stride}
use Rattle.precincts.specs.Asked.{direction}
use Rattle.precincts.proofs.Ways.{stride_pos, stride_small}
use Rattle.precincts.proofs.axis.PrecinctAxis.stride.Goals as goal

pub returns : goal.returns
returns c =
    let a = c.args.self in
    let d = direction a in
    let e : c.from.result * 2 ^ (a.exponent + c.depth.result) ≡ stride d =
    ap₂ (λ s n. s * 2 ^ (a.exponent + n)) c.from.ensures c.depth.ensures in
    let small = stride_small d (omega arith) a.small a.resolution.few in
    let value : (c.from.result * 2 ^ (a.exponent + c.depth.result)) % 2 ^ 64 ≡ stride d =
    ap (λ n. n % 2 ^ 64) e ∙ mod-eq_of_lt (omega (arith, small)) in
    record { value = value; some = omega (arith, stride_pos d a.stepped); small = omega arith }
