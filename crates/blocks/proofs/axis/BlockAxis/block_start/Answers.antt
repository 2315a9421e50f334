use Rattle.std.proofs.Common.{◌≡◌, ◌+◌, ◌*◌, ◌/◌, ◌^◌, ◌∙◌, ap₂, arith, pow_pos}
use Rattle.rect.specs.Spans.{span}
use Rattle.blocks.proofs.BlockLaws.{begins_before}
use Rattle.blocks.proofs.axis.BlockAxis.block_start.Goals as goal

pub overflow_cast-result : goal.overflow_cast-result
overflow_cast-result c =
    let a = c.args.self in
    let w = 2 ^ a.exponent in
    let e : (c.from.result + c.from-2.result) * w ≡ (a.from / w + c.args.i) * w =
    ap₂ (λ q i. (q + i) * w) (c.from.ensures ∙ c.floor_div_pow.ensures) c.from-2.ensures in
    record { fits = omega (arith, (begins_before w (pow_pos a.exponent) (span a.from a.to) c.args.i c.requires).1) }
