use Rattle.std.proofs.Common.{◌≡◌, ◌+◌, ◌*◌, ◌/◌, ◌%◌, ◌^◌, sym, ◌∙◌, ap₂, arith}
use Rattle.std.proofs.lemmas.Bool.{eqb-true}
use Rattle.precincts.specs.Places.{above}
use Rattle.precincts.specs.Precincts.{reach, stride}
use Rattle.precincts.specs.Asked.{direction}
use Rattle.precincts.proofs.Ways.{above_inside}
use Rattle.precincts.proofs.axis_precinct.AxisPrecinct.first_start.Goals as goal

pub overflow_cast-result : goal.overflow_cast-result
overflow_cast-result c =
    let a = c.args.self.axis in
    let w = direction a in
    let d = c.stride-d.ensures.value in
    let ne : a.from % stride w ≡ 0 → ⊥ = λ z. c.if-x-d-eq0.false (ap₂ ◌%◌ c.from-x.ensures d ∙ z) in
    let z : (reach w).from % 2 ^ a.exponent ≡ 0 =
    eqb-true ((reach w).from % 2 ^ a.exponent) 0 (sym c.begins_precinct.ensures ∙ c.if-begins_precinct.true) in
    let e : (c.from-x.result / c.stride-d.result + 1) * c.stride-d.result ≡ above (stride w) a.from =
    ap₂ (λ x n. (x / n + 1) * n) c.from-x.ensures d in
    record { fits = omega (arith, above_inside w a.stepped (omega (arith, c.args.self.there)) ne z) }
