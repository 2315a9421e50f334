use Rattle.std.proofs.Common.{◌∙◌, arith}
use Rattle.precincts.specs.Asked.{direction}
use Rattle.precincts.proofs.Ways.{place_first, place_later}
use Rattle.precincts.proofs.axis_precinct.AxisPrecinct.start.Goals as goal

pub returns-then-self-eq0 : goal.returns-then-self-eq0
returns-then-self-eq0 c =
    let p = c.args.self in
    c.first_start.ensures ∙ place_first (direction p.axis) p.axis.stepped p.k (omega arith) p.there

pub returns : goal.returns
returns c =
    let p = c.args.self in
    c.later_start.ensures ∙ place_later (direction p.axis) p.axis.stepped p.k (λ z. omega arith) p.there
