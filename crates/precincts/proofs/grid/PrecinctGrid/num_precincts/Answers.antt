use Rattle.std.proofs.Common.{◌≡◌, ◌*◌, sym}
use Rattle.precincts.specs.Precincts.{count}
use Rattle.precincts.specs.Asked.{across, down}
use Rattle.precincts.proofs.Listed.{number_is}
use Rattle.precincts.proofs.grid.PrecinctGrid.num_precincts.Goals as goal

pub returns : goal.returns
returns c =
    let g = c.args.self.now in
    let n = c.from.result * c.from-2.result in
    let e : n ≡ count (across g) * count (down g) = cc in
    number_is (across g) (down g) g.x.stepped g.y.stepped n (sym c.in_default.ensures) e
