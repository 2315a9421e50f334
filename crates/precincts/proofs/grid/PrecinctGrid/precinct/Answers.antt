use Rattle.std.proofs.Common.{◌≡◌, ◌+◌, ◌*◌, ◌/◌, ◌%◌, sym, ◌∙◌, ap₂, inl, inr, div-add-mod', arith}
use Rattle.precincts.specs.declared.precinct.PrecinctData.{PrecinctData}
use Rattle.precincts.specs.Precincts.{count, precinct_in}
use Rattle.precincts.specs.Asked.{across, down}
use Rattle.precincts.proofs.Listed.{number, precinct_is}
use Rattle.precincts.proofs.grid.PrecinctGrid.precinct.Goals as goal

pub returns-in_default : goal.returns-in_default
returns-in_default c =
    let g = c.args.self.now in
    let n = ap₂ ◌*◌ c.num_precincts_x.ensures c.num_precincts_y.ensures in
    inl (omega (arith, number (across g) (down g), n, c.in_default.ensures.none), c.into.ensures)

pub returns-in-Some-refusal : goal.returns-in-Some-refusal
returns-in-Some-refusal c =
    let g = c.args.self.now in
    let e = c.in-Some.ensures in
    let there = simp (e.number, e.grid.0 ∙ c.num_precincts_x.ensures, e.grid.1 ∙ c.num_precincts_y.ensures) at c.in-Some.cell.inside in
    inr (omega (arith, number (across g) (down g), there), sym c.in-Some-refusal.ensures)

pub returns : goal.returns
returns c =
    let g = c.args.self.now in
    let x = across g in
    let y = down g in
    let k = c.args.k in
    let e = c.in-Some.ensures in
    let wide = e.grid.0 ∙ c.num_precincts_x.ensures in
    let there = simp (e.number, wide, e.grid.1 ∙ c.num_precincts_y.ensures) at c.in-Some.cell.inside in
    let p : PrecinctData = record {
      r_x = c.start.result;
      r_y = c.start-2.result;
      rect = record { x0 = c.cover_start.result; y0 = c.cover_start-2.result; x1 = c.cover_end.result; y1 = c.cover_end-2.result };
      idx = k;
    } in
    let idx : k / count x * count x + k % count x ≡ k = div-add-mod' k (count x) in
    let listed : p ≡ precinct_in x y (k % count x) (k / count x) = cc in
    precinct_is x y g.x.stepped g.y.stepped k p (sym c.in_default-refusal.ensures) there listed
