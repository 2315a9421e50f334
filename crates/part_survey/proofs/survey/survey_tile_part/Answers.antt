use Rattle.std.proofs.Common.{◌≡◌, ℕ, ◌+◌, ◌≤◌, List, length, Ok, sym, refl, ◌∙◌, ap₂, arith}
use Rattle.part_survey.specs.Part.{start_of}
use Rattle.part_survey.specs.Ends.{HeaderEnds}
use Rattle.part_survey.proofs.Parts.{part_closed}
use Rattle.part_survey.proofs.survey.survey_tile_part.Goals as goal

pub returns-in-Some-clause-surveyed : goal.returns-in-Some-clause-surveyed
returns-in-Some-clause-surveyed c =
    let d = c.args.codestream.now in
    let f = c.in_ok-start.ensures in
    let of : c.new-reader.result.«data».now ≡ d = cc in
    let same : c.tile_part_start.new.reader.«data».now ≡ d = cc in
    let at : c.tile_part_start.new.reader.place ≡ c.args.place + 12 = omega (arith, f.behind.0, c.new-reader.ensures.at) in
    let start : Ok c.in_ok-start.start ≡ start_of d c.args.place c.args.tiles =
    f.start ∙ ap₂ (λ (s : List ℕ) (p : ℕ). start_of s p c.args.tiles) of c.new-reader.ensures.at in
    let header : HeaderEnds d c.args.rules.csiz c.args.rules.packets c.args.rules.strict (c.args.place + 12) (Ok c.in_ok-end.end) =
    rw (same, at) at c.in_ok-end.ensures in
    let inside : c.args.place + 12 ≤ length d = rw (at, of) at f.behind.1 in
    part_closed d c.args.place c.args.tiles c.args.rules.csiz c.args.rules.packets c.args.rules.strict c.in_ok-start.start
    c.in_ok-end.end c.in_ok-end.end.place c.in-Some.headers c.tile_part_end.result start header (rw (sym c.in-Some.is) refl) c.tile_part_end.ensures
