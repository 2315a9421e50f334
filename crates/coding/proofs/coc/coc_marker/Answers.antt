use Rattle.std.proofs.Common.{◌≡◌, refl, rules}
use Rattle.layouts.specs.Indices.{indexed}
use Rattle.coding.proofs.Joins.{coc_answered}
use Rattle.coding.proofs.coc.coc_marker.Goals as goal

pub returns : goal.returns
returns c =
    let h = c.in_ok-index.ensures.0 in
    let s = c.in_ok-parameters.ensures.0 in
    let e : c.coc_fields.new.reader.«data».now ≡ c.args.reader.now.«data».now = cc in (
      coc_answered (indexed c.args.header c.args.csiz) c.args.csiz c.args.reader.now.«data».now
          c.coc_fields.new.reader.«data».now c.args.reader.now.place c.coc_fields.new.reader.place
          c.coding_style_parameters.new.reader.place (c.in_ok-index.index, c.in_ok-index.flags) _ _ _ e h.0 h.1
          s.0 s.1 refl refl,
      search rules,
    )
