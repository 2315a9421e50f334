use Rattle.std.proofs.Common.{◌≡◌, refl, rules}
use Rattle.coding.proofs.Joins.{cod_answered}
use Rattle.coding.proofs.cod.cod_marker.Goals as goal

pub returns : goal.returns
returns c =
    let h = c.in_ok-head.ensures.0 in
    let s = c.in_ok-parameters.ensures.0 in
    let e : c.cod_fields.new.reader.«data».now ≡ c.args.reader.now.«data».now = cc in (
      cod_answered c.args.reader.now.«data».now c.cod_fields.new.reader.«data».now c.args.reader.now.place
          c.cod_fields.new.reader.place c.coding_style_parameters.new.reader.place c.in_ok-head.head _ _ _ e h.0 h.1
          s.0 s.1 refl refl refl refl,
      search rules,
    )
