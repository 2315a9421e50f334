use Rattle.std.proofs.Common.{Some, refl}
use Rattle.headers.specs.Kinds.{part_kind_of}
use Rattle.headers.specs.Standing.{behind_part, part_standing}
use Rattle.headers.proofs.Founds.{found_as, part_none, part_standing_lem}
use Rattle.headers.proofs.part_header.next_part.Goals as goal

pub returns-then-rules : goal.returns-then-rules
returns-then-rules c =
    let n =
    part_none c.args.reader.now.«data».now c.args.rules.csiz c.args.rules.packets c.args.reader.now.place c.offset-place.result
    c.in_default.ensures c.offset-place.ensures in
    (rw c.into.ensures (simp c.if-rules.true n.0), refl)

pub returns-in_default : goal.returns-in_default
returns-in_default c =
    let n =
    part_none c.args.reader.now.«data».now c.args.rules.csiz c.args.rules.packets c.args.reader.now.place c.args.reader.now.place
    c.in_default.ensures refl in
    (simp c.if-rules.false n.1, refl)

pub returns : goal.returns
returns c =
    let d = c.args.reader.now.«data».now in
    let p = c.args.reader.now.place in (
      found_as (part_standing d c.args.rules.csiz c.args.rules.packets c.args.rules.strict p)
          (behind_part d c.args.rules.csiz c.args.rules.packets p (part_kind_of c.in-Some.marker)) c.part_segment.new.reader c.part_segment.result
          (part_standing_lem d c.args.rules.csiz c.args.rules.packets c.args.rules.strict p (Some c.in-Some.marker) c.in-Some.ensures)
          c.part_segment.ensures.0,
      c.part_segment.ensures.1,
    )
