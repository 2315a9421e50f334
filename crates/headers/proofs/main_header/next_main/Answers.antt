use Rattle.std.proofs.Common.{Some, None, sym, refl}
use Rattle.headers.specs.Kinds.{main_kind_of}
use Rattle.headers.specs.Standing.{behind_main, main_standing}
use Rattle.headers.proofs.Founds.{found_as, main_standing_lem}
use Rattle.headers.proofs.main_header.next_main.Goals as goal

pub returns-in_default : goal.returns-in_default
returns-in_default c =
    (sym (main_standing_lem c.args.reader.now.«data».now c.args.csiz c.args.reader.now.place None c.in_default.ensures), refl)

pub returns : goal.returns
returns c =
    let d = c.args.reader.now.«data».now in
    let p = c.args.reader.now.place in (
      found_as (main_standing d c.args.csiz p) (behind_main d c.args.csiz p (main_kind_of c.in-Some.marker)) c.main_segment.new.reader
          c.main_segment.result (main_standing_lem d c.args.csiz p (Some c.in-Some.marker) c.in-Some.ensures) c.main_segment.ensures.0,
      c.main_segment.ensures.1,
    )
