-- One answer for each tile-part.
use Rattle.std.proofs.Common.{◌≡◌, ℕ, ◌+◌, Bool, List, Ok, Err, Result, sym, ◌∙◌}
use Rattle.faults.specs.declared.decode.DecodeError.{DecodeError}
use Rattle.packed.specs.declared.sot.TilePartHeader.{TilePartHeader}
use Rattle.headers.specs.Standing.{part_standing}
use Rattle.headers.proofs.Once.{one_header}
use Rattle.part_survey.specs.Part.{FromStart, start_of}
use Rattle.part_survey.specs.Laws.{OneAnswer}
use Rattle.part_survey.specs.declared.survey.TilePartSurvey.{TilePartSurvey}

from_start :
    (d : List ℕ) (p csiz : ℕ) (packets strict : Bool) (s : Result TilePartHeader DecodeError) (r t : Result TilePartSurvey DecodeError)
    → FromStart d p csiz packets strict s r → FromStart d p csiz packets strict s t → r ≡ t
from_start d p csiz packets strict (Err f) r t a b = a ∙ sym b
from_start d p csiz packets strict (Ok s) r t a b =
    let one = one_header (part_standing d csiz packets strict) (p + 12) a.0 b.0 a.1 b.1 a.2 b.2 in
    let segments = one.0 in
    let endings = one.1 in
    let first = a.3 in
    let second = b.3 in
    cc

pub one_answer : OneAnswer
one_answer d p tiles csiz packets strict r t a b = from_start d p csiz packets strict (start_of d p tiles) r t a b
