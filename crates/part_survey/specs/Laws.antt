-- Laws of tile-parts.
use Rattle.std.specs.Prelude.{◌≡◌, ℕ, Bool, List, Result}
use Rattle.faults.specs.declared.decode.DecodeError.{DecodeError}
use Rattle.part_survey.specs.Part.{Surveyed}
use Rattle.part_survey.specs.declared.survey.TilePartSurvey.{TilePartSurvey}

-- a tile-part has one answer
abbrev pub OneAnswer : Type 0
OneAnswer =
    (d : List ℕ) (p tiles csiz : ℕ) (packets strict : Bool) (r t : Result TilePartSurvey DecodeError)
    → Surveyed d p tiles csiz packets strict r → Surveyed d p tiles csiz packets strict t → r ≡ t
