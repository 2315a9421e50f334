-- How the end of a tile-part header is answered.
use Rattle.std.specs.Prelude.{◌≡◌, ℕ, Bool, List, Some, None, Ok, Err, Result}
use Rattle.faults.specs.declared.decode.DecodeError.{DecodeError}
use Rattle.headers.specs.Standing.{Item, Ending, by_marker, by_none, refused}
use Rattle.headers.specs.Grammar.{PartHeaded, headers_in}
use Rattle.headers.specs.declared.found.Segment.{Segment}
use Rattle.headers.specs.declared.found.Segment.TheVariants.{Sets, Ppm, Ppt, Skipped}
use Rattle.part_survey.specs.declared.survey.HeaderEnd.{HeaderEnd}

abbrev pub ppt_count_of : Segment → ℕ
ppt_count_of (Sets s) = 0
ppt_count_of (Ppm n) = 0
ppt_count_of (Ppt z p n) = 1
ppt_count_of Skipped = 0

-- an ending behind n PPT segments
abbrev pub ended : ℕ → Ending → Result HeaderEnd DecodeError
ended n (by_marker q) = Ok (record { place = q; headers = Some n })
ended n (by_none q) = Ok (record { place = q; headers = None })
ended n (refused f) = Err f

-- r answers the header from p on
abbrev pub HeaderEnds : List ℕ → ℕ → Bool → Bool → ℕ → Result HeaderEnd DecodeError → Type 0
HeaderEnds d csiz packets strict p r =
    (xs : List Item) × (e : Ending) × PartHeaded d csiz packets strict p xs e × (r ≡ ended (headers_in xs) e)
