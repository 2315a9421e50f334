-- A tile-part by its start and the end of its header.
use Rattle.std.proofs.Common.{◌≡◌, ℕ, ◌+◌, Bool, List, Some, None, Ok, Err, Option, Result, ap, ◌∙◌, subst, arith}
use Rattle.faults.specs.declared.decode.DecodeError.{DecodeError}
use Rattle.packed.specs.declared.sot.TilePartHeader.{TilePartHeader}
use Rattle.headers.specs.Standing.{Ending, by_marker, by_none, refused}
use Rattle.part_survey.specs.declared.survey.HeaderEnd.{HeaderEnd}
use Rattle.part_survey.specs.declared.survey.TilePartSurvey.{TilePartSurvey}
use Rattle.part_survey.specs.Part.{surveyed, start_of, FromStart, Surveyed}
use Rattle.part_survey.specs.Ends.{ended, HeaderEnds}

abbrev end_place : Result HeaderEnd DecodeError → ℕ
end_place (Ok x) = x.place
end_place (Err f) = 0

abbrev end_headers : Result HeaderEnd DecodeError → Option ℕ
end_headers (Ok x) = x.headers
end_headers (Err f) = None

closes :
    (d : List ℕ) (p : ℕ) (strict : Bool) (s : TilePartHeader) (q n m : ℕ) (e : Ending) → Ok (record { place = q; headers = Some n }) ≡ ended m e
    → surveyed d p strict s n (by_marker q) ≡ surveyed d p strict s m e
closes d p strict s q n m (by_marker o) h =
    let a : q ≡ o = ap end_place h in
    let e : Some n ≡ Some m = ap end_headers h in
    let b : n ≡ m = cc in cc
closes d p strict s q n m (by_none o) h =
    let e : Some n ≡ None = ap end_headers h in absurd (let z : ◌≡◌ {A = ℕ} 0 1 = cc in omega arith)
closes d p strict s q n m (refused f) h = absurd (let z : ◌≡◌ {A = ℕ} 0 1 = cc in omega arith)

-- a header that is closed at q behind n PPT segments
pub part_closed :
    (d : List ℕ) (p tiles csiz : ℕ) (packets strict : Bool) (s : TilePartHeader) (h : HeaderEnd) (q n : ℕ) (r : Result TilePartSurvey DecodeError)
    → Ok s ≡ start_of d p tiles → HeaderEnds d csiz packets strict (p + 12) (Ok h) → h ≡ record { place = q; headers = Some n }
    → r ≡ surveyed d p strict s n (by_marker q) → Surveyed d p tiles csiz packets strict r
part_closed d p tiles csiz packets strict s h q n r start header is answer =
    let f : HeaderEnds d csiz packets strict (p + 12) (Ok (record { place = q; headers = Some n })) =
    subst (λ (y : HeaderEnd). HeaderEnds d csiz packets strict (p + 12) (Ok y)) is header in
    subst (λ (y : Result TilePartHeader DecodeError). FromStart d p csiz packets strict y r) start
    (f.0, f.1, f.2, answer ∙ closes d p strict s q n _ f.1 f.3)
