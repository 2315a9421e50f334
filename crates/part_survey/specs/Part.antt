-- A tile-part (T.800 A.4.2): its SOT segment, the segments of its header, and its body.
use Rattle.std.specs.Prelude.{◌≡◌, ℕ, ◌+◌, ◌-◌, Bool, if◌then◌else◌, ◌&&◌, List, length, Some, None, Ok, Err, Option, Result, ◌==◌, nat_le, nat_lt, slice_index}
use Rattle.faults.specs.declared.decode.DecodeError.{DecodeError}
use Rattle.faults.specs.declared.decode.DecodeError.TheVariants.{Marker, Tile}
use Rattle.faults.specs.declared.decode.MarkerError.TheVariants as marker
use Rattle.faults.specs.declared.decode.TileError.TheVariants as tile
use Rattle.reader.specs.Bytes.{byte_at, marker_at}
use Rattle.layouts.specs.Layouts.{Reading, read, failed, fields, meaning}
use Rattle.packed.specs.Sot.{sot_table}
use Rattle.packed.specs.declared.sot.TilePartHeader.{TilePartHeader}
use Rattle.headers.specs.Standing.{Item, Ending, by_marker, by_none, refused}
use Rattle.headers.specs.Grammar.{PartHeaded, headers_in}
use Rattle.part_survey.specs.declared.survey.TilePartSurvey.{TilePartSurvey}

-- what SOT says, by the values of its fields
abbrev pub sot_of : List ℕ → TilePartHeader
sot_of vs = record { isot = slice_index vs 1; psot = slice_index vs 2; tpsot = slice_index vs 3; tnsot = slice_index vs 4 }

-- Isot is below the number of tiles; Psot is 0 or at least 12, the size of SOT with its segment
abbrev pub admitted : ℕ → ℕ → TilePartHeader → Result TilePartHeader DecodeError
admitted p tiles s =
    if nat_lt s.isot tiles then (if nat_lt 0 s.psot && nat_lt s.psot 12 then Err (Tile (tile.Invalid p)) else Ok s)
    else Err (Tile (tile.InvalidIndex p))

abbrev pub start_from : ℕ → ℕ → Reading → Result TilePartHeader DecodeError
start_from p tiles (read vs q) = admitted p tiles (sot_of vs)
start_from p tiles (failed e q) = Err (Marker (marker.ParseFailure 144 e))

abbrev pub start_by : List ℕ → ℕ → ℕ → Option ℕ → Result TilePartHeader DecodeError
start_by d p tiles (Some m) =
    if m == 144 then start_from p tiles (meaning (fields sot_table) d (p + 2))
    else Err (Marker (marker.Expected 144 p))
start_by d p tiles None = Err (Marker (marker.Invalid p))

-- the start of the tile-part at p, in a picture of so many tiles
abbrev pub start_of : List ℕ → ℕ → ℕ → Result TilePartHeader DecodeError
start_of d p tiles = start_by d p tiles (marker_at d p)

-- the last two bytes are EOC, and lie behind b
abbrev pub closed : List ℕ → ℕ → Bool
closed d b = nat_le (b + 2) (length d) && (byte_at d (length d - 2) == 255 && byte_at d (length d - 1) == 217)

-- how many bytes follow the SOT segment that ends at b: Psot counts from the SOT marker on; where it is 0, all that is left but a last EOC
abbrev pub follow : List ℕ → ℕ → ℕ → ℕ
follow d b psot =
    if psot == 0 then (if closed d b then length d - b - 2 else length d - b)
    else psot - 12

abbrev pub is_cut_short : TilePartHeader → ℕ → TilePartSurvey
is_cut_short s q = record { tile = s.isot; tpsot = s.tpsot; place = q; body = None }

-- its header has n PPT segments and ends at q, its body at e
abbrev pub is_whole : TilePartHeader → ℕ → ℕ → ℕ → TilePartSurvey
is_whole s q e n =
    record { tile = s.isot; tpsot = s.tpsot; place = e; body = Some (record { place = q; len = e - q; headers = n }) }

-- the tile-part at p, whose header has n PPT segments and ends at q, and of which m bytes follow the SOT segment: a header that is longer is
-- refused or cut short, and a body beyond the codestream refused
abbrev pub bounded : List ℕ → ℕ → Bool → TilePartHeader → ℕ → ℕ → ℕ → Result TilePartSurvey DecodeError
bounded d p strict s n q m =
    if nat_le q (p + 12 + m) then
    (if nat_le (p + 12 + m) (length d) then Ok (is_whole s q (p + 12 + m) n)
    else Err (Tile (tile.Invalid p)))
    else if strict then Err (Tile (tile.Invalid p))
    else Ok (is_cut_short s q)

-- what a tile-part comes to, by its start, the number of its PPT segments and the end of its header
abbrev pub surveyed : List ℕ → ℕ → Bool → TilePartHeader → ℕ → Ending → Result TilePartSurvey DecodeError
surveyed d p strict s n (by_marker q) = bounded d p strict s n q (follow d (p + 12) s.psot)
surveyed d p strict s n (by_none q) = Ok (is_cut_short s q)
surveyed d p strict s n (refused f) = Err f

abbrev pub FromStart :
    List ℕ → ℕ → ℕ → Bool → Bool → Result TilePartHeader DecodeError → Result TilePartSurvey DecodeError → Type 0
FromStart d p csiz packets strict (Err f) r = r ≡ Err f
FromStart d p csiz packets strict (Ok s) r =
    (xs : List Item) × (e : Ending) × PartHeaded d csiz packets strict (p + 12) xs e × (r ≡ surveyed d p strict s (headers_in xs) e)

-- r answers the tile-part at p
abbrev pub Surveyed : List ℕ → ℕ → ℕ → ℕ → Bool → Bool → Result TilePartSurvey DecodeError → Type 0
Surveyed d p tiles csiz packets strict r = FromStart d p csiz packets strict (start_of d p tiles) r
