-- What stands at a place of a header (T.800 A.3 to A.9): a segment, or what ends the header.
use Rattle.std.specs.Prelude.{◌≡◌, ℕ, ◌+◌, ◌-◌, ◌<◌, ◌≤◌, Bool, if◌then◌else◌, List, [], length, drop, Some, None, Ok, Err, Option, Result, nat_lt, slice_index}
use Rattle.faults.specs.declared.decode.DecodeError.{DecodeError}
use Rattle.faults.specs.declared.decode.DecodeError.TheVariants.{Marker, Tile, Validation}
use Rattle.faults.specs.declared.decode.MarkerError.TheVariants.{Invalid, Unsupported, ParseFailure}
use Rattle.faults.specs.declared.decode.TileError.TheVariants.{PpmPptConflict}
use Rattle.faults.specs.declared.decode.ValidationError.{ValidationError}
use Rattle.faults.specs.declared.decode.ValidationError.TheVariants.{InvalidComponentMetadata}
use Rattle.reader.specs.Bytes.{marker_at}
use Rattle.reader.specs.Reads.{SameData}
use Rattle.reader.specs.declared.reader.BitReader.{BitReader}
use Rattle.layouts.specs.Layouts.{Reading, read, failed, meaning}
use Rattle.layouts.specs.declared.header.HeaderKind.TheVariants.{Main, TilePart}
use Rattle.coding.specs.Coding.{cod_layout, coc_layout, MadeCod, MadeCoc}
use Rattle.packed.specs.Segment.{segment_layout, place_after}
use Rattle.packed.specs.Ppm.{ppm_reading, packets_of}
use Rattle.packed.specs.Ppt.{ppt_layout}
use Rattle.quantization.specs.Quantization.{qcd_layout, qcc_layout, MadeQcd, MadeQcc}
use Rattle.headers.specs.Kinds.{main_kind_of, part_kind_of}
use Rattle.headers.specs.declared.kind.Kind.{Kind}
use Rattle.headers.specs.declared.kind.Kind.TheVariants as kind
use Rattle.headers.specs.declared.found.Found.{Found}
use Rattle.headers.specs.declared.found.Found.TheVariants.{Stands, Ends, NoMarker}
use Rattle.headers.specs.declared.found.Segment.{Segment}
use Rattle.headers.specs.declared.found.Segment.TheVariants.{Sets, Ppm, Ppt, Skipped}
use Rattle.settings.specs.declared.inherit.Setting.{Setting}
use Rattle.settings.specs.declared.inherit.Setting.TheVariants.{Cod, Coc, Qcd, Qcc}

-- of which segments something is kept
pub data Contents : Type 0 where
  cod coc qcd qcc ppm ppt nothing : Contents

-- a segment: what is kept of it, the values of its fields, and the place behind it
pub record Item : Type 0 where
  pub contents : Contents
  pub values : List ℕ
  pub behind : ℕ

-- how a header ends: by its last marker, for want of a marker, each with the place where reading stops; or by a refusal
pub data Ending : Type 0 where
  by_marker by_none : ℕ → Ending
  refused : DecodeError → Ending

pub data Standing : Type 0 where
  stands : Item → Standing
  ends : Ending → Standing

-- a segment whose marker has the code byte m, as it is read
abbrev pub as_read : Contents → ℕ → Reading → Standing
as_read c m (read vs q) = stands (record { contents = c; values = vs; behind = q })
as_read c m (failed e q) = ends (refused (Marker (ParseFailure m e)))

-- a segment of which only the place behind it is known
abbrev pub passed : ℕ → Standing
passed q = stands (record { contents = nothing; values = []; behind = q })

abbrev pub unsupported : ℕ → Standing
unsupported p = ends (refused (Marker (Unsupported p)))

-- in a main header of csiz components, at p, behind a marker of this kind; SOT ends the header and is left unread
abbrev pub behind_main : List ℕ → ℕ → ℕ → Kind → Standing
behind_main d csiz p kind.Sot = ends (by_marker p)
behind_main d csiz p kind.Sod = unsupported p
behind_main d csiz p kind.Eoc = unsupported p
behind_main d csiz p kind.Cod = as_read cod 82 (meaning cod_layout d (p + 2))
behind_main d csiz p kind.Coc = as_read coc 83 (meaning (coc_layout Main csiz) d (p + 2))
behind_main d csiz p kind.Qcd = as_read qcd 92 (meaning qcd_layout d (p + 2))
behind_main d csiz p kind.Qcc = as_read qcc 93 (meaning (qcc_layout Main csiz) d (p + 2))
behind_main d csiz p kind.Ppm = as_read ppm 96 (ppm_reading d (p + 2))
behind_main d csiz p kind.Ppt = unsupported p
behind_main d csiz p kind.Rgn = as_read nothing 94 (meaning segment_layout d (p + 2))
behind_main d csiz p kind.Tlm = as_read nothing 85 (meaning segment_layout d (p + 2))
behind_main d csiz p kind.Plt = unsupported p
behind_main d csiz p kind.Com = as_read nothing 100 (meaning segment_layout d (p + 2))
behind_main d csiz p kind.Crg = passed (place_after (meaning segment_layout d (p + 2)))
behind_main d csiz p kind.Bare = passed (p + 2)
behind_main d csiz p kind.Foreign = unsupported p

abbrev pub by_main : List ℕ → ℕ → ℕ → Option ℕ → Standing
by_main d csiz p (Some m) = behind_main d csiz p (main_kind_of m)
by_main d csiz p None = ends (by_none p)

unfoldable pub main_standing : List ℕ → ℕ → ℕ → Standing
main_standing d csiz p = by_main d csiz p (marker_at d p)

-- the component index of COC and QCC is tested behind the whole segment, at its marker
abbrev pub in_image : ℕ → ℕ → Standing → Standing
in_image csiz p (stands x) =
    if nat_lt (slice_index x.values 1) csiz then stands x
    else ends (refused (Validation (InvalidComponentMetadata p)))
in_image csiz p (ends e) = ends e

-- that test, and the place of the marker
abbrev pub ComponentTested : ℕ → ℕ → ℕ → Result (Unit {0}) ValidationError → Type 0
ComponentTested csiz k p (Ok u) = k < csiz
ComponentTested csiz k p (Err e) = (csiz ≤ k) × (e ≡ InvalidComponentMetadata p)

-- in a tile-part header; where packets of the main header are kept, PPT is refused before its bytes. SOD is read, EOC is left unread
abbrev pub behind_part : List ℕ → ℕ → Bool → ℕ → Kind → Standing
behind_part d csiz packets p kind.Sot = unsupported p
behind_part d csiz packets p kind.Sod = ends (by_marker (p + 2))
behind_part d csiz packets p kind.Eoc = ends (by_marker p)
behind_part d csiz packets p kind.Cod = as_read cod 82 (meaning cod_layout d (p + 2))
behind_part d csiz packets p kind.Coc = in_image csiz p (as_read coc 83 (meaning (coc_layout TilePart csiz) d (p + 2)))
behind_part d csiz packets p kind.Qcd = as_read qcd 92 (meaning qcd_layout d (p + 2))
behind_part d csiz packets p kind.Qcc = in_image csiz p (as_read qcc 93 (meaning (qcc_layout TilePart csiz) d (p + 2)))
behind_part d csiz packets p kind.Ppm = unsupported p
behind_part d csiz packets p kind.Ppt =
    if packets then ends (refused (Tile (PpmPptConflict p)))
    else as_read ppt 97 (meaning ppt_layout d (p + 2))
behind_part d csiz packets p kind.Rgn = unsupported p
behind_part d csiz packets p kind.Tlm = unsupported p
behind_part d csiz packets p kind.Plt = as_read nothing 88 (meaning segment_layout d (p + 2))
behind_part d csiz packets p kind.Com = as_read nothing 100 (meaning segment_layout d (p + 2))
behind_part d csiz packets p kind.Crg = unsupported p
behind_part d csiz packets p kind.Bare = passed (p + 2)
behind_part d csiz packets p kind.Foreign = unsupported p

-- read strictly, a missing marker is refused
abbrev pub by_part : List ℕ → ℕ → Bool → Bool → ℕ → Option ℕ → Standing
by_part d csiz packets strict p (Some m) = behind_part d csiz packets p (part_kind_of m)
by_part d csiz packets strict p None =
    if strict then ends (refused (Marker (Invalid p)))
    else ends (by_none p)

unfoldable pub part_standing : List ℕ → ℕ → Bool → Bool → ℕ → Standing
part_standing d csiz packets strict p = by_part d csiz packets strict p (marker_at d p)

-- what is kept of a segment is what its values say
abbrev pub SetsAs : Setting → Contents → List ℕ → Type 0
SetsAs (Cod c) k vs = (k ≡ cod) × MadeCod c vs
SetsAs (Coc i c) k vs = (k ≡ coc) × MadeCoc (i, c) vs
SetsAs (Qcd q) k vs = (k ≡ qcd) × MadeQcd q vs
SetsAs (Qcc i q) k vs = (k ≡ qcc) × MadeQcc (i, q) vs

abbrev pub KeptOf : Segment → Item → Type 0
KeptOf (Sets s) x = SetsAs s x.contents x.values
KeptOf (Ppm n) x = (x.contents ≡ ppm) × (n ≡ length (packets_of (drop 3 x.values)))
KeptOf (Ppt z p n) x =
    (x.contents ≡ ppt) × (z ≡ slice_index x.values 1) × (p ≡ slice_index x.values 2) × (n ≡ slice_index x.values 0 - 3)
KeptOf Skipped x = x.contents ≡ nothing

abbrev pub item_of : Standing → Item
item_of (stands x) = x
item_of (ends e) = record { contents = nothing; values = []; behind = 0 }

-- a call that answers what stands at a place, with the reader where reading stops
abbrev pub FoundAs : Standing → BitReader → Result Found DecodeError → Type 0
FoundAs s a (Ok (Stands g)) = (s ≡ stands (item_of s)) × ((item_of s).behind ≡ a.place) × KeptOf g (item_of s)
FoundAs s a (Ok Ends) = s ≡ ends (by_marker a.place)
FoundAs s a (Ok NoMarker) = s ≡ ends (by_none a.place)
FoundAs s a (Err f) = s ≡ ends (refused f)

-- the same, and the reader is still one of the same codestream
abbrev pub Finds : Standing → BitReader → BitReader → Result Found DecodeError → Type 0
Finds s b a r = FoundAs s a r × SameData b a
