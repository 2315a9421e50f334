-- The SIZ marker segment (T.800 A.5.1, Table A.9).
use Rattle.std.specs.Prelude.{◌≡◌, ℕ, zero, suc, ◌+◌, ◌*◌, ◌%◌, ◌^◌, ◌<◌, Bool, true, false, if◌then◌else◌, ◌&&◌, ◌||◌, List, [], ◌∷◌, length, drop, Some, None, Ok, Err, Option, Result, ◌==◌, nat_le, nat_lt, slice_index}
use Rattle.faults.specs.declared.decode.DecodeError.{DecodeError}
use Rattle.faults.specs.declared.decode.DecodeError.TheVariants.{Marker, Tile, Validation}
use Rattle.faults.specs.declared.decode.MarkerError.TheVariants.{Invalid, Expected, ParseFailure}
use Rattle.faults.specs.declared.decode.TileError.TheVariants.{InvalidOffsets}
use Rattle.faults.specs.declared.decode.ValidationError.TheVariants.{InvalidDimensions, ImageTooLarge, InvalidComponentMetadata}
use Rattle.reader.specs.Bytes.{byte_at, marker_at, part}
use Rattle.reader.specs.Reads.{bytes_of}
use Rattle.reader.specs.declared.reader.BitReader.{BitReader}
use Rattle.rect.specs.Spans.{reaching}
use Rattle.layouts.specs.Layouts.{Layout, Reading, read, failed, meaning, field, fields, behind, times, one, two, four, any, at_least, Field}
use Rattle.segments.specs.declared.size_data.Axis.{Axis}
use Rattle.segments.specs.declared.size_data.ImageFields.{ImageFields}
use Rattle.segments.specs.declared.size_data.TileFields.{TileFields}
use Rattle.segments.specs.declared.fields.SizeFields.{SizeFields}
use Rattle.segments.specs.declared.size_data.SizeData.{SizeData}
use Rattle.segments.specs.declared.size_data.ComponentSizeInfo.{ComponentSizeInfo}

-- below the value of the field k of the table
abbrev pub below : ℕ → List ℕ → ℕ → Bool
below k vs v = nat_lt v (slice_index vs k)

-- Lsiz, Rsiz, Xsiz, Ysiz, XOsiz, YOsiz
abbrev pub image_table : List Field
image_table =
    field two any
    ∷ field two any
    ∷ field four any
    ∷ field four any
    ∷ field four (below 2)
    ∷ field four (below 3)
    ∷ []

pub record MadeImage (i : ImageFields) (vs : List ℕ) : Type 0 where
  pub count : length vs ≡ 6
  pub xsiz : i.xsiz ≡ slice_index vs 2
  pub ysiz : i.ysiz ≡ slice_index vs 3
  pub xosiz : i.xosiz ≡ slice_index vs 4
  pub yosiz : i.yosiz ≡ slice_index vs 5

-- XTsiz, YTsiz, XTOsiz, YTOsiz, Csiz
abbrev pub tile_table : List Field
tile_table = field four any ∷ field four any ∷ field four any ∷ field four any ∷ field two (at_least 1) ∷ []

pub record MadeTiles (t : TileFields) (vs : List ℕ) : Type 0 where
  pub count : length vs ≡ 5
  pub xtsiz : t.xtsiz ≡ slice_index vs 0
  pub ytsiz : t.ytsiz ≡ slice_index vs 1
  pub xtosiz : t.xtosiz ≡ slice_index vs 2
  pub ytosiz : t.ytosiz ≡ slice_index vs 3
  pub csiz : t.csiz ≡ slice_index vs 4

-- the precision that Ssiz gives: its low seven bits and one (Table A.11)
abbrev pub precision_of : ℕ → ℕ
precision_of ssiz = ssiz % 128 + 1

abbrev pub precise : ℕ → List ℕ → ℕ → Bool
precise m vs v = nat_le (precision_of v) m

-- Ssiz, XRsiz, YRsiz
abbrev pub component_table : List Field
component_table = field one (precise 31) ∷ field one any ∷ field one any ∷ []

pub record MadeComponent (b : Bool) (vs : List ℕ) : Type 0 where
  pub count : length vs ≡ 3
  pub sampled : b ≡ (nat_lt 0 (slice_index vs 1) && nat_lt 0 (slice_index vs 2))

abbrev pub components_layout : ℕ → Layout
components_layout n = times n (fields component_table)

-- no step XRsiz, YRsiz of the first n components is 0
abbrev pub sampled : ℕ → List ℕ → Bool
sampled zero cs = true
sampled (suc n) cs = sampled n cs && (nat_lt 0 (slice_index cs (3 * n + 1)) && nat_lt 0 (slice_index cs (3 * n + 2)))

abbrev pub MadeComponents : ℕ → Bool → List ℕ → Type 0
MadeComponents n b vs = b ≡ sampled n vs

-- the whole segment behind its marker
abbrev pub siz_layout : Layout
siz_layout = behind (fields image_table) (λ _. behind (fields tile_table) (λ vs. components_layout (slice_index vs 4)))

-- its fields by name: the image area and the tiles on the reference grid
pub record Grid : Type 0 where
  pub xsiz : ℕ
  pub ysiz : ℕ
  pub xosiz : ℕ
  pub yosiz : ℕ
  pub xtsiz : ℕ
  pub ytsiz : ℕ
  pub xtosiz : ℕ
  pub ytosiz : ℕ

pub record Siz : Type 0 where
  pub grid : Grid
  pub csiz : ℕ
  pub components : List ℕ

abbrev pub grid_of : List ℕ → Grid
grid_of vs =
    record {
      xsiz = slice_index vs 2;
      ysiz = slice_index vs 3;
      xosiz = slice_index vs 4;
      yosiz = slice_index vs 5;
      xtsiz = slice_index vs 6;
      ytsiz = slice_index vs 7;
      xtosiz = slice_index vs 8;
      ytosiz = slice_index vs 9;
    }

abbrev pub siz_of : List ℕ → Siz
siz_of vs = record { grid = grid_of vs; csiz = slice_index vs 10; components = drop 11 vs }

abbrev pub fields_grid : SizeFields → Grid
fields_grid f =
    record {
      xsiz = f.image.xsiz;
      ysiz = f.image.ysiz;
      xosiz = f.image.xosiz;
      yosiz = f.image.yosiz;
      xtsiz = f.tiles.xtsiz;
      ytsiz = f.tiles.ytsiz;
      xtosiz = f.tiles.xtosiz;
      ytosiz = f.tiles.ytosiz;
    }

-- its two directions
abbrev pub x_axis : Grid → Axis
x_axis g = record { size = g.xsiz; offset = g.xosiz; side = g.xtsiz; origin = g.xtosiz }

abbrev pub y_axis : Grid → Axis
y_axis g = record { size = g.ysiz; offset = g.yosiz; side = g.ytsiz; origin = g.ytosiz }

-- what a reader that stands behind the marker makes of the values
pub record MadeSize (b : BitReader) (f : SizeFields) (vs : List ℕ) : Type 0 where
  pub grid : fields_grid f ≡ grid_of vs
  pub csiz : f.tiles.csiz ≡ (siz_of vs).csiz
  pub place : f.components ≡ b.place + 38
  pub sampled : f.sampled ≡ sampled (siz_of vs).csiz (siz_of vs).components

-- one direction of the grid: a tile side 0, or a tile offset that is not below the grid's side
abbrev pub misdimensioned : ℕ → ℕ → ℕ → Bool
misdimensioned size side origin = side == 0 || nat_le size origin

-- one direction: a tile offset above the image offset, an end of the first tile that 32 bits do not hold, or that is not above the image
-- offset (B-3, B-4)
abbrev pub misplaced : ℕ → ℕ → ℕ → Bool
misplaced offset side origin = nat_lt offset origin || nat_le (2 ^ 32) (origin + side) || nat_le (origin + side) offset

-- the number of tiles: columns times rows (B-5)
abbrev pub tiles_of : Grid → ℕ
tiles_of g = reaching g.xtosiz g.xtsiz g.xsiz * reaching g.ytosiz g.ytsiz g.ysiz

-- what is tested of the whole segment, in this order; `at` is the place of the marker, `ok` whether no component has a step 0
abbrev pub refusal : ℕ → Grid → Bool → Option DecodeError
refusal at g ok =
    if misdimensioned g.xsiz g.xtsiz g.xtosiz || misdimensioned g.ysiz g.ytsiz g.ytosiz then Some (Validation (InvalidDimensions at))
    else if misplaced g.xosiz g.xtsiz g.xtosiz || misplaced g.yosiz g.ytsiz g.ytosiz then Some (Tile (InvalidOffsets at))
    else if ok then (if nat_lt (tiles_of g) (2 ^ 32) then None else Some (Validation (ImageTooLarge at)))
    else Some (Validation (InvalidComponentMetadata at))

-- what stands at a place: an accepted segment, or why not; and the place after
pub data Outcome : Type 0 where
  accepted : Siz → ℕ → Outcome
  refused : DecodeError → ℕ → Outcome

abbrev pub unless : Option DecodeError → Siz → ℕ → Outcome
unless None s q = accepted s q
unless (Some e) s q = refused e q

abbrev pub judged : ℕ → Reading → Outcome
judged at (read vs q) = unless (refusal at (grid_of vs) (sampled (siz_of vs).csiz (siz_of vs).components)) (siz_of vs) q
judged at (failed e q) = refused (Marker (ParseFailure 81 e)) q

-- a marker must be there, and be SIZ, 0xFF51
abbrev pub marked : ℕ → Option ℕ → Outcome → Outcome
marked at None o = refused (Marker (Invalid at)) at
marked at (Some m) o = if m == 81 then o else refused (Marker (Expected 81 at)) (at + 2)

abbrev pub siz_outcome : List ℕ → ℕ → Outcome
siz_outcome d at = marked at (marker_at d at) (judged at (meaning siz_layout d (at + 2)))

-- the fields that an accepted segment hands out
abbrev pub grid_in : SizeData → Grid
grid_in s =
    record {
      xsiz = s.xsiz;
      ysiz = s.ysiz;
      xosiz = s.xosiz;
      yosiz = s.yosiz;
      xtsiz = s.xtsiz;
      ytsiz = s.ytsiz;
      xtosiz = s.xtosiz;
      ytosiz = s.ytosiz;
    }

-- the fields are accepted as they are, or refused
abbrev pub Weighs : ℕ → SizeFields → Result SizeData DecodeError → Type 0
Weighs at f (Ok s) =
    (refusal at (fields_grid f) f.sampled ≡ None)
    × (grid_in s ≡ fields_grid f) × (s.csiz ≡ f.tiles.csiz) × (s.components ≡ f.components)
Weighs at f (Err e) = refusal at (fields_grid f) f.sampled ≡ Some e

abbrev pub size_of : List ℕ → SizeData → Siz
size_of d s = record { grid = grid_in s; csiz = s.csiz; components = part (3 * s.csiz) d s.components }

-- the three fields of a component at a place: they are there, its precision is admitted, and no step is 0
abbrev pub component_at : List ℕ → ℕ → Bool
component_at d p =
    nat_le (p + 3) (length d) && nat_le (precision_of (byte_at d p)) 31 && nat_lt 0 (byte_at d (p + 1)) && nat_lt 0 (byte_at d (p + 2))

-- a reading of the segment whose marker stands where the reader was; an accepted one has all its components
abbrev pub ReadsSize : BitReader → BitReader → Result SizeData DecodeError → Type 0
ReadsSize b a (Ok s) =
    (siz_outcome (bytes_of b) b.place ≡ accepted (size_of (bytes_of b) s) a.place)
    × ((k : ℕ) → k < s.csiz → component_at (bytes_of b) (s.components + 3 * k) ≡ true)
ReadsSize b a (Err e) = siz_outcome (bytes_of b) b.place ≡ refused e a.place

-- component k of n, whose fields stand at p: it is one of them, and its fields are as they must be
abbrev pub HandsAt : List ℕ → ℕ → ℕ → ℕ → Option ComponentSizeInfo → Type 0
HandsAt d k n p None = (nat_lt k n && component_at d p) ≡ false
HandsAt d k n p (Some c) =
    (k < n)
    × (component_at d p ≡ true)
    × (c.precision ≡ precision_of (byte_at d p))
    × (c.xrsiz ≡ byte_at d (p + 1))
    × (c.yrsiz ≡ byte_at d (p + 2))

abbrev pub Hands : List ℕ → SizeData → ℕ → Option ComponentSizeInfo → Type 0
Hands d s k r = HandsAt d k s.csiz (s.components + 3 * k) r

-- what three bytes say of a component
abbrev pub Says : ℕ → ℕ → ℕ → Option ComponentSizeInfo → Type 0
Says ssiz x y None = (nat_le (precision_of ssiz) 31 && nat_lt 0 x && nat_lt 0 y) ≡ false
Says ssiz x y (Some c) =
    ((nat_le (precision_of ssiz) 31 && nat_lt 0 x && nat_lt 0 y) ≡ true) × (c.precision ≡ precision_of ssiz) × (c.xrsiz ≡ x) × (c.yrsiz ≡ y)
