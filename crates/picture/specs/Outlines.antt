-- What the start of a codestream says of its picture.
use Rattle.std.specs.Prelude.{◌≡◌, ℕ, ◌+◌, ◌-◌, ◌*◌, ◌<◌, true, if◌then◌else◌, List, Some, None, Ok, Err, Option, Result, ◌==◌}
use Rattle.faults.specs.declared.decode.DecodeError.{DecodeError}
use Rattle.faults.specs.declared.decode.DecodeError.TheVariants.{Marker}
use Rattle.faults.specs.declared.decode.MarkerError.TheVariants.{Expected}
use Rattle.reader.specs.Bytes.{marker_at}
use Rattle.rect.specs.Numbers.{ceil}
use Rattle.rect.specs.Rects.{region}
use Rattle.rect.specs.Spans.{Rect, rect, area, shrink}
use Rattle.rect.specs.Sums.{total, ExactlyOne}
use Rattle.segments.specs.Siz.{Grid, Outcome, accepted, refused, siz_outcome, size_of, grid_in, component_at, Hands}
use Rattle.segments.specs.declared.size_data.SizeData.{SizeData}
use Rattle.geometry.specs.TileGrid.{Axis, image, tiles, component_tiles}
use Rattle.geometry.specs.Tiles.{axis, image_of}
use Rattle.picture.specs.declared.outline.Outline.{Outline}
use Rattle.picture.specs.declared.outline.ComponentOutline.{ComponentOutline}

-- the two directions of the fields of SIZ
abbrev pub across : Grid → Axis
across g = record { size = g.xsiz; offset = g.xosiz; side = g.xtsiz; origin = g.xtosiz }

abbrev pub down : Grid → Axis
down g = record { size = g.ysiz; offset = g.yosiz; side = g.ytsiz; origin = g.ytosiz }

-- the image area, and its tiles
abbrev pub image_in : Grid → Rect
image_in g = rect (image (across g)) (image (down g))

abbrev pub tiles_in : Grid → List Rect
tiles_in g = tiles (across g) (down g)

-- SOC, 0xFF4F, stands first, and SIZ behind it
abbrev pub begun : Option ℕ → Outcome → Outcome
begun None o = refused (Marker (Expected 79 0)) 0
begun (Some m) o = if m == 79 then o else refused (Marker (Expected 79 0)) 0

abbrev pub outline_outcome : List ℕ → Outcome
outline_outcome d = begun (marker_at d 0) (siz_outcome d 2)

abbrev pub end_of : Outcome → ℕ
end_of (accepted s q) = q
end_of (refused e q) = q

-- the sizes that the codestream's SIZ states, with all their components; or the first fault
abbrev pub SizeStated : List ℕ → Result SizeData DecodeError → Type 0
SizeStated d (Ok s) =
    (outline_outcome d ≡ accepted (size_of d s) (end_of (outline_outcome d)))
    × ((k : ℕ) → k < s.csiz → component_at d (s.components + 3 * k) ≡ true)
SizeStated d (Err e) = outline_outcome d ≡ refused e (end_of (outline_outcome d))

-- the sizes with their grid; or the first fault
abbrev pub Outlined : List ℕ → Result Outline DecodeError → Type 0
Outlined d (Ok o) =
    SizeStated d (Ok o.size) × (axis o.grid.x ≡ across (grid_in o.size)) × (axis o.grid.y ≡ down (grid_in o.size))
Outlined d (Err e) = SizeStated d (Err e)

-- the tiles' areas add up to the image's area, and every grid point of the image lies in exactly one tile
pub record CutUp (g : Grid) : Type 0 where
  pub areas_add_up : total area (tiles_in g) ≡ area (image_in g)
  pub exactly_one : ExactlyOne (image_in g) (tiles_in g)

abbrev pub TilesCover : Result Outline DecodeError → Type 0
TilesCover (Ok o) = CutUp (grid_in o.size)
TilesCover (Err e) = Unit {0}

-- the number of samples of a component in the image area, its steps being dx and dy
abbrev pub samples_in : Axis → Axis → ℕ → ℕ → ℕ
samples_in h v dx dy = (ceil h.size dx - ceil h.offset dx) * (ceil v.size dy - ceil v.offset dy)

-- component k: its fields; its samples in the image area, and how many they are; and its tiles' areas add up to that
abbrev pub ComponentOutlined : List ℕ → Outline → ℕ → Option ComponentOutline → Type 0
ComponentOutlined d o k None = Hands d o.size k None
ComponentOutlined d o k (Some c) =
    Hands d o.size k (Some c.info)
    × (region c.samples ≡ shrink c.info.xrsiz c.info.yrsiz (image_of o.grid))
    × (area (region c.samples) ≡ samples_in (axis o.grid.x) (axis o.grid.y) c.info.xrsiz c.info.yrsiz)
    × (total area (component_tiles (axis o.grid.x) (axis o.grid.y) c.info.xrsiz c.info.yrsiz)
    ≡ samples_in (axis o.grid.x) (axis o.grid.y) c.info.xrsiz c.info.yrsiz)
