-- The lists that walks over the rows of the tables give, by their rectangles.
use Rattle.std.specs.Prelude.{ℕ, ◌+◌, Bool, if◌then◌else◌, ◌&&◌, List, map, length, Some, None, Ok, Err, Option, Result, nat_le, nat_lt, slice_index_or}
use Rattle.std.specs.List.{range_with_len}
use Rattle.faults.specs.declared.decode.DecodeError.{DecodeError}
use Rattle.faults.specs.declared.decode.DecodeError.TheVariants.{Book}
use Rattle.faults.specs.declared.decode.BookError.TheVariants.{Empty, NoSuchIndex, TableTooShort}
use Rattle.rect.specs.Rects.{region}
use Rattle.rect.specs.Spans.{Rect, shrink}
use Rattle.bands.specs.SubBands.{resolution, has}
use Rattle.bands.specs.declared.sub_band.SubBandType.{SubBandType}
use Rattle.precincts.specs.Asked.{blank}
use Rattle.precincts.specs.Precincts.{Direction, precincts, refusal}
use Rattle.blocks.specs.Components.{Coding, across_at, down_at, precinct_blocks}
use Rattle.tables.specs.Held.{held}
use Rattle.tables.specs.State.{State}
use Rattle.tables.specs.declared.book.OpenBook.{OpenBook}
use Rattle.tables.specs.declared.book.TileBook.{TileBook}
use Rattle.starts.specs.At.{coding_at, tile_at, step_x, step_y}

-- a list, or why there is none
abbrev pub Listed : Type 0
Listed = Result (List Rect) DecodeError

abbrev pub no_such : Listed
no_such = Err (Book NoSuchIndex)

-- what is tested of every question: 20, then 23
abbrev pub asked_of : (OpenBook → State → Listed) → Option OpenBook → State → Listed
asked_of f None s = Err (Book Empty)
asked_of f (Some b) s = if held b s then f b s else Err (Book TableTooShort)

abbrev pub asked : (OpenBook → State → Listed) → TileBook → State → Listed
asked f b s = asked_of f b.open s

-- the component tiles of tile t (B-12)
abbrev pub component_tiles : ℕ → OpenBook → State → Listed
component_tiles t b s =
    if nat_lt t b.tiles then Ok (map (λ c. shrink (step_x s c) (step_y s c) (tile_at s t)) (range_with_len 0 b.size.csiz))
    else no_such

-- the resolutions of component c in tile t (B-14)
abbrev pub there : ℕ → ℕ → OpenBook → Bool
there t c b = nat_lt t b.tiles && nat_lt c b.size.csiz

abbrev pub resolutions_of : Coding → Rect → List Rect
resolutions_of p t = map (λ r. resolution p.levels r t) (range_with_len 0 (p.levels + 1))

abbrev pub resolution_tiles : ℕ → ℕ → OpenBook → State → Listed
resolution_tiles t c b s =
    if there t c b then Ok (resolutions_of (coding_at b s c t) (shrink (step_x s c) (step_y s c) (tile_at s t)))
    else no_such

-- the precincts of resolution r (B-16); 17 and 18
abbrev pub unless : Option DecodeError → List Rect → Listed
unless None l = Ok l
unless (Some f) l = Err f

abbrev pub precincts_of : Direction → Direction → Listed
precincts_of x y = unless (refusal x y) (map (λ p. region p.rect) (precincts x y))

abbrev pub across_in : ℕ → ℕ → ℕ → OpenBook → State → Direction
across_in t c r b s = across_at (coding_at b s c t) (step_x s c) (tile_at s t) r

abbrev pub down_in : ℕ → ℕ → ℕ → OpenBook → State → Direction
down_in t c r b s = down_at (coding_at b s c t) (step_y s c) (tile_at s t) r

abbrev pub resolved : ℕ → ℕ → ℕ → OpenBook → State → Bool
resolved t c r b s = there t c b && nat_le r (coding_at b s c t).levels

abbrev pub precinct_rects : ℕ → ℕ → ℕ → OpenBook → State → Listed
precinct_rects t c r b s =
    if resolved t c r b s then precincts_of (across_in t c r b s) (down_in t c r b s)
    else no_such

-- the code-blocks of a sub-band in precinct k (B.7)
abbrev pub code_blocks : ℕ → ℕ → ℕ → SubBandType → ℕ → OpenBook → State → Listed
code_blocks t c r band k b s =
    if resolved t c r b s && has r band && nat_lt k (length (precincts (across_in t c r b s) (down_in t c r b s))) then
    unless (refusal (across_in t c r b s) (down_in t c r b s))
    (precinct_blocks (coding_at b s c t).xcb (coding_at b s c t).ycb (across_in t c r b s) (down_in t c r b s) band
    (slice_index_or (precincts (across_in t c r b s) (down_in t c r b s)) k blank))
    else no_such

-- which walk is started: over the component tiles of a tile, the resolutions of a component tile, the precincts of a resolution, or the
-- code-blocks of a sub-band in a precinct
pub data Start : Type 0 where
  for_component_tiles : ℕ → Start
  resolutions : ℕ → ℕ → Start
  for_precinct_rects : ℕ → ℕ → ℕ → Start
  for_code_blocks : ℕ → ℕ → ℕ → SubBandType → ℕ → Start

abbrev pub given : Start → OpenBook → State → Listed
given (for_component_tiles t) = component_tiles t
given (resolutions t c) = resolution_tiles t c
given (for_precinct_rects t c r) = precinct_rects t c r
given (for_code_blocks t c r band k) = code_blocks t c r band k

-- what a walk that is started gives
abbrev pub start_of : State → Start → Listed
start_of s w = asked (given w) s.book s
