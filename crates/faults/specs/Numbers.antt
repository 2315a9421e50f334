-- The number of each fault, and the place that it carries.
use Rattle.std.specs.Prelude.{ℕ, Some, None, Option}
use Rattle.faults.specs.declared.segment.Cause.{Cause}
use Rattle.faults.specs.declared.segment.Cause.TheVariants.{Short, Value}
use Rattle.faults.specs.declared.decode.MarkerError.{MarkerError}
use Rattle.faults.specs.declared.decode.MarkerError.TheVariants as marker
use Rattle.faults.specs.declared.decode.TileError.{TileError}
use Rattle.faults.specs.declared.decode.TileError.TheVariants as tile
use Rattle.faults.specs.declared.decode.ValidationError.{ValidationError}
use Rattle.faults.specs.declared.decode.ValidationError.TheVariants as validation
use Rattle.faults.specs.declared.decode.DecodingError.{DecodingError}
use Rattle.faults.specs.declared.decode.DecodingError.TheVariants as decoding
use Rattle.faults.specs.declared.decode.BookError.{BookError}
use Rattle.faults.specs.declared.decode.BookError.TheVariants as book
use Rattle.faults.specs.declared.decode.DecodeError.{DecodeError}
use Rattle.faults.specs.declared.decode.DecodeError.TheVariants.{Marker, Tile, Validation, Decoding, Book}

-- 1 to 5: markers and their segments
abbrev pub marker_number : MarkerError → ℕ
marker_number (marker.Invalid p) = 1
marker_number (marker.Unsupported p) = 2
marker_number (marker.Expected m p) = 3
marker_number (marker.Missing m p) = 4
marker_number (marker.ParseFailure m e) = 5

-- 6 to 9: tiles and tile-parts
abbrev pub tile_number : TileError → ℕ
tile_number (tile.Invalid p) = 6
tile_number (tile.InvalidIndex p) = 7
tile_number (tile.InvalidOffsets p) = 8
tile_number (tile.PpmPptConflict p) = 9

-- 10 to 16: sizes, components and step sizes
abbrev pub validation_number : ValidationError → ℕ
validation_number (validation.InvalidDimensions p) = 10
validation_number (validation.ImageTooLarge p) = 11
validation_number (validation.InvalidComponentMetadata p) = 12
validation_number (validation.MissingPrecinctExponents p) = 13
validation_number (validation.InsufficientExponents p) = 14
validation_number validation.MissingStepSize = 15
validation_number validation.InvalidExponents = 16

-- 17 to 19: the geometry passes its widths
abbrev pub decoding_number : DecodingError → ℕ
decoding_number decoding.InvalidPrecinct = 17
decoding_number decoding.PrecinctTooFar = 18
decoding_number decoding.TotalTooLarge = 19

-- 20 to 24: the caller
abbrev pub book_number : BookError → ℕ
book_number book.Empty = 20
book_number book.Open = 21
book_number book.NoSuchIndex = 22
book_number book.TableTooShort = 23
book_number book.PartOutside = 24

abbrev pub number_of : DecodeError → ℕ
number_of (Marker e) = marker_number e
number_of (Tile e) = tile_number e
number_of (Validation e) = validation_number e
number_of (Decoding e) = decoding_number e
number_of (Book e) = book_number e

-- where a field that was not taken begins
abbrev pub cause_place : Cause → ℕ
cause_place (Short e) = e.place
cause_place (Value p) = p

abbrev pub marker_place : MarkerError → ℕ
marker_place (marker.Invalid p) = p
marker_place (marker.Unsupported p) = p
marker_place (marker.Expected m p) = p
marker_place (marker.Missing m p) = p
marker_place (marker.ParseFailure m e) = cause_place e

abbrev pub tile_place : TileError → ℕ
tile_place (tile.Invalid p) = p
tile_place (tile.InvalidIndex p) = p
tile_place (tile.InvalidOffsets p) = p
tile_place (tile.PpmPptConflict p) = p

abbrev pub validation_place : ValidationError → Option ℕ
validation_place (validation.InvalidDimensions p) = Some p
validation_place (validation.ImageTooLarge p) = Some p
validation_place (validation.InvalidComponentMetadata p) = Some p
validation_place (validation.MissingPrecinctExponents p) = Some p
validation_place (validation.InsufficientExponents p) = Some p
validation_place validation.MissingStepSize = None
validation_place validation.InvalidExponents = None

-- 1 to 14 carry a place
abbrev pub place_of : DecodeError → Option ℕ
place_of (Marker e) = Some (marker_place e)
place_of (Tile e) = Some (tile_place e)
place_of (Validation e) = validation_place e
place_of (Decoding e) = None
place_of (Book e) = None
