-- What the calls on resolutions and sub-bands answer.
use Rattle.std.specs.Prelude.{◌≡◌, ℕ, ◌<◌, ◌≤◌, true, false, length, Some, None, Ok, Err, Option, Result, slice_index_or}
use Rattle.faults.specs.declared.decode.BookError.TheVariants.{NoSuchIndex}
use Rattle.faults.specs.declared.decode.DecodeError.{DecodeError}
use Rattle.faults.specs.declared.decode.DecodeError.TheVariants.{Book}
use Rattle.rect.specs.declared.IntRect.{IntRect}
use Rattle.rect.specs.Rects.{region}
use Rattle.rect.specs.Spans.{Rect}
use Rattle.bands.specs.declared.decomposition.Decomposition.{Decomposition}
use Rattle.bands.specs.declared.resolution.Resolution.{Resolution}
use Rattle.bands.specs.declared.sub_band.SubBandType.{SubBandType}
use Rattle.bands.specs.declared.sub_band.SubBandType.TheVariants.{LowLow}
use Rattle.bands.specs.SubBands.{band, bands, has}

abbrev pub Decomposed : ℕ → Option Decomposition → Type 0
Decomposed n None = 32 < n
Decomposed n (Some d) = (n ≤ 32) × (d.levels ≡ n)

-- resolutions 0 to N
abbrev pub ResolutionAnswer : Decomposition → ℕ → Result Resolution DecodeError → Type 0
ResolutionAnswer d r (Ok s) = (s.levels ≡ d.levels) × (s.r ≡ r)
ResolutionAnswer d r (Err e) = (d.levels < r) × (e ≡ Book NoSuchIndex)

-- item k of the sub-bands
abbrev pub BandAnswer : Resolution → ℕ → Result SubBandType DecodeError → Type 0
BandAnswer s k (Ok b) = (k < length (bands s.r)) × (b ≡ slice_index_or (bands s.r) k LowLow) × (has s.r b ≡ true)
BandAnswer s k (Err e) = (length (bands s.r) ≤ k) × (e ≡ Book NoSuchIndex)

abbrev pub SubBandAnswer : Resolution → Rect → SubBandType → Result IntRect DecodeError → Type 0
SubBandAnswer s t b (Ok p) = (has s.r b ≡ true) × (region p ≡ band s.levels s.r b t)
SubBandAnswer s t b (Err e) = (has s.r b ≡ false) × (e ≡ Book NoSuchIndex)
