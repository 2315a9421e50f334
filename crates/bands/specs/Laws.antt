-- What the sub-bands of a component tile are together.
use Rattle.std.specs.Prelude.{◌≡◌, ℕ, ◌+◌}
use Rattle.std.specs.List.{range_with_len}
use Rattle.rect.specs.Spans.{Rect, area}
use Rattle.rect.specs.Sums.{total}
use Rattle.bands.specs.SubBands.{band_areas}

-- the sub-bands of resolutions 0 to N have the component tile's area
abbrev pub BandsCover : Type 0
BandsCover = (N : ℕ) (t : Rect) → total (band_areas N t) (range_with_len 0 (N + 1)) ≡ area t
