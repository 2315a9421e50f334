-- Worked examples: the component tile [9, 17) × [2, 7) with two levels, and x [3, 8) with one.
use Rattle.std.specs.Prelude.{◌≡◌, ℕ}
use Rattle.rect.specs.Spans.{Rect, span, rect}
use Rattle.bands.specs.declared.sub_band.SubBandType.TheVariants.{LowLow, HighLow, LowHigh}
use Rattle.bands.specs.SubBands.{band, band_span, level, resolution}

-- [a, b) × [c, d)
abbrev pub box : ℕ → ℕ → ℕ → ℕ → Rect
box a b c d = rect (span a b) (span c d)

pub record BandsWorked : Type 0 where
  pub lowest : resolution 2 0 (box 9 17 2 7) ≡ box 3 5 1 2
  pub low_low : band 2 0 LowLow (box 9 17 2 7) ≡ box 3 5 1 2
  pub high_low : band 2 1 HighLow (box 9 17 2 7) ≡ box 2 4 1 2
  pub low_high : band 2 1 LowHigh (box 9 17 2 7) ≡ box 3 5 0 2
  pub low : band_span (level 1 0) 0 (span 3 8) ≡ span 2 4
  pub high : band_span (level 1 1) 1 (span 3 8) ≡ span 1 4
