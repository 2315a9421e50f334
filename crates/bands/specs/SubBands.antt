-- Resolutions and sub-bands of a component tile (T.800 B.5). N is the number of decomposition levels, r a resolution, t a component tile.
use Rattle.std.specs.Prelude.{ℕ, zero, suc, ◌+◌, ◌-◌, ◌*◌, ◌^◌, Bool, true, false, not, List, [], ◌∷◌}
use Rattle.rect.specs.Numbers.{ceil}
use Rattle.rect.specs.Spans.{Span, Rect, span, rect, area, shrink}
use Rattle.rect.specs.Sums.{total}
use Rattle.bands.specs.declared.sub_band.SubBandType.{SubBandType}
use Rattle.bands.specs.declared.sub_band.SubBandType.TheVariants.{LowLow, HighLow, LowHigh, HighHigh}

-- resolution r: every edge divided by 2^(N − r), rounded up (B-14)
abbrev pub resolution : ℕ → ℕ → Rect → Rect
resolution N r t = shrink (2 ^ (N - r)) (2 ^ (N - r)) t

-- n_b: N at resolution 0, N + 1 − r above it
abbrev pub level : ℕ → ℕ → ℕ
level N zero = N
level N (suc r) = N + 1 - suc r

-- xo_b and yo_b (Table B.1)
abbrev pub xo : SubBandType → ℕ
xo LowLow = 0
xo HighLow = 1
xo LowHigh = 0
xo HighHigh = 1

abbrev pub yo : SubBandType → ℕ
yo LowLow = 0
yo HighLow = 0
yo LowHigh = 1
yo HighHigh = 1

-- ⌈(e − 2^(n−1) o) / 2^n⌉, and 0 where e is smaller (B-15)
abbrev pub band_edge_of : ℕ → ℕ → ℕ → ℕ
band_edge_of n o e = ceil (e - 2 ^ (n - 1) * o) (2 ^ n)

abbrev pub band_span : ℕ → ℕ → Span → Span
band_span n o s = span (band_edge_of n o s.from) (band_edge_of n o s.to)

-- the sub-band of level n
abbrev pub band_at : ℕ → SubBandType → Rect → Rect
band_at n b t = rect (band_span n (xo b) t.x) (band_span n (yo b) t.y)

-- the sub-band of resolution r
abbrev pub band : ℕ → ℕ → SubBandType → Rect → Rect
band N r b t = band_at (level N r) b t

-- the sub-bands of resolution r, in the order of the codestream
abbrev pub bands : ℕ → List SubBandType
bands zero = LowLow ∷ []
bands (suc r) = HighLow ∷ LowHigh ∷ HighHigh ∷ []

-- the low frequencies of both directions
abbrev pub lowest : SubBandType → Bool
lowest LowLow = true
lowest HighLow = false
lowest LowHigh = false
lowest HighHigh = false

-- resolution r has such a sub-band
abbrev pub has : ℕ → SubBandType → Bool
has zero b = lowest b
has (suc r) b = not (lowest b)

-- the areas of the sub-bands of resolution r together
abbrev pub band_areas : ℕ → Rect → ℕ → ℕ
band_areas N t r = total (λ b. area (band N r b t)) (bands r)
