-- The sub-bands of resolutions 0 to r have the area of resolution r.
use Rattle.std.proofs.Common.{◌≡◌, ℕ, zero, suc, ◌+◌, ◌-◌, ◌*◌, ◌/◌, ◌^◌, ◌≤◌, sym, ap, ◌∙◌, ap₂, add-zero, add_assoc, add-one, arith}
use Rattle.std.specs.List.{range_with_len}
use Rattle.rect.specs.Numbers.{ceil}
use Rattle.rect.specs.Spans.{Span, Rect, width, area, shrunk, shrink}
use Rattle.rect.specs.Sums.{total}
use Rattle.rect.proofs.Ceil.{ceil_low_pow, ceil_high_pow}
use Rattle.bands.specs.declared.sub_band.SubBandType.TheVariants.{LowLow, HighLow, LowHigh, HighHigh}
use Rattle.bands.specs.SubBands.{band, band_areas, band_at, band_edge_of, band_span, resolution}
use Rattle.bands.specs.Laws.{BandsCover}

-- without a half step a sub-band's edge is a resolution's
pub edge_whole : (n e : ℕ) → band_edge_of n 0 e ≡ ceil e (2 ^ n)
edge_whole n e = let d : e - 2 ^ (n - 1) * 0 ≡ e = omega arith in ap (λ a. ceil a (2 ^ n)) d

pub edge_half_step : (n e : ℕ) → band_edge_of n 1 e ≡ ceil (e - 2 ^ (n - 1)) (2 ^ n)
edge_half_step n e = let d : e - 2 ^ (n - 1) * 1 ≡ e - 2 ^ (n - 1) = omega arith in ap (λ a. ceil a (2 ^ n)) d

-- one level up the edges are halves: rounded up, or down with the half step
pub edge_low : (n e : ℕ) → band_edge_of (suc n) 0 e ≡ (ceil e (2 ^ n) + 1) / 2
edge_low n e = edge_whole (suc n) e ∙ ceil_low_pow e n

pub edge_high : (n e : ℕ) → band_edge_of (suc n) 1 e ≡ ceil e (2 ^ n) / 2
edge_high n e =
    let d : suc n - 1 ≡ n = omega arith in
    edge_half_step (suc n) e ∙ ap (λ k. ceil (e - 2 ^ k) (2 ^ suc n)) d ∙ ceil_high_pow e n

pub halves : (n : ℕ) (s : Span) → width (band_span (suc n) 0 s) + width (band_span (suc n) 1 s) ≡ width (shrunk (2 ^ n) s)
halves n s = omega (arith, edge_low n s.from, edge_low n s.to, edge_high n s.from, edge_high n s.to)

quarters : (a b c d : ℕ) → a * c + (b * c + (a * d + (b * d + 0))) ≡ (a + b) * (c + d)
quarters a b c d = omega arith

low_area : (n : ℕ) (t : Rect) → area (shrink (2 ^ n) (2 ^ n) t) ≡ area (band_at n LowLow t)
low_area n t =
    sym (ap₂ ◌*◌ (ap₂ ◌-◌ (edge_whole n t.x.to) (edge_whole n t.x.from)) (ap₂ ◌-◌ (edge_whole n t.y.to) (edge_whole n t.y.from)))

-- one decomposition: the four sub-bands of level n + 1 have the area of level n
split : (n : ℕ) (t : Rect)
    → area (shrink (2 ^ suc n) (2 ^ suc n) t)
    + (area (band_at (suc n) HighLow t) + (area (band_at (suc n) LowHigh t) + (area (band_at (suc n) HighHigh t) + 0)))
    ≡ area (shrink (2 ^ n) (2 ^ n) t)
split n t =
    ap (λ a. a + (area (band_at (suc n) HighLow t) + (area (band_at (suc n) LowHigh t) + (area (band_at (suc n) HighHigh t) + 0)))) (low_area (suc n) t)
    ∙ quarters (width (band_span (suc n) 0 t.x)) (width (band_span (suc n) 1 t.x)) (width (band_span (suc n) 0 t.y))
    (width (band_span (suc n) 1 t.y))
    ∙ ap₂ ◌*◌ (halves n t.x) (halves n t.y)

step : (N r : ℕ) (t : Rect) → suc r ≤ N → area (resolution N r t) + band_areas N t (suc r) ≡ area (resolution N (suc r) t)
step N r t h =
    let d : N - r ≡ suc (N - suc r) = omega arith in
    let e : N + 1 - suc r ≡ suc (N - suc r) = omega arith in
    rw (d, e) (split (N - suc r) t)

-- resolution k with the sub-bands of k + 1, .. k + m
climb : (N : ℕ) (t : Rect) (k m : ℕ) → k + m ≤ N → area (resolution N k t) + total (band_areas N t) (range_with_len (suc k) m) ≡ area (resolution N (k + m) t)
climb N t k zero h =
    let d : k + 0 ≡ k = omega arith in
    add-zero (area (resolution N k t)) ∙ ap (λ j. area (resolution N j t)) (sym d)
climb N t k (suc m) h =
    let f = band_areas N t in
    let d : suc k + m ≡ k + suc m = omega arith in
    let e : suc k + 1 ≡ suc (suc k) = omega arith in
    sym (add_assoc (area (resolution N k t)) (f (suc k)) (total f (range_with_len (suc k + 1) m)))
    ∙ ap₂ ◌+◌ (step N k t (omega arith)) (ap (λ j. total f (range_with_len j m)) e)
    ∙ climb N t (suc k) m (omega arith) ∙ ap (λ j. area (resolution N j t)) d

pub resolution_area : (N r : ℕ) (t : Rect) → r ≤ N → total (band_areas N t) (range_with_len 0 (r + 1)) ≡ area (resolution N r t)
resolution_area N r t h =
    let f = band_areas N t in
    let d : N - 0 ≡ N = omega arith in
    let base : f 0 ≡ area (resolution N 0 t) = add-zero (area (band N 0 LowLow t)) ∙ sym (ap (λ k. area (shrink (2 ^ k) (2 ^ k) t)) d ∙ low_area N t) in
    let z : 0 + r ≡ r = omega arith in
    ap (λ n. total f (range_with_len 0 n)) (add-one r) ∙ ap (λ a. a + total f (range_with_len 1 r)) base
    ∙ climb N t 0 r (omega arith) ∙ ap (λ k. area (resolution N k t)) z

ceil_one : (a : ℕ) → ceil a 1 ≡ a
ceil_one a = omega arith

pub bands_cover : BandsCover
bands_cover N t =
    let d : N - N ≡ 0 = omega arith in
    resolution_area N N t (omega arith) ∙ ap (λ k. area (shrink (2 ^ k) (2 ^ k) t)) d
    ∙ ap₂ ◌*◌ (ap₂ ◌-◌ (ceil_one t.x.to) (ceil_one t.x.from)) (ap₂ ◌-◌ (ceil_one t.y.to) (ceil_one t.y.from))
