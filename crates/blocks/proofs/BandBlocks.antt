-- The code-blocks of all precincts cut a sub-band up.
use Rattle.std.proofs.Common.{◌≡◌, ℕ, zero, suc, ◌+◌, ◌-◌, ◌*◌, ◌/◌, ◌^◌, ◌<◌, ◌≤◌, Bool, true, false, ◌&&◌, ◌||◌, eqb, ltb, leb, ◌⊎◌, None, sym, refl, ap, ◌∙◌, ap₂, inl, inr, mul-le-mul_right, lt_of_mul-lt-mul_right, mul-zero, zero-mul, div-mul-le_self, arith, pow_pos}
use native.Mathlib.Nat.{pow-succ'}
use Rattle.std.specs.List.{range_with_len}
use Rattle.std.proofs.lemmas.Bool.{and_cases, cases_lt, cond-true, eqb-false, lt-ltb, ltb-false, or_parts}
use Rattle.rect.specs.Numbers.{ceil}
use Rattle.rect.specs.Rects.{region}
use Rattle.rect.specs.Spans.{Span, rect, meet, meets, shrunk}
use Rattle.rect.specs.Sums.{total}
use Rattle.rect.proofs.Ceil.{le_ceil}
use Rattle.rect.proofs.Weights.{Adds, Mono, cut_total, partition, total_each, total_product, weigh, weight, weight_empty}
use Rattle.bands.specs.declared.sub_band.SubBandType.{SubBandType}
use Rattle.bands.specs.declared.sub_band.SubBandType.TheVariants.{LowLow, HighLow, LowHigh, HighHigh}
use Rattle.bands.specs.SubBands.{band_edge_of, band_span, has, level, xo, yo}
use Rattle.bands.proofs.BandLaws.{edge_high, edge_low, edge_whole}
use Rattle.precincts.specs.declared.grid.PrecinctGrid.{PrecinctGrid}
use Rattle.precincts.specs.declared.precinct.PrecinctData.{PrecinctData}
use Rattle.precincts.specs.Asked.{across, down}
use Rattle.precincts.specs.Precincts.{Direction, count, cover, halved, precinct_in, precincts, reach, refusal, stride, unfit}
use Rattle.precincts.proofs.Listed.{fit}
use Rattle.precincts.proofs.Ways.{count_some}
use Rattle.blocks.specs.CodeBlocks.{block_exponent_of, Proper}
use Rattle.blocks.specs.Components.{band_blocks, precinct_blocks, sub_band, CutUp}
use Rattle.blocks.proofs.BlockLaws.{Few, blocks_add, blocks_proper, few_blocks, few_each}
use Rattle.blocks.proofs.Kept.{all_each}

-- xo_b or yo_b that a sub-band of resolution r can have
abbrev Offset : ℕ → ℕ → Type 0
Offset zero o = o ≡ 0
Offset (suc r) o = o ≤ 1

offset_x : (r : ℕ) (b : SubBandType) → has r b ≡ true → Offset r (xo b)
offset_x zero LowLow e = refl
offset_x zero HighLow e = absurd (let z : ◌≡◌ {A = ℕ} 0 1 = cc in omega arith)
offset_x zero LowHigh e = refl
offset_x zero HighHigh e = absurd (let z : ◌≡◌ {A = ℕ} 0 1 = cc in omega arith)
offset_x (suc r) LowLow e = omega arith
offset_x (suc r) HighLow e = omega arith
offset_x (suc r) LowHigh e = omega arith
offset_x (suc r) HighHigh e = omega arith

offset_y : (r : ℕ) (b : SubBandType) → has r b ≡ true → Offset r (yo b)
offset_y zero LowLow e = refl
offset_y zero HighLow e = refl
offset_y zero LowHigh e = absurd (let z : ◌≡◌ {A = ℕ} 0 1 = cc in omega arith)
offset_y zero HighHigh e = absurd (let z : ◌≡◌ {A = ℕ} 0 1 = cc in omega arith)
offset_y (suc r) LowLow e = omega arith
offset_y (suc r) HighLow e = omega arith
offset_y (suc r) LowHigh e = omega arith
offset_y (suc r) HighHigh e = omega arith

-- the edges of a sub-band above resolution 0 are halves of the resolution's
edge_by : (n o e : ℕ) → o ≤ 1 → band_edge_of (suc n) o e ≡ (ceil e (2 ^ n) + (1 - o)) / 2
edge_by n zero e h = edge_low n e
edge_by n (suc zero) e h = let d : ceil e (2 ^ n) ≡ ceil e (2 ^ n) + (1 - 1) = omega arith in edge_high n e ∙ ap (λ a. a / 2) d
edge_by n (suc (suc o)) e h = absurd (omega arith)

edge_above : (N r o e : ℕ) → suc r ≤ N → o ≤ 1 → band_edge_of (level N (suc r)) o e ≡ (ceil e (2 ^ (N - suc r)) + (1 - o)) / 2
edge_above N r o e h k =
    let d : N + 1 - suc r ≡ suc (N - suc r) = omega arith in
    ap (λ n. band_edge_of n o e) d ∙ edge_by (N - suc r) o e k

edge_lowest : (N o e : ℕ) → o ≡ 0 → band_edge_of (level N 0) o e ≡ ceil e (2 ^ (N - 0))
edge_lowest N o e z =
    let d : N ≡ N - 0 = omega arith in
    ap (λ a. band_edge_of N a e) z ∙ edge_whole N e ∙ ap (λ n. ceil e (2 ^ n)) d

-- one direction: where the resolution is empty, so is the sub-band
band_empty : (N r o : ℕ) (s : Span) → r ≤ N → Offset r o → ceil s.to (2 ^ (N - r)) ≤ ceil s.from (2 ^ (N - r))
    → (band_span (level N r) o s).to ≤ (band_span (level N r) o s).from
band_empty N zero o s le ok h = omega (arith, h, edge_lowest N o s.from ok, edge_lowest N o s.to ok)
band_empty N (suc r) o s le ok h = omega (arith, h, edge_above N r o s.from le ok, edge_above N r o s.to le ok)

-- and the precincts reach over the sub-band, where their size can be halved
record Reaches (r e : ℕ) (u b : Span) : Type 0 where
  first : u.from / 2 ^ e * 2 ^ halved r e ≤ b.from
  last : b.to ≤ ceil u.to (2 ^ e) * 2 ^ halved r e

reach_half : (r e : ℕ) → 0 < e → (u b : Span) → u.from / 2 ≤ b.from → b.to ≤ (u.to + 1) / 2 → Reaches (suc r) e u b
reach_half r e pos u b lo hi =
    let d : 2 ^ e ≡ 2 * 2 ^ (e - 1) = ap (λ k. 2 ^ k) (omega arith) ∙ pow-succ' 2 (e - 1) in
    record { first = omega (arith, lo, below d); last = omega (arith, hi, beyond d) }
  where
    below : 2 ^ e ≡ 2 * 2 ^ (e - 1) → 2 * (u.from / 2 ^ e * 2 ^ (e - 1)) ≤ u.from
    below d = omega (arith, div-mul-le_self u.from (2 ^ e), ap (λ m. u.from / 2 ^ e * m) d)

    beyond : 2 ^ e ≡ 2 * 2 ^ (e - 1) → u.to ≤ 2 * (ceil u.to (2 ^ e) * 2 ^ (e - 1))
    beyond d = omega (arith, le_ceil u.to (2 ^ e) (pow_pos e), ap (λ m. ceil u.to (2 ^ e) * m) d)

reach_band : (N r e o : ℕ) (s : Span) → r ≤ N → Offset r o → (0 < r → 0 < e)
    → Reaches r e (shrunk (2 ^ (N - r)) s) (band_span (level N r) o s)
reach_band N zero e o s le ok pos =
    let u = shrunk (2 ^ (N - 0)) s in
    record {
      first = omega (arith, div-mul-le_self u.from (2 ^ e), edge_lowest N o s.from ok);
      last = omega (arith, le_ceil u.to (2 ^ e) (pow_pos e), edge_lowest N o s.to ok);
    }
reach_band N (suc r) e o s le ok pos =
    reach_half r e (pos (omega arith)) (shrunk (2 ^ (N - suc r)) s) (band_span (level N (suc r)) o s) (omega (arith, edge_above N r o s.from le ok))
    (omega (arith, edge_above N r o s.to le ok))

precinct_total : (F : ℕ → ℕ) → Mono F → (d : Direction) (b : Span) → (reach d).from < (reach d).to → Reaches d.r d.exponent (reach d) b
    → total (λ k. weight F (meet (cover d k) b)) (range_with_len 0 (count d)) ≡ weight F b
precinct_total F up d b some ok =
    let w = 2 ^ halved d.r d.exponent in
    cut_total F up ((reach d).from / 2 ^ d.exponent * w) w 0 (count d) b (λ _. omega (arith, ok.first)) (λ _. reached)
  where
    reached : b.to ≤ (reach d).from / 2 ^ d.exponent * 2 ^ halved d.r d.exponent + (0 + count d) * 2 ^ halved d.r d.exponent
    reached =
        let q = (reach d).from / 2 ^ d.exponent in
        let n = ceil (reach d).to (2 ^ d.exponent) in
        let c : count d ≡ n - q = cond-true (ltb (reach d).from (reach d).to) (n - q) 0 (lt-ltb (reach d).from (reach d).to some) in
        omega (arith, ok.last, mul-le-mul_right {m = n} {n = q + count d} (2 ^ halved d.r d.exponent) (omega arith))

count_none : (d : Direction) → count d ≡ 0 → (reach d).to ≤ (reach d).from
count_none d z = go (cases_lt (reach d).from (reach d).to)
  where
    go : ((reach d).from < (reach d).to) ⊎ ((reach d).to ≤ (reach d).from) → (reach d).to ≤ (reach d).from
    go (inr k) = k
    go (inl k) =
        let p = 2 ^ d.exponent in
        let q = (reach d).from / p in
        let n = ceil (reach d).to p in
        let c : count d ≡ n - q = cond-true (ltb (reach d).from (reach d).to) (n - q) 0 (lt-ltb (reach d).from (reach d).to k) in
        let l : q < n = lt_of_mul-lt-mul_right p (omega (arith, k, div-mul-le_self (reach d).from p, le_ceil (reach d).to p (pow_pos d.exponent))) in
        absurd (omega arith)

-- what is not unfit can be halved
halves : (d : Direction) → unfit d ≡ false → 0 < d.r → 0 < d.exponent
halves d u h = go (and_cases (ltb 0 d.r) (eqb d.exponent 0) (or_parts (ltb 0 d.r && eqb d.exponent 0) rest u).0)
  where
    rest : Bool
    rest = leb 32 (d.exponent + (d.levels - d.r)) || leb (2 ^ 32) (stride d)

    go : (ltb 0 d.r ≡ false) ⊎ (eqb d.exponent 0 ≡ false) → 0 < d.exponent
    go (inl e) = absurd (omega (arith, ltb-false 0 d.r e))
    go (inr e) = let ne : d.exponent ≡ 0 → ⊥ = eqb-false d.exponent 0 e in omega arith

-- the weights of a sub-band's blocks are a product of sums over columns and rows of precincts
abbrev part : (ℕ → ℕ) → Direction → Span → ℕ
part F d b = total (λ k. weight F (meet (cover d k) b)) (range_with_len 0 (count d))

band_product : (xcb ycb : ℕ) (x y : Direction) (b : SubBandType) (F G : ℕ → ℕ) → Mono F → Mono G
    → total (weigh F G) (band_blocks xcb ycb x y b) ≡ part F x (sub_band x y b).x * part G y (sub_band x y b).y
band_product xcb ycb x y b F G up_f upG =
    let s = sub_band x y b in
    let w = 2 ^ block_exponent_of xcb x in
    let h = 2 ^ block_exponent_of ycb y in
    total_each (weigh F G) (precinct_blocks xcb ycb x y b) (precincts x y)
    ∙ total_product (λ (p : PrecinctData). total (weigh F G) (precinct_blocks xcb ycb x y b p)) (precinct_in x y)
    (λ i. weight F (meet (cover x i) s.x)) (λ j. weight G (meet (cover y j) s.y))
    (λ i j. blocks_add w h (pow_pos (block_exponent_of xcb x)) (pow_pos (block_exponent_of ycb y)) (meets (rect (cover x i) (cover y j)) s) F G up_f upG)
    (range_with_len 0 (count x)) (range_with_len 0 (count y))

-- two directions of one resolution
pub record Together (x y : Direction) : Type 0 where
  pub levels : x.levels ≡ y.levels
  pub r : x.r ≡ y.r
  pub there : x.r ≤ x.levels

pub together : (g : PrecinctGrid) → Together (across g) (down g)
together g = record { levels = g.levels; r = g.r; there = g.x.resolution.there }

abbrev span_x : Direction → SubBandType → Span
span_x x b = band_span (level x.levels x.r) (xo b) (shrunk x.step x.over)

abbrev span_y : Direction → SubBandType → Span
span_y y b = band_span (level y.levels y.r) (yo b) (shrunk y.step y.over)

same_y : (x y : Direction) (b : SubBandType) → Together x y → (sub_band x y b).y ≡ span_y y b
same_y x y b t = ap₂ (λ n r. band_span (level n r) (yo b) (shrunk y.step y.over)) t.levels t.r

pub band_adds : (xcb ycb : ℕ) (x y : Direction) (b : SubBandType) → Together x y → refusal x y ≡ None → has x.r b ≡ true
    → Adds (sub_band x y b) (band_blocks xcb ycb x y b)
band_adds xcb ycb x y b t ok hb F G up_f upG = band_product xcb ycb x y b F G up_f upG ∙ go (cases_lt 0 (count x)) (cases_lt 0 (count y))
  where
    ox : Offset x.r (xo b)
    ox = offset_x x.r b hb

    oy : Offset y.r (yo b)
    oy = offset_y y.r b (ap (λ n. has n b) (sym t.r) ∙ hb)

    le : y.r ≤ y.levels
    le = omega (arith, t.levels, t.r, t.there)

    go : (0 < count x) ⊎ (count x ≤ 0) → (0 < count y) ⊎ (count y ≤ 0)
        → part F x (sub_band x y b).x * part G y (sub_band x y b).y ≡ weigh F G (sub_band x y b)
    go (inl h) (inl k) =
        let f = fit x y ok h k in
        let ex = precinct_total F up_f x (span_x x b) (count_some x 0 h).0 (reach_band x.levels x.r x.exponent (xo b) (shrunk x.step x.over) t.there ox (halves x f.unfit_x)) in
        let ey = precinct_total G upG y (span_y y b) (count_some y 0 k).0 (reach_band y.levels y.r y.exponent (yo b) (shrunk y.step y.over) le oy (halves y f.unfit_y)) in
        ap₂ ◌*◌ ex (ap (part G y) (same_y x y b t) ∙ ey ∙ ap (weight G) (sym (same_y x y b t)))
    go (inr h) k =
        let z : count x ≡ 0 = omega arith in
        let e : part F x (span_x x b) ≡ 0 = ap (λ n. total (λ i. weight F (meet (cover x i) (span_x x b))) (range_with_len 0 n)) z in
        let v : weight F (span_x x b) ≡ 0 =
        weight_empty F up_f (span_x x b) (band_empty x.levels x.r (xo b) (shrunk x.step x.over) t.there ox (count_none x z)) in
        ap (λ n. n * part G y (sub_band x y b).y) e ∙ zero-mul (part G y (sub_band x y b).y)
        ∙ sym (ap (λ n. n * weight G (sub_band x y b).y) v ∙ zero-mul (weight G (sub_band x y b).y))
    go (inl h) (inr k) =
        let z : count y ≡ 0 = omega arith in
        let e : part G y (sub_band x y b).y ≡ 0 = ap (λ n. total (λ i. weight G (meet (cover y i) (sub_band x y b).y)) (range_with_len 0 n)) z in
        let v : weight G (sub_band x y b).y ≡ 0 =
        ap (weight G) (same_y x y b t)
        ∙ weight_empty G upG (span_y y b) (band_empty y.levels y.r (yo b) (shrunk y.step y.over) le oy (count_none y z)) in
        ap (λ n. part F x (span_x x b) * n) e ∙ mul-zero (part F x (span_x x b))
        ∙ sym (ap (λ n. weight F (span_x x b) * n) v ∙ mul-zero (weight F (span_x x b)))

pub few_precinct : (xcb ycb : ℕ) (x y : Direction) (b : SubBandType) (p : PrecinctData) → Few (precinct_blocks xcb ycb x y b p)
few_precinct xcb ycb x y b p =
    few_blocks (2 ^ block_exponent_of xcb x) (2 ^ block_exponent_of ycb y) (meets (region p.rect) (sub_band x y b))

pub cut_up : (xcb ycb : ℕ) (x y : Direction) (b : SubBandType) → Together x y → refusal x y ≡ None → has x.r b ≡ true → CutUp xcb ycb x y b
cut_up xcb ycb x y b t ok hb =
    let p = partition (sub_band x y b) (band_blocks xcb ycb x y b) (band_adds xcb ycb x y b t ok hb) in
    record {
      partition = p;
      proper =
          all_each (Proper (2 ^ block_exponent_of xcb x) (2 ^ block_exponent_of ycb y)) (precinct_blocks xcb ycb x y b)
          (λ q. blocks_proper (2 ^ block_exponent_of xcb x) (2 ^ block_exponent_of ycb y) (meets (region q.rect) (sub_band x y b))) (precincts x y);
      few = omega (arith, p.areas, few_each (precinct_blocks xcb ycb x y b) (few_precinct xcb ycb x y b) (precincts x y));
    }
