-- The code-blocks of a component have as many samples as the component.
use Rattle.std.proofs.Common.{◌≡◌, ℕ, zero, suc, ◌+◌, ◌*◌, ◌<◌, ◌≤◌, true, List, [], ◌∷◌, None, sym, refl, ap, ◌∙◌, mul_comm, arith}
use Rattle.std.specs.List.{range_with_len}
use Rattle.rect.specs.Spans.{Rect, area, shrink}
use Rattle.rect.specs.Sums.{each, total}
use Rattle.rect.proofs.Places.{row_by_row}
use Rattle.rect.proofs.Weights.{total_each, total_map, total_plus, total_same}
use Rattle.geometry.specs.declared.grid.TileGrid.{TileGrid}
use Rattle.geometry.specs.declared.sampling.Sampling.{Sampling}
use Rattle.geometry.specs.Components.{sampled, samples}
use Rattle.geometry.specs.TileGrid.{tile}
use Rattle.geometry.specs.Tiles.{axis, columns, rows, tile_of, grid_tiles}
use Rattle.geometry.proofs.TileLaws.{sampled_partition}
use Rattle.bands.specs.declared.sub_band.SubBandType.{SubBandType}
use Rattle.bands.specs.declared.sub_band.SubBandType.TheVariants.{LowLow, HighLow, LowHigh, HighHigh}
use Rattle.bands.specs.SubBands.{band_areas, bands, has}
use Rattle.bands.proofs.BandLaws.{bands_cover}
use Rattle.precincts.specs.declared.precinct.PrecinctData.{PrecinctData}
use Rattle.precincts.specs.Precincts.{Direction, precincts, refusal}
use Rattle.blocks.specs.Components.{Accepted, BlocksCover, Coding, across_at, band_blocks, component_blocks, down_at, precinct_blocks, resolution_blocks, sub_band, tile_blocks}
use Rattle.blocks.proofs.BandBlocks.{Together, cut_up, few_precinct}
use Rattle.blocks.proofs.BlockLaws.{Few, few_each}

total_zero : {A : Type 0} (l : List A) → total (λ a. 0) l ≡ 0
total_zero [] = refl
total_zero (a ∷ l) = omega (arith, total_zero l)

-- sums over two lists change places
total_swap : {A B : Type 0} (f : A → B → ℕ) (l : List A) (m : List B) → total (λ a. total (f a) m) l ≡ total (λ b. total (λ a. f a b) l) m
total_swap f l [] = total_zero l
total_swap f l (b ∷ m) = omega (arith, total_plus (λ a. f a b) (λ a. total (f a) m) l, total_swap f l m)

-- two sums over k, k + 1, .. k + n - 1 agree where their terms do
total_same_to : (f g : ℕ → ℕ) (k n : ℕ) → ((i : ℕ) → i < k + n → f i ≡ g i) → total f (range_with_len k n) ≡ total g (range_with_len k n)
total_same_to f g k zero e = refl
total_same_to f g k (suc n) e = omega (arith, e k (omega arith), total_same_to f g (k + 1) n (λ i h. e i (omega arith)))

by_band : (xcb ycb : ℕ) (x y : Direction)
    → total area (resolution_blocks xcb ycb x y) ≡ total (λ b. total area (band_blocks xcb ycb x y b)) (bands x.r)
by_band xcb ycb x y =
    let ps = precincts x y in
    let bs = bands x.r in
    let one : PrecinctData → SubBandType → List Rect = λ p b. precinct_blocks xcb ycb x y b p in
    total_each area (λ p. each (one p) bs) ps
    ∙ total_same (λ p. total area (each (one p) bs)) (λ p. total (λ b. total area (one p b)) bs) (λ p. total_each area (one p) bs) ps
    ∙ total_swap (λ p b. total area (one p b)) ps bs
    ∙ total_same (λ b. total (λ p. total area (one p b)) ps) (λ b. total area (band_blocks xcb ycb x y b))
    (λ b. sym (total_each area (precinct_blocks xcb ycb x y b) ps)) bs

-- both directions of resolution r of a tile
tile_together : (c : Coding) (dx dy : ℕ) (t : Rect) (r : ℕ) → r ≤ c.levels → Together (across_at c dx t r) (down_at c dy t r)
tile_together c dx dy t r h = record { levels = refl; r = refl; there = h }

abbrev Open : Coding → ℕ → ℕ → Rect → ℕ → Type 0
Open c dx dy t r = refusal (across_at c dx t r) (down_at c dy t r) ≡ None

band_area : (c : Coding) (dx dy : ℕ) (t : Rect) (r : ℕ) (b : SubBandType) → r ≤ c.levels → Open c dx dy t r → has r b ≡ true
    → total area (band_blocks c.xcb c.ycb (across_at c dx t r) (down_at c dy t r) b) ≡ area (sub_band (across_at c dx t r) (down_at c dy t r) b)
band_area c dx dy t r b le ok hb =
    (cut_up c.xcb c.ycb (across_at c dx t r) (down_at c dy t r) b (tile_together c dx dy t r le) ok hb).partition.areas

one_sum : (f g : SubBandType → ℕ) → f LowLow ≡ g LowLow → total f (LowLow ∷ []) ≡ total g (LowLow ∷ [])
one_sum f g e = omega (arith, e)

three_sum : (f g : SubBandType → ℕ) → f HighLow ≡ g HighLow → f LowHigh ≡ g LowHigh → f HighHigh ≡ g HighHigh
    → total f (HighLow ∷ LowHigh ∷ HighHigh ∷ []) ≡ total g (HighLow ∷ LowHigh ∷ HighHigh ∷ [])
three_sum f g a b d = omega (arith, a, b, d)

resolution_area : (c : Coding) (dx dy : ℕ) (t : Rect) (r : ℕ) → r ≤ c.levels → Open c dx dy t r
    → total area (resolution_blocks c.xcb c.ycb (across_at c dx t r) (down_at c dy t r)) ≡ band_areas c.levels (shrink dx dy t) r
resolution_area c dx dy t zero le ok =
    by_band c.xcb c.ycb (across_at c dx t 0) (down_at c dy t 0)
    ∙ one_sum (λ b. total area (band_blocks c.xcb c.ycb (across_at c dx t 0) (down_at c dy t 0) b)) (λ b. area (sub_band (across_at c dx t 0) (down_at c dy t 0) b))
    (band_area c dx dy t 0 LowLow le ok refl)
resolution_area c dx dy t (suc r) le ok =
    by_band c.xcb c.ycb (across_at c dx t (suc r)) (down_at c dy t (suc r))
    ∙ three_sum (λ b. total area (band_blocks c.xcb c.ycb (across_at c dx t (suc r)) (down_at c dy t (suc r)) b))
    (λ b. area (sub_band (across_at c dx t (suc r)) (down_at c dy t (suc r)) b)) (band_area c dx dy t (suc r) HighLow le ok refl)
    (band_area c dx dy t (suc r) LowHigh le ok refl) (band_area c dx dy t (suc r) HighHigh le ok refl)

pub tile_area : (c : Coding) (dx dy : ℕ) (t : Rect) → ((r : ℕ) → r ≤ c.levels → Open c dx dy t r) → total area (tile_blocks c dx dy t) ≡ area (shrink dx dy t)
tile_area c dx dy t ok =
    let f : ℕ → List Rect = λ r. resolution_blocks c.xcb c.ycb (across_at c dx t r) (down_at c dy t r) in
    total_each area f (range_with_len 0 (c.levels + 1))
    ∙ total_same_to (λ r. total area (f r)) (band_areas c.levels (shrink dx dy t)) 0 (c.levels + 1)
    (λ r h. let le : r ≤ c.levels = omega arith in resolution_area c dx dy t r le (ok r le))
    ∙ bands_cover c.levels (shrink dx dy t)

-- the component's tiles by number
tiles_area : (g : TileGrid) (s : Sampling) → total (λ t. area (sampled s (tile_of g t))) (range_with_len 0 (columns g * rows g)) ≡ samples g s
tiles_area g s =
    let n = columns g in
    let m = rows g in
    let f = tile (axis g.x) (axis g.y) in
    ap (λ k. total (λ t. area (sampled s (tile_of g t))) (range_with_len 0 k)) (mul_comm n m)
    ∙ sym (total_map (λ (r : Rect). area (sampled s r)) (tile_of g) (range_with_len 0 (m * n)))
    ∙ ap (total (λ (r : Rect). area (sampled s r))) (sym (row_by_row f n m))
    ∙ sym (total_map area (sampled s) (grid_tiles g))
    ∙ (sampled_partition g s).areas

component_area : (g : TileGrid) (s : Sampling) (c : ℕ → Coding) → Accepted g s c → total area (component_blocks g s c) ≡ samples g s
component_area g s c ok =
    let f : ℕ → List Rect = λ t. tile_blocks (c t) s.x s.y (tile_of g t) in
    total_each area f (range_with_len 0 (columns g * rows g))
    ∙ total_same_to (λ t. total area (f t)) (λ t. area (sampled s (tile_of g t))) 0 (columns g * rows g)
    (λ t h. tile_area (c t) s.x s.y (tile_of g t) (λ r le. ok t r (omega arith) le))
    ∙ tiles_area g s

few_resolution : (xcb ycb : ℕ) (x y : Direction) → Few (resolution_blocks xcb ycb x y)
few_resolution xcb ycb x y =
    few_each (λ p. each (λ b. precinct_blocks xcb ycb x y b p) (bands x.r))
    (λ p. few_each (λ b. precinct_blocks xcb ycb x y b p) (λ b. few_precinct xcb ycb x y b p) (bands x.r)) (precincts x y)

few_component : (g : TileGrid) (s : Sampling) (c : ℕ → Coding) → Few (component_blocks g s c)
few_component g s c =
    few_each (λ t. tile_blocks (c t) s.x s.y (tile_of g t))
    (λ t.
    few_each (λ r. resolution_blocks (c t).xcb (c t).ycb (across_at (c t) s.x (tile_of g t) r) (down_at (c t) s.y (tile_of g t) r))
    (λ r. few_resolution (c t).xcb (c t).ycb (across_at (c t) s.x (tile_of g t) r) (down_at (c t) s.y (tile_of g t) r))
    (range_with_len 0 ((c t).levels + 1)))
    (range_with_len 0 (columns g * rows g))

pub blocks_cover : (g : TileGrid) (s : Sampling) → BlocksCover g s (samples g s)
blocks_cover g s c ok =
    let e = component_area g s c ok in
    record {
      areas = e;
      few = omega (arith, e, few_component g s c);
      sub_bands = λ t r b h le hb.
          cut_up (c t).xcb (c t).ycb (across_at (c t) s.x (tile_of g t) r) (down_at (c t) s.y (tile_of g t) r) b
          (tile_together (c t) s.x s.y (tile_of g t) r le) (ok t r h le) hb;
    }
