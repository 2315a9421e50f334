-- The tiles cut the image area up, and a component's tiles its samples.
use Rattle.std.proofs.Common.{◌≡◌, ℕ, ◌-◌, ◌*◌, ◌/◌, ◌%◌, ◌<◌, true, length, get_or, sym, refl, ap, ◌∙◌, ap₂, arith}
use Rattle.std.specs.List.{range_with_len}
use Rattle.std.proofs.lemmas.Nat.{mod_below}
use Rattle.std.proofs.lemmas.Bool.{lt-ltb}
use Rattle.rect.specs.declared.IntRect.{IntRect}
use Rattle.rect.specs.Rects.{region, nowhere}
use Rattle.rect.specs.Spans.{rect, shrink, filled}
use Rattle.rect.specs.Sums.{total, Partition}
use Rattle.rect.proofs.Ceil.{le_ceil, lt_ceil, ceil_pos}
use Rattle.rect.proofs.Places.{get_or_product, length_product, map_product, row_below}
use Rattle.rect.proofs.Weights.{Mono, weight, weigh, Adds, total_product, cut_total, partition, shrink_adds}
use Rattle.geometry.specs.declared.axis.TileAxis.{TileAxis}
use Rattle.geometry.specs.declared.grid.TileGrid.{TileGrid}
use Rattle.geometry.specs.declared.sampling.Sampling.{Sampling}
use Rattle.geometry.specs.TileGrid.{Axis, Accepted, image, tile, tiles, tile_span, tile_count, component_tiles}
use Rattle.geometry.specs.Tiles.{axis, columns, rows, image_of, grid_tiles, tile_of, TileIs}
use Rattle.geometry.specs.Components.{sampled, component_tiles_of, ComponentTilesListed}

pub tile_total : (F : ℕ → ℕ) → Mono F → (a : Axis) → Accepted a → total (λ p. weight F (tile_span a p)) (range_with_len 0 (tile_count a)) ≡ weight F (image a)
tile_total F up a ok =
    cut_total F up a.origin a.side 0 (tile_count a) (image a) (λ _. omega arith)
    (λ _. omega (arith, le_ceil (a.size - a.origin) a.side ok.sided))

pub tiles_add : (h v : Axis) → Accepted h → Accepted v → Adds (rect (image h) (image v)) (tiles h v)
tiles_add h v okh okv F G up_f upG =
    total_product (weigh F G) (tile h v) (λ p. weight F (tile_span h p)) (λ q. weight G (tile_span v q)) (λ p q. refl)
    (range_with_len 0 (tile_count h)) (range_with_len 0 (tile_count v))
    ∙ ap₂ ◌*◌ (tile_total F up_f h okh) (tile_total G upG v okv)

pub tiles_partition : (h v : Axis) → Accepted h → Accepted v → Partition (rect (image h) (image v)) (tiles h v)
tiles_partition h v okh okv = partition (rect (image h) (image v)) (tiles h v) (tiles_add h v okh okv)

pub component_partition : (h v : Axis) (dx dy : ℕ) → Accepted h → Accepted v → 0 < dx → 0 < dy
    → Partition (shrink dx dy (rect (image h) (image v))) (component_tiles h v dx dy)
component_partition h v dx dy okh okv posx posy =
    partition (shrink dx dy (rect (image h) (image v))) (component_tiles h v dx dy)
    (shrink_adds dx dy posx posy (rect (image h) (image v)) (tiles h v) (tiles_add h v okh okv))

-- no column is empty
pub tile_wide : (a : Axis) → Accepted a → (p : ℕ) → p < tile_count a → (tile_span a p).from < (tile_span a p).to
tile_wide a ok p h = omega (arith, lt_ceil (a.size - a.origin) a.side p ok.sided h)

pub tile_filled : (h v : Axis) → Accepted h → Accepted v → (p q : ℕ) → p < tile_count h → q < tile_count v → filled (tile h v p q) ≡ true
tile_filled h v okh okv p q hp hq =
    let x : (tile_span h p).from < (tile_span h p).to = tile_wide h okh p hp in
    let y : (tile_span v q).from < (tile_span v q).to = tile_wide v okv q hq in
    rw (lt-ltb (tile_span h p).from (tile_span h p).to x) (lt-ltb (tile_span v q).from (tile_span v q).to y)

-- the directions of a grid
pub accepted : (a : TileAxis) → Accepted (axis a)
accepted a = record { filled = a.filled; sided = a.sided; before = a.before; reached = a.reached }

pub tile_count_pos : (a : TileAxis) → 0 < tile_count (axis a)
tile_count_pos a = ceil_pos (a.size - a.origin) a.side a.sided (omega (arith, a.filled, a.before))

-- column of tile t
pub column_below : (g : TileGrid) (t : ℕ) → t % columns g < columns g
column_below g t = mod_below t (columns g) (tile_count_pos g.x)

-- the tiles by number
pub tiles_number : (g : TileGrid) → length (grid_tiles g) ≡ columns g * rows g
tiles_number g = length_product (tile (axis g.x) (axis g.y)) (columns g) (rows g)

pub tile_listed : (g : TileGrid) (t : ℕ) → t < columns g * rows g → tile_of g t ≡ get_or (grid_tiles g) t nowhere
tile_listed g t h = sym (get_or_product (tile (axis g.x) (axis g.y)) (columns g) (rows g) t nowhere h)

pub tile_of_filled : (g : TileGrid) (t : ℕ) → t < columns g * rows g → filled (tile_of g t) ≡ true
tile_of_filled g t h =
    tile_filled (axis g.x) (axis g.y) (accepted g.x) (accepted g.y) (t % columns g) (t / columns g) (column_below g t)
    (row_below (columns g) (rows g) t h)

pub tile_is : (g : TileGrid) (t : ℕ) (r : IntRect) → t < columns g * rows g → region r ≡ tile_of g t → TileIs g t r
tile_is g t r h e = record {
  there = omega (arith, tiles_number g);
  listed = e ∙ tile_listed g t h;
  edges = e;
  filled = ap filled e ∙ tile_of_filled g t h;
}

pub component_tiles_listed : (g : TileGrid) (s : Sampling) → ComponentTilesListed g s
component_tiles_listed g s t h =
    let f = tile (axis g.x) (axis g.y) in
    ap (λ l. get_or l t nowhere) (map_product (sampled s) f (range_with_len 0 (columns g)) (range_with_len 0 (rows g)))
    ∙ get_or_product (λ p q. sampled s (f p q)) (columns g) (rows g) t nowhere (omega (arith, tiles_number g))

pub image_partition : (g : TileGrid) → Partition (image_of g) (grid_tiles g)
image_partition g = tiles_partition (axis g.x) (axis g.y) (accepted g.x) (accepted g.y)

pub sampled_partition : (g : TileGrid) (s : Sampling) → Partition (sampled s (image_of g)) (component_tiles_of g s)
sampled_partition g s =
    component_partition (axis g.x) (axis g.y) s.x s.y (accepted g.x) (accepted g.y) s.across s.down
