-- Code-blocks (T.800 B.7).
use Rattle.std.specs.Prelude.{ℕ, ◌+◌, ◌-◌, ◌*◌, ◌/◌, ◌%◌, ◌<◌, ◌≤◌, min, List, filter, nat_lt, if◌then◌else◌}
use Rattle.std.specs.List.{range_with_len}
use Rattle.rect.specs.Numbers.{ceil}
use Rattle.rect.specs.Spans.{Span, Rect, rect, cell, filled, meet, meets}
use Rattle.rect.specs.Sums.{product}
use Rattle.precincts.specs.Precincts.{Direction, halved}

-- xcb' and ycb': the smaller of xcb and PPx − 1, or PPx at resolution 0 (B-17, B-18)
abbrev pub block_exponent_of : ℕ → Direction → ℕ
block_exponent_of cb d = min cb (halved d.r d.exponent)

-- the cells of the grid of steps w and h from (0, 0), cut by a rectangle: row by row, the empty ones left out
abbrev pub blocks : ℕ → ℕ → Rect → List Rect
blocks w h r =
    filter filled
    (product (λ i j. meets (rect (cell 0 w i) (cell 0 h j)) r) (range_with_len 0 (ceil r.x.to w)) (range_with_len 0 (ceil r.y.to h)))

-- the same in closed form: how many in one direction, and number i of them
abbrev pub block_count_of : ℕ → Span → ℕ
block_count_of w s = if nat_lt s.from s.to then ceil s.to w - s.from / w else 0

abbrev pub block_span : ℕ → Span → ℕ → Span
block_span w s i = meet (cell 0 w (s.from / w + i)) s

-- block k
abbrev pub block_at : ℕ → ℕ → Rect → ℕ → Rect
block_at w h r k = rect (block_span w r.x (k % block_count_of w r.x)) (block_span h r.y (k / block_count_of w r.x))

-- a span lies in one cell of the grid of step w from 0
pub record Celled (w : ℕ) (s : Span) : Type 0 where
  pub number : ℕ
  pub begins : number * w ≤ s.from
  pub ends : s.to ≤ (number + 1) * w

-- a block is not empty and lies in one cell of the grid of steps w and h
pub record Proper (w h : ℕ) (b : Rect) : Type 0 where
  pub wide : b.x.from < b.x.to
  pub high : b.y.from < b.y.to
  pub column : Celled w b.x
  pub row : Celled h b.y
