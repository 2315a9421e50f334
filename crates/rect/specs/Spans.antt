-- Spans of whole numbers, rectangles, and cells of a grid. A span holds `from` and not `to`; it is empty where to ≤ from.
use Rattle.std.specs.Prelude.{ℕ, ◌+◌, ◌-◌, ◌*◌, min, max, Bool, ◌&&◌, nat_le, nat_lt}
use Rattle.rect.specs.Numbers.{ceil}

pub record Span : Type 0 where
  pub from : ℕ
  pub to : ℕ

pub record Rect : Type 0 where
  pub x : Span
  pub y : Span

abbrev pub span : ℕ → ℕ → Span
span a b = record { from = a; to = b }

abbrev pub rect : Span → Span → Rect
rect a b = record { x = a; y = b }

abbrev pub width : Span → ℕ
width s = s.to - s.from

abbrev pub area : Rect → ℕ
area r = width r.x * width r.y

-- p lies in the span
abbrev pub within : ℕ → Span → Bool
within p s = nat_le s.from p && nat_lt p s.to

-- the point (px, py) lies in the rectangle
abbrev pub holds : ℕ → ℕ → Rect → Bool
holds px py r = within px r.x && within py r.y

-- the rectangle holds some point
abbrev pub filled : Rect → Bool
filled r = nat_lt r.x.from r.x.to && nat_lt r.y.from r.y.to

-- what two spans, two rectangles share
abbrev pub meet : Span → Span → Span
meet a b = span (max a.from b.from) (min a.to b.to)

abbrev pub meets : Rect → Rect → Rect
meets a b = rect (meet a.x b.x) (meet a.y b.y)

-- every edge divided by d, rounded up
abbrev pub shrunk : ℕ → Span → Span
shrunk d s = span (ceil s.from d) (ceil s.to d)

abbrev pub shrink : ℕ → ℕ → Rect → Rect
shrink dx dy r = rect (shrunk dx r.x) (shrunk dy r.y)

-- cell k of the grid of step s that begins at o
abbrev pub cell : ℕ → ℕ → ℕ → Span
cell o s k = span (o + k * s) (o + (k + 1) * s)

-- how many cells of step s, from o on, reach e
abbrev pub reaching : ℕ → ℕ → ℕ → ℕ
reaching o s e = ceil (e - o) s
