-- What a rectangle of 32-bit numbers covers, and what the calls on it answer.
use Rattle.std.specs.Prelude.{◌≡◌, ℕ, ◌+◌, ◌^◌, ◌<◌, ◌≤◌, Bool, ◌&&◌, ◌⊎◌, Some, None, Option, List, ◌++◌, nat_le, if◌then◌else◌, codes, decimal}
use Rattle.rect.specs.declared.IntRect.{IntRect}
use Rattle.rect.specs.Spans.{Span, Rect, span, rect, meets}

-- [x0, x1) × [y0, y1)
abbrev pub region : IntRect → Rect
region r = rect (span r.x0 r.x1) (span r.y0 r.y1)

-- the rectangle of width w and height h from (x, y), or none where an end passes 2^32 − 1
abbrev pub XywhAnswer : ℕ → ℕ → ℕ → ℕ → Option IntRect → Type 0
XywhAnswer x y w h None = (2 ^ 32 ≤ x + w) ⊎ (2 ^ 32 ≤ y + h)
XywhAnswer x y w h (Some r) = (x + w < 2 ^ 32) × (y + h < 2 ^ 32) × (region r ≡ rect (span x (x + w)) (span y (y + h)))

-- two spans overlap, or one begins where the other ends
abbrev pub touch : Span → Span → Bool
touch a b = nat_le b.from a.to && nat_le a.from b.to

abbrev pub nowhere : Rect
nowhere = rect (span 0 0) (span 0 0)

-- what two rectangles share; [0, 0) × [0, 0) where they neither overlap nor touch
abbrev pub shared : Rect → Rect → Rect
shared a b = if touch a.x b.x && touch a.y b.y then meets a b else nowhere

-- the edges in decimal, with commas between them
abbrev pub rect_text : IntRect → List ℕ
rect_text r =
    decimal r.x0 ++ codes "," ++ decimal r.y0 ++ codes "," ++ decimal r.x1 ++ codes "," ++ decimal r.y1
