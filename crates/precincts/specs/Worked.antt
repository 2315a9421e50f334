-- A worked example: the tile [3, 9) × [2, 7) with steps 1, one level, resolution 1 and exponents 3.
use Rattle.std.specs.Prelude.{◌≡◌, [], ◌∷◌, None}
use Rattle.rect.specs.Spans.{span, rect}
use Rattle.precincts.specs.Precincts.{Direction, bounds, precincts, refusal}

abbrev pub across : Direction
across = record { over = span 3 9; step = 1; levels = 1; r = 1; exponent = 3 }

abbrev pub down : Direction
down = record { over = span 2 7; step = 1; levels = 1; r = 1; exponent = 3 }

pub record PrecinctsWorked : Type 0 where
  pub accepted : refusal across down ≡ None
  pub all : precincts across down
      ≡ record { r_x = 3; r_y = 2; rect = bounds (rect (span 0 4) (span 0 4)); idx = 0 }
      ∷ record { r_x = 8; r_y = 2; rect = bounds (rect (span 4 8) (span 0 4)); idx = 1 }
      ∷ []
