-- The SOT marker segment (T.800 A.4.2, Table A.5).
use Rattle.std.specs.Prelude.{◌≡◌, ℕ, List, [], ◌∷◌, slice_index}
use Rattle.layouts.specs.Layouts.{Field, field, one, two, four, any}
use Rattle.packed.specs.declared.sot.TilePartHeader.{TilePartHeader}

-- Lsot, Isot, Psot, TPsot, TNsot
abbrev pub sot_table : List Field
sot_table = field two any ∷ field two any ∷ field four any ∷ field one any ∷ field one any ∷ []

pub record MadeSot (t : TilePartHeader) (vs : List ℕ) : Type 0 where
  pub isot : t.isot ≡ slice_index vs 1
  pub psot : t.psot ≡ slice_index vs 2
  pub tpsot : t.tpsot ≡ slice_index vs 3
  pub tnsot : t.tnsot ≡ slice_index vs 4
