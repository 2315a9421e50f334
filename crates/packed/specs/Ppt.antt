-- The PPT marker segment (T.800 A.7.5).
use Rattle.std.specs.Prelude.{◌≡◌, ℕ, ◌-◌, List, [], ◌∷◌, slice_index}
use Rattle.reader.specs.Bytes.{IsPartOf}
use Rattle.reader.specs.declared.reader.BitReader.{BitReader}
use Rattle.layouts.specs.Layouts.{Layout, field, fields, behind, one, two, run, any, at_least}
use Rattle.packed.specs.declared.ppt.PptMarkerData.{PptMarkerData}

-- Lppt, Zppt, and behind them the bytes that the length leaves
abbrev pub ppt_layout : Layout
ppt_layout = behind (fields (field two (at_least 3) ∷ field one any ∷ [])) (λ vs. fields (field (run (slice_index vs 0 - 3)) any ∷ []))

pub record MadePpt (b : BitReader) (t : PptMarkerData) (vs : List ℕ) : Type 0 where
  pub zppt : t.zppt ≡ slice_index vs 1
  pub place : t.place ≡ slice_index vs 2
  pub bytes : IsPartOf (slice_index vs 0 - 3) b.«data» (slice_index vs 2) t.«data»
