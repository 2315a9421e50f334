-- What the sections of COD and COC are read into.
use Rattle.std.specs.Prelude.{◌≡◌, ℕ, ◌+◌, List, length, ◌==◌, slice_index}
use Rattle.coding.specs.Coding.{ppx, ppy}
use Rattle.coding.specs.Styles.{IsStyle, order_number, transform_number}
use Rattle.coding.specs.declared.parameters.CodingStyleParameters.{CodingStyleParameters}
use Rattle.coding.specs.declared.parameters.CodFields.{CodFields}
use Rattle.coding.specs.declared.parameters.PrecinctSize.{PrecinctSize}
use Rattle.coding.specs.declared.styles.CodingStyleFlags.{CodingStyleFlags}

-- the coding parameters before the precinct sizes
pub record MadeBlock (b : CodingStyleParameters) (vs : List ℕ) : Type 0 where
  pub count : length vs ≡ 5
  pub levels : b.levels ≡ slice_index vs 0
  pub width : b.width ≡ slice_index vs 1 + 2
  pub height : b.height ≡ slice_index vs 2 + 2
  pub style : IsStyle (slice_index vs 3) b.style
  pub transformation : transform_number b.transformation ≡ slice_index vs 4

-- one precinct size
pub record MadeSize (s : PrecinctSize) (vs : List ℕ) : Type 0 where
  pub count : length vs ≡ 1
  pub width : s.width ≡ ppx (slice_index vs 0)
  pub height : s.height ≡ ppy (slice_index vs 0)

-- COD before the coding parameters
pub record MadeHead (h : CodFields) (vs : List ℕ) : Type 0 where
  pub count : length vs ≡ 5
  pub flags : h.flags.raw ≡ slice_index vs 1
  pub progression : order_number h.progression ≡ slice_index vs 2
  pub layers : h.layers ≡ slice_index vs 3
  pub mct : h.mct ≡ (slice_index vs 4 == 1)

-- COC before the coding parameters
pub record MadeIndex (h : ℕ × CodingStyleFlags) (vs : List ℕ) : Type 0 where
  pub count : length vs ≡ 3
  pub index : h.0 ≡ slice_index vs 1
  pub flags : h.1.raw ≡ slice_index vs 2
