-- The COD and COC marker segments behind their markers (T.800 A.6.1 and A.6.2).
use Rattle.std.specs.Prelude.{◌≡◌, ℕ, ◌+◌, ◌/◌, ◌%◌, ◌<◌, Bool, if◌then◌else◌, ◌&&◌, List, [], ◌∷◌, map, drop, ◌==◌, nat_le, slice_index, slice_index_or}
use Rattle.layouts.specs.Indices.{index_width, indexed}
use Rattle.layouts.specs.Layouts.{Field, Layout, field, fields, behind, times, one, two, any}
use Rattle.coding.specs.Styles.{IsStyle, bit, order_number, transform_number}
use Rattle.layouts.specs.declared.header.HeaderKind.{HeaderKind}
use Rattle.coding.specs.declared.parameters.PrecinctSize.{PrecinctSize}
use Rattle.coding.specs.declared.parameters.CodingStyleParameters.{CodingStyleParameters}
use Rattle.coding.specs.declared.parameters.CodingStyleComponent.{CodingStyleComponent}
use Rattle.coding.specs.declared.parameters.CodingStyleDefault.{CodingStyleDefault}

abbrev pub up_to : ℕ → List ℕ → ℕ → Bool
up_to m vs v = nat_le v m

abbrev pub one_to : ℕ → List ℕ → ℕ → Bool
one_to m vs v = nat_le 1 v && nat_le v m

-- up to m, and up to m together with the field k of the table
abbrev pub up_to_with : ℕ → ℕ → List ℕ → ℕ → Bool
up_to_with k m vs v = nat_le v m && nat_le (slice_index vs k + v) m

-- Table A.15 up to the precinct sizes: the number of decomposition levels; the code-block's width and height, each byte 2 less than the
-- exponent, which are at most 10 and together at most 12 (Table A.18); its style (Table A.19); the transformation (Table A.20)
abbrev pub block_table : List Field
block_table = field one (up_to 32) ∷ field one (up_to 8) ∷ field one (up_to_with 1 8) ∷ field one any ∷ field one (up_to 1) ∷ []

-- Table A.21: a precinct size is one byte, PPx its low four bits and PPy its high four
abbrev pub precinct_table : List Field
precinct_table = field one any ∷ []

abbrev pub ppx : ℕ → ℕ
ppx v = v % 16

abbrev pub ppy : ℕ → ℕ
ppy v = v / 16

abbrev pub precincts_layout : ℕ → Layout
precincts_layout n = times n (fields precinct_table)

-- with bit 0 of Scod or Scoc a precinct size for each resolution from 0 to the levels, else none (Tables A.13 and A.23)
abbrev pub precinct_size_count : ℕ → ℕ → ℕ
precinct_size_count scod levels = if bit 0 scod then levels + 1 else 0

-- Table A.15, the coding parameters, behind Scod or Scoc
abbrev pub parameters_layout : ℕ → Layout
parameters_layout scod = behind (fields block_table) (λ vs. precincts_layout (precinct_size_count scod (slice_index vs 0)))

-- PPx and PPy of each resolution
abbrev pub widths_of : List PrecinctSize → List ℕ
widths_of ps = map (λ s. s.width) ps

abbrev pub heights_of : List PrecinctSize → List ℕ
heights_of ps = map (λ s. s.height) ps

-- the exponents of each resolution by the precinct sizes vs; a resolution without one, above the levels too, has 15
pub record MadePrecincts (ps : List PrecinctSize) (vs : List ℕ) : Type 0 where
  pub widths : (r : ℕ) → r < 33 → slice_index (widths_of ps) r ≡ slice_index_or (map ppx vs) r 15
  pub heights : (r : ℕ) → r < 33 → slice_index (heights_of ps) r ≡ slice_index_or (map ppy vs) r 15

-- the coding parameters that values say
pub record MadeParameters (p : CodingStyleParameters) (vs : List ℕ) : Type 0 where
  pub levels : p.levels ≡ slice_index vs 0
  pub width : p.width ≡ slice_index vs 1 + 2
  pub height : p.height ≡ slice_index vs 2 + 2
  pub style : IsStyle (slice_index vs 3) p.style
  pub transformation : transform_number p.transformation ≡ slice_index vs 4
  pub precincts : MadePrecincts p.precincts (drop 5 vs)

-- the most layers that are taken; Table A.14 has 65,535
abbrev pub max_layers : ℕ
max_layers = 32

-- Tables A.12 and A.14: Lcod, which is not tested; Scod; the progression order (Table A.16); the number of layers; the multiple component
-- transformation
abbrev pub cod_table : List Field
cod_table = field two any ∷ field one any ∷ field one (up_to 4) ∷ field two (one_to max_layers) ∷ field one any ∷ []

-- COD
abbrev pub cod_layout : Layout
cod_layout = behind (fields cod_table) (λ vs. parameters_layout (slice_index vs 1))

-- what the values of COD say; the component transformation is on for 1 (Table A.17)
pub record MadeCod (c : CodingStyleDefault) (vs : List ℕ) : Type 0 where
  pub flags : c.component.flags.raw ≡ slice_index vs 1
  pub progression : order_number c.progression ≡ slice_index vs 2
  pub layers : c.layers ≡ slice_index vs 3
  pub mct : c.mct ≡ (slice_index vs 4 == 1)
  pub parameters : MadeParameters c.component.parameters (drop 5 vs)

-- Table A.22: Lcoc, which is not tested; Ccoc, the component's index; Scoc
abbrev pub coc_table : (List ℕ → ℕ → Bool) → ℕ → List Field
coc_table admits csiz = field two any ∷ field (index_width csiz) admits ∷ field one any ∷ []

abbrev pub coc_of : (List ℕ → ℕ → Bool) → ℕ → Layout
coc_of admits csiz = behind (fields (coc_table admits csiz)) (λ vs. parameters_layout (slice_index vs 2))

-- COC: in a main header the index is below Csiz, and in a tile-part header it is any
abbrev pub coc_layout : HeaderKind → ℕ → Layout
coc_layout header csiz = coc_of (indexed header csiz) csiz

-- what the values of COC say: the component's index, and its coding style
pub record MadeCoc (c : ℕ × CodingStyleComponent) (vs : List ℕ) : Type 0 where
  pub index : c.0 ≡ slice_index vs 1
  pub flags : c.1.flags.raw ≡ slice_index vs 2
  pub parameters : MadeParameters c.1.parameters (drop 3 vs)
