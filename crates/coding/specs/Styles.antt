-- What the bytes of COD and COC name.
use Rattle.std.specs.Prelude.{◌≡◌, ℕ, ◌/◌, ◌%◌, ◌^◌, ◌<◌, Bool, Result, MatchResult, ◌==◌}
use Rattle.layouts.specs.declared.reserved.ReservedNumber.{ReservedNumber}
use Rattle.coding.specs.declared.styles.ProgressionOrder.{ProgressionOrder}
use Rattle.coding.specs.declared.styles.ProgressionOrder.TheVariants as order
use Rattle.coding.specs.declared.styles.WaveletTransform.{WaveletTransform}
use Rattle.coding.specs.declared.styles.WaveletTransform.TheVariants as transform
use Rattle.coding.specs.declared.styles.CodeBlockStyle.{CodeBlockStyle}

-- Table A.16, progression order
abbrev pub order_number : ProgressionOrder → ℕ
order_number order.LayerResolutionComponentPosition = 0
order_number order.ResolutionLayerComponentPosition = 1
order_number order.ResolutionPositionComponentLayer = 2
order_number order.PositionComponentResolutionLayer = 3
order_number order.ComponentPositionResolutionLayer = 4

-- the order with a number; other numbers are reserved
abbrev pub IsOrder : ℕ → Result ProgressionOrder ReservedNumber → Type 0
IsOrder v r = MatchResult r (λ o. order_number o ≡ v) (λ e. (e.0 ≡ v) × (4 < v))

-- Table A.20, transformation
abbrev pub transform_number : WaveletTransform → ℕ
transform_number transform.Irreversible97 = 0
transform_number transform.Reversible53 = 1

abbrev pub IsTransform : ℕ → Result WaveletTransform ReservedNumber → Type 0
IsTransform v r = MatchResult r (λ t. transform_number t ≡ v) (λ e. (e.0 ≡ v) × (1 < v))

-- bit k of a number, from the lowest
abbrev pub bit : ℕ → ℕ → Bool
bit k v = v / 2 ^ k % 2 == 1

-- Table A.19, code-block style; bit 4, predictable termination, is not read
pub record IsStyle (v : ℕ) (s : CodeBlockStyle) : Type 0 where
  pub bypass : s.bypass ≡ bit 0 v
  pub reset : s.reset ≡ bit 1 v
  pub termination : s.termination ≡ bit 2 v
  pub causal : s.causal ≡ bit 3 v
  pub segmentation : s.segmentation ≡ bit 5 v
