-- The QCD and QCC marker segments (T.800 A.6.4 and A.6.5, Tables A.27 to A.31).
use Rattle.std.specs.Prelude.{◌≡◌, ℕ, zero, suc, ◌+◌, ◌-◌, ◌/◌, ◌%◌, ◌<◌, ◌≤◌, Bool, if◌then◌else◌, ◌&&◌, List, [], ◌∷◌, length, drop, Some, None, Option, Result, MatchResult, ◌==◌, nat_le, nat_lt, slice_index, slice_index_or}
use Rattle.layouts.specs.Indices.{index_width, indexed}
use Rattle.layouts.specs.Layouts.{Layout, Width, Field, one, two, any, at_least, field, fields, behind, times, size}
use Rattle.layouts.specs.declared.header.HeaderKind.{HeaderKind}
use Rattle.layouts.specs.declared.reserved.ReservedNumber.{ReservedNumber}
use Rattle.quantization.specs.declared.info.QuantizationStyle.{QuantizationStyle}
use Rattle.quantization.specs.declared.info.QuantizationStyle.TheVariants.{NoQuantization, ScalarDerived, ScalarExpounded}
use Rattle.quantization.specs.declared.info.StepSize.{StepSize}
use Rattle.quantization.specs.declared.info.QuantizationInfo.{QuantizationInfo}

-- Table A.28, style
abbrev pub style_number : QuantizationStyle → ℕ
style_number NoQuantization = 0
style_number ScalarDerived = 1
style_number ScalarExpounded = 2

-- the style with a number; other numbers are reserved
abbrev pub IsStyle : ℕ → Result QuantizationStyle ReservedNumber → Type 0
IsStyle v r = MatchResult r (λ s. style_number s ≡ v) (λ e. (e.0 ≡ v) × (2 < v))

-- how wide a step size is
abbrev pub step_width : QuantizationStyle → Width
step_width NoQuantization = one
step_width ScalarDerived = two
step_width ScalarExpounded = two

-- how many of them there are in n bytes: a derived one is alone, whatever n is
abbrev pub step_count_of : QuantizationStyle → ℕ → ℕ
step_count_of NoQuantization n = n
step_count_of ScalarDerived n = 1
step_count_of ScalarExpounded n = n / 2

-- what one says: five bits of exponent and three unused ones (Table A.29), or five bits of exponent and eleven of mantissa (Table A.30)
abbrev pub step_of : QuantizationStyle → ℕ → StepSize
step_of NoQuantization v = record { mantissa = 0; exponent = v / 8 }
step_of ScalarDerived v = record { mantissa = v % 2048; exponent = v / 2048 }
step_of ScalarExpounded v = record { mantissa = v % 2048; exponent = v / 2048 }

abbrev pub step_table : QuantizationStyle → List Field
step_table s = field (step_width s) any ∷ []

pub record MadeStep (s : QuantizationStyle) (r : StepSize) (vs : List ℕ) : Type 0 where
  pub alone : length vs ≡ 1
  pub says : r ≡ step_of s (slice_index vs 0)

-- what a place that holds no step size has
abbrev pub none : StepSize
none = record { mantissa = 0; exponent = 0 }

-- the first n step sizes of those that the values give, and none behind their number
abbrev pub kept : ℕ → QuantizationStyle → List ℕ → List StepSize
kept zero s vs = []
kept (suc n) s [] = none ∷ kept n s []
kept (suc n) s (v ∷ vs) = step_of s v ∷ kept n s vs

-- place k of the first n is what value k says, and none behind their number
abbrev pub KeptEach : Type 0
KeptEach =
    (n : ℕ) (s : QuantizationStyle) (vs : List ℕ) (k : ℕ) → k < n
    → (k < length vs → slice_index_or (kept n s vs) k none ≡ step_of s (slice_index vs k)) × (length vs ≤ k → slice_index_or (kept n s vs) k none ≡ none)

-- step size k, if there is one and it is kept
abbrev pub step_at : QuantizationInfo → ℕ → Option StepSize
step_at i k = if nat_lt k 97 && nat_lt k i.count then Some (slice_index_or i.steps k none) else None

-- so many step sizes, one behind another
abbrev pub steps_layout : QuantizationStyle → ℕ → Layout
steps_layout s n = times n (fields (step_table s))

pub record MadeSteps (s : QuantizationStyle) (n : ℕ) (r : List StepSize) (vs : List ℕ) : Type 0 where
  pub many : length vs ≡ n
  pub says : r ≡ kept 97 s vs

-- the style in Sqcd and Sqcc: the low five bits, 0 to 2 (Table A.28)
abbrev pub styled : List ℕ → ℕ → Bool
styled vs v = nat_le (v % 32) 2

abbrev pub quantization_style_of : ℕ → QuantizationStyle
quantization_style_of v = if v % 32 == 0 then NoQuantization else if v % 32 == 1 then ScalarDerived else ScalarExpounded

-- what is made of Sqcd or Sqcc and the step sizes behind it; the high three bits are the number of guard bits
pub record Made (i : QuantizationInfo) (sq : ℕ) (vs : List ℕ) : Type 0 where
  pub style : i.style ≡ quantization_style_of sq
  pub guard : i.guard ≡ sq / 32
  pub steps : i.steps ≡ kept 97 (quantization_style_of sq) vs
  pub count : i.count ≡ length vs

-- Sqcd or Sqcc, and the step sizes that fill n bytes
abbrev pub parameters_layout : ℕ → Layout
parameters_layout n = behind (fields (field one styled ∷ [])) (λ vs. steps_layout (quantization_style_of (slice_index vs 0)) (step_count_of (quantization_style_of (slice_index vs 0)) n))

abbrev pub MadeParameters : QuantizationInfo → List ℕ → Type 0
MadeParameters i vs = Made i (slice_index vs 0) (drop 1 vs)

-- QCD behind its marker (Table A.27): Lqcd; Sqcd, SPqcd
abbrev pub qcd_layout : Layout
qcd_layout = behind (fields (field two (at_least 3) ∷ [])) (λ vs. parameters_layout (slice_index vs 0 - 3))

abbrev pub MadeQcd : QuantizationInfo → List ℕ → Type 0
MadeQcd i vs = Made i (slice_index vs 1) (drop 2 vs)

-- Lqcc, Cqcc
abbrev pub index_table : HeaderKind → ℕ → List Field
index_table header csiz = field two (at_least (size (index_width csiz) + 3)) ∷ field (index_width csiz) (indexed header csiz) ∷ []

-- the component's index, and how many bytes the step sizes have
pub record MadeIndex (csiz : ℕ) (r : ℕ × ℕ) (vs : List ℕ) : Type 0 where
  pub count : length vs ≡ 2
  pub index : r.0 ≡ slice_index vs 1
  pub len : r.1 ≡ slice_index vs 0 - (size (index_width csiz) + 3)

-- QCC behind its marker (Table A.31): Lqcc, Cqcc; Sqcc, SPqcc
abbrev pub qcc_layout : HeaderKind → ℕ → Layout
qcc_layout header csiz = behind (fields (index_table header csiz)) (λ vs. parameters_layout (slice_index vs 0 - (size (index_width csiz) + 3)))

pub record MadeQcc (r : ℕ × QuantizationInfo) (vs : List ℕ) : Type 0 where
  pub index : r.0 ≡ slice_index vs 1
  pub info : Made r.1 (slice_index vs 2) (drop 3 vs)
