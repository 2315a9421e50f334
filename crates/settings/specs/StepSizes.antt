-- The step size of a sub-band (T.800 E.1), and whether a component has enough of them.
use Rattle.std.specs.Prelude.{◌≡◌, ℕ, zero, suc, ◌+◌, ◌-◌, ◌*◌, Bool, true, false, if◌then◌else◌, ◌&&◌, Some, None, Ok, Err, Option, Result, ◌==◌, nat_le, nat_lt}
use Rattle.faults.specs.declared.decode.DecodeError.{DecodeError}
use Rattle.faults.specs.declared.decode.DecodeError.TheVariants.{Book, Validation}
use Rattle.faults.specs.declared.decode.BookError.TheVariants.{NoSuchIndex}
use Rattle.faults.specs.declared.decode.ValidationError.{ValidationError}
use Rattle.faults.specs.declared.decode.ValidationError.TheVariants.{MissingStepSize, InvalidExponents, MissingPrecinctExponents, InsufficientExponents}
use Rattle.bands.specs.SubBands.{level}
use Rattle.bands.specs.declared.sub_band.SubBandType.{SubBandType}
use Rattle.bands.specs.declared.sub_band.SubBandType.TheVariants.{LowLow, HighLow, LowHigh, HighHigh}
use Rattle.quantization.specs.Quantization.{step_at}
use Rattle.quantization.specs.declared.info.QuantizationInfo.{QuantizationInfo}
use Rattle.quantization.specs.declared.info.QuantizationStyle.{QuantizationStyle}
use Rattle.quantization.specs.declared.info.QuantizationStyle.TheVariants.{NoQuantization, ScalarDerived, ScalarExpounded}
use Rattle.quantization.specs.declared.info.StepSize.{StepSize}

-- exponent and mantissa of a sub-band, or why there are none
abbrev pub Step : Type 0
Step = Result (ℕ × ℕ) DecodeError

-- a step size as it is given, 15 where it is missing
abbrev pub given : Option StepSize → Step
given (Some s) = Ok (s.exponent, s.mantissa)
given None = Err (Validation MissingStepSize)

-- derived from the first one: the exponent is ε0 − N + n (E-5), 16 where that is below 0
abbrev pub derived : ℕ → ℕ → Option StepSize → Step
derived N n (Some s) =
    if nat_lt (s.exponent + n) N then Err (Validation InvalidExponents)
    else Ok (s.exponent + n - N, s.mantissa)
derived N n None = Err (Validation MissingStepSize)

-- the same of a step size that is there
abbrev pub DerivedAt : ℕ → ℕ → StepSize → Result (ℕ × ℕ) ValidationError → Type 0
DerivedAt N n s (Ok x) = derived N n (Some s) ≡ Ok x
DerivedAt N n s (Err e) = derived N n (Some s) ≡ Err (Validation e)

-- which step size is a sub-band's: the first at resolution 0, then HL, LH and HH of each resolution; none is LL's above resolution 0
abbrev pub step_row_of : ℕ → SubBandType → Option ℕ
step_row_of zero b = Some 0
step_row_of (suc r) LowLow = None
step_row_of (suc r) HighLow = Some (3 * r + 1)
step_row_of (suc r) LowHigh = Some (3 * r + 2)
step_row_of (suc r) HighHigh = Some (3 * r + 3)

abbrev pub row_in : QuantizationInfo → Option ℕ → Option StepSize
row_in q (Some k) = step_at q k
row_in q None = None

abbrev pub step_of : QuantizationStyle → QuantizationInfo → ℕ → ℕ → SubBandType → Step
step_of NoQuantization q N r b = given (row_in q (step_row_of r b))
step_of ScalarDerived q N r b = derived N (level N r) (step_at q 0)
step_of ScalarExpounded q N r b = given (row_in q (step_row_of r b))

-- sub-band b of resolution r of N levels; there is no resolution above N
abbrev pub exponent_mantissa_of : QuantizationInfo → ℕ → ℕ → SubBandType → Step
exponent_mantissa_of q N r b =
    if nat_lt N r then Err (Book NoSuchIndex)
    else step_of q.style q N r b

abbrev pub has_derived_style : QuantizationStyle → Bool
has_derived_style NoQuantization = false
has_derived_style ScalarDerived = true
has_derived_style ScalarExpounded = false

-- N levels need a step size, and where it is not derived 3 N + 1 of them; the fault carries the place `at`
abbrev pub validated : QuantizationInfo → ℕ → ℕ → Result (Unit {0}) DecodeError
validated q N at =
    if q.count == 0 then Err (Validation (MissingPrecinctExponents at))
    else if has_derived_style q.style then Ok tt
    else if nat_lt 0 N && nat_le q.count (3 * N) then Err (Validation (InsufficientExponents at))
    else Ok tt
