-- What the segments of a main header say of a component, by their values (T.800 A.6): the last COC of the component, else the last COD; the
-- last QCC of the component, else the last QCD.
use Rattle.std.specs.Prelude.{if◌then◌else◌, ◌≡◌, ℕ, zero, suc, ◌/◌, List, [], ◌∷◌, length, drop, Some, None, Ok, Err, Option, Result, ◌==◌, slice_index}
use Rattle.std.specs.Option.{option_or}
use Rattle.faults.specs.declared.decode.DecodeError.{DecodeError}
use Rattle.headers.specs.Standing.{Contents, cod, coc, qcd, qcc, ppm, ppt, nothing, Item}
use Rattle.quantization.specs.Quantization.{kept, quantization_style_of}
use Rattle.quantization.specs.declared.info.QuantizationInfo.{QuantizationInfo}
use Rattle.settings.specs.Rows.{blank_quantization}
use Rattle.settings.specs.StepSizes.{validated}

-- the values of the last segment that f takes
abbrev pub last_of : (Item → Option (List ℕ)) → List Item → Option (List ℕ)
last_of f [] = None
last_of f (x ∷ xs) = option_or (last_of f xs) (f x)

abbrev pub of_cod : Contents → List ℕ → Option (List ℕ)
of_cod cod vs = Some vs
of_cod coc vs = None
of_cod qcd vs = None
of_cod qcc vs = None
of_cod ppm vs = None
of_cod ppt vs = None
of_cod nothing vs = None

abbrev pub of_coc : ℕ → Contents → List ℕ → Option (List ℕ)
of_coc k cod vs = None
of_coc k coc vs = if slice_index vs 1 == k then Some vs else None
of_coc k qcd vs = None
of_coc k qcc vs = None
of_coc k ppm vs = None
of_coc k ppt vs = None
of_coc k nothing vs = None

abbrev pub of_qcd : Contents → List ℕ → Option (List ℕ)
of_qcd cod vs = None
of_qcd coc vs = None
of_qcd qcd vs = Some vs
of_qcd qcc vs = None
of_qcd ppm vs = None
of_qcd ppt vs = None
of_qcd nothing vs = None

abbrev pub of_qcc : ℕ → Contents → List ℕ → Option (List ℕ)
of_qcc k cod vs = None
of_qcc k coc vs = None
of_qcc k qcd vs = None
of_qcc k qcc vs = if slice_index vs 1 == k then Some vs else None
of_qcc k ppm vs = None
of_qcc k ppt vs = None
of_qcc k nothing vs = None

-- the values of COD and QCD, and of COC and QCC where their index, value 1, is k
abbrev pub cod_in : Item → Option (List ℕ)
cod_in x = of_cod x.contents x.values

abbrev pub coc_in : ℕ → Item → Option (List ℕ)
coc_in k x = of_coc k x.contents x.values

abbrev pub qcd_in : Item → Option (List ℕ)
qcd_in x = of_qcd x.contents x.values

abbrev pub qcc_in : ℕ → Item → Option (List ℕ)
qcc_in k x = of_qcc k x.contents x.values

-- the decomposition levels by the values of COC, else of COD
abbrev pub levels_of : Option (List ℕ) → Option (List ℕ) → ℕ
levels_of (Some vs) d = slice_index vs 3
levels_of None (Some vs) = slice_index vs 5
levels_of None None = 0

abbrev pub levels_in : ℕ → List Item → ℕ
levels_in k xs = levels_of (last_of (coc_in k) xs) (last_of cod_in xs)

-- the quantization by Sqcd or Sqcc and the step sizes behind it
abbrev pub quantization_of : ℕ → List ℕ → QuantizationInfo
quantization_of sq vs = record { style = quantization_style_of sq; guard = sq / 32; steps = kept 97 (quantization_style_of sq) vs; count = length vs }

-- by the values of QCC, else of QCD
abbrev pub quantization_by : Option (List ℕ) → Option (List ℕ) → QuantizationInfo
quantization_by (Some vs) d = quantization_of (slice_index vs 2) (drop 3 vs)
quantization_by None (Some vs) = quantization_of (slice_index vs 1) (drop 2 vs)
quantization_by None None = blank_quantization

abbrev pub quantization_in : ℕ → List Item → QuantizationInfo
quantization_in k xs = quantization_by (last_of (qcc_in k) xs) (last_of qcd_in xs)

abbrev pub refusal : Result (Unit {0}) DecodeError → Option DecodeError
refusal (Ok u) = None
refusal (Err f) = Some f

-- why component k is refused, if it is: a fault carries the place
abbrev pub refusal_of : ℕ → ℕ → List Item → Option DecodeError
refusal_of k place xs = refusal (validated (quantization_in k xs) (levels_in k xs) place)

-- why the first component that is refused is, among n from k on
abbrev pub refusal_from : ℕ → ℕ → ℕ → List Item → Option DecodeError
refusal_from zero k place xs = None
refusal_from (suc n) k place xs = option_or (refusal_of k place xs) (refusal_from n (suc k) place xs)

-- among all csiz components
abbrev pub component_refusal : ℕ → ℕ → List Item → Option DecodeError
component_refusal csiz place xs = refusal_from csiz 0 place xs

abbrev pub Tested : Option DecodeError → Result (Unit {0}) DecodeError → Type 0
Tested o (Ok u) = o ≡ None
Tested o (Err f) = o ≡ Some f
