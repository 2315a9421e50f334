-- The segments as sections behind one another.
use Rattle.std.proofs.Common.{◌≡◌, ℕ, ◌+◌, ◌-◌, ◌/◌, ◌%◌, ◌≤◌, List, [], ◌∷◌, length, get_or, sym, refl, ap, ◌∙◌, Ok, Err, Result, arith}
use Rattle.std.proofs.lemmas.Bool.{le-leb}
use Rattle.reader.specs.Bytes.{byte_at, word_at}
use Rattle.layouts.specs.Layouts.{read, meaning, field, fields, one, two, size, values_of, at_least, Answers}
use Rattle.faults.specs.declared.segment.SegmentFault.{SegmentFault}
use Rattle.reader.specs.declared.reader.BitReader.{BitReader}
use Rattle.layouts.proofs.Exits.{read_exit}
use Rattle.layouts.proofs.Tables.{first_read}
use Rattle.layouts.proofs.Times.{joined}
use Rattle.quantization.specs.declared.info.QuantizationInfo.{QuantizationInfo}
use Rattle.quantization.specs.declared.info.QuantizationStyle.{QuantizationStyle}
use Rattle.quantization.specs.declared.info.QuantizationStyle.TheVariants.{NoQuantization, ScalarDerived, ScalarExpounded}
use Rattle.quantization.specs.declared.info.StepSize.{StepSize}
use Rattle.layouts.specs.Indices.{index_width}
use Rattle.layouts.specs.declared.header.HeaderKind.{HeaderKind}
use Rattle.quantization.specs.Quantization.{style_number, styled, quantization_style_of, step_count_of, steps_layout, parameters_layout, kept, qcd_layout, MadeIndex, index_table, qcc_layout, MadeSteps, MadeParameters, MadeQcd, MadeQcc}

parameters_read :
    (n : ℕ) (d : List ℕ) (p sq m : ℕ) (us : List ℕ) (q : ℕ) → p + 1 ≤ length d → sq ≡ byte_at d p → m ≡ p + 1 → sq % 32 ≤ 2
    → meaning (steps_layout (quantization_style_of sq) (step_count_of (quantization_style_of sq) n)) d m ≡ read us q → meaning (parameters_layout n) d p ≡ read (sq ∷ us) q
parameters_read n d p sq m us q there is at low rest =
    joined (fields (field one styled ∷ [])) (λ vs. steps_layout (quantization_style_of (get_or vs 0 0)) (step_count_of (quantization_style_of (get_or vs 0 0)) n)) d p (sq ∷ []) m us q
    (first_read (field one styled) [] d p sq [] there is (le-leb _ _ low) ∙ ap (λ (x : ℕ). read (sq ∷ []) x) (sym at))
    rest

style_numbered : (s : QuantizationStyle) (v : ℕ) → style_number s ≡ v % 32 → (v % 32 ≤ 2) × (s ≡ quantization_style_of v)
style_numbered NoQuantization v e = (omega arith, rw (← e) refl)
style_numbered ScalarDerived v e = (omega arith, rw (← e) refl)
style_numbered ScalarExpounded v e = (omega arith, rw (← e) refl)

pub parameters_exit :
    (n : ℕ) (d d1 : List ℕ) (p sq m q count : ℕ) (s : QuantizationStyle) (steps : List StepSize) → p + 1 ≤ length d → sq ≡ byte_at d p
    → m ≡ p + 1 → d1 ≡ d → style_number s ≡ sq % 32 → count ≡ step_count_of s n
    → meaning (steps_layout s count) d1 m ≡ read (values_of (meaning (steps_layout s count) d1 m)) q
    → MadeSteps s count steps (values_of (meaning (steps_layout s count) d1 m))
    → (meaning (parameters_layout n) d p ≡ read (values_of (meaning (parameters_layout n) d p)) q)
    × MadeParameters (record { style = s; guard = sq / 32; steps = steps; count = count }) (values_of (meaning (parameters_layout n) d p))
parameters_exit n d d1 p sq m q count s steps there is at same numbered many rest made =
    let low = (style_numbered s sq numbered).0 in
    let style = (style_numbered s sq numbered).1 in
    let us = values_of (meaning (steps_layout s count) d1 m) in
    let e : meaning (steps_layout (quantization_style_of sq) (step_count_of (quantization_style_of sq) n)) d m ≡ meaning (steps_layout s count) d1 m = rw (same, many, style) refl in
    read_exit (meaning (parameters_layout n) d p) MadeParameters (record { style = s; guard = sq / 32; steps = steps; count = count }) (sq ∷ us) q
    (parameters_read n d p sq m us q there is at low (e ∙ rest))
    (record {
      style = style;
      guard = refl;
      steps = made.says ∙ ap (λ (x : QuantizationStyle). kept 97 x us) style;
      count = sym made.many;
    })

pub qcd_exit :
    {m : ℕ} (d d1 : List ℕ) (p len q : ℕ) (a : BitReader) (r : Result QuantizationInfo (SegmentFault m)) → p + 2 ≤ length d → len ≡ word_at d p
    → q ≡ p + 2 → 3 ≤ len → d1 ≡ d → Answers (meaning (parameters_layout (len - 3)) d1 q) MadeParameters a r
    → Answers (meaning qcd_layout d p) MadeQcd a r
qcd_exit {m = m} d d1 p len q a r there is at least same rest =
    let first : meaning (fields (field two (at_least 3) ∷ [])) d p ≡ read (len ∷ []) q =
    first_read (field two (at_least 3)) [] d p len [] there is (le-leb _ _ least) ∙ ap (λ (x : ℕ). read (len ∷ []) x) (sym at) in
    go r (rw same at rest) first
  where
    go :
        (s : Result QuantizationInfo (SegmentFault m)) → Answers (meaning (parameters_layout (len - 3)) d q) MadeParameters a s
        → meaning (fields (field two (at_least 3) ∷ [])) d p ≡ read (len ∷ []) q → Answers (meaning qcd_layout d p) MadeQcd a s
    go (Ok i) h e =
        read_exit (meaning qcd_layout d p) MadeQcd i (len ∷ values_of (meaning (parameters_layout (len - 3)) d q)) a.place
        (joined (fields (field two (at_least 3) ∷ [])) (λ vs. parameters_layout (get_or vs 0 0 - 3)) d p (len ∷ []) q
        (values_of (meaning (parameters_layout (len - 3)) d q)) a.place e h.0)
        h.1
    go (Err x) h e = rw (e, h) refl

pub qcc_exit :
    (header : HeaderKind) (csiz : ℕ) (d d1 : List ℕ) (p q q' : ℕ) (h : ℕ × ℕ) (i : QuantizationInfo) (hs ss : List ℕ) → d1 ≡ d
    → meaning (fields (index_table header csiz)) d p ≡ read hs q → MadeIndex csiz h hs → meaning (parameters_layout h.1) d1 q ≡ read ss q'
    → MadeParameters i ss
    → (meaning (qcc_layout header csiz) d p ≡ read (values_of (meaning (qcc_layout header csiz) d p)) q')
    × MadeQcc (h.0, i) (values_of (meaning (qcc_layout header csiz) d p))
qcc_exit header csiz d d1 p q q' h i (len ∷ index ∷ []) ss same first made second parameters =
    let rest : meaning (parameters_layout (len - (size (index_width csiz) + 3))) d q ≡ read ss q' = rw (same, made.len) at second in
    read_exit (meaning (qcc_layout header csiz) d p) MadeQcc (h.0, i) (len ∷ index ∷ ss) q'
    (joined (fields (index_table header csiz)) (λ vs. parameters_layout (get_or vs 0 0 - (size (index_width csiz) + 3))) d p (len ∷ index ∷ []) q ss q'
    first rest)
    (record { index = made.index; info = parameters })
qcc_exit header csiz d d1 p q q' h i [] ss same first made second parameters = absurd (omega (arith, made.count))
qcc_exit header csiz d d1 p q q' h i (len ∷ []) ss same first made second parameters = absurd (omega (arith, made.count))
qcc_exit header csiz d d1 p q q' h i (len ∷ index ∷ v ∷ vs) ss same first made second parameters = absurd (omega (arith, made.count))
