-- The components tested in turn.
use Rattle.std.proofs.Common.{◌≡◌, ℕ, zero, suc, ◌+◌, ◌-◌, ◌<◌, ◌≤◌, List, Some, None, Ok, Err, Result, sym, refl, ap, ◌∙◌, ap₂, add-one, arith}
use Rattle.std.specs.Option.{option_or}
use Rattle.faults.specs.declared.decode.DecodeError.{DecodeError}
use Rattle.headers.specs.Standing.{Item, Ending, main_standing}
use Rattle.headers.specs.Grammar.{MainHeaded}
use Rattle.headers.proofs.Once.{one_header, some_main}
use Rattle.quantization.specs.declared.info.QuantizationInfo.{QuantizationInfo}
use Rattle.settings.specs.StepSizes.{validated}
use Rattle.settings.specs.declared.rows.ComponentSettings.{ComponentSettings}
use Rattle.main_settings.specs.Components.{refusal, refusal_of, refusal_from, component_refusal}
use Rattle.main_settings.specs.Settled.{ComponentSettled, ComponentsTested}

-- no component below i is refused, by whatever segments the header has
abbrev pub Passed : List ℕ → ℕ → ℕ → ℕ → ℕ → Type 0
Passed d csiz p place i =
    (xs : List Item) (e : Ending) → MainHeaded d csiz p xs e → component_refusal csiz place xs ≡ refusal_from (csiz - i) i place xs

-- the test of a component is that of the header's values
tested_by :
    (d : List ℕ) (csiz p place k : ℕ) (t : ComponentSettings) (r : Result (Unit {0}) DecodeError) (xs : List Item) (e : Ending)
    → ComponentSettled d csiz p k t → r ≡ validated t.quantization t.parameters.levels place → MainHeaded d csiz p xs e
    → refusal r ≡ refusal_of k place xs
tested_by d csiz p place k t r xs e s is stands =
    let same : s.xs ≡ xs = (one_header (main_standing d csiz) p s.xs xs s.e e s.headed stands).0 in
    ap refusal (is ∙ ap₂ (λ (i : QuantizationInfo) (n : ℕ). validated i n place) s.quantization s.levels) ∙ ap (refusal_of k place) same

step : (n i place : ℕ) (xs : List Item) → 0 < n → refusal_from n i place xs ≡ option_or (refusal_of i place xs) (refusal_from (n - 1) (i + 1) place xs)
step zero i place xs l = absurd (omega arith)
step (suc n) i place xs l =
    let m : suc n - 1 ≡ n = omega arith in
    rw (m, add-one i) refl

-- one component more
pub passed_more :
    (d : List ℕ) (csiz p place i : ℕ) (t : ComponentSettings) (u : Unit {0}) → Passed d csiz p place i → i < csiz → ComponentSettled d csiz p i t
    → Ok u ≡ validated t.quantization t.parameters.levels place → Passed d csiz p place (i + 1)
passed_more d csiz p place i t u before l s is xs e h =
    let none : refusal_of i place xs ≡ None = sym (tested_by d csiz p place i t (Ok u) xs e s is h) in
    let m : csiz - i - 1 ≡ csiz - (i + 1) = omega arith in
    before xs e h ∙ step (csiz - i) i place xs (omega arith) ∙ rw (none, m) refl

pub refused :
    (d : List ℕ) (csiz p place i : ℕ) (t : ComponentSettings) (f : DecodeError) → Passed d csiz p place i → i < csiz
    → ComponentSettled d csiz p i t → Err f ≡ validated t.quantization t.parameters.levels place → ComponentsTested d csiz p place (Err f)
refused d csiz p place i t f before l s is =
    let some : refusal_of i place s.xs ≡ Some f = sym (tested_by d csiz p place i t (Err f) s.xs s.e s is s.headed) in
    record {
      xs = s.xs;
      e = s.e;
      headed = s.headed;
      tested = before s.xs s.e s.headed ∙ step (csiz - i) i place s.xs (omega arith) ∙ rw some refl;
    }

pub all_passed :
    (d : List ℕ) (csiz p place i : ℕ) (u : Unit {0}) → Passed d csiz p place i → csiz ≤ i → ComponentsTested d csiz p place (Ok u)
all_passed d csiz p place i u before l =
    let some = some_main d csiz p in
    let z : csiz - i ≡ 0 = omega arith in
    record { xs = some.0; e = some.1; headed = some.2; tested = before some.0 some.1 some.2 ∙ rw z refl }
