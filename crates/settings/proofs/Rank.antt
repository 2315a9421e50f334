-- Segments applied one after another leave what the last of each kind says.
use Rattle.std.proofs.Common.{◌≡◌, ℕ, ◌/◌, ◌%◌, Bool, true, false, cond, ◌||◌, eqb, List, [], ◌∷◌, is_some, Some, None, Option, sym, refl, ap, ◌∙◌, arith}
use Rattle.std.specs.Option.{option_or}
use Rattle.coding.specs.declared.parameters.CodingStyleComponent.{CodingStyleComponent}
use Rattle.coding.specs.declared.parameters.CodingStyleDefault.{CodingStyleDefault}
use Rattle.coding.specs.declared.styles.CodingStyleFlags.{CodingStyleFlags}
use Rattle.quantization.specs.declared.info.QuantizationInfo.{QuantizationInfo}
use Rattle.settings.specs.declared.rows.ComponentSettings.{ComponentSettings}
use Rattle.settings.specs.declared.inherit.Setting.{Setting}
use Rattle.settings.specs.declared.inherit.Setting.TheVariants.{Cod, Coc, Qcd, Qcc}
use Rattle.settings.specs.Inheritance.{joined, after, settings_after_coc, settings_after_qcc, applied, last_coc, last_cod, last_qcc, last_qcd, styled, other_flags_of, quantized, Sets, Settled}

none_else : {A : Type 0} (a : Option A) → option_or a None ≡ a
none_else (Some a) = refl
none_else None = refl

or_none : (b : Bool) → (b || false) ≡ b
or_none true = refl
or_none false = refl

-- the two parts of joined flags
low_joined : (a b : ℕ) → joined a b % 2 ≡ a % 2
low_joined a b = omega arith

high_joined : (a b : ℕ) → joined a b / 2 ≡ b / 2
high_joined a b = omega arith

-- a COD before the rest
styled_cod :
    {A : Type 0} (f : CodingStyleComponent → A) (c : Option CodingStyleComponent) (own : Bool) (d : Option CodingStyleDefault) (x : CodingStyleDefault) (a b : A)
    → b ≡ cond own a (f x.component) → styled f c own d b ≡ styled f (option_or c None) own (option_or d (Some x)) a
styled_cod f (Some c) own d x a b e = refl
styled_cod f None true d x a b e = e
styled_cod f None false (Some y) x a b e = refl
styled_cod f None false None x a b e = e

-- an own COC before the rest
styled_coc :
    {A : Type 0} (f : CodingStyleComponent → A) (c : Option CodingStyleComponent) (own : Bool) (d : Option CodingStyleDefault) (x : CodingStyleComponent) (a b : A)
    → b ≡ f x → styled f c true d b ≡ styled f (option_or c (Some x)) own (option_or d None) a
styled_coc f (Some c) own d x a b e = refl
styled_coc f None own d x a b e = e

-- a segment that sets no coding style
styled_none :
    {A : Type 0} (f : CodingStyleComponent → A) (c : Option CodingStyleComponent) (own : Bool) (d : Option CodingStyleDefault) (a : A)
    → styled f c own d a ≡ styled f (option_or c None) own (option_or d None) a
styled_none f c own d a = rw (none_else c, none_else d) refl

others_cod : (d : Option CodingStyleDefault) (x : CodingStyleDefault) (m n : ℕ) → m ≡ x.component.flags.raw / 2 → other_flags_of d m ≡ other_flags_of (option_or d (Some x)) n
others_cod (Some y) x m n e = refl
others_cod None x m n e = e

quantized_qcd :
    (c : Option QuantizationInfo) (own : Bool) (d : Option QuantizationInfo) (x a : QuantizationInfo)
    → quantized c own d (cond own a x) ≡ quantized (option_or c None) own (option_or d (Some x)) a
quantized_qcd (Some c) own d x a = refl
quantized_qcd None true d x a = refl
quantized_qcd None false (Some y) x a = refl
quantized_qcd None false None x a = refl

quantized_qcc :
    (c : Option QuantizationInfo) (own : Bool) (d : Option QuantizationInfo) (x a : QuantizationInfo)
    → quantized c true d x ≡ quantized (option_or c (Some x)) own (option_or d None) a
quantized_qcc (Some c) own d x a = refl
quantized_qcc None own d x a = refl

quantized_none :
    (c : Option QuantizationInfo) (own : Bool) (d : Option QuantizationInfo) (a : QuantizationInfo)
    → quantized c own d a ≡ quantized (option_or c None) own (option_or d None) a
quantized_none c own d a = rw (none_else c, none_else d) refl

own_some : {A : Type 0} (own : Bool) (c : Option A) (x : A) → (true || is_some c) ≡ (own || is_some (option_or c (Some x)))
own_some true (Some c) x = refl
own_some false (Some c) x = refl
own_some true None x = refl
own_some false None x = refl

own_none : {A : Type 0} (own : Bool) (c : Option A) → (own || is_some c) ≡ (own || is_some (option_or c None))
own_none own c = rw (none_else c) refl

-- what COD makes of the two parts of the flags
low_cod : (own : Bool) (a b : ℕ) → cond own (joined a b) b % 2 ≡ cond own (a % 2) (b % 2)
low_cod true a b = low_joined a b
low_cod false a b = refl

high_cod : (own : Bool) (a b : ℕ) → cond own (joined a b) b / 2 ≡ b / 2
high_cod true a b = high_joined a b
high_cod false a b = refl

styled_start : {A : Type 0} (f : CodingStyleComponent → A) (own : Bool) (a : A) → a ≡ styled f None own None a
styled_start f true a = refl
styled_start f false a = refl

quantized_start : (own : Bool) (a : QuantizationInfo) → a ≡ quantized None own None a
quantized_start true a = refl
quantized_start false a = refl

raw_cond : (own : Bool) (a b : CodingStyleFlags) → (cond own a b).raw ≡ cond own a.raw b.raw
raw_cond true a b = refl
raw_cond false a b = refl

-- a segment that is not the component's
passed :
    (s : ComponentSettings) (c : Option CodingStyleComponent) (d : Option CodingStyleDefault) (q e : Option QuantizationInfo) (t : ComponentSettings)
    → Sets s c d q e t → Sets s (option_or c None) (option_or d None) (option_or q None) (option_or e None) t
passed s c d q e t r = rw (none_else c, none_else d, none_else q, none_else e) r

-- COC before the rest, whose outcome from any row is known
by_coc :
    (s : ComponentSettings) (x : CodingStyleComponent) (c : Option CodingStyleComponent) (d : Option CodingStyleDefault) (q e : Option QuantizationInfo) (b : Bool)
    (f : ComponentSettings → ComponentSettings) → ((t : ComponentSettings) → Sets t c d q e (f t))
    → Sets s (option_or c (cond b (Some x) None)) (option_or d None) (option_or q None) (option_or e None) (f (cond b (settings_after_coc x s) s))
by_coc s x c d q e false f all = passed s c d q e (f s) (all s)
by_coc s x c d q e true f all =
    let r = all (settings_after_coc x s) in
    record {
      parameters = r.parameters ∙ styled_coc (λ y. y.parameters) c s.coc d x s.parameters x.parameters refl;
      flag_0 =
          r.flag_0
          ∙ styled_coc (λ y. y.flags.raw % 2) c s.coc d x (s.flags.raw % 2) (joined x.flags.raw s.flags.raw % 2)
          (low_joined x.flags.raw s.flags.raw);
      other_flags =
          r.other_flags
          ∙ ap (other_flags_of d) (high_joined x.flags.raw s.flags.raw)
          ∙ ap (λ (o : Option CodingStyleDefault). other_flags_of o (s.flags.raw / 2)) (sym (none_else d));
      quantization = r.quantization ∙ quantized_none q s.qcc e s.quantization;
      coc = r.coc ∙ own_some s.coc c x;
      qcc = r.qcc ∙ own_none s.qcc q;
    }

by_qcc :
    (s : ComponentSettings) (x : QuantizationInfo) (c : Option CodingStyleComponent) (d : Option CodingStyleDefault) (q e : Option QuantizationInfo) (b : Bool)
    (f : ComponentSettings → ComponentSettings) → ((t : ComponentSettings) → Sets t c d q e (f t))
    → Sets s (option_or c None) (option_or d None) (option_or q (cond b (Some x) None)) (option_or e None) (f (cond b (settings_after_qcc x s) s))
by_qcc s x c d q e false f all = passed s c d q e (f s) (all s)
by_qcc s x c d q e true f all =
    let r = all (settings_after_qcc x s) in
    record {
      parameters = r.parameters ∙ styled_none (λ y. y.parameters) c s.coc d s.parameters;
      flag_0 = r.flag_0 ∙ styled_none (λ y. y.flags.raw % 2) c s.coc d (s.flags.raw % 2);
      other_flags = r.other_flags ∙ ap (λ (o : Option CodingStyleDefault). other_flags_of o (s.flags.raw / 2)) (sym (none_else d));
      quantization = r.quantization ∙ quantized_qcc q s.qcc e x s.quantization;
      coc = r.coc ∙ own_none s.coc c;
      qcc = r.qcc ∙ own_some s.qcc q x;
    }

pub settled : (k : ℕ) (s : ComponentSettings) (xs : List Setting) → Settled k s xs (applied k s xs)
settled k s [] =
    record {
      parameters = styled_start (λ c. c.parameters) s.coc s.parameters;
      flag_0 = styled_start (λ c. c.flags.raw % 2) s.coc (s.flags.raw % 2);
      other_flags = refl;
      quantization = quantized_start s.qcc s.quantization;
      coc = sym (or_none s.coc);
      qcc = sym (or_none s.qcc);
    }
settled k s (Cod x ∷ xs) =
    let t = after k (Cod x) s in
    let r = settled k t xs in
    let c = last_coc k xs in
    let d = last_cod xs in
    let raw = raw_cond s.coc (record { raw = joined s.flags.raw x.component.flags.raw }) x.component.flags in
    record {
      parameters = r.parameters ∙ styled_cod (λ y. y.parameters) c s.coc d x s.parameters t.parameters refl;
      flag_0 =
          r.flag_0
          ∙ styled_cod (λ y. y.flags.raw % 2) c s.coc d x (s.flags.raw % 2) (t.flags.raw % 2)
          (ap (λ (n : ℕ). n % 2) raw ∙ low_cod s.coc s.flags.raw x.component.flags.raw);
      other_flags =
          r.other_flags
          ∙ others_cod d x (t.flags.raw / 2) (s.flags.raw / 2)
          (ap (λ (n : ℕ). n / 2) raw ∙ high_cod s.coc s.flags.raw x.component.flags.raw);
      quantization = r.quantization ∙ quantized_none (last_qcc k xs) s.qcc (last_qcd xs) s.quantization;
      coc = r.coc ∙ own_none s.coc c;
      qcc = r.qcc ∙ own_none s.qcc (last_qcc k xs);
    }
settled k s (Coc i x ∷ xs) = by_coc s x (last_coc k xs) (last_cod xs) (last_qcc k xs) (last_qcd xs) (eqb i k) (λ t. applied k t xs) (λ t. settled k t xs)
settled k s (Qcd x ∷ xs) =
    let t = after k (Qcd x) s in
    let r = settled k t xs in
    record {
      parameters = r.parameters ∙ styled_none (λ y. y.parameters) (last_coc k xs) s.coc (last_cod xs) s.parameters;
      flag_0 = r.flag_0 ∙ styled_none (λ y. y.flags.raw % 2) (last_coc k xs) s.coc (last_cod xs) (s.flags.raw % 2);
      other_flags = r.other_flags ∙ ap (λ (o : Option CodingStyleDefault). other_flags_of o (s.flags.raw / 2)) (sym (none_else (last_cod xs)));
      quantization = r.quantization ∙ quantized_qcd (last_qcc k xs) s.qcc (last_qcd xs) x s.quantization;
      coc = r.coc ∙ own_none s.coc (last_coc k xs);
      qcc = r.qcc ∙ own_none s.qcc (last_qcc k xs);
    }
settled k s (Qcc i x ∷ xs) = by_qcc s x (last_coc k xs) (last_cod xs) (last_qcc k xs) (last_qcd xs) (eqb i k) (λ t. applied k t xs) (λ t. settled k t xs)
