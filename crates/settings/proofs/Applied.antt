-- Segments applied by a loop.
use Rattle.std.proofs.Common.{◌≡◌, ℕ, ◌+◌, ◌/◌, ◌%◌, ◌<◌, ◌≤◌, Bool, false, List, ◌∷◌, length, get_or, drop, Some, None, Option, sym, refl, ap, ◌∙◌, subst, ap₂, add-one, drop-cons}
use Rattle.std.proofs.lemmas.List.{drop_all}
use Rattle.settings.specs.declared.rows.ComponentSettings.{ComponentSettings}
use Rattle.settings.specs.declared.inherit.Setting.{Setting}
use Rattle.settings.specs.Inheritance.{after, applied, Settled, styled, other_flags_of, quantized, coc_else, qcc_else, inherited, last_coc, last_cod, last_qcc, last_qcd, MainSettled}
use Rattle.settings.specs.Rows.{BlankSettings}
use Rattle.coding.specs.declared.parameters.CodingStyleComponent.{CodingStyleComponent}
use Rattle.coding.specs.declared.parameters.CodingStyleDefault.{CodingStyleDefault}
use Rattle.quantization.specs.declared.info.QuantizationInfo.{QuantizationInfo}
use Rattle.settings.proofs.Rank.{settled}

pub applied_more :
    (k : ℕ) (s t : ComponentSettings) (xs : List Setting) (i : ℕ) (x : Setting) (o : ComponentSettings) → i < length xs → x ≡ get_or xs i x → t ≡ after k x s
    → applied k s (drop i xs) ≡ o → applied k t (drop (i + 1) xs) ≡ o
applied_more k s t xs i x o h is e inv =
    let d : x ∷ drop (i + 1) xs ≡ drop i xs =
    ap₂ (λ (y : Setting) (j : ℕ). y ∷ drop j xs) is (add-one i) ∙ sym (drop-cons xs i x h) in
    ap (λ (r : ComponentSettings). applied k r (drop (i + 1) xs)) e ∙ ap (applied k s) d ∙ inv

pub applied_all :
    (k : ℕ) (s : ComponentSettings) (xs : List Setting) (i : ℕ) (o : ComponentSettings) → length xs ≤ i → applied k s (drop i xs) ≡ o → s ≡ o
applied_all k s xs i o h inv = sym (ap (applied k s) (drop_all i xs h)) ∙ inv

pub settled_by : (k : ℕ) (s t : ComponentSettings) (xs : List Setting) → t ≡ applied k s xs → Settled k s xs t
settled_by k s t xs e = subst (λ (r : ComponentSettings). Settled k s xs r) (sym e) (settled k s xs)

-- from a row with no COC and no QCC
style_of_lem :
    {A : Type 0} (f : CodingStyleComponent → A) (c : Option CodingStyleComponent) (own : Bool) (o : Option CodingStyleDefault) (d : CodingStyleDefault) (a : A)
    → own ≡ false → o ≡ Some d → styled f c own o a ≡ f (coc_else c d)
style_of_lem f (Some c) own o d a e g = refl
style_of_lem f None own o d a e g = rw (e, g) refl

others_of : (o : Option CodingStyleDefault) (d : CodingStyleDefault) (n : ℕ) → o ≡ Some d → other_flags_of o n ≡ d.component.flags.raw / 2
others_of o d n g = rw g refl

quantization_of_lem :
    (c : Option QuantizationInfo) (own : Bool) (o : Option QuantizationInfo) (e a : QuantizationInfo) → own ≡ false → o ≡ Some e
    → quantized c own o a ≡ qcc_else c e
quantization_of_lem (Some q) own o e a f g = refl
quantization_of_lem None own o e a f g = rw (f, g) refl

pub main_settled :
    (k : ℕ) (b t r : ComponentSettings) (xs : List Setting) → BlankSettings b → t ≡ applied k b xs → r ≡ inherited t → MainSettled k xs r
main_settled k b t r xs blank e f =
    let s = settled_by k b t xs e in
    record {
      blank = b;
      is_blank = blank;
      made = f ∙ ap inherited e;
      parameters = λ d g. ap (λ (x : ComponentSettings). x.parameters) f ∙ s.parameters ∙ style_of_lem (λ c. c.parameters) (last_coc k xs) b.coc (last_cod xs) d b.parameters blank.coc g;
      flag_0 = λ d g. ap (λ (x : ComponentSettings). x.flags.raw % 2) f ∙ s.flag_0 ∙ style_of_lem (λ c. c.flags.raw % 2) (last_coc k xs) b.coc (last_cod xs) d (b.flags.raw % 2) blank.coc g;
      other_flags = λ d g. ap (λ (x : ComponentSettings). x.flags.raw / 2) f ∙ s.other_flags ∙ others_of (last_cod xs) d (b.flags.raw / 2) g;
      quantization = λ q g. ap (λ (x : ComponentSettings). x.quantization) f ∙ s.quantization ∙ quantization_of_lem (last_qcc k xs) b.qcc (last_qcd xs) q b.quantization blank.qcc g;
    }
