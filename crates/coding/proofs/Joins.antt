-- The sections of COD and COC, joined.
use Rattle.std.proofs.Common.{◌≡◌, ℕ, ◌<◌, Bool, eqb, List, [], ◌++◌, length, get_or, drop, sym, refl, ap, ◌∙◌, subst, arith}
use Rattle.std.proofs.lemmas.List.{get_or_append_left}
use Rattle.std.proofs.lemmas.List.Prefix.{front_rest}
use Rattle.layouts.specs.Layouts.{read, reading, fields, meaning, values_of}
use Rattle.layouts.proofs.Exits.{read_exit}
use Rattle.layouts.proofs.Times.{joined}
use Rattle.coding.specs.Coding.{MadeParameters, MadeCod, MadeCoc, parameters_layout, cod_table, cod_layout, coc_table, coc_of}
use Rattle.coding.specs.Sections.{MadeHead, MadeIndex}
use Rattle.coding.specs.declared.parameters.CodFields.{CodFields}
use Rattle.coding.specs.declared.parameters.CodingStyleComponent.{CodingStyleComponent}
use Rattle.coding.specs.declared.parameters.CodingStyleDefault.{CodingStyleDefault}
use Rattle.coding.specs.declared.styles.CodingStyleFlags.{CodingStyleFlags}

-- a section of n values, and what is behind it
front : (n : ℕ) (vs ws : List ℕ) (k : ℕ) → length vs ≡ n → k < n → get_or vs k 0 ≡ get_or (vs ++ ws) k 0
front n vs ws k e lt = sym (get_or_append_left vs ws 0 k (omega arith))

rest : (n : ℕ) (vs ws : List ℕ) → length vs ≡ n → drop n (vs ++ ws) ≡ ws
rest n vs ws e = subst (λ (m : ℕ). drop m (vs ++ ws) ≡ ws) e (front_rest (vs ++ ws) vs ws refl)

pub cod_answered :
    (d d1 : List ℕ) (p q q' : ℕ) (f : CodFields) (c : CodingStyleDefault) (hs ss : List ℕ) → d1 ≡ d
    → reading cod_table d p [] ≡ read hs q → MadeHead f hs
    → meaning (parameters_layout f.flags.raw) d1 q ≡ read ss q' → MadeParameters c.component.parameters ss
    → c.component.flags ≡ f.flags → c.progression ≡ f.progression → c.layers ≡ f.layers → c.mct ≡ f.mct
    → (meaning cod_layout d p ≡ read (values_of (meaning cod_layout d p)) q') × MadeCod c (values_of (meaning cod_layout d p))
cod_answered d d1 p q q' f c hs ss same first made second parameters g o l m =
    let last : meaning (parameters_layout (get_or hs 1 0)) d q ≡ read ss q' = rw (same, made.flags) at second in
    read_exit (meaning cod_layout d p) MadeCod c (hs ++ ss) q'
    (joined (fields cod_table) (λ vs. parameters_layout (get_or vs 1 0)) d p hs q ss q' first last)
    record {
      flags = rw g (made.flags ∙ front 5 hs ss 1 made.count (omega arith));
      progression = rw o (made.progression ∙ front 5 hs ss 2 made.count (omega arith));
      layers = l ∙ made.layers ∙ front 5 hs ss 3 made.count (omega arith);
      mct = m ∙ made.mct ∙ ap (λ (v : ℕ). eqb v 1) (front 5 hs ss 4 made.count (omega arith));
      parameters = subst (λ (v : List ℕ). MadeParameters c.component.parameters v) (sym (rest 5 hs ss made.count)) parameters;
    }

pub coc_answered :
    (admits : List ℕ → ℕ → Bool) (csiz : ℕ) (d d1 : List ℕ) (p q q' : ℕ) (f : ℕ × CodingStyleFlags) (c : ℕ × CodingStyleComponent)
    (hs ss : List ℕ) → d1 ≡ d → reading (coc_table admits csiz) d p [] ≡ read hs q → MadeIndex f hs
    → meaning (parameters_layout f.1.raw) d1 q ≡ read ss q' → MadeParameters c.1.parameters ss
    → c.0 ≡ f.0 → c.1.flags ≡ f.1
    → (meaning (coc_of admits csiz) d p ≡ read (values_of (meaning (coc_of admits csiz) d p)) q')
    × MadeCoc c (values_of (meaning (coc_of admits csiz) d p))
coc_answered admits csiz d d1 p q q' f c hs ss same first made second parameters i g =
    let last : meaning (parameters_layout (get_or hs 2 0)) d q ≡ read ss q' = rw (same, made.flags) at second in
    read_exit (meaning (coc_of admits csiz) d p) MadeCoc c (hs ++ ss) q'
    (joined (fields (coc_table admits csiz)) (λ vs. parameters_layout (get_or vs 2 0)) d p hs q ss q' first last)
    record {
      index = i ∙ made.index ∙ front 3 hs ss 1 made.count (omega arith);
      flags = rw g (made.flags ∙ front 3 hs ss 2 made.count (omega arith));
      parameters = subst (λ (v : List ℕ). MadeParameters c.1.parameters v) (sym (rest 3 hs ss made.count)) parameters;
    }
