-- A row says what the values of the last segment of each kind say.
use Rattle.std.proofs.Common.{if◌then◌else◌, ◌≡◌, ℕ, Bool, true, false, eqb, List, [], ◌∷◌, ◌++◌, get_or, drop, is_some, Some, None, Option, sym, refl, ap, ◌∙◌, get_or-drop}
use Rattle.std.specs.Option.{option_or}
use Rattle.coding.specs.declared.parameters.CodingStyleComponent.{CodingStyleComponent}
use Rattle.quantization.specs.Quantization.{Made}
use Rattle.quantization.specs.declared.info.QuantizationInfo.{QuantizationInfo}
use Rattle.quantization.specs.declared.info.QuantizationStyle.{QuantizationStyle}
use Rattle.quantization.specs.declared.info.StepSize.{StepSize}
use Rattle.headers.specs.Standing.{Contents, Item, SetsAs}
use Rattle.settings.specs.Inheritance.{after, settings_after_cod, settings_after_coc, settings_after_qcd, settings_after_qcc}
use Rattle.settings.specs.declared.inherit.Setting.{Setting}
use Rattle.settings.specs.declared.inherit.Setting.TheVariants.{Cod, Coc, Qcd, Qcc}
use Rattle.settings.specs.declared.rows.ComponentSettings.{ComponentSettings}
use Rattle.main_settings.specs.Components.{last_of, of_cod, of_coc, of_qcd, of_qcc, levels_of, quantization_of, quantization_by}

-- what a row says by the values of the last COC, COD, QCC and QCD
pub record SaidBy (coc cod qcc qcd : Option (List ℕ)) (s : ComponentSettings) : Type 0 where
  pub levels : s.parameters.levels ≡ levels_of coc cod
  pub quantization : s.quantization ≡ quantization_by qcc qcd
  pub own_coc : s.coc ≡ is_some coc
  pub own_qcc : s.qcc ≡ is_some qcc

cod_said :
    (coc cod qcc qcd : Option (List ℕ)) (s : ComponentSettings) (c : CodingStyleComponent) (vs : List ℕ) → SaidBy coc cod qcc qcd s
    → c.parameters.levels ≡ get_or vs 5 0 → SaidBy coc (Some vs) qcc qcd (settings_after_cod c s)
cod_said (Some u) cod qcc qcd s c vs r e =
    record { levels = rw r.own_coc r.levels; quantization = r.quantization; own_coc = r.own_coc; own_qcc = r.own_qcc }
cod_said None cod qcc qcd s c vs r e =
    record { levels = rw r.own_coc e; quantization = r.quantization; own_coc = r.own_coc; own_qcc = r.own_qcc }

coc_said :
    (own : Bool) (coc cod qcc qcd : Option (List ℕ)) (s : ComponentSettings) (c : CodingStyleComponent) (vs : List ℕ) → SaidBy coc cod qcc qcd s
    → c.parameters.levels ≡ get_or vs 3 0
    → SaidBy (option_or (if own then Some vs else None) coc) cod qcc qcd (if own then settings_after_coc c s else s)
coc_said true coc cod qcc qcd s c vs r e = record { levels = e; quantization = r.quantization; own_coc = refl; own_qcc = r.own_qcc }
coc_said false coc cod qcc qcd s c vs r e = r

qcd_said :
    (coc cod qcc qcd : Option (List ℕ)) (s : ComponentSettings) (q : QuantizationInfo) (vs : List ℕ) → SaidBy coc cod qcc qcd s
    → q ≡ quantization_of (get_or vs 1 0) (drop 2 vs) → SaidBy coc cod qcc (Some vs) (settings_after_qcd q s)
qcd_said coc cod (Some u) qcd s q vs r e =
    record { levels = r.levels; quantization = rw r.own_qcc r.quantization; own_coc = r.own_coc; own_qcc = r.own_qcc }
qcd_said coc cod None qcd s q vs r e =
    record { levels = r.levels; quantization = rw r.own_qcc e; own_coc = r.own_coc; own_qcc = r.own_qcc }

qcc_said :
    (own : Bool) (coc cod qcc qcd : Option (List ℕ)) (s : ComponentSettings) (q : QuantizationInfo) (vs : List ℕ) → SaidBy coc cod qcc qcd s
    → q ≡ quantization_of (get_or vs 2 0) (drop 3 vs)
    → SaidBy coc cod (option_or (if own then Some vs else None) qcc) qcd (if own then settings_after_qcc q s else s)
qcc_said true coc cod qcc qcd s q vs r e = record { levels = r.levels; quantization = e; own_coc = r.own_coc; own_qcc = refl }
qcc_said false coc cod qcc qcd s q vs r e = r

same_info :
    (q : QuantizationInfo) (a : QuantizationStyle) (g : ℕ) (s : List StepSize) (n : ℕ) → q.style ≡ a → q.guard ≡ g → q.steps ≡ s → q.count ≡ n
    → q ≡ record { style = a; guard = g; steps = s; count = n }
same_info q a g s n e f h k = rw (← e, ← f, ← h, ← k) refl

made_as : (q : QuantizationInfo) (sq : ℕ) (vs : List ℕ) → Made q sq vs → q ≡ quantization_of sq vs
made_as q sq vs m = same_info q _ _ _ _ m.style m.guard m.steps m.count

-- one segment more, with these contents and values
pub said_more :
    (k : ℕ) (o : Setting) (n : Contents) (vs : List ℕ) (coc cod qcc qcd : Option (List ℕ)) (s : ComponentSettings) → SaidBy coc cod qcc qcd s
    → SetsAs o n vs
    → SaidBy (option_or (of_coc k n vs) coc) (option_or (of_cod n vs) cod) (option_or (of_qcc k n vs) qcc) (option_or (of_qcd n vs) qcd) (after k o s)
said_more k (Cod c) n vs coc cod qcc qcd s r h =
    rw h.0 (cod_said coc cod qcc qcd s c.component vs r (h.1.parameters.levels ∙ get_or-drop 5 vs 0 0))
said_more k (Coc i c) n vs coc cod qcc qcd s r h =
    rw (h.0, h.1.index) (coc_said (eqb (get_or vs 1 0) k) coc cod qcc qcd s c vs r (h.1.parameters.levels ∙ get_or-drop 3 vs 0 0))
said_more k (Qcd q) n vs coc cod qcc qcd s r h =
    rw h.0 (qcd_said coc cod qcc qcd s q vs r (made_as q (get_or vs 1 0) (drop 2 vs) h.1))
said_more k (Qcc i q) n vs coc cod qcc qcd s r h =
    rw (h.0, h.1.index) (qcc_said (eqb (get_or vs 1 0) k) coc cod qcc qcd s q vs r (made_as q (get_or vs 2 0) (drop 3 vs) h.1.info))

none_else : {A : Type 0} (a : Option A) → option_or a None ≡ a
none_else (Some a) = refl
none_else None = refl

else_assoc : {A : Type 0} (a b c : Option A) → option_or (option_or a b) c ≡ option_or a (option_or b c)
else_assoc (Some a) b c = refl
else_assoc None b c = refl

-- the last of one segment more
pub last_push :
    (f : Item → Option (List ℕ)) (xs : List Item) (x : Item) → last_of f (xs ++ x ∷ []) ≡ option_or (f x) (last_of f xs)
last_push f [] x = sym (none_else (f x))
last_push f (y ∷ ys) x = ap (λ o. option_or o (f y)) (last_push f ys x) ∙ else_assoc (f x) (last_of f ys) (f y)
