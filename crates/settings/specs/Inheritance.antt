-- Which segment sets a component's coding style and quantization (T.800 A.6): COC over COD, QCC over QCD.
use Rattle.std.specs.Prelude.{◌≡◌, ℕ, ◌+◌, ◌*◌, ◌/◌, ◌%◌, Bool, true, false, if◌then◌else◌, ◌||◌, List, [], ◌∷◌, is_some, Some, None, Option, ◌==◌}
use Rattle.std.specs.Option.{option_or}
use Rattle.coding.specs.declared.parameters.CodingStyleComponent.{CodingStyleComponent}
use Rattle.coding.specs.declared.parameters.CodingStyleDefault.{CodingStyleDefault}
use Rattle.coding.specs.declared.styles.CodingStyleFlags.{CodingStyleFlags}
use Rattle.quantization.specs.declared.info.QuantizationInfo.{QuantizationInfo}
use Rattle.settings.specs.declared.rows.ComponentSettings.{ComponentSettings}
use Rattle.settings.specs.declared.rows.TileRow.{TileRow}
use Rattle.settings.specs.Rows.{BlankSettings}
use Rattle.settings.specs.declared.inherit.Setting.{Setting}
use Rattle.settings.specs.declared.inherit.Setting.TheVariants.{Cod, Coc, Qcd, Qcc}

-- bit 0 of one flags byte, and the other bits of another
abbrev pub joined : ℕ → ℕ → ℕ
joined low others = others / 2 * 2 + low % 2

abbrev pub joined_flags : CodingStyleFlags → CodingStyleFlags → CodingStyleFlags
joined_flags low others = record { raw = joined low.raw others.raw }

-- what one segment makes of a row
abbrev pub settings_after_cod : CodingStyleComponent → ComponentSettings → ComponentSettings
settings_after_cod c s =
    record {
      flags = if s.coc then joined_flags s.flags c.flags else c.flags;
      parameters = if s.coc then s.parameters else c.parameters;
      quantization = s.quantization;
      coc = s.coc;
      qcc = s.qcc;
    }

abbrev pub settings_after_coc : CodingStyleComponent → ComponentSettings → ComponentSettings
settings_after_coc c s =
    record {
      flags = joined_flags c.flags s.flags;
      parameters = c.parameters;
      quantization = s.quantization;
      coc = true;
      qcc = s.qcc;
    }

abbrev pub settings_after_qcd : QuantizationInfo → ComponentSettings → ComponentSettings
settings_after_qcd q s =
    record {
      flags = s.flags;
      parameters = s.parameters;
      quantization = if s.qcc then s.quantization else q;
      coc = s.coc;
      qcc = s.qcc;
    }

abbrev pub settings_after_qcc : QuantizationInfo → ComponentSettings → ComponentSettings
settings_after_qcc q s = record { flags = s.flags; parameters = s.parameters; quantization = q; coc = s.coc; qcc = true }

abbrev pub after : ℕ → Setting → ComponentSettings → ComponentSettings
after k (Cod c) s = settings_after_cod c.component s
after k (Coc i c) s = if i == k then settings_after_coc c s else s
after k (Qcd q) s = settings_after_qcd q s
after k (Qcc i q) s = if i == k then settings_after_qcc q s else s

abbrev pub applied : ℕ → ComponentSettings → List Setting → ComponentSettings
applied k s [] = s
applied k s (x ∷ xs) = applied k (after k x s) xs

-- the last segment of its kind, of a component where it has an index
abbrev pub coc_in : ℕ → Setting → Option CodingStyleComponent
coc_in k (Cod c) = None
coc_in k (Coc i c) = if i == k then Some c else None
coc_in k (Qcd q) = None
coc_in k (Qcc i q) = None

abbrev pub cod_in : Setting → Option CodingStyleDefault
cod_in (Cod c) = Some c
cod_in (Coc i c) = None
cod_in (Qcd q) = None
cod_in (Qcc i q) = None

abbrev pub qcc_in : ℕ → Setting → Option QuantizationInfo
qcc_in k (Cod c) = None
qcc_in k (Coc i c) = None
qcc_in k (Qcd q) = None
qcc_in k (Qcc i q) = if i == k then Some q else None

abbrev pub qcd_in : Setting → Option QuantizationInfo
qcd_in (Cod c) = None
qcd_in (Coc i c) = None
qcd_in (Qcd q) = Some q
qcd_in (Qcc i q) = None

abbrev pub last_coc : ℕ → List Setting → Option CodingStyleComponent
last_coc k [] = None
last_coc k (x ∷ xs) = option_or (last_coc k xs) (coc_in k x)

abbrev pub last_cod : List Setting → Option CodingStyleDefault
last_cod [] = None
last_cod (x ∷ xs) = option_or (last_cod xs) (cod_in x)

abbrev pub last_qcc : ℕ → List Setting → Option QuantizationInfo
last_qcc k [] = None
last_qcc k (x ∷ xs) = option_or (last_qcc k xs) (qcc_in k x)

abbrev pub last_qcd : List Setting → Option QuantizationInfo
last_qcd [] = None
last_qcd (x ∷ xs) = option_or (last_qcd xs) (qcd_in x)

-- the coding style that holds: the component's own COC, else COD unless there was an own COC before, else what there was
abbrev pub styled : {A : Type 0} → (CodingStyleComponent → A) → Option CodingStyleComponent → Bool → Option CodingStyleDefault → A → A
styled f (Some c) own d a = f c
styled f None true d a = a
styled f None false (Some c) a = f c.component
styled f None false None a = a

-- the flags but bit 0: COD's, else what there was
abbrev pub other_flags_of : Option CodingStyleDefault → ℕ → ℕ
other_flags_of (Some c) n = c.component.flags.raw / 2
other_flags_of None n = n

-- the quantization that holds: the component's own QCC, else QCD unless there was an own QCC before, else what there was
abbrev pub quantized : Option QuantizationInfo → Bool → Option QuantizationInfo → QuantizationInfo → QuantizationInfo
quantized (Some q) own d a = q
quantized None true d a = a
quantized None false (Some q) a = q
quantized None false None a = a

-- what the last COC, COD, QCC and QCD, if any, make of a row s: t
pub record Sets (s : ComponentSettings) (c : Option CodingStyleComponent) (d : Option CodingStyleDefault) (q e : Option QuantizationInfo) (t : ComponentSettings) : Type 0 where
  pub parameters : t.parameters ≡ styled (λ x. x.parameters) c s.coc d s.parameters
  pub flag_0 : t.flags.raw % 2 ≡ styled (λ x. x.flags.raw % 2) c s.coc d (s.flags.raw % 2)
  pub other_flags : t.flags.raw / 2 ≡ other_flags_of d (s.flags.raw / 2)
  pub quantization : t.quantization ≡ quantized q s.qcc e s.quantization
  pub coc : t.coc ≡ (s.coc || is_some c)
  pub qcc : t.qcc ≡ (s.qcc || is_some q)

-- what segments, applied one after another, make of component k's row s: t
abbrev pub Settled : ℕ → ComponentSettings → List Setting → ComponentSettings → Type 0
Settled k s xs t = Sets s (last_coc k xs) (last_cod xs) (last_qcc k xs) (last_qcd xs) t

-- the same row as the start of a tile: it has no COC or QCC of its own yet
abbrev pub inherited : ComponentSettings → ComponentSettings
inherited s = record { flags = s.flags; parameters = s.parameters; quantization = s.quantization; coc = false; qcc = false }

-- what COD says of a tile as a whole
abbrev pub tile_after : CodingStyleDefault → TileRow → TileRow
tile_after c t = record { area = t.area; progression = c.progression; layers = c.layers; mct = c.mct }

-- COC where there is one, else COD; QCC where there is one, else QCD
abbrev pub coc_else : Option CodingStyleComponent → CodingStyleDefault → CodingStyleComponent
coc_else (Some c) d = c
coc_else None d = d.component

abbrev pub qcc_else : Option QuantizationInfo → QuantizationInfo → QuantizationInfo
qcc_else (Some q) e = q
qcc_else None e = e

-- what a main header's segments make of component k: t. They are applied to a blank row; no COC or QCC of a main header is a tile's own
pub record MainSettled (k : ℕ) (xs : List Setting) (t : ComponentSettings) : Type 0 where
  pub blank : ComponentSettings
  pub is_blank : BlankSettings blank
  pub made : t ≡ inherited (applied k blank xs)
  pub parameters : (d : CodingStyleDefault) → last_cod xs ≡ Some d → t.parameters ≡ (coc_else (last_coc k xs) d).parameters
  pub flag_0 : (d : CodingStyleDefault) → last_cod xs ≡ Some d → t.flags.raw % 2 ≡ (coc_else (last_coc k xs) d).flags.raw % 2
  pub other_flags : (d : CodingStyleDefault) → last_cod xs ≡ Some d → t.flags.raw / 2 ≡ d.component.flags.raw / 2
  pub quantization : (e : QuantizationInfo) → last_qcd xs ≡ Some e → t.quantization ≡ qcc_else (last_qcc k xs) e
