-- What a main header makes of a component, and of all of them.
use Rattle.std.specs.Prelude.{◌≡◌, ℕ, List, Result}
use Rattle.faults.specs.declared.decode.DecodeError.{DecodeError}
use Rattle.headers.specs.Standing.{Item, Ending}
use Rattle.headers.specs.Grammar.{MainHeaded, SettingsIn}
use Rattle.settings.specs.Inheritance.{MainSettled}
use Rattle.settings.specs.declared.inherit.Setting.{Setting}
use Rattle.settings.specs.declared.rows.ComponentSettings.{ComponentSettings}
use Rattle.main_settings.specs.Components.{levels_in, quantization_in, component_refusal, Tested}

-- what the header from p on, however it ends, makes of component k: t
pub record ComponentSettled (d : List ℕ) (csiz p k : ℕ) (t : ComponentSettings) : Type 0 where
  pub xs : List Item
  pub e : Ending
  pub ss : List Setting
  pub headed : MainHeaded d csiz p xs e
  pub settings : SettingsIn xs ss
  pub settled : MainSettled k ss t
  pub levels : t.parameters.levels ≡ levels_in k xs
  pub quantization : t.quantization ≡ quantization_in k xs

-- whether each of csiz components has the step sizes that it needs, by the header from p on
pub record ComponentsTested (d : List ℕ) (csiz p place : ℕ) (r : Result (Unit {0}) DecodeError) : Type 0 where
  pub xs : List Item
  pub e : Ending
  pub headed : MainHeaded d csiz p xs e
  pub tested : Tested (component_refusal csiz place xs) r
