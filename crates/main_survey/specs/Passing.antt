-- The segments of a main header behind SIZ, as they are gone through.
use Rattle.std.specs.Prelude.{if◌then◌else◌, ◌≡◌, ℕ, List, is_some, Ok, Err, Result, nat_le}
use Rattle.faults.specs.declared.decode.DecodeError.{DecodeError}
use Rattle.faults.specs.declared.decode.DecodeError.TheVariants.{Marker}
use Rattle.faults.specs.declared.decode.MarkerError.TheVariants.{Invalid}
use Rattle.headers.specs.Standing.{Item, Ending, by_marker, by_none, refused}
use Rattle.headers.specs.Grammar.{MainHeaded, packets_in}
use Rattle.main_settings.specs.Components.{last_of, cod_in, qcd_in, component_refusal, Tested}
use Rattle.main_survey.specs.Main.{too_short, lacking}
use Rattle.main_survey.specs.declared.passed.Passed.{Passed}

-- what stood there when the segments xs end by SOT
abbrev pub passed_by : List Item → Ending → Result Passed DecodeError
passed_by xs (by_marker q) =
    Ok (record { cod = is_some (last_of cod_in xs); qcd = is_some (last_of qcd_in xs); packets = packets_in xs; place = q })
passed_by xs (by_none q) = Err (Marker (Invalid q))
passed_by xs (refused f) = Err f

abbrev pub passed_in : ℕ → List Item → Ending → Result Passed DecodeError
passed_in room xs e = if nat_le (packets_in xs) room then passed_by xs e else Err too_short

abbrev pub PassedTo : List ℕ → ℕ → ℕ → ℕ → Result Passed DecodeError → Type 0
PassedTo d csiz p room r = (xs : List Item) × (e : Ending) × MainHeaded d csiz p xs e × (r ≡ passed_in room xs e)

-- the tests at the SOT that ends the header from p on
abbrev pub SotTested : List ℕ → ℕ → ℕ → Passed → Result (Unit {0}) DecodeError → Type 0
SotTested d csiz p m r =
    (xs : List Item) (e : Ending) → MainHeaded d csiz p xs e
    → Tested (lacking m.cod m.qcd m.place (component_refusal csiz m.place xs)) r
