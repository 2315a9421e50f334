-- A main header (T.800 A.3, Table A.3): SIZ, the segments behind it, and the SOT that ends it.
use Rattle.std.specs.Prelude.{if◌then◌else◌, ◌≡◌, ℕ, ◌+◌, ◌*◌, ◌<◌, Bool, true, false, ◌&&◌, List, is_some, Some, None, Ok, Err, Option, Result, nat_le}
use Rattle.faults.specs.declared.decode.DecodeError.{DecodeError}
use Rattle.faults.specs.declared.decode.DecodeError.TheVariants.{Marker, Book}
use Rattle.faults.specs.declared.decode.MarkerError.TheVariants.{Invalid, Missing}
use Rattle.faults.specs.declared.decode.BookError.TheVariants.{TableTooShort}
use Rattle.segments.specs.Siz.{Siz, Outcome, accepted, siz_outcome, size_of, grid_in, tiles_of, component_at}
use Rattle.segments.specs.Siz as siz
use Rattle.headers.specs.Standing.{Item, Ending, by_marker, by_none, refused}
use Rattle.headers.specs.Grammar.{MainHeaded, packets_in}
use Rattle.main_settings.specs.Components.{last_of, cod_in, qcd_in, component_refusal}
use Rattle.main_survey.specs.declared.room.Room.{Room}
use Rattle.main_survey.specs.declared.room.MainSurvey.{MainSurvey}

-- an accepted main header: what SIZ says, the place behind it, the number of packets in PPM segments, and the place of SOT
pub record Header : Type 0 where
  pub size : Siz
  pub segments : ℕ
  pub packets : ℕ
  pub place : ℕ

abbrev pub too_short : DecodeError
too_short = Book TableTooShort

-- rows for the components, for the tiles, and for the settings of each component in each tile
abbrev pub room_for : Room → ℕ → ℕ → Bool
room_for r csiz tiles = nat_le csiz r.components && nat_le tiles r.tiles && nat_le (tiles * csiz) r.settings

-- what is tested at the SOT at q: whether there was a COD, whether there was a QCD, and then the components one after another
abbrev pub lacking : Bool → Bool → ℕ → Option DecodeError → Option DecodeError
lacking false qcd q f = Some (Marker (Missing 82 q))
lacking true false q f = Some (Marker (Missing 92 q))
lacking true true q f = f

abbrev pub at_sot : ℕ → List Item → ℕ → Option DecodeError
at_sot csiz xs q = lacking (is_some (last_of cod_in xs)) (is_some (last_of qcd_in xs)) q (component_refusal csiz q xs)

abbrev pub unless : Option DecodeError → Header → Result Header DecodeError
unless None h = Ok h
unless (Some f) h = Err f

-- what the segments xs behind SIZ, from the place b on, come to by their ending
abbrev pub ended : Siz → ℕ → List Item → Ending → Result Header DecodeError
ended s b xs (by_marker q) = unless (at_sot s.csiz xs q) (record { size = s; segments = b; packets = packets_in xs; place = q })
ended s b xs (by_none q) = Err (Marker (Invalid q))
ended s b xs (refused f) = Err f

-- packets that pass the room are refused at their segment, before anything behind it
abbrev pub concluded : ℕ → Siz → ℕ → List Item → Ending → Result Header DecodeError
concluded room s b xs e = if nat_le (packets_in xs) room then ended s b xs e else Err too_short

abbrev pub WithRoom : List ℕ → ℕ → Siz → ℕ → Bool → Result Header DecodeError → Type 0
WithRoom d room s b true o = (xs : List Item) × (e : Ending) × MainHeaded d s.csiz b xs e × (o ≡ concluded room s b xs e)
WithRoom d room s b false o = o ≡ Err too_short

abbrev pub BehindSiz : List ℕ → Room → Outcome → Result Header DecodeError → Type 0
BehindSiz d r (accepted s b) o = WithRoom d r.packets s b (room_for r s.csiz (tiles_of s.grid)) o
BehindSiz d r (siz.refused f b) o = o ≡ Err f

-- what the main header whose SIZ stands at p comes to, where the tables have this room
abbrev pub ComesTo : List ℕ → ℕ → Room → Result Header DecodeError → Type 0
ComesTo d p r o = BehindSiz d r (siz_outcome d p) o

-- as it is answered
abbrev pub header_of : List ℕ → Result MainSurvey DecodeError → Result Header DecodeError
header_of d (Ok m) = Ok (record { size = size_of d m.size; segments = m.segments; packets = m.packets; place = m.place })
header_of d (Err f) = Err f

-- the number of tiles, and every component is there
pub record Counted (d : List ℕ) (m : MainSurvey) : Type 0 where
  pub tiles : m.tiles ≡ tiles_of (grid_in m.size)
  pub components : (k : ℕ) → k < m.size.csiz → component_at d (m.size.components + 3 * k) ≡ true

abbrev pub CountedIn : List ℕ → Result MainSurvey DecodeError → Type 0
CountedIn d (Ok m) = Counted d m
CountedIn d (Err f) = Unit {0}
