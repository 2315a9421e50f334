-- Laws of main headers.
use Rattle.std.specs.Prelude.{◌≡◌, ℕ, ◌≤◌, List, None, Ok, Result}
use Rattle.faults.specs.declared.decode.DecodeError.{DecodeError}
use Rattle.segments.specs.Siz.{accepted, siz_outcome}
use Rattle.headers.specs.Standing.{Item, by_marker}
use Rattle.headers.specs.Grammar.{MainHeaded, packets_in}
use Rattle.main_survey.specs.Main.{Header, ComesTo, at_sot}
use Rattle.main_survey.specs.declared.room.Room.{Room}

-- a main header comes to one thing
abbrev pub OneOutcome : Type 0
OneOutcome =
    (d : List ℕ) (p : ℕ) (r : Room) (o u : Result Header DecodeError) → ComesTo d p r o → ComesTo d p r u → o ≡ u

-- the segments of an accepted header, none of which is refused when they are read again
pub record Accepted (d : List ℕ) (p : ℕ) (r : Room) (h : Header) : Type 0 where
  pub xs : List Item
  pub siz : siz_outcome d p ≡ accepted h.size h.segments
  pub headed : MainHeaded d h.size.csiz h.segments xs (by_marker h.place)
  pub complete : at_sot h.size.csiz xs h.place ≡ None
  pub packets : packets_in xs ≡ h.packets
  pub fits : h.packets ≤ r.packets

abbrev pub ReadAgain : Type 0
ReadAgain = (d : List ℕ) (p : ℕ) (r : Room) (h : Header) → ComesTo d p r (Ok h) → Accepted d p r h
