-- The packets of a main header (T.800 A.7.4): those of all its PPM segments, in the order of Zppm, and of one Zppm in the order in which
-- they stand.
use Rattle.std.specs.Prelude.{ℕ, List, [], ◌∷◌, ◌++◌, length, map, drop, Option, slice_index}
use Rattle.headers.specs.Standing.{Contents, cod, coc, qcd, qcc, ppm, ppt, nothing, Item, Ending}
use Rattle.headers.specs.Grammar.{MainHeaded}
use Rattle.ordered.specs.Order.{Arranged, RowAt}
use Rattle.packed.specs.Ppm.{Packet, packets_of}
use Rattle.settings.specs.declared.rows.PackedRow.{PackedRow}

-- a packet of a segment with this Zppm, as a row
abbrev pub row_of : ℕ → Packet → PackedRow
row_of z x = record { index = z; place = x.place; len = x.size }

abbrev pub rows_of : ℕ → List Packet → List PackedRow
rows_of z xs = map (row_of z) xs

-- the packets of a segment; its values are Lppm, the place behind Lppm, Zppm, and those of the packets
abbrev pub rows_by : Contents → List ℕ → List PackedRow
rows_by cod vs = []
rows_by coc vs = []
rows_by qcd vs = []
rows_by qcc vs = []
rows_by ppm vs = rows_of (slice_index vs 2) (packets_of (drop 3 vs))
rows_by ppt vs = []
rows_by nothing vs = []

-- the packets of a header's segments, in the order in which they stand
abbrev pub rows_in : List Item → List PackedRow
rows_in [] = []
rows_in (x ∷ xs) = rows_by x.contents x.values ++ rows_in xs

abbrev pub index : PackedRow → ℕ
index x = x.index

-- packet k of the main header whose segments stand from p on, or None where it has no more than k
pub record PacketAt (d : List ℕ) (csiz p k : ℕ) (r : Option PackedRow) : Type 0 where
  pub segments : List Item
  pub ending : Ending
  pub header : MainHeaded d csiz p segments ending
  pub packets : List PackedRow
  pub arranged : Arranged PackedRow index (rows_in segments) packets
  pub row : RowAt packets (length packets) k r
