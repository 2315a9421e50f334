-- The PPM marker segment (T.800 A.7.4): Lppm, Zppm, and packets, each a length of four bytes, Nppm, and that many bytes.
use Rattle.std.specs.Prelude.{◌≡◌, ℕ, zero, suc, ◌+◌, ◌≤◌, if◌then◌else◌, List, [], ◌∷◌, length, take, drop, Some, None, Option, nat_le, slice_index}
use Rattle.reader.specs.Bytes.{IsPartOf}
use Rattle.reader.specs.Reads.{bytes_of, SameData}
use Rattle.reader.specs.declared.reader.BitReader.{BitReader}
use Rattle.layouts.specs.Layouts.{Layout, Reading, read, failed, meaning, followed, field, fields, behind, one, four, run, any}
use Rattle.packed.specs.Segment.{segment_layout, cut}
use Rattle.packed.specs.declared.segment.SegmentReader.{SegmentReader}
use Rattle.packed.specs.declared.ppm.PpmPacket.{PpmPacket}
use Rattle.packed.specs.declared.ppm.PpmMarkerData.{PpmMarkerData}

-- Nppm, and that many bytes
abbrev pub packet_layout : Layout
packet_layout = behind (fields (field four any ∷ [])) (λ vs. fields (field (run (slice_index vs 0)) any ∷ []))

-- from the place p on packets one behind another, until one ends at the segment's end; no more than n of them
abbrev pub until_end : ℕ → ℕ → ℕ → Layout
until_end zero end p = fields []
until_end (suc n) end p =
    if nat_le end p then fields [] else behind packet_layout (λ vs. until_end n end (slice_index vs 1 + slice_index vs 0))

-- there are fewer packets than bytes
abbrev pub packets_layout : ℕ → ℕ → Layout
packets_layout end p = until_end end end p

-- Zppm, which stands at p, and the packets
abbrev pub inside_layout : ℕ → ℕ → Layout
inside_layout end p = behind (fields (field one any ∷ [])) (λ _. packets_layout end (p + 1))

-- a segment that was taken as a whole is left at its end, whatever is found inside
abbrev pub ending_at : ℕ → Reading → Reading
ending_at end (read vs q) = read vs end
ending_at end (failed e q) = failed e end

-- the segment as a whole, and then what stands inside its bounds
abbrev pub ppm_reading : List ℕ → ℕ → Reading
ppm_reading d p =
    followed (meaning segment_layout d p) (λ vs end. ending_at end (meaning (inside_layout end (slice_index vs 1)) (take end d) (slice_index vs 1)))

-- a packet: where its bytes begin, and how many there are
pub record Packet : Type 0 where
  pub place : ℕ
  pub size : ℕ

-- the packets that the values of their fields make
abbrev pub packets_of : List ℕ → List Packet
packets_of [] = []
packets_of (n ∷ []) = []
packets_of (n ∷ p ∷ vs) = record { place = p; size = n } ∷ packets_of vs

abbrev pub on_read : Reading → (List ℕ → ℕ → List Packet) → List Packet
on_read (read vs q) k = k vs q
on_read (failed e q) k = []

-- the packets that stand one behind another from the place p on; no more than n of them
abbrev pub packets_from : ℕ → List ℕ → ℕ → List Packet
packets_from zero d p = []
packets_from (suc n) d p = on_read (meaning packet_layout d p) (λ vs q. record { place = slice_index vs 1; size = slice_index vs 0 } ∷ packets_from n d q)

-- the packets that a reader inside a segment has before it
abbrev pub packets_left : SegmentReader → List Packet
packets_left s = packets_from (length (bytes_of (cut s))) (bytes_of (cut s)) s.reader.place

-- a packet as it is handed out: a part of the codestream itself
pub record MadePacket (s : SegmentReader) (x : PpmPacket) (vs : List ℕ) : Type 0 where
  pub place : x.place ≡ slice_index vs 1
  pub size : length x.«data».now ≡ slice_index vs 0
  pub bytes : IsPartOf (slice_index vs 0) s.reader.«data» (slice_index vs 1) x.«data»

-- the packets up to the segment's end
abbrev pub rest_layout : SegmentReader → Layout
rest_layout s = packets_layout (length (bytes_of (cut s))) s.reader.place

abbrev pub MadeCount : ℕ → List ℕ → Type 0
MadeCount n vs = n ≡ length (packets_of vs)

-- an accepted segment: its index, the number of its packets, and a reader that has all of them before it; its values are Lppm, the place
-- behind Lppm, Zppm, and those of the packets
pub record MadePpm (b : BitReader) (m : PpmMarkerData) (vs : List ℕ) : Type 0 where
  pub zppm : m.zppm ≡ slice_index vs 2
  pub count : m.count ≡ length (packets_of (drop 3 vs))
  pub packets : packets_left m.packets ≡ packets_of (drop 3 vs)
  pub stream : SameData b m.packets.reader

-- the packet that a part of the codestream is
abbrev pub packet_of : PpmPacket → Packet
packet_of x = record { place = x.place; size = length x.«data».now }

-- the first of the packets that are left, as a part of the codestream itself, and then the others are left; where none is left the reader
-- stays as it is
abbrev pub Hands : SegmentReader → SegmentReader → Option PpmPacket → Type 0
Hands b a None = (packets_left b ≡ []) × (a ≡ b)
Hands b a (Some x) =
    (packets_left b ≡ packet_of x ∷ packets_left a)
    × IsPartOf (length x.«data».now) b.reader.«data» x.place x.«data»
    × SameData b.reader a.reader

-- more steps than there are bytes change nothing
abbrev pub StepsEnough : Type 0
StepsEnough =
    (n end : ℕ) (d : List ℕ) (p : ℕ) → end ≤ p + n → meaning (until_end n end p) d p ≡ meaning (packets_layout end p) d p

abbrev pub StepsEnoughLeft : Type 0
StepsEnoughLeft = (n : ℕ) (d : List ℕ) (p : ℕ) → length d ≤ p + n → packets_from n d p ≡ packets_from (length d) d p
