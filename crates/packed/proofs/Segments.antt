-- A PPM segment that is taken, and what stands inside it.
use Rattle.std.proofs.Common.{◌≡◌, ℕ, ◌+◌, ◌≤◌, List, ◌∷◌, length, take, Ok, Err, Result, refl, ◌∙◌, arith, rules, length-take, get_or-take, Bor}
use Rattle.faults.specs.declared.segment.ReadFault.{ReadFault}
use Rattle.reader.specs.Bytes.{IsByte, byte_at, word_at}
use Rattle.reader.specs.Reads.{Reads, bytes_of}
use Rattle.reader.specs.declared.reader.BitReader.{BitReader}
use Rattle.layouts.specs.Layouts.{read, values_of, here, Answers, Parses}
use Rattle.packed.specs.Segment.{segment_layout, cut, MadeSegment, AdvancesInside, ParsesInside}
use Rattle.packed.specs.Ppm.{ppm_reading, rest_layout, MadeCount, MadePpm}
use Rattle.packed.specs.declared.segment.SegmentReader.{SegmentReader}
use Rattle.packed.specs.declared.ppm.PpmMarkerData.{PpmMarkerData}
use Rattle.packed.proofs.Packets.{all_left}

-- a read that ends inside
pub cut_reads :
    {V : Type 0} (w : ℕ) (is js : Bor (List ℕ) → ℕ → V → Type 0) (b a : SegmentReader) (r : Result V ReadFault)
    → b.reader.place + w ≤ b.end → ((v : V) → is b.reader.«data» b.reader.place v → js (cut b).«data» b.reader.place v)
    → Reads w is b.reader a.reader r → Reads w js (cut b) (cut a) r
cut_reads w is js b a (Ok v) h k f = (omega (arith, f.0, length-take b.end (bytes_of b.reader)), k v f.1, f.2)
cut_reads w is js b a (Err e) h k f = (omega (arith, f.0, length-take b.end (bytes_of b.reader)), f.1, f.2)

-- the segment is taken from b to a, its Zppm is read from s to t, and its packets are counted from t to u
pub ppm_read :
    (code : ℕ) (b a : BitReader) (s t u : SegmentReader) (m : PpmMarkerData) → Parses {m = code} segment_layout (MadeSegment b) b a (Ok s)
    → AdvancesInside 1 IsByte s t (Ok m.zppm) → ParsesInside {m = code} (rest_layout t) MadeCount t u (Ok m.count) → m.packets ≡ t
    → Answers {m = code} (ppm_reading (bytes_of b) b.place) (MadePpm b) a (Ok m)
ppm_read code b a s t u m taken index counted mine =
    let start : s.reader.place ≡ b.place + 2 = search rules in
    let end : s.end ≡ a.place = search rules in
    let within : a.place ≤ length (bytes_of b) = search rules in
    let bytes : bytes_of (cut t) ≡ take a.place (bytes_of b) = search rules in
    let long : length (take a.place (bytes_of b)) ≡ a.place = omega (arith, length-take a.place (bytes_of b)) in
    let zppm : byte_at (take a.place (bytes_of b)) (b.place + 2) ≡ m.zppm = get_or-take a.place (bytes_of b) (b.place + 2) 0 (omega (arith, length-take s.end (bytes_of s.reader))) ∙ search rules in
    let vs = values_of (here (rest_layout t) (cut t)) in
    let left = all_left (length (bytes_of (cut t))) (length (bytes_of (cut t))) (bytes_of (cut t)) t.reader.place vs u.reader.place (omega arith) counted.0.0 in
    let r : ppm_reading (bytes_of b) b.place ≡ read (word_at (bytes_of b) b.place ∷ (b.place + 2) ∷ m.zppm ∷ vs) a.place = search rules in
    rw r (refl, record { zppm = refl; count = counted.0.1; packets = search rules; stream = search rules })
