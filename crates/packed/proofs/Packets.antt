-- The packets of a PPM segment: that steps enough do not show, and how far a loop that reads them has come.
use Rattle.std.proofs.Common.{◌≡◌, ℕ, zero, suc, ◌+◌, ◌≤◌, List, [], ◌∷◌, length, get_or, refl, ap, arith, rules}
use Rattle.reader.specs.Bytes.{long_at}
use Rattle.reader.specs.Reads.{bytes_of}
use Rattle.layouts.specs.Layouts.{Reading, read, failed, meaning, prefixed, here}
use Rattle.packed.specs.Segment.{cut, Inside}
use Rattle.packed.specs.Ppm.{packet_layout, until_end, packets_from, packets_of, packets_left, rest_layout}
use Rattle.packed.specs.declared.segment.SegmentReader.{SegmentReader}

-- what a packet that is read says
pub record PacketRead (d : List ℕ) (p : ℕ) (vs : List ℕ) (q : ℕ) : Type 0 where
  pub values : vs ≡ long_at d p ∷ (p + 4) ∷ []
  pub after : q ≡ p + 4 + long_at d p
  pub onward : get_or vs 1 0 + get_or vs 0 0 ≡ q
  pub within : q ≤ length d

pub packet_read : (d : List ℕ) (p : ℕ) (vs : List ℕ) (q : ℕ) → meaning packet_layout d p ≡ read vs q → PacketRead d p vs q
packet_read d p vs q e =
    record { values = search rules; after = search rules; onward = search rules; within = search rules }

pub steps_same :
    (m n end : ℕ) (d : List ℕ) (p : ℕ) → end ≤ p + m → end ≤ p + n → meaning (until_end m end p) d p ≡ meaning (until_end n end p) d p
steps_same zero zero end d p h k = refl
steps_same zero (suc n) end d p h k = search rules
steps_same (suc m) zero end d p h k = search rules
steps_same (suc m) (suc n) end d p h k = let ih = steps_same m n end d (p + 4 + long_at d p) in search rules

pub left_same : (m n : ℕ) (d : List ℕ) (p : ℕ) → length d ≤ p + m → length d ≤ p + n → packets_from m d p ≡ packets_from n d p
left_same zero zero d p h k = refl
left_same zero (suc n) d p h k = search rules
left_same (suc m) zero d p h k = search rules
left_same (suc m) (suc n) d p h k = let ih = left_same m n d (p + 4 + long_at d p) in search rules

-- all packets of a segment that is read are left before it
pub all_left :
    (n end : ℕ) (d : List ℕ) (p : ℕ) (vs : List ℕ) (q : ℕ) → length d ≤ end → meaning (until_end n end p) d p ≡ read vs q
    → packets_from n d p ≡ packets_of vs
all_left zero end d p vs q h e = search rules
all_left (suc n) end d p vs q h e = go (meaning (until_end n end (p + 4 + long_at d p)) d (p + 4 + long_at d p)) refl (all_left n end d (p + 4 + long_at d p))
  where
    go :
        (R : Reading) → meaning (until_end n end (p + 4 + long_at d p)) d (p + 4 + long_at d p) ≡ R
        → ((us : List ℕ) (u : ℕ) → length d ≤ end → meaning (until_end n end (p + 4 + long_at d p)) d (p + 4 + long_at d p) ≡ read us u → packets_from n d (p + 4 + long_at d p) ≡ packets_of us)
        → packets_from (suc n) d p ≡ packets_of vs
    go (read us u) f ih = let same = ih us u h f in search rules
    go (failed x u) f ih = search rules

-- a reader that moved reads the same bytes
pub inside_bytes : (s t : SegmentReader) → Inside s t → bytes_of (cut t) ≡ bytes_of (cut s)
inside_bytes s t i = rw (i.end, i.stream) refl

-- a packet, and those behind it
pub rest_more :
    (l m : SegmentReader) (ws : List ℕ) → Inside l m → here packet_layout (cut l) ≡ read ws m.reader.place
    → here (rest_layout l) (cut l) ≡ prefixed ws (here (rest_layout m) (cut m))
rest_more l m ws i e =
    let d = bytes_of (cut l) in
    let a = steps_same (length d) (suc (length d)) (length d) d l.reader.place (omega arith) (omega arith) in
    rw (i.end, i.stream) (search rules)

pub left_more :
    (l m : SegmentReader) (ws : List ℕ) → Inside l m → here packet_layout (cut l) ≡ read ws m.reader.place
    → packets_left l ≡ record { place = get_or ws 1 0; size = get_or ws 0 0 } ∷ packets_left m
left_more l m ws i e =
    let d = bytes_of (cut l) in
    let a = left_same (length d) (suc (length d)) d l.reader.place (omega arith) (omega arith) in
    rw (i.end, i.stream) (search rules)

-- a reading of packets behind k others, with their number for their values
abbrev pub counted : ℕ → Reading → Reading
counted k (read vs q) = read ((k + length (packets_of vs)) ∷ []) q
counted k (failed e q) = failed e q

counted_more : (k n p : ℕ) (R : Reading) → counted k (prefixed (n ∷ p ∷ []) R) ≡ counted (k + 1) R
counted_more k n p (read vs q) = ap (λ m. read (m ∷ []) q) (omega arith)
counted_more k n p (failed e q) = refl

pub turn_more :
    (l m : SegmentReader) (ws : List ℕ) (k : ℕ) → Inside l m → here packet_layout (cut l) ≡ read ws m.reader.place
    → counted k (here (rest_layout l) (cut l)) ≡ counted (k + 1) (here (rest_layout m) (cut m))
turn_more l m ws k i e =
    let values : ws ≡ long_at (bytes_of (cut l)) l.reader.place ∷ (l.reader.place + 4) ∷ [] = search rules in
    rw (rest_more l m ws i e, values) (counted_more k _ _ (here (rest_layout m) (cut m)))
