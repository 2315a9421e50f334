-- A marker segment taken as a whole: its length, which counts its own two bytes, and the bytes behind it (T.800 A.1).
use Rattle.std.specs.Prelude.{◌≡◌, ℕ, ◌+◌, ◌-◌, ◌<◌, ◌≤◌, List, [], ◌∷◌, take, Ok, Err, Result, slice_index}
use Rattle.std.specs.Borrow.{Bor}
use Rattle.faults.specs.declared.segment.ReadFault.{ReadFault}
use Rattle.faults.specs.declared.segment.SegmentFault.{SegmentFault}
use Rattle.reader.specs.Reads.{Reads, bytes_of, SameData}
use Rattle.reader.specs.declared.reader.BitReader.{BitReader}
use Rattle.layouts.specs.Layouts.{Layout, Reading, read, failed, field, fields, behind, two, run, any, at_least, Answers, here}
use Rattle.packed.specs.declared.segment.SegmentReader.{SegmentReader}

abbrev pub segment_layout : Layout
segment_layout = behind (fields (field two (at_least 2) ∷ [])) (λ vs. fields (field (run (slice_index vs 0 - 2)) any ∷ []))

-- the place where a reading ends, accepted or refused
abbrev pub place_after : Reading → ℕ
place_after (read vs q) = q
place_after (failed e q) = q

-- a reader inside a segment reads the codestream as it is cut at the segment's end
abbrev pub cut : SegmentReader → BitReader
cut s = record { «data» = record s.reader.«data» { now = take s.end (bytes_of s.reader) }; place = s.reader.place }

-- only the place moves
pub record Inside (b a : SegmentReader) : Type 0 where
  pub stream : SameData b.reader a.reader
  pub end : a.end ≡ b.end

-- a read of w bytes of the codestream that ends inside the segment
abbrev pub AdvancesInside : {V : Type 0} → ℕ → (Bor (List ℕ) → ℕ → V → Type 0) → SegmentReader → SegmentReader → Result V ReadFault → Type 0
AdvancesInside w is b a r = Reads w (λ _. is b.reader.«data») (cut b) (cut a) r × Inside b a

-- a call that parses a layout inside the segment
abbrev pub ParsesInside : {V : Type 0} {m : ℕ} → Layout → (V → List ℕ → Type 0) → SegmentReader → SegmentReader → Result V (SegmentFault m) → Type 0
ParsesInside l is b a r = Answers (here l (cut b)) is (cut a) r × Inside b a

abbrev pub HasRoom : {V : Type 0} → ℕ → SegmentReader → Result V ReadFault → Type 0
HasRoom n s (Ok v) = s.reader.place + n ≤ s.end
HasRoom n s (Err e) = (s.end < s.reader.place + n) × (e ≡ record { place = s.reader.place })

-- the reader of a segment that is taken: where its bytes begin, and where they end
pub record MadeSegment (b : BitReader) (s : SegmentReader) (vs : List ℕ) : Type 0 where
  pub stream : SameData b s.reader
  pub start : s.reader.place ≡ slice_index vs 1
  pub end : s.end ≡ slice_index vs 1 + (slice_index vs 0 - 2)
