-- A row among rows that stand one behind another.
use Rattle.std.proofs.Common.{◌≡◌, ℕ, ◌+◌, ◌≤◌, List, ◌++◌, length, Some, None, Break, Continue, ControlFlow, refl, ap, arith, rules}
use Rattle.std.proofs.lemmas.List.{places}
use Rattle.std.proofs.lemmas.Option.{slice_get-map, gets}
use Rattle.std.proofs.lemmas.Grind.{common_steps}
use Rattle.std.specs.Prelude.{slice_get}
use Rattle.std.proofs.lemmas.Iterator.{YieldsList}
use Rattle.std.proofs.lemmas.Iterator.Consumers.{YieldsList-from_shown}
use Rattle.packed.specs.Ppm.{Packet, Hands, packet_of, packets_left}
use Rattle.packed.specs.declared.segment.SegmentReader.{SegmentReader}
use Rattle.settings.specs.declared.rows.PackedRow.{PackedRow}
use Rattle.main_packets.specs.Packets.{row_of, rows_of}
use Rattle.main_packets.specs.Steps.{Nth}

pub nth_before : (A B : List PackedRow) (n : ℕ) (x : PackedRow) → Nth A n (Break x) → Nth (A ++ B) n (Break x)
nth_before A B n x h = search (rules, places)

pub nth_behind :
    (A B : List PackedRow) (n m : ℕ) (r : ControlFlow PackedRow ℕ) → n ≡ length A + m → Nth B m r → Nth (A ++ B) n r
nth_behind A B n m (Break x) e h = rw e (search (rules, places))
nth_behind A B n m (Continue o) e h = search (rules, places)

-- a reader hands out the packets that it has left
pub packets_listed : (s : SegmentReader) → YieldsList (λ b r a. Hands b a r) packet_of s (packets_left s)
packets_listed s =
    YieldsList-from_shown (λ b r a. Hands b a r) packet_of packets_left (λ b a h. ap (λ (ps : List Packet). length ps) h.0) (λ b x a h. h.0) s

-- a packet of a segment, and a number that is not below theirs
pub nth_found : (z : ℕ) (ps : List Packet) (n : ℕ) (x : Packet) → slice_get ps n ≡ Some x → Nth (rows_of z ps) n (Break (row_of z x))
nth_found z ps n x e =
    let at : slice_get (rows_of z ps) n ≡ Some (row_of z x) = rw (slice_get-map (row_of z) ps n, e) refl in
    grind (arith, common_steps, gets)

pub nth_past : (ps : List Packet) (n : ℕ) → slice_get ps n ≡ None → length ps ≤ n
nth_past ps n e = grind (arith, common_steps, gets)
