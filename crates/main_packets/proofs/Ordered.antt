-- Rows in order of their index: those of the lowest index come first.
use Rattle.std.proofs.Common.{◌≡◌, ℕ, suc, ◌+◌, ◌<◌, ◌≤◌, List, [], ◌∷◌, ◌++◌, length, Some, None, Break, Continue, Option, ControlFlow, refl, ◌∙◌, arith}
use Rattle.std.proofs.lemmas.Bool.Decides.{nat_tests}
use Rattle.std.proofs.lemmas.List.Elements.{All-tail}
use Rattle.std.specs.Prelude.{filter, nat_le, All}
use Rattle.std.specs.List.Sorted.{IsNonDecreasingBy}
use Rattle.headers.proofs.Once.{some_main}
use Rattle.ordered.specs.Order.{Arranged, RowAt, placed_all, with_index}
use Rattle.ordered.proofs.Arrangement.{arrangement_law}
use Rattle.settings.specs.declared.rows.PackedRow.{PackedRow}
use Rattle.main_packets.specs.Packets.{rows_in, index, PacketAt}
use Rattle.main_packets.specs.Steps.{Nth, Bytes, InHeader}
use Rattle.main_packets.proofs.Rows.{nth_before, nth_behind}

-- those whose index is z or more
abbrev pub from : ℕ → List PackedRow → List PackedRow
from z ys = filter (λ y. nat_le z (index y)) ys

from_zero : (ys : List PackedRow) → from 0 ys ≡ ys
from_zero [] = refl
from_zero (y ∷ ys) = let ih = from_zero ys in grind (arith, nat_tests)

with_low : (z : ℕ) (ys : List PackedRow) → All (λ y. z < index y) ys → with_index index z ys ≡ []
with_low z [] l = refl
with_low z (y ∷ ys) l = let ih = with_low z ys (All-tail (λ x. z < index x) y ys l) in let first = l 0 y (omega arith) in grind (arith, nat_tests)

from_next : (z : ℕ) (ys : List PackedRow) → IsNonDecreasingBy index ys → from z ys ≡ with_index index z ys ++ from (z + 1) ys
from_next z [] r = refl
from_next z (y ∷ ys) r =
    let ih = from_next z ys (λ i j d le lt. r (suc i) (suc j) d (omega arith) (omega arith)) in
    let low : z < index y → with_index index z ys ≡ [] =
    λ l. with_low z ys (λ k d lt. omega (arith, r 0 (suc k) d (omega arith) (omega arith))) in
    grind (arith, nat_tests)

from_end : (z : ℕ) (ys : List PackedRow) → ((n : ℕ) → z ≤ n → with_index index n ys ≡ []) → from z ys ≡ []
from_end z [] h = refl
from_end z (y ∷ ys) h =
    let first = h (index y) in
    let ih = from_end z ys (λ n m. let k = h n m in grind (arith, nat_tests)) in
    grind (arith, nat_tests)

-- the packets of a header as they stand, and in their order
abbrev standing_rows : List ℕ → ℕ → ℕ → List PackedRow
standing_rows d csiz p = rows_in (some_main d csiz p).0

abbrev ordered_rows : List ℕ → ℕ → ℕ → List PackedRow
ordered_rows d csiz p = placed_all index (standing_rows d csiz p) []

ordered : (d : List ℕ) (csiz p : ℕ) → Arranged PackedRow index (standing_rows d csiz p) (ordered_rows d csiz p)
ordered d csiz p = (arrangement_law index).one (standing_rows d csiz p)

-- packet k of all is packet n of those whose index is z or more
pub record Left (d : List ℕ) (csiz p k z n : ℕ) : Type 0 where
  pub onward : (r : ControlFlow PackedRow ℕ) → Nth (from z (ordered_rows d csiz p)) n r → Nth (ordered_rows d csiz p) k r
  pub bytes : 0 < z → Bytes (standing_rows d csiz p)

pub left_all : (d : List ℕ) (csiz p k : ℕ) → Left d csiz p k 0 k
left_all d csiz p k =
    record {
      onward = λ r h. rw (from_zero (ordered_rows d csiz p)) at h;
      bytes = λ l. absurd (omega arith);
    }

-- those of index z, and then the others
next_rows :
    (d : List ℕ) (csiz p z : ℕ)
    → from z (ordered_rows d csiz p) ≡ with_index index z (standing_rows d csiz p) ++ from (z + 1) (ordered_rows d csiz p)
next_rows d csiz p z =
    let a = ordered d csiz p in
    rw (← a.equals_as_arrived z) (from_next z (ordered_rows d csiz p) a.in_order)

answered :
    (d : List ℕ) (csiz p k : ℕ) (r : Option PackedRow) → RowAt (ordered_rows d csiz p) (length (ordered_rows d csiz p)) k r
    → PacketAt d csiz p k r
answered d csiz p k r h =
    let x = some_main d csiz p in
    record {
      segments = x.0;
      ending = x.1;
      header = x.2;
      packets = ordered_rows d csiz p;
      arranged = ordered d csiz p;
      row = h;
    }

pub left_found :
    {d : List ℕ} {csiz p k z n : ℕ} (x : PackedRow) → Left d csiz p k z n → InHeader d csiz p z n (Break x) → PacketAt d csiz p k (Some x)
left_found {d} {csiz} {p} {k} {z} {n} x left h =
    let s = some_main d csiz p in
    answered d csiz p k (Some x)
    (left.onward (Break x)
    (rw (next_rows d csiz p z)
    (nth_before (with_index index z (standing_rows d csiz p)) (from (z + 1) (ordered_rows d csiz p)) n x (h s.0 s.1 s.2))))

pub left_others :
    {d : List ℕ} {csiz p k z n : ℕ} (m : ℕ) → Left d csiz p k z n → InHeader d csiz p z n (Continue m) → Left d csiz p k (z + 1) m
left_others {d} {csiz} {p} {k} {z} {n} m left h =
    let s = some_main d csiz p in
    let few = h s.0 s.1 s.2 in
    record {
      onward =
          λ r g.
          left.onward r
          (rw (next_rows d csiz p z)
          (nth_behind (with_index index z (standing_rows d csiz p)) (from (z + 1) (ordered_rows d csiz p)) n m r few.0 g));
      bytes = λ _. few.1;
    }

pub left_none : {d : List ℕ} {csiz p k z n : ℕ} → 256 ≤ z → Left d csiz p k z n → PacketAt d csiz p k None
left_none {d} {csiz} {p} {k} {z} {n} far left =
    let a = ordered d csiz p in
    let none =
    from_end z (ordered_rows d csiz p) (λ i l. a.equals_as_arrived i ∙ left.bytes (omega arith) i (omega arith)) in
    let all = left.onward (Continue n) (rw none (omega arith)) in
    answered d csiz p k None (omega arith)
