-- The rows of one index.
use Rattle.std.proofs.Common.{◌≡◌, ℕ, ◌<◌, ◌==◌, List, [], ◌∷◌, ◌++◌, Break, Continue, ControlFlow, refl, arith}
use Rattle.std.proofs.lemmas.Bool.Decides.{nat_tests}
use Rattle.std.proofs.lemmas.List.Elements.{filter-append}
use Rattle.ordered.specs.Order.{with_index}
use Rattle.packed.specs.Ppm.{Packet}
use Rattle.settings.specs.declared.rows.PackedRow.{PackedRow}
use Rattle.main_packets.specs.Packets.{rows_of, index}
use Rattle.main_packets.specs.Steps.{Nth, NthWith, Bytes}
use Rattle.main_packets.proofs.Rows.{nth_before, nth_behind}

with_all : (z : ℕ) (ps : List Packet) → with_index index z (rows_of z ps) ≡ rows_of z ps
with_all z [] = refl
with_all z (p ∷ ps) = let ih = with_all z ps in grind (arith, nat_tests)

with_none : (y z : ℕ) (ps : List Packet) → (y ≡ z → ⊥) → with_index index z (rows_of y ps) ≡ []
with_none y z [] h = refl
with_none y z (p ∷ ps) h = let ih = with_none y z ps h in grind (arith, nat_tests)

bytes_of : (z : ℕ) (ps : List Packet) → z < 256 → Bytes (rows_of z ps)
bytes_of z ps l n h = with_none z n ps (λ e. omega arith)

-- a segment with this index, and one with another
pub same_index :
    (z : ℕ) (ps : List Packet) (n : ℕ) (r : ControlFlow PackedRow ℕ) → z < 256 → Nth (rows_of z ps) n r → NthWith z (rows_of z ps) n r
same_index z ps n (Break x) l h = rw (with_all z ps) h
same_index z ps n (Continue m) l h = (rw (with_all z ps) h, bytes_of z ps l)

pub other_index : (y z : ℕ) (ps : List Packet) (n : ℕ) → y < 256 → (y ≡ z → ⊥) → NthWith z (rows_of y ps) n (Continue n)
other_index y z ps n l h = (rw (with_none y z ps h) (omega arith), bytes_of y ps l)

-- among the first rows, and behind them
pub with_before : (A B : List PackedRow) (z n : ℕ) (x : PackedRow) → NthWith z A n (Break x) → NthWith z (A ++ B) n (Break x)
with_before A B z n x h =
    rw (filter-append (λ y. index y == z) A B) (nth_before (with_index index z A) (with_index index z B) n x h)

bytes_append : (A B : List PackedRow) → Bytes A → Bytes B → Bytes (A ++ B)
bytes_append A B a b n h = rw (filter-append (λ y. index y == n) A B, a n h) (b n h)

pub with_behind :
    (A B : List PackedRow) (z n m : ℕ) (r : ControlFlow PackedRow ℕ) → NthWith z A n (Continue m) → NthWith z B m r → NthWith z (A ++ B) n r
with_behind A B z n m (Break x) a b =
    rw (filter-append (λ y. index y == z) A B) (nth_behind (with_index index z A) (with_index index z B) n m (Break x) a.0 b)
with_behind A B z n m (Continue o) a b = (
  rw (filter-append (λ y. index y == z) A B) (nth_behind (with_index index z A) (with_index index z B) n m (Continue o) a.0 b.0),
  bytes_append A B a.1 b.1,
)
