-- One of the packets among those of one segment, and among those of one Zppm.
use Rattle.std.specs.Prelude.{◌≡◌, ℕ, ◌+◌, ◌≤◌, List, [], length, Some}
use Rattle.std.specs.declared.ops.ControlFlow.{ControlFlow}
use Rattle.std.specs.declared.ops.ControlFlow.TheVariants.{Break, Continue}
use Rattle.headers.specs.Standing.{Item, Ending, ppm}
use Rattle.headers.specs.Grammar.{MainHeaded}
use Rattle.layouts.specs.Layouts.{read}
use Rattle.ordered.specs.Order.{RowAt, with_index}
use Rattle.packed.specs.Ppm.{ppm_reading}
use Rattle.settings.specs.declared.rows.PackedRow.{PackedRow}
use Rattle.main_packets.specs.Packets.{rows_by, rows_in, index}

-- row n; or by how much n passes the number of rows
abbrev pub Nth : List PackedRow → ℕ → ControlFlow PackedRow ℕ → Type 0
Nth rows n (Break x) = RowAt rows (length rows) n (Some x)
Nth rows n (Continue m) = n ≡ length rows + m

-- Zppm is a byte
abbrev pub Bytes : List PackedRow → Type 0
Bytes rows = (n : ℕ) → 256 ≤ n → with_index index n rows ≡ []

-- row n of those whose Zppm is z
abbrev pub NthWith : ℕ → List PackedRow → ℕ → ControlFlow PackedRow ℕ → Type 0
NthWith z rows n (Break x) = Nth (with_index index z rows) n (Break x)
NthWith z rows n (Continue m) = Nth (with_index index z rows) n (Continue m) × Bytes rows

-- in the PPM segment that stands at p
abbrev pub InSegment : List ℕ → ℕ → ℕ → ℕ → ControlFlow PackedRow ℕ → Type 0
InSegment d p z n r = (vs : List ℕ) (q : ℕ) → ppm_reading d p ≡ read vs q → NthWith z (rows_by ppm vs) n r

-- in the main header whose segments stand from p on
abbrev pub InHeader : List ℕ → ℕ → ℕ → ℕ → ℕ → ControlFlow PackedRow ℕ → Type 0
InHeader d csiz p z n r = (xs : List Item) (e : Ending) → MainHeaded d csiz p xs e → NthWith z (rows_in xs) n r
