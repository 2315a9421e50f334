use Rattle.std.proofs.Common.{◌≡◌, ℕ, ◌-◌, length, ControlFlow}
use Rattle.settings.specs.declared.rows.PackedRow.{PackedRow}
use Rattle.main_packets.specs.Steps.{InHeader}
use Rattle.main_packets.proofs.nth_with_index.Given as goal

-- what is right from here on is right for the whole header
abbrev pub invariant-loop-found : goal.invariant-loop-found
invariant-loop-found l =
    record {
      onward :
          (r : ControlFlow PackedRow ℕ) → InHeader l.header.codestream.now l.header.csiz l.reader.place l.zppm l.left r
          → InHeader l.header.codestream.now l.header.csiz l.header.segments l.zppm l.n r;
      stream : l.reader.«data».now ≡ l.header.codestream.now;
    }

abbrev pub decreases-loop-found : goal.decreases-loop-found
decreases-loop-found l = length l.header.codestream.now - l.reader.place
