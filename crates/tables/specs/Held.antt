-- The tables hold what a book counts.
use Rattle.std.specs.Prelude.{Bool, ◌&&◌, ◌*◌, nat_le, length}
use Rattle.tables.specs.State.{State}
use Rattle.tables.specs.declared.book.OpenBook.{OpenBook}

abbrev pub held : OpenBook → State → Bool
held b s =
    nat_le b.size.csiz (length s.components)
    && nat_le b.tiles (length s.tiles)
    && nat_le (b.tiles * b.size.csiz) (length s.settings)
    && nat_le b.packets (length s.packets)
    && nat_le b.parts (length s.parts)
    && nat_le b.headers (length s.headers)
