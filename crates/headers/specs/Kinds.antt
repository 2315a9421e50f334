-- Which markers are taken in a main header and in a tile-part header (T.800 A.2, Table A.2).
use Rattle.std.specs.Prelude.{ℕ, if◌then◌else◌, ◌&&◌, ◌==◌, nat_le}
use Rattle.headers.specs.declared.kind.Kind.{Kind}
use Rattle.headers.specs.declared.kind.Kind.TheVariants.{Sot, Sod, Eoc, Cod, Coc, Qcd, Qcc, Ppm, Ppt, Rgn, Tlm, Plt, Com, Crg, Bare, Foreign}

-- 0xFF30 to 0xFF3F have no segment; any other is not taken
abbrev pub other_kind : ℕ → Kind
other_kind m = if nat_le 48 m && nat_le m 63 then Bare else Foreign

abbrev pub main_kind_of : ℕ → Kind
main_kind_of m =
    if m == 144 then Sot
    else if m == 82 then Cod
    else if m == 83 then Coc
    else if m == 92 then Qcd
    else if m == 93 then Qcc
    else if m == 96 then Ppm
    else if m == 94 then Rgn
    else if m == 85 then Tlm
    else if m == 100 then Com
    else if m == 99 then Crg
    else other_kind m

abbrev pub part_kind_of : ℕ → Kind
part_kind_of m =
    if m == 147 then Sod
    else if m == 217 then Eoc
    else if m == 82 then Cod
    else if m == 83 then Coc
    else if m == 92 then Qcd
    else if m == 93 then Qcc
    else if m == 97 then Ppt
    else if m == 88 then Plt
    else if m == 100 then Com
    else other_kind m
