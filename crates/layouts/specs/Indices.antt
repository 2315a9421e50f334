-- The component index of COC and QCC (T.800 A.6.2 and A.6.5).
use Rattle.std.specs.Prelude.{◌≡◌, ℕ, Bool, true, if◌then◌else◌, List, [], ◌∷◌, nat_lt}
use Rattle.std.specs.Borrow.{Bor}
use Rattle.layouts.specs.Layouts.{Width, Layout, one, two, value_at, field, fields}
use Rattle.layouts.specs.declared.header.HeaderKind.{HeaderKind}
use Rattle.layouts.specs.declared.header.HeaderKind.TheVariants.{Main, TilePart}

-- one byte where Csiz is below 257, and two elsewhere
abbrev pub index_width : ℕ → Width
index_width csiz = if nat_lt csiz 257 then one else two

abbrev pub IsIndex : ℕ → Bor (List ℕ) → ℕ → ℕ → Type 0
IsIndex csiz s p v = v ≡ value_at (index_width csiz) s.now p

-- in a main header, a component index is below Csiz
abbrev pub indexed : HeaderKind → ℕ → List ℕ → ℕ → Bool
indexed Main csiz vs v = nat_lt v csiz
indexed TilePart csiz vs v = true

-- the index as a layout of its own
abbrev pub index_layout : HeaderKind → ℕ → Layout
index_layout header csiz = fields (field (index_width csiz) (indexed header csiz) ∷ [])

abbrev pub IsAlone : ℕ → List ℕ → Type 0
IsAlone v vs = vs ≡ v ∷ []
