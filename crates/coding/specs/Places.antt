-- Where the fields of COD and COC stand, and where the segments end.
use Rattle.std.specs.Prelude.{◌≡◌, ℕ, ◌+◌, Bool, if◌then◌else◌, List, ◌∷◌, nat_lt}
use Rattle.reader.specs.Bytes.{byte_at, word_at, part}
use Rattle.layouts.specs.Indices.{index_width}
use Rattle.layouts.specs.Layouts.{read, meaning, size, value_at}
use Rattle.coding.specs.Styles.{bit}
use Rattle.coding.specs.Coding.{cod_layout, coc_of, precinct_size_count}

-- (A-2)
abbrev pub cod_length : ℕ → ℕ → ℕ
cod_length scod levels = if bit 0 scod then 13 + levels else 12

-- (A-3)
abbrev pub coc_length : ℕ → ℕ → ℕ → ℕ
coc_length csiz scoc levels = if nat_lt csiz 257 then if bit 0 scoc then 10 + levels else 9 else if bit 0 scoc then 11 + levels else 10

-- the coding parameters from the place p on
abbrev pub parameters_at : ℕ → List ℕ → ℕ → List ℕ
parameters_at scod d p =
    byte_at d p ∷ byte_at d (p + 1) ∷ byte_at d (p + 2) ∷ byte_at d (p + 3) ∷ byte_at d (p + 4) ∷ part (precinct_size_count scod (byte_at d p)) d (p + 5)

-- the values of an accepted COD whose length field begins at p, and its end
pub record CodAt (d : List ℕ) (p : ℕ) (vs : List ℕ) (q : ℕ) : Type 0 where
  pub values :
      vs ≡ word_at d p ∷ byte_at d (p + 2) ∷ byte_at d (p + 3) ∷ word_at d (p + 4) ∷ byte_at d (p + 6) ∷ parameters_at (byte_at d (p + 2)) d (p + 7)
  pub ends : q ≡ p + cod_length (byte_at d (p + 2)) (byte_at d (p + 7))

abbrev pub CodPlaces : Type 0
CodPlaces = (d : List ℕ) (p : ℕ) (vs : List ℕ) (q : ℕ) → meaning cod_layout d p ≡ read vs q → CodAt d p vs q

-- the values of an accepted COC, whose index has w bytes, and its end
pub record CocAt (csiz w : ℕ) (d : List ℕ) (p : ℕ) (vs : List ℕ) (q : ℕ) : Type 0 where
  pub values :
      vs ≡ word_at d p ∷ value_at (index_width csiz) d (p + 2) ∷ byte_at d (p + 2 + w) ∷ parameters_at (byte_at d (p + 2 + w)) d (p + 3 + w)
  pub ends : q ≡ p + coc_length csiz (byte_at d (p + 2 + w)) (byte_at d (p + 3 + w))

abbrev pub CocPlaces : Type 0
CocPlaces =
    (admits : List ℕ → ℕ → Bool) (csiz : ℕ) (d : List ℕ) (p : ℕ) (vs : List ℕ) (q : ℕ) → meaning (coc_of admits csiz) d p ≡ read vs q
    → CocAt csiz (size (index_width csiz)) d p vs q
