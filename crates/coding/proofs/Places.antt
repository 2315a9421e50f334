-- The places of the fields of COD and COC.
use Rattle.std.proofs.Common.{◌≡◌, ℕ, zero, suc, ◌+◌, ◌<◌, ◌≤◌, Bool, true, false, cond, ltb, List, [], ◌∷◌, ◌++◌, length, get_or, sym, refl, ap, ◌∙◌, ap₂, add_assoc, add-one, arith, drop-cons}
use Rattle.reader.specs.Bytes.{byte_at, word_at, part}
use Rattle.layouts.specs.Indices.{index_width}
use Rattle.layouts.specs.Layouts.{read, reading, meaning, field, one, two, any, size, values_at}
use Rattle.layouts.proofs.Tables.{table_read, first_inside}
use Rattle.layouts.proofs.Times.{followed_read}
use Rattle.coding.specs.Styles.{bit}
use Rattle.coding.specs.Coding.{block_table, precinct_table, precincts_layout, precinct_size_count, parameters_layout, cod_table, coc_table}
use Rattle.coding.specs.Places.{parameters_at, CodPlaces, CocPlaces}

part_more : (n : ℕ) (d : List ℕ) (p : ℕ) → p < length d → part (suc n) d p ≡ byte_at d p ∷ part n d (p + 1)
part_more n d p h = rw (add-one, drop-cons d p 0) refl

precincts_at :
    (n : ℕ) (d : List ℕ) (p : ℕ) (vs : List ℕ) (q : ℕ) → meaning (precincts_layout n) d p ≡ read vs q → (vs ≡ part n d p) × (q ≡ p + n)
precincts_at zero d p vs q e = (cc, let s : q ≡ p = cc in omega arith)
precincts_at (suc n) d p vs q e =
    let s = followed_read (reading precinct_table d p []) _ vs q e in
    let a = table_read precinct_table d p [] s.ws s.middle s.first in
    let there : p + 1 ≤ length d = first_inside (field one any) [] d p [] s.ws s.middle s.first in
    let r = precincts_at n d s.middle s.us q s.second in (
      s.joined
          ∙ ap₂ ◌++◌ a.0 r.0
          ∙ ap (λ (m : ℕ). byte_at d p ∷ part n d m) a.1
          ∙ sym (part_more n d p (omega arith)),
      omega (arith, r.1, a.1),
    )

parameters_at_lem :
    (raw : ℕ) (d : List ℕ) (p : ℕ) (vs : List ℕ) (q : ℕ) → meaning (parameters_layout raw) d p ≡ read vs q
    → (vs ≡ parameters_at raw d p) × (q ≡ p + 5 + precinct_size_count raw (byte_at d p))
parameters_at_lem raw d p vs q e =
    let s = followed_read (reading block_table d p []) _ vs q e in
    let a = table_read block_table d p [] s.ws s.middle s.first in
    let levels : get_or s.ws 0 0 ≡ byte_at d p = ap (λ (l : List ℕ). get_or l 0 0) a.0 in
    let r = precincts_at (precinct_size_count raw (get_or s.ws 0 0)) d s.middle s.us q s.second in
    let n : precinct_size_count raw (get_or s.ws 0 0) ≡ precinct_size_count raw (byte_at d p) = ap (precinct_size_count raw) levels in
    let u : s.us ≡ part (precinct_size_count raw (byte_at d p)) d (p + 5) = r.0 ∙ ap₂ (λ (m k : ℕ). part m d k) n a.1 in
    let v : values_at block_table d p ≡ byte_at d p ∷ byte_at d (p + 1) ∷ byte_at d (p + 2) ∷ byte_at d (p + 3) ∷ byte_at d (p + 4) ∷ [] = simp add_assoc in
    (s.joined ∙ ap₂ ◌++◌ (a.0 ∙ v) u, omega (arith, r.1, a.1, n))

cod_long : (p : ℕ) (b : Bool) (n : ℕ) → p + 7 + 5 + cond b (n + 1) 0 ≡ p + cond b (13 + n) 12
cod_long p true n = omega arith
cod_long p false n = omega arith

pub cod_at : CodPlaces
cod_at d p vs q e =
    let s = followed_read (reading cod_table d p []) _ vs q e in
    let a = table_read cod_table d p [] s.ws s.middle s.first in
    let v : values_at cod_table d p ≡ word_at d p ∷ byte_at d (p + 2) ∷ byte_at d (p + 3) ∷ word_at d (p + 4) ∷ byte_at d (p + 6) ∷ [] = simp add_assoc in
    let scod : get_or s.ws 1 0 ≡ byte_at d (p + 2) = ap (λ (l : List ℕ). get_or l 1 0) a.0 in
    let r = parameters_at_lem (get_or s.ws 1 0) d s.middle s.us q s.second in
    let u : s.us ≡ parameters_at (byte_at d (p + 2)) d (p + 7) = r.0 ∙ ap₂ (λ (n k : ℕ). parameters_at n d k) scod a.1 in
    let end : q ≡ p + 7 + 5 + precinct_size_count (byte_at d (p + 2)) (byte_at d (p + 7)) =
    r.1 ∙ ap₂ (λ (n k : ℕ). k + 5 + precinct_size_count n (byte_at d k)) scod a.1 in
    record { values = s.joined ∙ ap₂ ◌++◌ (a.0 ∙ v) u; ends = end ∙ cod_long p (bit 0 (byte_at d (p + 2))) (byte_at d (p + 7)) }

coc_long :
    (p : ℕ) (one_byte b : Bool) (n : ℕ) → p + 3 + size (cond one_byte one two) + 5 + cond b (n + 1) 0
    ≡ p + cond one_byte (cond b (10 + n) 9) (cond b (11 + n) 10)
coc_long p true true n = omega arith
coc_long p true false n = omega arith
coc_long p false true n = omega arith
coc_long p false false n = omega arith

pub coc_at : CocPlaces
coc_at admits csiz d p vs q e =
    let s = followed_read (reading (coc_table admits csiz) d p []) _ vs q e in
    let a = table_read (coc_table admits csiz) d p [] s.ws s.middle s.first in
    let middle : s.middle ≡ p + 3 + size (index_width csiz) = omega (arith, a.1) in
    let scoc : get_or s.ws 2 0 ≡ byte_at d (p + 2 + size (index_width csiz)) = ap (λ (l : List ℕ). get_or l 2 0) a.0 in
    let r = parameters_at_lem (get_or s.ws 2 0) d s.middle s.us q s.second in
    let u : s.us ≡ parameters_at (byte_at d (p + 2 + size (index_width csiz))) d (p + 3 + size (index_width csiz)) =
    r.0 ∙ ap₂ (λ (n k : ℕ). parameters_at n d k) scoc middle in
    record {
      values = s.joined ∙ ap₂ ◌++◌ a.0 u;
      ends =
          r.1
          ∙ ap₂ (λ (n k : ℕ). k + 5 + precinct_size_count n (byte_at d k)) scoc middle
          ∙ coc_long p (ltb csiz 257) (bit 0 (byte_at d (p + 2 + size (index_width csiz)))) (byte_at d (p + 3 + size (index_width csiz)));
    }
