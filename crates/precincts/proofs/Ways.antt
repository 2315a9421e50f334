-- The places and spans of a resolution's precincts in one direction.
use Rattle.std.proofs.Common.{◌≡◌, ℕ, ◌+◌, ◌-◌, ◌*◌, ◌/◌, ◌%◌, ◌^◌, ◌<◌, ◌≤◌, Bool, true, false, cond, eqb, ltb, ◌⊎◌, get_or, sym, refl, ap, ◌∙◌, subst, ap₂, inl, inr, mul-le-mul_right, mod-lt, mul_assoc, mul_comm, mul-pos, div-add-mod', le-mul_of_pos_right, div-mul-le_self, le_of_mul-le-mul_right, arith, pow_pos, pow-add, pow_mono}
use Rattle.std.proofs.lemmas.Bool.{cases_lt, cond-false, cond-true, cond_both, leb-false, leb-true, ltb-true, ne_eqb, eq-eqb}
use Rattle.std.proofs.lemmas.List.FromFn.{fill_by_all}
use Rattle.std.proofs.lemmas.Bool.Decides.{nat_tests}
use Rattle.rect.specs.Numbers.{ceil}
use Rattle.rect.proofs.Ceil.{ceil_up, le_ceil}
use Rattle.precincts.specs.Places.{above, first}
use Rattle.precincts.specs.Precincts.{Direction, count, cover, far, first_start_of, halved, reach, start, starts, stride}
use Rattle.precincts.specs.Laws.{PrecinctLaws}
use Rattle.precincts.proofs.Multiples.{next_multiples, ceil_ceil, length_climb, climb_at, first_cell, cell_before, first_before, first_behind}

-- points of the reference grid to one of the resolution
abbrev unit : Direction → ℕ
unit d = d.step * 2 ^ (d.levels - d.r)

abbrev side : Direction → ℕ
side d = 2 ^ d.exponent

unit_pos : (d : Direction) → 0 < d.step → 0 < unit d
unit_pos d s = mul-pos s (pow_pos (d.levels - d.r))

stride_unit : (d : Direction) → stride d ≡ unit d * side d
stride_unit d =
    ap (λ n. d.step * n) (pow-add 2 d.exponent (d.levels - d.r) ∙ mul_comm (side d) (2 ^ (d.levels - d.r)))
    ∙ sym (mul_assoc d.step (2 ^ (d.levels - d.r)) (side d))

pub stride_pos : (d : Direction) → 0 < d.step → 0 < stride d
stride_pos d s = mul-pos s (pow_pos (d.exponent + (d.levels - d.r)))

pub stride_small : (d : Direction) → d.step < 2 ^ 8 → d.exponent ≤ 15 → d.levels ≤ 32 → stride d < 2 ^ 55
stride_small d s e l =
    let n = d.exponent + (d.levels - d.r) in
    omega (arith, mul-le-mul_right {m = d.step} {n = 255} (2 ^ n) (omega arith), pow_mono {i = n} {j = 47} (omega arith))

reach_from : (d : Direction) → 0 < d.step → (reach d).from ≡ ceil d.over.from (unit d)
reach_from d s = ceil_ceil d.over.from d.step (2 ^ (d.levels - d.r)) s (pow_pos (d.levels - d.r))

reach_to : (d : Direction) → 0 < d.step → (reach d).to ≡ ceil d.over.to (unit d)
reach_to d s = ceil_ceil d.over.to d.step (2 ^ (d.levels - d.r)) s (pow_pos (d.levels - d.r))

-- a number below the count is that of a cell of a span that is not empty
pub count_some : (d : Direction) (k : ℕ) → k < count d → ((reach d).from < (reach d).to) × ((reach d).from / side d + k < ceil (reach d).to (side d))
count_some d k h = go (ltb (reach d).from (reach d).to) refl h
  where
    go : (t : Bool) → ltb (reach d).from (reach d).to ≡ t → k < cond t (ceil (reach d).to (side d) - (reach d).from / side d) 0
        → ((reach d).from < (reach d).to) × ((reach d).from / side d + k < ceil (reach d).to (side d))
    go true e l = (ltb-true (reach d).from (reach d).to e, omega arith)
    go false e l = absurd (omega arith)

-- where the span is not empty, the first cell lies before its end
pub cells_up : (a b p : ℕ) → 0 < p → a ≤ b → a / p ≤ ceil b p
cells_up a b p pos h = le_of_mul-le-mul_right {k = p} (omega (arith, div-mul-le_self a p, le_ceil b p pos)) pos

pub later_before : (d : Direction) → 0 < d.step → (k : ℕ) → k < count d → ((reach d).from / side d + k) * stride d < d.over.to
later_before d s k h =
    let q = (reach d).from / side d + k in
    let l : q < ceil (ceil d.over.to (unit d)) (side d) = subst (λ (n : ℕ). q < ceil n (side d)) (reach_to d s) (count_some d k h).1 in
    subst (λ (n : ℕ). q * n < d.over.to) (sym (stride_unit d)) (cell_before (unit d) (side d) d.over.to q (unit_pos d s) (pow_pos d.exponent) l)

first_in : (d : Direction) → 0 < d.step → first_start_of d / stride d ≡ (reach d).from / side d
first_in d s =
    ap₂ (λ n u. first n (side d) d.over.from u / n) (stride_unit d) (reach_from d s)
    ∙ first_cell (unit d) (side d) d.over.from (unit_pos d s) (pow_pos d.exponent) ∙ sym (ap (λ u. u / side d) (reach_from d s))

some_over : (d : Direction) → 0 < d.step → (reach d).from < (reach d).to → d.over.from < d.over.to
some_over d s h = go (cases_lt d.over.from d.over.to)
  where
    go : (d.over.from < d.over.to) ⊎ (d.over.to ≤ d.over.from) → d.over.from < d.over.to
    go (inl k) = k
    go (inr k) = absurd (omega (arith, h, reach_from d s, reach_to d s, ceil_up (unit d) (unit_pos d s) d.over.to d.over.from k))

first_inside : (d : Direction) → 0 < d.step → 0 < count d → first_start_of d < d.over.to
first_inside d s h =
    let some = count_some d 0 h in
    let p = side d in
    let q : ceil d.over.from (unit d) / p < ceil (ceil d.over.to (unit d)) p =
    subst (λ (n : ℕ). n / p < ceil (ceil d.over.to (unit d)) p) (reach_from d s)
    (subst (λ (n : ℕ). (reach d).from / p < ceil n p) (reach_to d s) (omega (arith, some.1))) in
    subst (λ (n : ℕ). n < d.over.to) (sym (ap₂ (λ n u. first n p d.over.from u) (stride_unit d) (reach_from d s)))
    (first_before (unit d) p d.over.from d.over.to (unit_pos d s) (pow_pos d.exponent) (some_over d s some.0) q)

pub place : (d : Direction) → 0 < d.step → (k : ℕ) → k < count d → get_or (starts d) k 0 ≡ start d k
place d s k h =
    climb_at (stride d) (stride_pos d s) (first_start_of d) (count d) k h
    ∙ ap (λ q. cond (eqb k 0) (first_start_of d) ((q + k) * stride d)) (first_in d s)

-- every place lies in the tile
pub inside : (d : Direction) → 0 < d.step → (k : ℕ) → k < count d → start d k < d.over.to
inside d s k h =
    cond_both (eqb k 0) (first_start_of d) (((reach d).from / side d + k) * stride d) (λ x. x < d.over.to)
    (λ e. first_inside d s (omega arith)) (λ e. later_before d s k h)

later_behind : (d : Direction) → 0 < d.step → (k : ℕ) → 0 < k → d.over.from ≤ ((reach d).from / side d + k) * stride d
later_behind d s k h =
    let n = stride d in
    let q = (reach d).from / side d in
    omega (
      arith,
      first_behind n (side d) d.over.from (reach d).from (stride_pos d s),
      div-add-mod' (first_start_of d) n,
      mod-lt (first_start_of d) (stride_pos d s),
      ap (λ j. j * n) (first_in d s),
      mul-le-mul_right {m = q + 1} {n = q + k} n (omega arith),
    )

pub behind : (d : Direction) → 0 < d.step → (k : ℕ) → d.over.from ≤ start d k
behind d s k = go (eqb k 0) refl
  where
    go : (t : Bool) → eqb k 0 ≡ t → d.over.from ≤ cond t (first_start_of d) (((reach d).from / side d + k) * stride d)
    go true e = first_behind (stride d) (side d) d.over.from (reach d).from (stride_pos d s)
    go false e = later_behind d s k (grind (arith, nat_tests))

-- the closed form's two cases
pub place_first : (d : Direction) → 0 < d.step → (k : ℕ) → k ≡ 0 → k < count d → first_start_of d ≡ get_or (starts d) k 0
place_first d s k z h =
    sym (place d s k h ∙ cond-true (eqb k 0) (first_start_of d) (((reach d).from / side d + k) * stride d) (eq-eqb k 0 z))

pub place_later : (d : Direction) → 0 < d.step → (k : ℕ) → (k ≡ 0 → ⊥) → k < count d → ((reach d).from / side d + k) * stride d ≡ get_or (starts d) k 0
place_later d s k z h =
    sym (place d s k h ∙ cond-false (eqb k 0) (first_start_of d) (((reach d).from / side d + k) * stride d) (ne_eqb k 0 z))

pub above_inside : (d : Direction) → 0 < d.step → 0 < count d → (d.over.from % stride d ≡ 0 → ⊥) → (reach d).from % side d ≡ 0
    → above (stride d) d.over.from < d.over.to
above_inside d s h ne z =
    let x = d.over.from in
    let up = above (stride d) x in
    subst (λ (n : ℕ). n < d.over.to)
    (cond-false (eqb (x % stride d) 0) x (cond (eqb ((reach d).from % side d) 0) up x) (ne_eqb (x % stride d) 0 ne)
    ∙ cond-true (eqb ((reach d).from % side d) 0) up x (eq-eqb ((reach d).from % side d) 0 z))
    (first_inside d s h)

-- a precinct's number is below the tile's end
pub index_small : (d : Direction) → 0 < d.step → (k : ℕ) → k < count d → k < d.over.to
index_small d s k h =
    omega (arith, later_before d s k h, le-mul_of_pos_right ((reach d).from / side d + k) (stride_pos d s))

-- where the last precinct ends below 2 ^ 32, every border lies below it
pub border_near : (d : Direction) (k : ℕ) → far d ≡ false → 0 < count d → k ≤ count d → (cover d k).from < 2 ^ 32
border_near d k f h le =
    let w = 2 ^ halved d.r d.exponent in
    let n = count d - 1 + 1 in
    omega (arith, leb-false (2 ^ 32) (cover d (count d - 1)).to f, mul-le-mul_right {m = k} {n = n} w (omega arith))

pub precinct_laws : PrecinctLaws
precinct_laws = record {
  next = next_multiples;
  closed = λ d s. fill_by_all (start d) (starts d) (count d) 0 (length_climb (stride d) (first_start_of d) (count d)) (place d s);
  far_some = λ d h f. (count d - 1, (omega arith, leb-true (2 ^ 32) (cover d (count d - 1)).to f));
  far_none = λ d f k h. border_near d (k + 1) f (omega arith) (omega arith);
}
