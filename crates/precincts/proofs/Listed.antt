-- The precincts of a resolution by number.
use Rattle.std.proofs.Common.{◌≡◌, ℕ, ◌+◌, ◌*◌, ◌/◌, ◌%◌, ◌<◌, ◌≤◌, Bool, true, false, cond, ◌||◌, eqb, map, length, Some, None, Option, sym, refl, ap, ◌∙◌, subst, ap₂, div-add-mod', arith}
use Rattle.std.specs.List.{range_with_len}
use Rattle.std.proofs.lemmas.List.FromFn.{fill_by_all}
use Rattle.std.proofs.lemmas.Bool.{ne_eqb, or_from, or_parts}
use Rattle.faults.specs.declared.decode.DecodeError.{DecodeError}
use Rattle.faults.specs.declared.decode.DecodeError.TheVariants.{Decoding}
use Rattle.faults.specs.declared.decode.DecodingError.TheVariants.{InvalidPrecinct, PrecinctTooFar}
use Rattle.rect.specs.Spans.{rect}
use Rattle.rect.proofs.Places.{column_below, get_or_product, length_product, row_below}
use Rattle.precincts.specs.declared.precinct.PrecinctData.{PrecinctData}
use Rattle.precincts.specs.Precincts.{Direction, bounds, count, cover, far, precinct_at, precinct_in, precincts, refusal, start, unfit}
use Rattle.precincts.specs.Asked.{blank, NumberIs, PrecinctIs}
use Rattle.precincts.proofs.Ways.{behind, inside, place}

pub number : (x y : Direction) → length (precincts x y) ≡ count x * count y
number x y = length_product (precinct_in x y) (count x) (count y)

-- what was tested where nothing is refused and there are precincts
pub record Fit (x y : Direction) : Type 0 where
  pub unfit_x : unfit x ≡ false
  pub unfit_y : unfit y ≡ false
  pub far_x : far x ≡ false
  pub far_y : far y ≡ false

abbrev Chosen : Bool → Bool → Bool → Option DecodeError
Chosen a b c = cond a None (cond b (Some (Decoding InvalidPrecinct)) (cond c (Some (Decoding PrecinctTooFar)) None))

passed : (a b c : Bool) → Chosen a b c ≡ None → a ≡ false → (b ≡ false) × (c ≡ false)
passed true b c e f = absurd (let z : ◌≡◌ {A = ℕ} 0 1 = cc in omega arith)
passed false true c e f = absurd (let z : ◌≡◌ {A = ℕ} 0 1 = cc in omega arith)
passed false false true e f = absurd (let z : ◌≡◌ {A = ℕ} 0 1 = cc in omega arith)
passed false false false e f = (refl, refl)

pub fit : (x y : Direction) → refusal x y ≡ None → 0 < count x → 0 < count y → Fit x y
fit x y e h k =
    let some : (eqb (count x) 0 || eqb (count y) 0) ≡ false =
    or_from (eqb (count x) 0) (eqb (count y) 0) (ne_eqb (count x) 0 (λ z. omega arith)) (ne_eqb (count y) 0 (λ z. omega arith)) in
    let p = passed (eqb (count x) 0 || eqb (count y) 0) (unfit x || unfit y) (far x || far y) e some in
    let u = or_parts (unfit x) (unfit y) p.0 in
    let f = or_parts (far x) (far y) p.1 in
    record { unfit_x = u.0; unfit_y = u.1; far_x = f.0; far_y = f.1 }

-- item k
closed : (x y : Direction) → 0 < x.step → 0 < y.step → (k : ℕ) → k < count x * count y
    → precinct_in x y (k % count x) (k / count x) ≡ precinct_at x y k
closed x y sx sy k h =
    let i = k % count x in
    let j = k / count x in
    let f : ℕ → ℕ → ℕ → PrecinctData = λ a b n. record { r_x = a; r_y = b; rect = bounds (rect (cover x i) (cover y j)); idx = n } in
    ap₂ (λ a b. f a b (j * count x + i)) (place x sx i (column_below (count x) (count y) k h)) (place y sy j (row_below (count x) (count y) k h))
    ∙ ap (f (start x i) (start y j)) (div-add-mod' k (count x))

pub precinct_is : (x y : Direction) → 0 < x.step → 0 < y.step → (k : ℕ) (p : PrecinctData) → refusal x y ≡ None → k < count x * count y
    → p ≡ precinct_in x y (k % count x) (k / count x) → PrecinctIs x y k p
precinct_is x y sx sy k p ok h e =
    let i = k % count x in
    let j = k / count x in
    let hi = column_below (count x) (count y) k h in
    let hj = row_below (count x) (count y) k h in
    let c : p ≡ precinct_at x y k = e ∙ closed x y sx sy k h in
    let px : start x i ≡ p.r_x = sym (ap (λ (q : PrecinctData). q.r_x) c) in
    let py : start y j ≡ p.r_y = sym (ap (λ (q : PrecinctData). q.r_y) c) in
    record {
      accepted = ok;
      there = omega (arith, number x y);
      listed = e ∙ sym (get_or_product (precinct_in x y) (count x) (count y) k blank h);
      closed = c;
      in_column = (subst (λ (n : ℕ). x.over.from ≤ n) px (behind x sx i), subst (λ (n : ℕ). n < x.over.to) px (inside x sx i hi));
      in_row = (subst (λ (n : ℕ). y.over.from ≤ n) py (behind y sy j), subst (λ (n : ℕ). n < y.over.to) py (inside y sy j hj));
    }

pub number_is : (x y : Direction) → 0 < x.step → 0 < y.step → (n : ℕ) → refusal x y ≡ None → n ≡ count x * count y → NumberIs x y n
number_is x y sx sy n ok e =
    let all : precincts x y ≡ map (precinct_at x y) (range_with_len 0 (count x * count y)) =
    fill_by_all (precinct_at x y) (precincts x y) (count x * count y) blank (number x y)
    (λ k h. get_or_product (precinct_in x y) (count x) (count y) k blank h ∙ closed x y sx sy k h) in
    record { accepted = ok; number = e ∙ sym (number x y); closed = all ∙ ap (λ m. map (precinct_at x y) (range_with_len 0 m)) (sym e) }
