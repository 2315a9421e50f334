-- Places at multiples of a step.
use Rattle.std.proofs.Common.{◌≡◌, ℕ, zero, suc, ◌+◌, ◌*◌, ◌/◌, ◌%◌, ◌<◌, ◌≤◌, Bool, true, false, cond, eqb, length, get_or, sym, refl, ap, ◌∙◌, mul-le-mul_right, mod-lt, mul_assoc, mul_comm, le_antisymm, lt_of_mul-lt-mul_right, mul-pos, div-add-mod', le_of_mul-le-mul_right, mul-div_cancel, arith}
use native.Mathlib.Nat.{mul-mod_left}
use Rattle.std.proofs.lemmas.Bool.{cond-false, ne_eqb, eqb-true, eqb-false}
use Rattle.rect.specs.Numbers.{ceil}
use Rattle.rect.proofs.Ceil.{ceil_le, le_ceil, lt_ceil, ceil_code}
use Rattle.precincts.specs.Places.{Next, above, first, climb}

pub ceil_exact : (a b : ℕ) → 0 < b → a % b ≡ 0 → a / b ≡ ceil a b
ceil_exact a b pos h = omega (arith, ceil_code a b pos)

pub ceil_over : (a b : ℕ) → 0 < b → (a % b ≡ 0 → ⊥) → a / b + 1 ≡ ceil a b
ceil_over a b pos h = omega (arith, ceil_code a b pos)

-- rounding up twice is rounding up once
pub ceil_ceil : (a b c : ℕ) → 0 < b → 0 < c → ceil (ceil a b) c ≡ ceil a (b * c)
ceil_ceil a b c pb pc =
    let pbc : 0 < b * c = mul-pos pb pc in
    let q = ceil a (b * c) in
    let o = ceil (ceil a b) c in
    let e : q * (b * c) ≡ q * c * b = ap (λ n. q * n) (mul_comm b c) ∙ sym (mul_assoc q c b) in
    let f : o * (b * c) ≡ o * c * b = ap (λ n. o * n) (mul_comm b c) ∙ sym (mul_assoc o c b) in
    let up : o ≤ q = ceil_le (ceil a b) c q pc (ceil_le a b (q * c) pb (omega (arith, le_ceil a (b * c) pbc))) in
    let down : q ≤ o =
    ceil_le a (b * c) o pbc (omega (arith, le_ceil a b pb, mul-le-mul_right {m = ceil a b} {n = o * c} b (le_ceil (ceil a b) c pc))) in
    le_antisymm up down

pub next_multiples : (d x : ℕ) → 0 < d → Next d x (above d x)
next_multiples d x pos = record {
  multiple = mul-mod_left (x / d + 1) d;
  greater = omega (arith, div-add-mod' x d, mod-lt x pos);
  least = λ z m h.
      let e : z ≡ z / d * d = omega (arith, div-add-mod' z d) in
      let l : x / d < z / d = lt_of_mul-lt-mul_right d (omega (arith, div-add-mod' x d)) in
      omega (arith, mul-le-mul_right {m = x / d + 1} {n = z / d} d (omega arith));
}

above_cell : (d x : ℕ) → 0 < d → above d x / d ≡ x / d + 1
above_cell d x pos = mul-div_cancel (x / d + 1) pos

pub length_climb : (d x n : ℕ) → length (climb d x n) ≡ n
length_climb d x zero = refl
length_climb d x (suc n) = ap suc (length_climb d (above d x) n)

pub climb_at : (d : ℕ) → 0 < d → (x n k : ℕ) → k < n → get_or (climb d x n) k 0 ≡ cond (eqb k 0) x ((x / d + k) * d)
climb_at d pos x zero k h = absurd (omega arith)
climb_at d pos x (suc n) zero h = refl
climb_at d pos x (suc n) (suc zero) h = climb_at d pos (above d x) n 0 (omega arith)
climb_at d pos x (suc n) (suc (suc k)) h =
    let e : above d x / d + suc k ≡ x / d + suc (suc k) = omega (arith, above_cell d x pos) in
    climb_at d pos (above d x) n (suc k) (omega arith)
    ∙ cond-false (eqb (suc k) 0) (above d x) ((above d x / d + suc k) * d) (ne_eqb (suc k) 0 (λ z. omega arith))
    ∙ ap (λ m. m * d) e
    ∙ sym (cond-false (eqb (suc (suc k)) 0) x ((x / d + suc (suc k)) * d) (ne_eqb (suc (suc k)) 0 (λ z. omega arith)))

-- a multiple of the larger step is one of the smaller, and p times as many
ceil_multiple : (w p j : ℕ) → 0 < w → ceil (j * (w * p)) w ≡ j * p
ceil_multiple w p j pw =
    let e : j * (w * p) ≡ j * p * w = ap (λ n. j * n) (mul_comm w p) ∙ sym (mul_assoc j p w) in
    let up : ceil (j * (w * p)) w ≤ j * p = ceil_le (j * (w * p)) w (j * p) pw (omega arith) in
    let down : j * p ≤ ceil (j * (w * p)) w = le_of_mul-le-mul_right {k = w} (omega (arith, le_ceil (j * (w * p)) w pw)) pw in
    le_antisymm up down

-- the first place lies in the first precinct's cell: by the two tests
first_by : (w p x : ℕ) → 0 < w → 0 < p → (a b : Bool) → eqb (x % (w * p)) 0 ≡ a → eqb (ceil x w % p) 0 ≡ b
    → cond a x (cond b (above (w * p) x) x) / (w * p) ≡ ceil x w / p
first_by w p x pw pp true b e f =
    let d = w * p in
    let j = x / d in
    let z : x % d ≡ 0 = eqb-true (x % d) 0 e in
    let m : x ≡ j * d = omega (arith, div-add-mod' x d) in
    let u : ceil x w ≡ j * p = ap (λ n. ceil n w) m ∙ ceil_multiple w p j pw in
    sym (ap (λ n. n / p) u ∙ mul-div_cancel j pp)
first_by w p x pw pp false true e f =
    let pd : 0 < w * p = mul-pos pw pp in
    let c : x / (w * p) + 1 ≡ ceil x (w * p) = ceil_over x (w * p) pd (eqb-false (x % (w * p)) 0 e) in
    let k : ceil x w / p ≡ ceil (ceil x w) p = ceil_exact (ceil x w) p pp (eqb-true (ceil x w % p) 0 f) in
    above_cell (w * p) x pd ∙ c ∙ sym (ceil_ceil x w p pw pp) ∙ sym k
first_by w p x pw pp false false e f =
    let pd : 0 < w * p = mul-pos pw pp in
    let c : x / (w * p) + 1 ≡ ceil x (w * p) = ceil_over x (w * p) pd (eqb-false (x % (w * p)) 0 e) in
    let k : ceil x w / p + 1 ≡ ceil (ceil x w) p = ceil_over (ceil x w) p pp (eqb-false (ceil x w % p) 0 f) in
    let s : ceil (ceil x w) p ≡ ceil x (w * p) = ceil_ceil x w p pw pp in
    omega arith

pub first_cell : (w p x : ℕ) → 0 < w → 0 < p → first (w * p) p x (ceil x w) / (w * p) ≡ ceil x w / p
first_cell w p x pw pp = first_by w p x pw pp (eqb (x % (w * p)) 0) (eqb (ceil x w % p) 0) refl refl

-- the end t lies beyond cell j of the larger step
pub cell_before : (w p t j : ℕ) → 0 < w → 0 < p → j < ceil (ceil t w) p → j * (w * p) < t
cell_before w p t j pw pp h =
    let s : ceil (ceil t w) p ≡ ceil t (w * p) = ceil_ceil t w p pw pp in
    lt_ceil t (w * p) j (mul-pos pw pp) (omega arith)

-- the first place lies before the end
before_by : (w p x t : ℕ) → 0 < w → 0 < p → x < t → ceil x w / p < ceil (ceil t w) p → (a b : Bool)
    → eqb (x % (w * p)) 0 ≡ a → eqb (ceil x w % p) 0 ≡ b → cond a x (cond b (above (w * p) x) x) < t
before_by w p x t pw pp h k true b e f = h
before_by w p x t pw pp h k false false e f = h
before_by w p x t pw pp h k false true e f =
    let pd : 0 < w * p = mul-pos pw pp in
    let c : x / (w * p) + 1 ≡ ceil x w / p =
    ceil_over x (w * p) pd (eqb-false (x % (w * p)) 0 e) ∙ sym (ceil_ceil x w p pw pp)
    ∙ sym (ceil_exact (ceil x w) p pp (eqb-true (ceil x w % p) 0 f)) in
    cell_before w p t (x / (w * p) + 1) pw pp (omega arith)

pub first_before : (w p x t : ℕ) → 0 < w → 0 < p → x < t → ceil x w / p < ceil (ceil t w) p → first (w * p) p x (ceil x w) < t
first_before w p x t pw pp h k = before_by w p x t pw pp h k (eqb (x % (w * p)) 0) (eqb (ceil x w % p) 0) refl refl

-- the first place is not before x
behind_by : (d p x u : ℕ) → 0 < d → (a b : Bool) → x ≤ cond a x (cond b (above d x) x)
behind_by d p x u pos true b = omega arith
behind_by d p x u pos false false = omega arith
behind_by d p x u pos false true = omega (arith, (next_multiples d x pos).greater)

pub first_behind : (d p x u : ℕ) → 0 < d → x ≤ first d p x u
first_behind d p x u pos = behind_by d p x u pos (eqb (x % d) 0) (eqb (u % p) 0)
