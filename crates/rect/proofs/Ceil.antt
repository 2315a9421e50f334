-- Division rounded up: ⌈a / b⌉ is the least number of steps of b that reach a.
use Rattle.std.proofs.Common.{◌≡◌, ℕ, suc, ◌+◌, ◌-◌, ◌*◌, ◌/◌, ◌%◌, ◌^◌, ◌<◌, ◌≤◌, min, ◌⊎◌, ap, ◌∙◌, inl, inr, le_trans, mul-le-mul_right, mod-lt, div-lt_iff_lt-mul, lt_of_mul-lt-mul_right, div-add-mod', le-mul_of_pos_right, le_of_mul-le-mul_right, arith, pow_pos}
use native.Mathlib.Nat.{lt-div-mul-add, pow-succ'}
use Rattle.std.proofs.lemmas.Bool.{cases_lt}
use Rattle.rect.specs.Numbers.{ceil}

pub ceil_le : (a b q : ℕ) → 0 < b → a ≤ q * b → ceil a b ≤ q
ceil_le a b q pos h =
    let k : ceil a b < q + 1 = (div-lt_iff_lt-mul pos).1 (omega arith) in
    omega arith

pub le_ceil : (a b : ℕ) → 0 < b → a ≤ ceil a b * b
le_ceil a b pos = omega (arith, lt-div-mul-add {a = a + (b - 1)} pos)

pub lt_ceil : (a b q : ℕ) → 0 < b → q < ceil a b → q * b < a
lt_ceil a b q pos h = go (cases_lt (q * b) a)
  where
    go : (q * b < a) ⊎ (a ≤ q * b) → q * b < a
    go (inl k) = k
    go (inr k) = omega (arith, ceil_le a b q pos k)

pub ceil_up : (b : ℕ) → 0 < b → (a c : ℕ) → a ≤ c → ceil a b ≤ ceil c b
ceil_up b pos a c h = ceil_le a b (ceil c b) pos (le_trans h (le_ceil c b pos))

pub ceil_small : (a b : ℕ) → 0 < b → ceil a b ≤ a
ceil_small a b pos = ceil_le a b a pos (le-mul_of_pos_right a pos)

pub ceil_pos : (a b : ℕ) → 0 < b → 0 < a → 0 < ceil a b
ceil_pos a b pos h = go (cases_lt 0 (ceil a b))
  where
    go : (0 < ceil a b) ⊎ (ceil a b ≤ 0) → 0 < ceil a b
    go (inl k) = k
    go (inr k) = omega (arith, le_ceil a b pos, mul-le-mul_right {m = ceil a b} {n = 0} b k)

-- as `div_ceil` computes it
pub ceil_code : (a b : ℕ) → 0 < b → a / b + min 1 (a % b) ≡ ceil a b
ceil_code a b pos = go (cases_lt 0 (a % b))
  where
    go : (0 < a % b) ⊎ (a % b ≤ 0) → a / b + min 1 (a % b) ≡ ceil a b
    go (inl z) =
        let lo : a / b < ceil a b = lt_of_mul-lt-mul_right b (omega (arith, div-add-mod' a b, le_ceil a b pos)) in
        omega (arith, ceil_le a b (a / b + 1) pos (omega (arith, div-add-mod' a b, mod-lt a pos)))
    go (inr z) =
        let d : a ≡ a / b * b = omega (arith, div-add-mod' a b) in
        let lo : a / b ≤ ceil a b = le_of_mul-le-mul_right {k = b} (omega (arith, le_ceil a b pos)) pos in
        omega (arith, ceil_le a b (a / b) pos (omega arith))

-- at twice the step: half of the count, rounded up; and one step earlier: rounded down
pub ceil_low : (e m : ℕ) → 0 < m → ceil e (2 * m) ≡ (ceil e m + 1) / 2
ceil_low e m pos =
    let q = ceil e m in
    let up : ceil e (2 * m) ≤ (q + 1) / 2 =
    ceil_le e (2 * m) ((q + 1) / 2) (omega arith) (omega (arith, le_ceil e m pos, mul-le-mul_right {m = q} {n = (q + 1) / 2 * 2} m (omega arith))) in
    let down : q ≤ ceil e (2 * m) * 2 = ceil_le e m (ceil e (2 * m) * 2) pos (omega (arith, le_ceil e (2 * m) (omega arith))) in
    omega arith

pub ceil_high : (e m : ℕ) → 0 < m → ceil (e - m) (2 * m) ≡ ceil e m / 2
ceil_high e m pos =
    let q = ceil e m in
    let up : ceil (e - m) (2 * m) ≤ q / 2 =
    ceil_le (e - m) (2 * m) (q / 2) (omega arith) (omega (arith, le_ceil e m pos, mul-le-mul_right {m = q} {n = q / 2 * 2 + 1} m (omega arith))) in
    let down : q ≤ ceil (e - m) (2 * m) * 2 + 1 = ceil_le e m (ceil (e - m) (2 * m) * 2 + 1) pos (omega (arith, le_ceil (e - m) (2 * m) (omega arith))) in
    omega arith

-- the same at powers of two
pub ceil_low_pow : (e n : ℕ) → ceil e (2 ^ suc n) ≡ (ceil e (2 ^ n) + 1) / 2
ceil_low_pow e n = ap (ceil e) (pow-succ' 2 n) ∙ ceil_low e (2 ^ n) (pow_pos n)

pub ceil_high_pow : (e n : ℕ) → ceil (e - 2 ^ n) (2 ^ suc n) ≡ ceil e (2 ^ n) / 2
ceil_high_pow e n = ap (ceil (e - 2 ^ n)) (pow-succ' 2 n) ∙ ceil_high e (2 ^ n) (pow_pos n)
