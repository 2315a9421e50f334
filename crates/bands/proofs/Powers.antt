-- Numbers of 32 bits divided by larger powers of two.
use Rattle.std.proofs.Common.{◌≡◌, ℕ, zero, suc, ◌/◌, ◌^◌, ◌<◌, ◌≤◌, min, arith, pow_pos, pow_mono}
use native.Mathlib.Nat.{div-eq_of_lt}
use Rattle.rect.specs.Numbers.{ceil}
use Rattle.rect.proofs.Ceil.{ceil_le, ceil_pos, ceil_small}

pub floor_far : (a k : ℕ) → a < 2 ^ 32 → 32 ≤ k → a / 2 ^ k ≡ 0
floor_far a k h g = div-eq_of_lt (omega (arith, pow_mono {i = 32} {j = k} g))

pub ceil_far : (a k : ℕ) → a < 2 ^ 32 → 32 ≤ k → ceil a (2 ^ k) ≡ min a 1
ceil_far zero k h g = omega (arith, ceil_small 0 (2 ^ k) (pow_pos k))
ceil_far (suc a) k h g =
    omega (arith, pow_mono {i = 32} {j = k} g, ceil_pos (suc a) (2 ^ k) (pow_pos k) (omega arith), ceil_le (suc a) (2 ^ k) 1 (pow_pos k) (omega (arith, pow_mono {i = 32} {j = k} g)))
