-- The bytes of a part of a list.
use Rattle.std.proofs.Common.{◌≡◌, ℕ, ◌+◌, ◌<◌, ◌≤◌, List, length, get_or, take, drop, ap, ◌∙◌, add-zero, add_assoc, arith, lit<, length-drop, length-take-le, get_or-drop, get_or-take}
use Rattle.reader.specs.Bytes.{byte_at, word_at, long_at}

pub part_length : (d s : List ℕ) (p n : ℕ) → p + n ≤ length d → s ≡ take n (drop p d) → length s ≡ n
part_length d s p n h e =
    let l : n ≤ length (drop p d) = simp length-drop (omega arith) in ap length e ∙ length-take-le n (drop p d) l

pub part_at : (d s : List ℕ) (p n k : ℕ) → k < n → s ≡ take n (drop p d) → get_or s k 0 ≡ get_or d (p + k) 0
part_at d s p n k h e = ap (λ (x : List ℕ). get_or x k 0) e ∙ get_or-take n (drop p d) k 0 h ∙ get_or-drop p d k 0
