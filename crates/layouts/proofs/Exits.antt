-- A reading as the answer of a call.
use Rattle.std.proofs.Common.{◌≡◌, ℕ, List, Err, Result, refl}
use Rattle.faults.specs.declared.segment.SegmentFault.{SegmentFault}
use Rattle.reader.specs.declared.reader.BitReader.{BitReader}
use Rattle.layouts.specs.Layouts.{Reading, read, failed, values_of, Answers}

pub is_read : (R : Reading) (vs : List ℕ) (q : ℕ) → R ≡ read vs q → R ≡ read (values_of R) q
is_read R vs q e = rw e refl

-- what a `?` passes up
pub failed_exit :
    {V : Type 0} {m : ℕ} (R : Reading) (is : V → List ℕ → Type 0) (a : BitReader) (r : Result V (SegmentFault m)) (x e : SegmentFault m)
    → R ≡ failed e.cause a.place → r ≡ Err x → x ≡ e → Answers R is a r
failed_exit R is a r x e f b c = rw b (rw c f)

-- a value that is made of what was read
pub read_exit :
    {V : Type 0} (R : Reading) (is : V → List ℕ → Type 0) (v : V) (vs : List ℕ) (q : ℕ) → R ≡ read vs q → is v vs
    → (R ≡ read (values_of R) q) × is v (values_of R)
read_exit R is v vs q e h = rw e (refl, h)
