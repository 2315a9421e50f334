-- One header from each place.
use Rattle.std.proofs.Common.{◌≡◌, ℕ, zero, suc, ◌+◌, ◌<◌, ◌⊎◌, List, [], ◌∷◌, length, refl, subst, inl, inr, arith}
use Rattle.headers.specs.Standing.{Item, Ending, Standing, stands, ends, main_standing, part_standing}
use Rattle.headers.specs.Grammar.{Headed}
use Rattle.headers.specs.Laws.{OneHeader, Onward, SomeMain, SomePart}
use Rattle.headers.proofs.Onwards.{main_onward, part_onward}

never : {X : Type 0} (s : Standing) (x : Item) (e : Ending) → s ≡ stands x → s ≡ ends e → X
never s x e a b = absurd (let z : ◌≡◌ {A = ℕ} 0 1 = cc in omega arith)

pub one_header : OneHeader
one_header at p [] [] e f a b = (refl, cc)
one_header at p [] (y ∷ ys) e f a b = never (at p) y e b.0 a
one_header at p (x ∷ xs) [] e f a b = never (at p) x f a.0 b
one_header at p (x ∷ xs) (y ∷ ys) e f a b =
    let same : x ≡ y = let h = a.0 in let k = b.0 in cc in
    let rest = one_header at y.behind xs ys e f (subst (λ (z : Item). Headed at z.behind xs e) same a.1) b.1 in
    let tails = rest.0 in
    (cc, rest.1)

either : (s : Standing) → ((x : Item) × (s ≡ stands x)) ⊎ ((e : Ending) × (s ≡ ends e))
either (stands x) = inl (x, refl)
either (ends e) = inr (e, refl)

-- n bounds what is left of the m bytes
some_by :
    (n : ℕ) (at : ℕ → Standing) (m p : ℕ) → Onward at m → m < p + n → (xs : List Item) × (e : Ending) × Headed at p xs e
some_by zero at m p on l =
    elim (either (at p)) [ inl s ↦ let o = on p s.0 s.1 in absurd (omega (arith, o.0, o.1)) | inr s ↦ ([], s.0, s.1) ]
some_by (suc n) at m p on l =
    elim (either (at p)) [
      | inl s ↦
          let o = on p s.0 s.1 in
          let r = some_by n at m s.0.behind on (omega (arith, o.0)) in
          (s.0 ∷ r.0, r.1, (s.1, r.2))
      | inr s ↦ ([], s.0, s.1)
    ]

pub some_main : SomeMain
some_main d csiz p = some_by (length d + 1) (main_standing d csiz) (length d) p (main_onward d csiz) (omega arith)

pub some_part : SomePart
some_part d csiz packets strict p =
    some_by (length d + 1) (part_standing d csiz packets strict) (length d) p (part_onward d csiz packets strict) (omega arith)
