-- What a table that is read gives.
use Rattle.std.proofs.Common.{◌≡◌, ℕ, ◌+◌, ◌≤◌, true, leb, List, [], ◌∷◌, ◌++◌, length, sym, refl, ap, ◌∙◌, inl, inr, append_assoc, append-nil, add-zero, add_assoc, arith}
use Rattle.std.proofs.lemmas.Bool.{cases_Bool, leb-true, le-leb}
use Rattle.layouts.specs.Layouts.{Field, Reading, read, failed, reading, size, value_at, values_at, total, ReadsAll}

pub never : {X : Type 0} (R : Reading) (vs : List ℕ) (q : ℕ) (e : _) (p : ℕ) → R ≡ failed e p → R ≡ read vs q → X
never R vs q e p a b = absurd (let z : ◌≡◌ {A = ℕ} 0 1 = cc in omega arith)

-- the values at their places, and the place behind them
pub table_read :
    (fs : List Field) (d : List ℕ) (p : ℕ) (ws vs : List ℕ) (q : ℕ) → reading fs d p ws ≡ read vs q
    → (vs ≡ ws ++ values_at fs d p) × (q ≡ p + total fs)
table_read [] d p ws vs q e = (let s : vs ≡ ws = cc in s ∙ sym (append-nil ws), let s : q ≡ p = cc in s ∙ sym (add-zero p))
table_read (f ∷ fs) d p ws vs q e =
    elim (cases_Bool (leb (p + size f.width) (length d))) [
      | inl t ↦
          elim (cases_Bool (f.admits ws (value_at f.width d p))) [
            | inl a ↦
                let r = table_read fs d (p + size f.width) (ws ++ value_at f.width d p ∷ []) vs q (rw (t, a) at e) in
                (r.0 ∙ append_assoc ws (value_at f.width d p ∷ []) (values_at fs d (p + size f.width)), r.1 ∙ add_assoc p (size f.width) (total fs))
            | inr a ↦ never _ vs q _ _ refl (rw (t, a) at e)
          ]
      | inr t ↦ never _ vs q _ _ refl (rw t at e)
    ]

-- a table that is read lies inside
pub table_inside :
    (fs : List Field) (d : List ℕ) (p : ℕ) (ws vs : List ℕ) (q : ℕ) → p ≤ length d → reading fs d p ws ≡ read vs q → q ≤ length d
table_inside [] d p ws vs q h e = let s : q ≡ p = cc in omega arith
table_inside (f ∷ fs) d p ws vs q h e =
    elim (cases_Bool (leb (p + size f.width) (length d))) [
      | inl t ↦
          elim (cases_Bool (f.admits ws (value_at f.width d p))) [
            | inl a ↦
                table_inside fs d (p + size f.width) (ws ++ value_at f.width d p ∷ []) vs q (leb-true _ _ t) (rw (t, a) at e)
            | inr a ↦ never _ vs q _ _ refl (rw (t, a) at e)
          ]
      | inr t ↦ never _ vs q _ _ refl (rw t at e)
    ]

pub first_inside :
    (f : Field) (fs : List Field) (d : List ℕ) (p : ℕ) (ws vs : List ℕ) (q : ℕ) → reading (f ∷ fs) d p ws ≡ read vs q
    → p + size f.width ≤ length d
first_inside f fs d p ws vs q e =
    elim (cases_Bool (leb (p + size f.width) (length d))) [ inl t ↦ leb-true _ _ t | inr t ↦ never _ vs q _ _ refl (rw t at e) ]

pub first_admitted :
    (f : Field) (fs : List Field) (d : List ℕ) (p : ℕ) (ws vs : List ℕ) (q : ℕ) → reading (f ∷ fs) d p ws ≡ read vs q
    → f.admits ws (value_at f.width d p) ≡ true
first_admitted f fs d p ws vs q e =
    elim (cases_Bool (leb (p + size f.width) (length d))) [
      | inl t ↦ elim (cases_Bool (f.admits ws (value_at f.width d p))) [ inl a ↦ a | inr a ↦ never _ vs q _ _ refl (rw (t, a) at e) ]
      | inr t ↦ never _ vs q _ _ refl (rw t at e)
    ]

pub reads_all : ReadsAll
reads_all fs d p vs q e = table_read fs d p [] vs q e

-- a first field that is there and admitted
pub first_read :
    (f : Field) (fs : List Field) (d : List ℕ) (p v : ℕ) (ws : List ℕ) → p + size f.width ≤ length d → v ≡ value_at f.width d p
    → f.admits ws v ≡ true → reading (f ∷ fs) d p ws ≡ reading fs d (p + size f.width) (ws ++ v ∷ [])
first_read f fs d p v ws there is admitted =
    let t : leb (p + size f.width) (length d) ≡ true = le-leb _ _ there in
    let a : f.admits ws (value_at f.width d p) ≡ true = ap (λ (x : ℕ). f.admits ws x) (sym is) ∙ admitted in
    rw (t, a) (ap (λ (x : ℕ). reading fs d (p + size f.width) (ws ++ x ∷ [])) (sym is))
