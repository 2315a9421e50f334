-- Every layout is read field by field.
use Rattle.std.proofs.Common.{◌≡◌, ℕ, suc, ◌+◌, cond, leb, List, [], ◌∷◌, ◌++◌, length, get_or, sym, refl, ap, ◌∙◌, subst, ap₂, inl, inr, append-nil, add-zero, add_assoc, arith}
use Rattle.std.proofs.lemmas.Bool.{cases_Bool, leb-true, leb-false}
use Rattle.faults.specs.declared.segment.Cause.TheVariants.{Short, Value}
use Rattle.layouts.specs.Layouts.{Field, Layout, fields, behind, Reading, read, failed, reading, prefixed, followed, size, value_at, meaning}
use Rattle.layouts.specs.Laws.{Stand, extent, values_from, standing_table, standing, Taken, NotTaken, AllTaken, ReadsAs, LayoutsRead}
use Rattle.layouts.proofs.Tables.{never}
use Rattle.layouts.proofs.Times.{prefixed_none, prefixed_twice}

-- fields that stand one behind another, read
abbrev running : List Stand → List ℕ → ℕ → Reading
running [] d p = read [] p
running (f ∷ fs) d p =
    cond
    (leb (p + size f.width) (length d))
    (cond
    (f.admits (value_at f.width d p))
    (prefixed (value_at f.width d p ∷ []) (running fs d (p + size f.width)))
    (failed (Value p) (p + size f.width)))
    (failed (Short (record { place = p })) p)

-- a table
table_running : (fs : List Field) (d : List ℕ) (p : ℕ) (vs : List ℕ) → reading fs d p vs ≡ prefixed vs (running (standing_table fs d p vs) d p)
table_running [] d p vs = ap (λ (l : List ℕ). read l p) (sym (append-nil vs))
table_running (f ∷ fs) d p vs =
    elim (cases_Bool (leb (p + size f.width) (length d))) [
      | inl t ↦
          elim (cases_Bool (f.admits vs (value_at f.width d p))) [
            | inl a ↦
                rw (t, a)
                (table_running fs d (p + size f.width) (vs ++ value_at f.width d p ∷ [])
                ∙ sym (prefixed_twice vs (value_at f.width d p ∷ []) _))
            | inr a ↦ rw (t, a) refl
          ]
      | inr t ↦ rw t refl
    ]

followed_prefixed :
    (vs : List ℕ) (R : Reading) (k : ℕ → Reading) → followed (prefixed vs R) (λ _ q. k q) ≡ prefixed vs (followed R (λ _ q. k q))
followed_prefixed vs (read ws q) k = sym (prefixed_twice vs ws (k q))
followed_prefixed vs (failed e q) k = refl

running_append : (ss ts : List Stand) (d : List ℕ) (p : ℕ) → running (ss ++ ts) d p ≡ followed (running ss d p) (λ _ q. running ts d q)
running_append [] ts d p = sym (prefixed_none (running ts d p))
running_append (f ∷ fs) ts d p =
    elim (cases_Bool (leb (p + size f.width) (length d))) [
      | inl t ↦
          elim (cases_Bool (f.admits (value_at f.width d p))) [
            | inl a ↦
                rw (t, a)
                (ap (λ (R : Reading). prefixed (value_at f.width d p ∷ []) R) (running_append fs ts d (p + size f.width))
                ∙ sym (followed_prefixed (value_at f.width d p ∷ []) (running fs d (p + size f.width)) (λ q. running ts d q)))
            | inr a ↦ rw (t, a) refl
          ]
      | inr t ↦ rw t refl
    ]

-- what is read: the values from place to place, and the place behind them
running_read : (ss : List Stand) (d : List ℕ) (p : ℕ) (vs : List ℕ) (q : ℕ) → running ss d p ≡ read vs q → (vs ≡ values_from ss d p) × (q ≡ p + extent ss)
running_read [] d p vs q e = (cc, let s : q ≡ p = cc in omega arith)
running_read (f ∷ fs) d p vs q e =
    elim (cases_Bool (leb (p + size f.width) (length d))) [
      | inl t ↦
          elim (cases_Bool (f.admits (value_at f.width d p))) [
            | inl a ↦ go (running fs d (p + size f.width)) (λ us m r. running_read fs d (p + size f.width) us m r) (rw (t, a) at e)
            | inr a ↦ never _ vs q _ _ refl (rw (t, a) at e)
          ]
      | inr t ↦ never _ vs q _ _ refl (rw t at e)
    ]
  where
    go :
        (R : Reading)
        → ((us : List ℕ) (m : ℕ) → R ≡ read us m → (us ≡ values_from fs d (p + size f.width)) × (m ≡ p + size f.width + extent fs))
        → prefixed (value_at f.width d p ∷ []) R ≡ read vs q
        → (vs ≡ values_from (f ∷ fs) d p) × (q ≡ p + extent (f ∷ fs))
    go (failed x y) r g = never _ vs q _ _ refl g
    go (read us m) r g =
        let h = r us m refl in
        let e : q ≡ m = cc in
        let v : vs ≡ value_at f.width d p ∷ us = cc in
        (v ∙ ap (λ (l : List ℕ). value_at f.width d p ∷ l) h.0, e ∙ h.1 ∙ add_assoc p (size f.width) (extent fs))

-- a layout is read as its fields are
layout_running : (l : Layout) (d : List ℕ) (p : ℕ) → meaning l d p ≡ running (standing l d p) d p
layout_running (fields fs) d p = table_running fs d p [] ∙ prefixed_none (running (standing_table fs d p []) d p)
layout_running (behind l k) d p =
    ap (λ (R : Reading). followed R (λ vs q. meaning (k vs) d q)) (layout_running l d p)
    ∙ go (running (standing l d p) d p) refl (λ vs q. layout_running (k vs) d q)
    ∙ sym (running_append (standing l d p) (standing (k (values_from (standing l d p) d p)) d (p + extent (standing l d p))) d p)
  where
    go :
        (R : Reading) → running (standing l d p) d p ≡ R
        → ((vs : List ℕ) (q : ℕ) → meaning (k vs) d q ≡ running (standing (k vs) d q) d q)
        → followed R (λ vs q. meaning (k vs) d q)
        ≡ followed R (λ _ q. running (standing (k (values_from (standing l d p) d p)) d (p + extent (standing l d p))) d q)
    go (failed e q) r rest = refl
    go (read vs q) r rest =
        let h = running_read (standing l d p) d p vs q r in
        ap (λ (S : Reading). prefixed vs S)
        (rest vs q
        ∙ ap₂ (λ (ws : List ℕ) (m : ℕ). running (standing (k ws) d m) d q) h.0 h.1)

-- each of the fields f ∷ fs, from those of fs
all_more : (f : Stand) (fs : List Stand) (d : List ℕ) (p : ℕ) → Taken f d p → AllTaken fs d (p + size f.width) → AllTaken (f ∷ fs) d p
all_more f fs d p t h [] g after e = let s : g ≡ f = cc in rw (s, add-zero) t
all_more f fs d p t h (b ∷ bs) g after e =
    let s : fs ≡ bs ++ g ∷ after = cc in
    let w : b ≡ f = cc in
    rw (w, ← add_assoc p (size f.width) (extent bs)) (h bs g after s)

values_more :
    (f : Stand) (fs : List Stand) (d : List ℕ) (p : ℕ) (vs : List ℕ)
    → ((before : List Stand) (g : Stand) (after : List Stand) → fs ≡ before ++ g ∷ after
    → get_or vs (length before) 0 ≡ value_at g.width d (p + size f.width + extent before))
    → (before : List Stand) (g : Stand) (after : List Stand) → f ∷ fs ≡ before ++ g ∷ after
    → get_or (value_at f.width d p ∷ vs) (length before) 0 ≡ value_at g.width d (p + extent before)
values_more f fs d p vs h [] g after e = let s : g ≡ f = cc in rw (s, add-zero) refl
values_more f fs d p vs h (b ∷ bs) g after e =
    let s : fs ≡ bs ++ g ∷ after = cc in
    let w : b ≡ f = cc in
    rw (w, ← add_assoc p (size f.width) (extent bs)) (h bs g after s)

-- the first field is taken
more :
    (f : Stand) (fs : List Stand) (d : List ℕ) (p : ℕ) (R : Reading) → Taken f d p → ReadsAs fs d (p + size f.width) R
    → ReadsAs (f ∷ fs) d p (prefixed (value_at f.width d p ∷ []) R)
more f fs d p (read vs q) t h =
    record {
      taken = all_more f fs d p t h.taken;
      count = ap suc h.count;
      values = values_more f fs d p vs h.values;
      ends = h.ends ∙ add_assoc p (size f.width) (extent fs);
    }
more f fs d p (failed e q) t h =
    record {
      before = f ∷ h.before;
      first = h.first;
      after = h.after;
      parted = ap (λ (l : List Stand). f ∷ l) h.parted;
      taken = all_more f h.before d p t h.taken;
      refused =
          subst (λ (x : ℕ). NotTaken h.first d x e q) (add_assoc p (size f.width) (extent h.before)) h.refused;
    }

none_more : (before : List Stand) (f : Stand) (after : List Stand) {X : Type 0} → [] ≡ before ++ f ∷ after → X
none_more [] f after e = absurd (let z : ◌≡◌ {A = ℕ} 0 1 = cc in omega arith)
none_more (b ∷ bs) f after e = absurd (let z : ◌≡◌ {A = ℕ} 0 1 = cc in omega arith)

running_as : (ss : List Stand) (d : List ℕ) (p : ℕ) → ReadsAs ss d p (running ss d p)
running_as [] d p =
    record {
      taken = λ before f after e. none_more before f after e;
      count = refl;
      values = λ before f after e. none_more before f after e;
      ends = sym (add-zero p);
    }
running_as (f ∷ fs) d p =
    elim (cases_Bool (leb (p + size f.width) (length d))) [
      | inl t ↦
          elim (cases_Bool (f.admits (value_at f.width d p))) [
            | inl a ↦
                rw (t, a)
                (more f fs d p (running fs d (p + size f.width)) (record { there = leb-true _ _ t; admitted = a })
                (running_as fs d (p + size f.width)))
            | inr a ↦
                rw (t, a)
                (record {
                  before = [];
                  first = f;
                  after = fs;
                  parted = refl;
                  taken = λ before g after e. none_more before g after e;
                  refused = rw add-zero (leb-true _ _ t, a, refl, refl);
                })
          ]
      | inr t ↦
          rw t
          (record {
            before = [];
            first = f;
            after = fs;
            parted = refl;
            taken = λ before g after e. none_more before g after e;
            refused = rw add-zero (leb-false _ _ t, refl, refl);
          })
    ]

pub layouts_read : LayoutsRead
layouts_read l d p = rw (layout_running l d p) (running_as (standing l d p) d p)
