-- The component fields of SIZ: how far a loop that reads them has come, and that they are the bytes that they are read from.
use Rattle.std.proofs.Common.{◌≡◌, ℕ, zero, suc, ◌+◌, ◌*◌, ◌<◌, ◌≤◌, Bool, true, false, ◌&&◌, ltb, leb, List, [], ◌∷◌, ◌++◌, length, get_or, sym, refl, ap, ◌∙◌, ap₂, inl, inr, add-one, arith, length-append, drop-cons}
use Rattle.std.proofs.lemmas.List.{get_or_append_left, get_or-append-add}
use Rattle.std.proofs.lemmas.Bool.{cases_eq, le-leb}
use Rattle.reader.proofs.Parts.{part_at}
use Rattle.faults.specs.declared.segment.Cause.{Cause}
use Rattle.reader.specs.Bytes.{byte_at, part}
use Rattle.layouts.specs.Layouts.{read, failed, reading, meaning, field, fields, one, any}
use Rattle.segments.specs.Siz.{component_table, components_layout, precise, precision_of, sampled, component_at, MadeComponent}
use Rattle.layouts.proofs.Tables.{table_read, table_inside, first_inside, first_admitted}
use Rattle.layouts.proofs.Times.{Run, followed_read, run_none, run_more, run_failed}

part_more : (n : ℕ) (d : List ℕ) (p : ℕ) → p < length d → part (suc n) d p ≡ byte_at d p ∷ part n d (p + 1)
part_more n d p h = rw (add-one, drop-cons d p 0) refl

-- three bytes, and the part behind them
part_three :
    (m n : ℕ) (d : List ℕ) (p q : ℕ) → m ≡ suc (suc (suc n)) → q ≡ p + 3 → p + 3 ≤ length d
    → part m d p ≡ (byte_at d p ∷ byte_at d (p + 1) ∷ byte_at d (p + 1 + 1) ∷ []) ++ part n d q
part_three m n d p q e f h =
    let g : p + 1 + 1 + 1 ≡ q = omega arith in
    ap (λ (k : ℕ). part k d p) e
    ∙ part_more (suc (suc n)) d p (omega arith)
    ∙ ap (λ (l : List ℕ). byte_at d p ∷ l) (part_more (suc n) d (p + 1) (omega arith))
    ∙ ap (λ (l : List ℕ). byte_at d p ∷ byte_at d (p + 1) ∷ l) (part_more n d (p + 1 + 1) (omega arith))
    ∙ ap (λ (k : ℕ). byte_at d p ∷ byte_at d (p + 1) ∷ byte_at d (p + 1 + 1) ∷ part n d k) g

component_end :
    (d : List ℕ) (p : ℕ) (ws : List ℕ) (q : ℕ) → reading component_table d p [] ≡ read ws q → (q ≡ p + 3) × (p + 3 ≤ length d)
component_end d p ws q e =
    let a = table_read component_table d p [] ws q e in
    let there : p + 1 ≤ length d = first_inside (field one (precise 31)) (field one any ∷ field one any ∷ []) d p [] ws q e in
    let inside : q ≤ length d = table_inside component_table d p [] ws q (omega arith) e in
    (a.1, omega (arith, a.1))

pub components_read :
    (n : ℕ) (d : List ℕ) (p : ℕ) (vs : List ℕ) (q : ℕ) → meaning (components_layout n) d p ≡ read vs q
    → (vs ≡ part (3 * n) d p) × (0 < n → p + 3 * n ≤ length d) × (q ≡ p + 3 * n)
components_read zero d p vs q e = (cc, λ h. omega arith, let s : q ≡ p = cc in omega arith)
components_read (suc n) d p vs q e =
    let s = followed_read (reading component_table d p []) _ vs q e in
    let a = table_read component_table d p [] s.ws s.middle s.first in
    let b = component_end d p s.ws s.middle s.first in
    let r = components_read n d s.middle s.us q s.second in
    let m : 3 * suc n ≡ suc (suc (suc (3 * n))) = omega arith in (
      s.joined ∙ ap₂ ◌++◌ a.0 r.0 ∙ sym (part_three (3 * suc n) (3 * n) d p s.middle m b.0 b.1),
      λ _. inside n r.1 b.0 b.1,
      omega (arith, r.2, b.0),
    )
  where
    inside :
        (n : ℕ) {m : ℕ} → (0 < n → m + 3 * n ≤ length d) → m ≡ p + 3 → p + 3 ≤ length d → p + 3 * suc n ≤ length d
    inside zero r e h = omega arith
    inside (suc n) r e h = omega (arith, r (omega arith))

-- what stands behind does not matter to the first n
sampled_front : (n : ℕ) (cs ws : List ℕ) → 3 * n ≤ length cs → sampled n (cs ++ ws) ≡ sampled n cs
sampled_front zero cs ws h = refl
sampled_front (suc n) cs ws h =
    let x = get_or_append_left cs ws 0 (3 * n + 1) (omega arith) in
    let y = get_or_append_left cs ws 0 (3 * n + 2) (omega arith) in
    let r = sampled_front n cs ws (omega arith) in
    rw (r, x, y) refl

-- one component more
sampled_push :
    (k : ℕ) (cs ws : List ℕ) (s b : Bool) → length cs ≡ 3 * k → s ≡ sampled k cs → b ≡ (ltb 0 (get_or ws 1 0) && ltb 0 (get_or ws 2 0))
    → (s && b) ≡ sampled (suc k) (cs ++ ws)
sampled_push k cs ws s b l e f =
    let x : get_or (cs ++ ws) (3 * k + 1) 0 ≡ get_or ws 1 0 = ap (λ (i : ℕ). get_or (cs ++ ws) (i + 1) 0) (sym l) ∙ get_or-append-add cs ws 1 0 in
    let y : get_or (cs ++ ws) (3 * k + 2) 0 ≡ get_or ws 2 0 = ap (λ (i : ℕ). get_or (cs ++ ws) (i + 2) 0) (sym l) ∙ get_or-append-add cs ws 2 0 in
    rw (sampled_front k cs ws (omega arith), x, y, e, f) refl

-- k of n components are read, and s says whether they are sampled
pub record Listed (n : ℕ) (d : List ℕ) (p0 k p : ℕ) (s : Bool) : Type 0 where
  pub run : Run (fields component_table) n d p0 k p
  pub long : length run.vs ≡ 3 * k
  pub flag : s ≡ sampled k run.vs

pub listed_none : (n : ℕ) (d : List ℕ) (p : ℕ) → Listed n d p 0 p true
listed_none n d p = record { run = run_none (fields component_table) n d p; long = refl; flag = refl }

pub listed_more :
    (n : ℕ) (d : List ℕ) (p0 k p : ℕ) (s b : Bool) (ws : List ℕ) (q : ℕ) → Listed n d p0 k p s → k < n
    → reading component_table d p [] ≡ read ws q → MadeComponent b ws → Listed n d p0 (k + 1) q (s && b)
listed_more n d p0 k p s b ws q r lt e m =
    record {
      run = run_more (fields component_table) n d p0 k p ws q r.run lt e;
      long = omega (arith, length-append r.run.vs ws, r.long, m.count);
      flag = sampled_push k r.run.vs ws s b r.long r.flag m.sampled ∙ ap (λ (j : ℕ). sampled j (r.run.vs ++ ws)) (sym (add-one k));
    }

pub listed_failed :
    (n : ℕ) (d : List ℕ) (p0 k p : ℕ) (s : Bool) (e : Cause) (q : ℕ) → Listed n d p0 k p s → k < n → reading component_table d p [] ≡ failed e q
    → meaning (components_layout n) d p0 ≡ failed e q
listed_failed n d p0 k p s e q r lt f = run_failed (fields component_table) n d p0 k p e q r.run lt f

-- a component that is read is there, with a precision that is admitted
pub components_precise :
    (n : ℕ) (d : List ℕ) (p : ℕ) (vs : List ℕ) (q : ℕ) → meaning (components_layout n) d p ≡ read vs q → (k : ℕ) → k < n
    → (p + 3 * k + 3 ≤ length d) × (leb (precision_of (byte_at d (p + 3 * k))) 31 ≡ true)
components_precise zero d p vs q e k h = absurd (omega arith)
components_precise (suc n) d p vs q e zero h =
    let s = followed_read (reading component_table d p []) _ vs q e in
    let z : p + 3 * 0 ≡ p = omega arith in (
      omega (arith, (component_end d p s.ws s.middle s.first).1),
      ap (λ (x : ℕ). leb (precision_of (byte_at d x)) 31) z
          ∙ first_admitted (field one (precise 31)) (field one any ∷ field one any ∷ []) d p [] s.ws s.middle s.first,
    )
components_precise (suc n) d p vs q e (suc k) h =
    let s = followed_read (reading component_table d p []) _ vs q e in
    let r = components_precise n d s.middle s.us q s.second k (omega arith) in
    let b = component_end d p s.ws s.middle s.first in
    let z : p + 3 * suc k ≡ s.middle + 3 * k = omega (arith, b.0) in
    (omega (arith, b.0, r.0), ap (λ (x : ℕ). leb (precision_of (byte_at d x)) 31) z ∙ r.1)

both : (a b : Bool) → (a && b) ≡ true → (a ≡ true) × (b ≡ true)
both true true e = (refl, refl)
both true false e = (refl, e)
both false true e = (e, refl)
both false false e = (e, e)

pub sampled_each :
    (n : ℕ) (cs : List ℕ) → sampled n cs ≡ true → (k : ℕ) → k < n
    → (ltb 0 (get_or cs (3 * k + 1) 0) ≡ true) × (ltb 0 (get_or cs (3 * k + 2) 0) ≡ true)
sampled_each zero cs e k h = absurd (omega arith)
sampled_each (suc n) cs e k h =
    let b = both (sampled n cs) (ltb 0 (get_or cs (3 * n + 1) 0) && ltb 0 (get_or cs (3 * n + 2) 0)) e in
    elim (cases_eq k n) [
      | inl same ↦ rw same (both (ltb 0 (get_or cs (3 * n + 1) 0)) (ltb 0 (get_or cs (3 * n + 2) 0)) b.1)
      | inr other ↦ sampled_each n cs b.0 k (omega (arith, other))
    ]

-- component k of an accepted list
pub component_there :
    (n : ℕ) (d : List ℕ) (p : ℕ) (vs : List ℕ) (q : ℕ) → meaning (components_layout n) d p ≡ read vs q → sampled n vs ≡ true → (k : ℕ) → k < n
    → component_at d (p + 3 * k) ≡ true
component_there n d p vs q e s k h =
    let r = components_precise n d p vs q e k h in
    let all = (components_read n d p vs q e).0 in
    let t = sampled_each n vs s k h in
    let x : get_or vs (3 * k + 1) 0 ≡ byte_at d (p + 3 * k + 1) =
    part_at d vs p (3 * n) (3 * k + 1) (omega arith) all ∙ ap (λ (i : ℕ). byte_at d i) (omega arith) in
    let y : get_or vs (3 * k + 2) 0 ≡ byte_at d (p + 3 * k + 2) =
    part_at d vs p (3 * n) (3 * k + 2) (omega arith) all ∙ ap (λ (i : ℕ). byte_at d i) (omega arith) in
    let a : leb (p + 3 * k + 3) (length d) ≡ true = le-leb _ _ r.0 in
    let u : ltb 0 (byte_at d (p + 3 * k + 1)) ≡ true = rw x at t.0 in
    let v : ltb 0 (byte_at d (p + 3 * k + 2)) ≡ true = rw y at t.1 in
    rw (a, r.1, u, v) refl
