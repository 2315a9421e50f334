-- A layout several times over: how far a loop that reads it has come.
use Rattle.std.proofs.Common.{◌≡◌, ℕ, suc, ◌+◌, ◌-◌, ◌<◌, ◌≤◌, List, [], ◌++◌, sym, refl, ap, ◌∙◌, append_assoc, append-nil, arith}
use Rattle.faults.specs.declared.segment.Cause.{Cause}
use Rattle.layouts.specs.Layouts.{Layout, Reading, read, failed, prefixed, followed, meaning, behind, times}
use Rattle.layouts.proofs.Tables.{never}

pub prefixed_none : (R : Reading) → prefixed [] R ≡ R
prefixed_none (read vs q) = refl
prefixed_none (failed e q) = refl

pub prefixed_twice : (vs ws : List ℕ) (R : Reading) → prefixed vs (prefixed ws R) ≡ prefixed (vs ++ ws) R
prefixed_twice vs ws (read us q) = ap (λ (l : List ℕ). read l q) (sym (append_assoc vs ws us))
prefixed_twice vs ws (failed e q) = refl

-- k of n are read, and the next stands at p
pub record Run (l : Layout) (n : ℕ) (d : List ℕ) (p0 k p : ℕ) : Type 0 where
  pub vs : List ℕ
  pub rest : meaning (times n l) d p0 ≡ prefixed vs (meaning (times (n - k) l) d p)

abbrev pub run_none : (l : Layout) (n : ℕ) (d : List ℕ) (p : ℕ) → Run l n d p 0 p
run_none l n d p =
    record { vs = []; rest = ap (λ (m : ℕ). meaning (times m l) d p) (omega arith) ∙ sym (prefixed_none (meaning (times (n - 0) l) d p)) }

abbrev pub run_more :
    (l : Layout) (n : ℕ) (d : List ℕ) (p0 k p : ℕ) (ws : List ℕ) (q : ℕ) → Run l n d p0 k p → k < n → meaning l d p ≡ read ws q
    → Run l n d p0 (k + 1) q
run_more l n d p0 k p ws q r lt e =
    let m : n - k ≡ suc (n - (k + 1)) = omega arith in
    record {
      vs = r.vs ++ ws;
      rest =
          r.rest
          ∙ ap (λ (m : ℕ). prefixed r.vs (meaning (times m l) d p)) m
          ∙ ap (λ (R : Reading). prefixed r.vs (followed R (λ vs q. meaning (times (n - (k + 1)) l) d q))) e
          ∙ prefixed_twice r.vs ws (meaning (times (n - (k + 1)) l) d q);
    }

pub run_failed :
    (l : Layout) (n : ℕ) (d : List ℕ) (p0 k p : ℕ) (e : Cause) (q : ℕ) → Run l n d p0 k p → k < n → meaning l d p ≡ failed e q
    → meaning (times n l) d p0 ≡ failed e q
run_failed l n d p0 k p e q r lt f =
    let m : n - k ≡ suc (n - (k + 1)) = omega arith in
    r.rest
    ∙ ap (λ (m : ℕ). prefixed r.vs (meaning (times m l) d p)) m
    ∙ ap (λ (R : Reading). prefixed r.vs (followed R (λ vs q. meaning (times (n - (k + 1)) l) d q))) f

pub run_all : (l : Layout) (n : ℕ) (d : List ℕ) (p0 k p : ℕ) (r : Run l n d p0 k p) → n ≤ k → meaning (times n l) d p0 ≡ read r.vs p
run_all l n d p0 k p r le =
    let z : n - k ≡ 0 = omega arith in
    r.rest ∙ ap (λ (m : ℕ). prefixed r.vs (meaning (times m l) d p)) z ∙ ap (λ (vs : List ℕ). read vs p) (append-nil r.vs)

-- two sections that are read, joined
pub joined :
    (l : Layout) (k : List ℕ → Layout) (d : List ℕ) (p : ℕ) (ws : List ℕ) (m : ℕ) (us : List ℕ) (q : ℕ) → meaning l d p ≡ read ws m
    → meaning (k ws) d m ≡ read us q → meaning (behind l k) d p ≡ read (ws ++ us) q
joined l k d p ws m us q e f = rw (e, f) refl

-- what is read in two sections, section by section
pub record Split (R : Reading) (k : List ℕ → ℕ → Reading) (vs : List ℕ) (q : ℕ) : Type 0 where
  pub ws : List ℕ
  pub middle : ℕ
  pub us : List ℕ
  pub first : R ≡ read ws middle
  pub second : k ws middle ≡ read us q
  pub joined : vs ≡ ws ++ us

pub followed_read : (R : Reading) (k : List ℕ → ℕ → Reading) (vs : List ℕ) (q : ℕ) → followed R k ≡ read vs q → Split R k vs q
followed_read (failed e p) k vs q h = never _ vs q _ _ refl h
followed_read (read ws m) k vs q h = go (k ws m) refl h
  where
    go : (S : Reading) → k ws m ≡ S → prefixed ws S ≡ read vs q → Split (read ws m) k vs q
    go (failed e p) f g = never _ vs q _ _ refl g
    go (read us p) f g =
        let e : p ≡ q = cc in
        record { ws = ws; middle = m; us = us; first = refl; second = f ∙ ap (λ (x : ℕ). read us x) e; joined = cc }
