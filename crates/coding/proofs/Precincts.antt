-- How far the loop that reads the precinct sizes has come.
use Rattle.std.proofs.Common.{◌≡◌, ℕ, zero, suc, ◌+◌, ◌-◌, ◌<◌, ◌≤◌, List, [], ◌∷◌, ◌++◌, map, length, get_or, set, take, drop, replicate, sym, refl, ap, ◌∙◌, subst, arith, length-set}
use Rattle.std.proofs.lemmas.List.{length_push, map-set, map-append, length-replicate, take-replicate, drop-replicate}
use Rattle.faults.specs.declared.segment.Cause.{Cause}
use Rattle.layouts.specs.Layouts.{read, failed, reading, meaning, fields, values_of}
use Rattle.layouts.proofs.Times.{Run, run_none, run_more, run_failed, run_all}
use Rattle.layouts.proofs.Exits.{is_read}
use Rattle.coding.specs.Coding.{MadePrecincts, precinct_table, precincts_layout, ppx, ppy, widths_of, heights_of}
use Rattle.coding.specs.Sections.{MadeSize}
use Rattle.coding.specs.declared.parameters.PrecinctSize.{PrecinctSize}

-- n exponents: what f takes from each of the sizes vs, and then 15
abbrev pub exponents : ℕ → (ℕ → ℕ) → List ℕ → List ℕ
exponents zero f vs = []
exponents (suc n) f [] = 15 ∷ exponents n f []
exponents (suc n) f (v ∷ vs) = f v ∷ exponents n f vs

exponents_push : (n : ℕ) (f : ℕ → ℕ) (vs : List ℕ) (v : ℕ) → set (exponents n f vs) (length vs) (f v) ≡ exponents n f (vs ++ v ∷ [])
exponents_push zero f vs v = refl
exponents_push (suc n) f [] v = refl
exponents_push (suc n) f (u ∷ vs) v = ap (λ (l : List ℕ). f u ∷ l) (exponents_push n f vs v)

exponents_each : (n : ℕ) (f : ℕ → ℕ) (vs : List ℕ) (r : ℕ) → r < n → get_or (exponents n f vs) r 0 ≡ get_or (map f vs) r 15
exponents_each zero f vs r h = absurd (omega arith)
exponents_each (suc n) f [] zero h = refl
exponents_each (suc n) f [] (suc r) h = exponents_each n f [] r (omega arith)
exponents_each (suc n) f (v ∷ vs) zero h = refl
exponents_each (suc n) f (v ∷ vs) (suc r) h = exponents_each n f vs r (omega arith)

exponents_append :
    (n m t : ℕ) (f : ℕ → ℕ) (vs : List ℕ) → n + m ≡ t → length vs ≤ n → exponents n f vs ++ exponents m f [] ≡ exponents t f vs
exponents_append zero m t f [] e h = let s : t ≡ m = omega arith in rw s refl
exponents_append zero m t f (v ∷ vs) e h = absurd (omega arith)
exponents_append (suc n) m zero f vs e h = absurd (omega arith)
exponents_append (suc n) m (suc t) f [] e h = ap (λ (l : List ℕ). 15 ∷ l) (exponents_append n m t f [] (omega arith) (omega arith))
exponents_append (suc n) m (suc t) f (v ∷ vs) e h = ap (λ (l : List ℕ). f v ∷ l) (exponents_append n m t f vs (omega arith) (omega arith))

exponents_none : (n : ℕ) (f : ℕ → ℕ) (g : PrecinctSize → ℕ) (s : PrecinctSize) → g s ≡ 15 → map g (replicate n s) ≡ exponents n f []
exponents_none zero f g s e = refl
exponents_none (suc n) f g s e = rw (e, exponents_none n f g s e) refl

-- k of n sizes are read into the first n rows, and the next stands at p
pub record Rows (n : ℕ) (d : List ℕ) (p0 k p : ℕ) (sizes : List PrecinctSize) : Type 0 where
  pub run : Run (fields precinct_table) n d p0 k p
  pub many : length run.vs ≡ k
  pub rows : length sizes ≡ n
  pub widths : widths_of sizes ≡ exponents n ppx run.vs
  pub heights : heights_of sizes ≡ exponents n ppy run.vs

pub rows_none :
    (n m : ℕ) (d : List ℕ) (p : ℕ) (s : PrecinctSize) → m ≡ n → n ≤ 33 → s.width ≡ 15 → s.height ≡ 15
    → Rows n d p 0 p (take m (replicate 33 s))
rows_none n m d p s e le w h =
    let t : take m (replicate 33 s) ≡ replicate n s = rw e (take-replicate n 33 s le) in
    record {
      run = run_none (fields precinct_table) n d p;
      many = refl;
      rows = rw t (length-replicate n s);
      widths = rw t (exponents_none n ppx (λ x. x.width) s w);
      heights = rw t (exponents_none n ppy (λ x. x.height) s h);
    }

single : (ws : List ℕ) → length ws ≡ 1 → ws ≡ get_or ws 0 0 ∷ []
single [] e = absurd (omega arith)
single (x ∷ []) e = refl
single (x ∷ y ∷ ws) e = absurd (omega arith)

row_more :
    (n : ℕ) (f : ℕ → ℕ) (g : PrecinctSize → ℕ) (sizes : List PrecinctSize) (vs : List ℕ) (k v : ℕ) (s : PrecinctSize)
    → map g sizes ≡ exponents n f vs → length vs ≡ k → g s ≡ f v → map g (set sizes k s) ≡ exponents n f (vs ++ v ∷ [])
row_more n f g sizes vs k v s e many is = rw (map-set, e, is, ← many) (exponents_push n f vs v)

pub rows_more :
    (n : ℕ) (d : List ℕ) (p0 k p : ℕ) (sizes : List PrecinctSize) (ws : List ℕ) (s : PrecinctSize) (q : ℕ) → Rows n d p0 k p sizes → k < n
    → reading precinct_table d p [] ≡ read ws q → MadeSize s ws → Rows n d p0 (k + 1) q (set sizes k s)
rows_more n d p0 k p sizes ws s q rows lt e made =
    let f : reading precinct_table d p [] ≡ read (get_or ws 0 0 ∷ []) q = e ∙ ap (λ (l : List ℕ). read l q) (single ws made.count) in
    record {
      run = run_more (fields precinct_table) n d p0 k p (get_or ws 0 0 ∷ []) q rows.run lt f;
      many = omega (arith, length_push rows.run.vs (get_or ws 0 0), rows.many);
      rows = simp length-set rows.rows;
      widths = row_more n ppx (λ x. x.width) sizes rows.run.vs k (get_or ws 0 0) s rows.widths rows.many made.width;
      heights = row_more n ppy (λ x. x.height) sizes rows.run.vs k (get_or ws 0 0) s rows.heights rows.many made.height;
    }

row_all :
    (n m : ℕ) (f : ℕ → ℕ) (g : PrecinctSize → ℕ) (sizes : List PrecinctSize) (vs : List ℕ) (s : PrecinctSize) (r : ℕ) → map g sizes ≡ exponents n f vs
    → length vs ≤ n → n ≤ 33 → m ≡ n → g s ≡ 15 → r < 33 → get_or (map g (sizes ++ drop m (replicate 33 s))) r 0 ≡ get_or (map f vs) r 15
row_all n m f g sizes vs s r e many le same is lt =
    let t : drop m (replicate 33 s) ≡ replicate (33 - n) s = rw same (drop-replicate n 33 s) in
    rw (t, map-append, e, exponents_none (33 - n) f g s is, exponents_append n (33 - n) 33 f vs (omega arith) many) (exponents_each 33 f vs r lt)

pub rows_all :
    (n m : ℕ) (d : List ℕ) (p0 k p : ℕ) (sizes : List PrecinctSize) (s : PrecinctSize) → Rows n d p0 k p sizes → n ≤ k → k ≤ n → m ≡ n → n ≤ 33
    → s.width ≡ 15 → s.height ≡ 15
    → (meaning (precincts_layout n) d p0 ≡ read (values_of (meaning (precincts_layout n) d p0)) p)
    × MadePrecincts (sizes ++ drop m (replicate 33 s)) (values_of (meaning (precincts_layout n) d p0))
rows_all n m d p0 k p sizes s rows le ge same low w h =
    let e = run_all (fields precinct_table) n d p0 k p rows.run le in
    let many : length rows.run.vs ≤ n = omega (arith, rows.many) in (
      is_read _ _ _ e,
      subst (λ (l : List ℕ). MadePrecincts (sizes ++ drop m (replicate 33 s)) l) (sym (ap values_of e))
          (record {
            widths = λ r lt. row_all n m ppx (λ x. x.width) sizes rows.run.vs s r rows.widths many low same w lt;
            heights = λ r lt. row_all n m ppy (λ x. x.height) sizes rows.run.vs s r rows.heights many low same h lt;
          }),
    )
