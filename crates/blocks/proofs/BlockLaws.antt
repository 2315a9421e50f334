-- The code-blocks of a rectangle.
use Rattle.std.proofs.Common.{◌≡◌, ℕ, ◌+◌, ◌-◌, ◌*◌, ◌/◌, ◌<◌, ◌≤◌, max, Bool, true, false, cond, ltb, List, [], ◌∷◌, length, get_or, filter, sym, refl, ap, ◌∙◌, ap₂, mul-le-mul_right, mod-lt, mul-pos, div-add-mod', le-mul_of_pos_right, div-mul-le_self, arith, length-append}
use Rattle.std.specs.Prelude.{All}
use Rattle.std.specs.List.{range_with_len}
use Rattle.std.proofs.lemmas.List.Elements.{All-cons, All-get_or, All-head, All-nil, All-tail}
use Rattle.std.proofs.lemmas.Bool.{le-ltb, lt-ltb, ltb-false, ltb-true}
use Rattle.std.proofs.lemmas.Bool.Decides.{nat_tests}
use Rattle.rect.specs.Numbers.{ceil}
use Rattle.rect.specs.Rects.{nowhere}
use Rattle.rect.specs.Spans.{Span, Rect, rect, area, cell, filled, meet, meets}
use Rattle.rect.specs.Sums.{each, product, total, Partition}
use Rattle.rect.proofs.Ceil.{le_ceil, lt_ceil}
use Rattle.rect.proofs.Places.{get_or_product, length_product}
use Rattle.rect.proofs.Weights.{Adds, cut_total, partition, total_append, total_kept, total_product, weigh, weight}
use Rattle.blocks.specs.CodeBlocks.{block_at, block_count_of, block_span, blocks, Celled, Proper}
use Rattle.blocks.proofs.Kept.{all_product, kept_from, kept_product, shifted}

-- the cells that share something with a span are those from its first on
abbrev reaches : ℕ → Span → ℕ → Bool
reaches w s i = ltb (meet (cell 0 w i) s).from (meet (cell 0 w i) s).to

before : (w : ℕ) (s : Span) (i : ℕ) → i < s.from / w → reaches w s i ≡ false
before w s i h =
    le-ltb (meet (cell 0 w i) s).from (meet (cell 0 w i) s).to
    (omega (arith, div-mul-le_self s.from w, mul-le-mul_right {m = i + 1} {n = s.from / w} w (omega arith)))

inside : (w : ℕ) → 0 < w → (s : Span) → s.from < s.to → (i : ℕ) → s.from / w ≤ i → i < ceil s.to w → reaches w s i ≡ true
inside w pos s h i lo hi =
    lt-ltb (meet (cell 0 w i) s).from (meet (cell 0 w i) s).to
    (omega (
      arith,
      h,
      div-add-mod' s.from w,
      mod-lt s.from pos,
      mul-le-mul_right {m = s.from / w} {n = i} w lo,
      lt_ceil s.to w i pos hi,
    ))

nothing : (w : ℕ) (s : Span) → s.to ≤ s.from → (i : ℕ) → reaches w s i ≡ false
nothing w s h i = le-ltb (meet (cell 0 w i) s).from (meet (cell 0 w i) s).to (omega (arith, h))

kept_cells : (w : ℕ) → 0 < w → (s : Span) → filter (reaches w s) (range_with_len 0 (ceil s.to w)) ≡ range_with_len (s.from / w) (block_count_of w s)
kept_cells w pos s = go (ltb s.from s.to) refl
  where
    go : (t : Bool) → ltb s.from s.to ≡ t
        → filter (reaches w s) (range_with_len 0 (ceil s.to w)) ≡ range_with_len (s.from / w) (cond t (ceil s.to w - s.from / w) 0)
    go true e =
        let h : s.from < s.to = ltb-true s.from s.to e in
        let d : max 0 (s.from / w) ≡ s.from / w = omega arith in
        kept_from (reaches w s) (s.from / w) (ceil s.to w) (before w s) (inside w pos s h) 0 (ceil s.to w) (omega arith)
        ∙ ap (λ j. range_with_len j (ceil s.to w - j)) d
    go false e =
        let h : s.to ≤ s.from = ltb-false s.from s.to e in
        let n = ceil s.to w in
        let d : n - max 0 n ≡ 0 = omega arith in
        kept_from (reaches w s) n n (λ i _. nothing w s h i) (λ i a b. absurd (omega arith)) 0 n (omega arith)
        ∙ ap (range_with_len (max 0 n)) d

abbrev block_in : ℕ → ℕ → Rect → ℕ → ℕ → Rect
block_in w h r i j = rect (block_span w r.x i) (block_span h r.y j)

-- the list in closed form
pub closed : (w h : ℕ) → 0 < w → 0 < h → (r : Rect)
    → blocks w h r ≡ product (block_in w h r) (range_with_len 0 (block_count_of w r.x)) (range_with_len 0 (block_count_of h r.y))
closed w h posw posh r =
    let f : ℕ → ℕ → Rect = λ i j. meets (rect (cell 0 w i) (cell 0 h j)) r in
    kept_product filled f (reaches w r.x) (reaches h r.y) (λ i j. refl) (range_with_len 0 (ceil r.x.to w)) (range_with_len 0 (ceil r.y.to h))
    ∙ ap₂ (product f) (kept_cells w posw r.x) (kept_cells h posh r.y)
    ∙ shifted f (r.x.from / w) (block_count_of w r.x) (r.y.from / h) (block_count_of h r.y)

pub number : (w h : ℕ) → 0 < w → 0 < h → (r : Rect) → length (blocks w h r) ≡ block_count_of w r.x * block_count_of h r.y
number w h posw posh r =
    ap length (closed w h posw posh r) ∙ length_product (block_in w h r) (block_count_of w r.x) (block_count_of h r.y)

pub listed : (w h : ℕ) → 0 < w → 0 < h → (r : Rect) (k : ℕ) → k < block_count_of w r.x * block_count_of h r.y
    → block_at w h r k ≡ get_or (blocks w h r) k nowhere
listed w h posw posh r k lt =
    sym (ap (λ (l : List Rect). get_or l k nowhere) (closed w h posw posh r)
    ∙ get_or_product (block_in w h r) (block_count_of w r.x) (block_count_of h r.y) k nowhere lt)

-- a block begins before the end
pub begins_before : (w : ℕ) → 0 < w → (s : Span) (i : ℕ) → i < block_count_of w s → (s.from < s.to) × ((s.from / w + i) * w < s.to)
begins_before w pos s i h = go (ltb s.from s.to) refl h
  where
    go : (t : Bool) → ltb s.from s.to ≡ t → i < cond t (ceil s.to w - s.from / w) 0 → (s.from < s.to) × ((s.from / w + i) * w < s.to)
    go true e l = (ltb-true s.from s.to e, lt_ceil s.to w (s.from / w + i) pos (omega arith))
    go false e l = absurd (omega arith)

pub count_below : (w : ℕ) → 0 < w → (s : Span) (i : ℕ) → i < block_count_of w s → i < s.to
count_below w pos s i h =
    omega (arith, (begins_before w pos s i h).1, le-mul_of_pos_right (s.from / w + i) pos)

-- the blocks have every weight of the rectangle
pub blocks_add : (w h : ℕ) → 0 < w → 0 < h → (r : Rect) → Adds r (blocks w h r)
blocks_add w h posw posh r F G up_f upG =
    let f : ℕ → ℕ → Rect = λ i j. meets (rect (cell 0 w i) (cell 0 h j)) r in
    let n = ceil r.x.to w in
    let m = ceil r.y.to h in
    total_kept F G up_f upG (product f (range_with_len 0 n) (range_with_len 0 m))
    ∙ total_product (weigh F G) f (λ i. weight F (meet (cell 0 w i) r.x)) (λ j. weight G (meet (cell 0 h j) r.y)) (λ i j. refl) (range_with_len 0 n)
    (range_with_len 0 m)
    ∙ ap₂ ◌*◌ (cut_total F up_f 0 w 0 n r.x (λ _. omega arith) (λ _. omega (arith, le_ceil r.x.to w posw)))
    (cut_total G upG 0 h 0 m r.y (λ _. omega arith) (λ _. omega (arith, le_ceil r.y.to h posh)))

pub blocks_partition : (w h : ℕ) → 0 < w → 0 < h → (r : Rect) → Partition r (blocks w h r)
blocks_partition w h posw posh r = partition r (blocks w h r) (blocks_add w h posw posh r)

-- no block is empty, and each lies in one cell
abbrev Placed : ℕ → ℕ → Rect → Type 0
Placed w h b = Celled w b.x × Celled h b.y

celled : (w : ℕ) (s : Span) (i : ℕ) → Celled w (meet (cell 0 w i) s)
celled w s i = record { number = i; begins = omega arith; ends = omega arith }

full : (w h : ℕ) (l : List Rect) → All (Placed w h) l → All (Proper w h) (filter filled l)
full w h [] a = All-nil (Proper w h)
full w h (r ∷ l) a = go (filled r) refl (full w h l (All-tail (Placed w h) r l a))
  where
    go : (t : Bool) → filled r ≡ t → All (Proper w h) (filter filled l) → All (Proper w h) (cond t (r ∷ filter filled l) (filter filled l))
    go true e rest =
        let p = All-head (Placed w h) r l a in
        All-cons (Proper w h) r (filter filled l) (record { wide = grind (arith, nat_tests); high = grind (arith, nat_tests); column = p.0; row = p.1 }) rest
    go false e rest = rest

pub blocks_proper : (w h : ℕ) (r : Rect) → All (Proper w h) (blocks w h r)
blocks_proper w h r =
    let f : ℕ → ℕ → Rect = λ i j. meets (rect (cell 0 w i) (cell 0 h j)) r in
    let n = ceil r.x.to w in
    let m = ceil r.y.to h in
    full w h (product f (range_with_len 0 n) (range_with_len 0 m))
    (all_product (Placed w h) f (λ i j. (celled w r.x i, celled h r.y j)) (range_with_len 0 n) (range_with_len 0 m))

pub proper_at : (w h : ℕ) (r : Rect) (k : ℕ) → k < length (blocks w h r) → Proper w h (get_or (blocks w h r) k nowhere)
proper_at w h r k lt = All-get_or (Proper w h) (blocks w h r) k nowhere lt (blocks_proper w h r)

-- there are no more blocks than samples
abbrev pub Few : List Rect → Type 0
Few l = length l ≤ total area l

pub few_each : {A : Type 0} (g : A → List Rect) → ((a : A) → Few (g a)) → (l : List A) → Few (each g l)
few_each g f [] = omega arith
few_each g f (a ∷ l) = omega (arith, length-append (g a) (each g l), total_append area (g a) (each g l), f a, few_each g f l)

few_kept : (l : List Rect) → Few (filter filled l)
few_kept [] = omega arith
few_kept (r ∷ l) = go (filled r) refl (few_kept l)
  where
    go : (t : Bool) → filled r ≡ t → Few (filter filled l) → Few (cond t (r ∷ filter filled l) (filter filled l))
    go true e rest =
        let x : 0 < r.x.to - r.x.from = grind (arith, nat_tests) in
        let y : 0 < r.y.to - r.y.from = grind (arith, nat_tests) in
        omega (arith, rest, mul-pos x y)
    go false e rest = rest

pub few_blocks : (w h : ℕ) (r : Rect) → Few (blocks w h r)
few_blocks w h r =
    few_kept (product (λ i j. meets (rect (cell 0 w i) (cell 0 h j)) r) (range_with_len 0 (ceil r.x.to w)) (range_with_len 0 (ceil r.y.to h)))
