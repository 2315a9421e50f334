-- A weight of spans that adds up: F to - F from for a rising F. Lengths (F the identity), "holds p" (F rising from 0 to 1 at p) and lengths
-- after a division (F the quotient rounded up) are such weights, so one proof over F serves areas, points and components.
use Rattle.std.proofs.Common.{◌≡◌, ℕ, zero, suc, ◌+◌, ◌-◌, ◌*◌, ◌<◌, ◌≤◌, min, max, Bool, true, false, cond, ◌&&◌, ◌⊎◌, List, [], ◌∷◌, ◌++◌, map, filter, sym, refl, ap, ◌∙◌, ap₂, inl, inr, mul-zero, zero-mul, arith}
use Rattle.std.specs.List.{range_with_len}
use Rattle.std.proofs.lemmas.Bool.{cases_lt}
use Rattle.std.proofs.lemmas.Bool.Decides.{nat_tests}
use Rattle.rect.specs.Numbers.{ceil}
use Rattle.rect.specs.Spans.{Span, Rect, span, meet, within, holds, filled, cell, shrink}
use Rattle.rect.specs.Sums.{total, each, product, holders, Partition}
use Rattle.rect.proofs.Ceil.{ceil_up}

abbrev pub Mono : (ℕ → ℕ) → Type 0
Mono F = (a b : ℕ) → a ≤ b → F a ≤ F b

abbrev pub weight : (ℕ → ℕ) → Span → ℕ
weight F s = F s.to - F s.from

abbrev pub weigh : (ℕ → ℕ) → (ℕ → ℕ) → Rect → ℕ
weigh F G r = weight F r.x * weight G r.y

-- the parts have the whole's weight, whichever it is
abbrev pub Adds : Rect → List Rect → Type 0
Adds whole parts = (F G : ℕ → ℕ) → Mono F → Mono G → total (weigh F G) parts ≡ weigh F G whole

-- sums over lists
pub total_append : {A : Type 0} (f : A → ℕ) (l m : List A) → total f (l ++ m) ≡ total f l + total f m
total_append f [] m = omega arith
total_append f (a ∷ l) m = omega (arith, total_append f l m)

pub total_each : {A B : Type 0} (f : B → ℕ) (g : A → List B) (l : List A) → total f (each g l) ≡ total (λ a. total f (g a)) l
total_each f g [] = refl
total_each f g (a ∷ l) = omega (arith, total_append f (g a) (each g l), total_each f g l)

pub total_map : {A B : Type 0} (f : B → ℕ) (g : A → B) (l : List A) → total f (map g l) ≡ total (λ a. f (g a)) l
total_map f g [] = refl
total_map f g (a ∷ l) = omega (arith, total_map f g l)

pub total_same : {A : Type 0} (f g : A → ℕ) → ((a : A) → f a ≡ g a) → (l : List A) → total f l ≡ total g l
total_same f g e [] = refl
total_same f g e (a ∷ l) = omega (arith, e a, total_same f g e l)

pub total_plus : {A : Type 0} (f g : A → ℕ) (l : List A) → total (λ a. f a + g a) l ≡ total f l + total g l
total_plus f g [] = omega arith
total_plus f g (a ∷ l) = omega (arith, total_plus f g l)

pub total_times : {A : Type 0} (f : A → ℕ) (k : ℕ) (l : List A) → total (λ a. f a * k) l ≡ total f l * k
total_times f k [] = omega arith
total_times f k (a ∷ l) = omega (arith, total_times f k l)

-- a sum over rows and columns of products is the product of the sums
pub total_product : {A B C : Type 0} (h : C → ℕ) (f : A → B → C) (u : A → ℕ) (v : B → ℕ) → ((a : A) (b : B) → h (f a b) ≡ u a * v b)
    → (l : List A) (m : List B) → total h (product f l m) ≡ total u l * total v m
total_product h f u v e l [] = omega arith
total_product h f u v e l (b ∷ m) =
    let row : total h (map (λ a. f a b) l) ≡ total u l * v b =
    total_map h (λ a. f a b) l ∙ total_same (λ a. h (f a b)) (λ a. u a * v b) (λ a. e a b) l ∙ total_times u (v b) l in
    omega (arith, total_append h (map (λ a. f a b) l) (product f l m), row, total_product h f u v e l m)

-- what is empty weighs nothing
pub weight_empty : (F : ℕ → ℕ) → Mono F → (s : Span) → s.to ≤ s.from → weight F s ≡ 0
weight_empty F up s h = omega (arith, up s.to s.from h)

-- one cell cut by [a, b): its weight is that between its edges, moved into [a, b)
clamp : ℕ → ℕ → ℕ → ℕ
clamp a b t = max a (min b t)

cut_step : (F : ℕ → ℕ) → Mono F → (a b p q : ℕ) → a ≤ b → p ≤ q → weight F (meet (span p q) (span a b)) ≡ F (clamp a b q) - F (clamp a b p)
unfolding clamp
cut_step F up a b p q ab pq = go (cases_lt a q) (cases_lt p b)
  where
    go : (a < q) ⊎ (q ≤ a) → (p < b) ⊎ (b ≤ p) → F (min q b) - F (max p a) ≡ F (max a (min b q)) - F (max a (min b p))
    go (inl h) (inl k) =
        let e : min q b ≡ max a (min b q) = omega arith in
        let d : max p a ≡ max a (min b p) = omega arith in
        cc
    go (inr h) k =
        let e : max a (min b q) ≡ max a (min b p) = omega arith in
        omega (arith, up (min q b) (max p a) (omega arith), ap F e)
    go (inl h) (inr k) =
        let e : max a (min b q) ≡ max a (min b p) = omega arith in
        omega (arith, up (min q b) (max p a) (omega arith), ap F e)

clamp_mono : (a b : ℕ) {p q : ℕ} → p ≤ q → clamp a b p ≤ clamp a b q
unfolding clamp
clamp_mono a b h = omega arith

clamp_low : (a b t : ℕ) → a ≤ b → t ≤ a → clamp a b t ≡ a
unfolding clamp
clamp_low a b t ab h = omega arith

clamp_high : (a b t : ℕ) → a ≤ b → b ≤ t → clamp a b t ≡ b
unfolding clamp
clamp_high a b t ab h = omega arith

-- the cells k, k + 1, .. k + n - 1 of the grid, cut
telescope : (F : ℕ → ℕ) → Mono F → (o s a b k n : ℕ) → a ≤ b
    → total (λ i. weight F (meet (cell o s i) (span a b))) (range_with_len k n) ≡ F (clamp a b (o + (k + n) * s)) - F (clamp a b (o + k * s))
telescope F up o s a b k zero ab =
    let e : o + (k + 0) * s ≡ o + k * s = omega arith in
    omega (arith, ap (λ t. F (clamp a b t)) e)
telescope F up o s a b k (suc n) ab =
    let e : o + (k + suc n) * s ≡ o + (k + 1 + n) * s = omega arith in
    let lo : o + k * s ≤ o + (k + 1) * s = omega arith in
    let hi : o + (k + 1) * s ≤ o + (k + 1 + n) * s = omega arith in
    omega (
      arith,
      telescope F up o s a b (k + 1) n ab,
      cut_step F up a b (o + k * s) (o + (k + 1) * s) ab lo,
      ap (λ t. F (clamp a b t)) e,
      up (clamp a b (o + k * s)) (clamp a b (o + (k + 1) * s)) (clamp_mono a b lo),
      up (clamp a b (o + (k + 1) * s)) (clamp a b (o + (k + 1 + n) * s)) (clamp_mono a b hi),
    )

void : (F : ℕ → ℕ) → Mono F → (o s a b : ℕ) (l : List ℕ) → b ≤ a → total (λ i. weight F (meet (cell o s i) (span a b))) l ≡ 0
void F up o s a b [] h = refl
void F up o s a b (i ∷ l) h =
    omega (arith, up (min (o + (i + 1) * s) b) (max (o + i * s) a) (omega arith), void F up o s a b l h)

-- the cells of a grid that begins at or before a span and ends at or behind it, cut by the span, have its weight together
pub cut_total : (F : ℕ → ℕ) → Mono F → (o s k n : ℕ) (b : Span) → (b.from < b.to → o + k * s ≤ b.from) → (b.from < b.to → b.to ≤ o + (k + n) * s)
    → total (λ i. weight F (meet (cell o s i) b)) (range_with_len k n) ≡ weight F b
cut_total F up o s k n b lo hi = go (cases_lt b.from b.to)
  where
    go : (b.from < b.to) ⊎ (b.to ≤ b.from) → total (λ i. weight F (meet (cell o s i) b)) (range_with_len k n) ≡ weight F b
    go (inl h) =
        let ab : b.from ≤ b.to = omega arith in
        telescope F up o s b.from b.to k n ab
        ∙ ap₂ (λ p q. F p - F q) (clamp_high b.from b.to (o + (k + n) * s) ab (hi h)) (clamp_low b.from b.to (o + k * s) ab (lo h))
    go (inr h) = void F up o s b.from b.to (range_with_len k n) h ∙ sym (weight_empty F up b h)

-- leaving out what is empty leaves the weight
weigh_empty : (F G : ℕ → ℕ) → Mono F → Mono G → (r : Rect) → filled r ≡ false → weigh F G r ≡ 0
weigh_empty F G up_f upG r e = go (cases_lt r.x.from r.x.to) (cases_lt r.y.from r.y.to)
  where
    go : (r.x.from < r.x.to) ⊎ (r.x.to ≤ r.x.from) → (r.y.from < r.y.to) ⊎ (r.y.to ≤ r.y.from) → weigh F G r ≡ 0
    go (inr h) k = ap (λ n. n * weight G r.y) (weight_empty F up_f r.x h) ∙ zero-mul (weight G r.y)
    go (inl h) (inr k) = ap (λ n. weight F r.x * n) (weight_empty G upG r.y k) ∙ mul-zero (weight F r.x)
    go (inl h) (inl k) = grind (arith, nat_tests)

pub total_kept : (F G : ℕ → ℕ) → Mono F → Mono G → (l : List Rect) → total (weigh F G) (filter filled l) ≡ total (weigh F G) l
total_kept F G up_f upG [] = refl
total_kept F G up_f upG (r ∷ l) = go (filled r) refl (total_kept F G up_f upG l)
  where
    go : (t : Bool) → filled r ≡ t → total (weigh F G) (filter filled l) ≡ total (weigh F G) l
        → total (weigh F G) (cond t (r ∷ filter filled l) (filter filled l)) ≡ weigh F G r + total (weigh F G) l
    go true e rest = omega (arith, rest)
    go false e rest = omega (arith, rest, weigh_empty F G up_f upG r e)

-- what adds up for every weight is a partition
id_up : Mono (λ n. n)
id_up a b h = h

past : ℕ → ℕ → ℕ
past p e = min 1 (e - p)

past_up : (p : ℕ) → Mono (past p)
unfolding past
past_up p a b h = omega arith

held_1 : (p : ℕ) (s : Span) → cond (within p s) 1 0 ≡ weight (past p) s
unfolding past
held_1 p s = grind (arith, nat_tests)

both : (a b : Bool) → cond {A = ℕ} (a && b) 1 0 ≡ cond a 1 0 * cond b 1 0
both true true = refl
both true false = refl
both false true = refl
both false false = refl

held : (px py : ℕ) (r : Rect) → cond (holds px py r) 1 0 ≡ weigh (past px) (past py) r
held px py r = both (within px r.x) (within py r.y) ∙ ap₂ ◌*◌ (held_1 px r.x) (held_1 py r.y)

pub partition : (whole : Rect) (parts : List Rect) → Adds whole parts → Partition whole parts
partition whole parts adds = record {
  areas = adds (λ n. n) (λ n. n) id_up id_up;
  points = record {
    inside = λ x y h. count x y ∙ ap {B = ℕ} (λ t. cond t 1 0) h;
    outside = λ x y h. count x y ∙ ap {B = ℕ} (λ t. cond t 1 0) h;
  };
}
  where
    count : (x y : ℕ) → holders x y parts ≡ cond (holds x y whole) 1 0
    count x y =
        total_same (λ r. cond (holds x y r) 1 0) (weigh (past x) (past y)) (held x y) parts
        ∙ adds (past x) (past y) (past_up x) (past_up y) ∙ sym (held x y whole)

-- a partition stays one where every edge is divided and rounded up
pub shrink_adds : (dx dy : ℕ) → 0 < dx → 0 < dy → (whole : Rect) (parts : List Rect) → Adds whole parts → Adds (shrink dx dy whole) (map (shrink dx dy) parts)
shrink_adds dx dy posx posy whole parts adds F G up_f upG =
    total_map (weigh F G) (shrink dx dy) parts
    ∙ adds (λ e. F (ceil e dx)) (λ e. G (ceil e dy)) (λ a b k. up_f (ceil a dx) (ceil b dx) (ceil_up dx posx a b k))
    (λ a b k. upG (ceil a dy) (ceil b dy) (ceil_up dy posy a b k))
