-- Exactly one, by its place; and a list of rows as a list by number.
use Rattle.std.proofs.Common.{◌≡◌, ℕ, zero, suc, ◌+◌, ◌*◌, ◌/◌, ◌%◌, ◌<◌, ◌≤◌, Bool, true, false, cond, List, [], ◌∷◌, ◌++◌, map, length, get_or, sum_by, sym, refl, ap, ◌∙◌, ap₂, mul_comm, zero-mul, arith}
use Rattle.std.specs.List.{range_with_len}
use Rattle.std.proofs.lemmas.Nat.{div-mul-add, div_below, mod-mul-add, mod_below}
use Rattle.std.proofs.lemmas.List.{map-append}
use Rattle.std.proofs.lemmas.List.FromFn.{get_or-map-range_with_len, length-map-range_with_len}
use Rattle.std.proofs.lemmas.List.Sums.{sum_by-cons}
use Rattle.rect.specs.Spans.{holds}
use Rattle.rect.specs.Sums.{total, product, Sole, CountOne}

-- `total` is the library's sum
pub total_sum_by : {A : Type 0} (f : A → ℕ) (l : List A) → total f l ≡ sum_by f l
total_sum_by f [] = refl
total_sum_by f (a ∷ l) = ap (λ n. f a + n) (total_sum_by f l) ∙ sym (sum_by-cons f a l)

none : {A : Type 0} (p : A → Bool) (l : List A) → total (λ a. cond (p a) 1 0) l ≡ 0 → (k : ℕ) (d : A) → k < length l → p (get_or l k d) ≡ true → ⊥
none p [] e k d h t = omega arith
none p (a ∷ l) e zero d h t = let z = ap {B = ℕ} (λ b. cond b 1 0) t in omega arith
none p (a ∷ l) e (suc k) d h t = none p l (omega arith) k d (omega arith) t

pub sole : {A : Type 0} (p : A → Bool) (l : List A) → total (λ a. cond (p a) 1 0) l ≡ 1 → Sole p l
sole {A} p [] e = let z : ⊥ = omega arith in absurd z
sole {A} p (a ∷ l) e = go (p a) refl (sole p l)
  where
    go : (b : Bool) → p a ≡ b → (total (λ x. cond (p x) 1 0) l ≡ 1 → Sole p l) → Sole p (a ∷ l)
    go true t rest = record { place = 0; there = omega arith; passes = λ d. t; only = only }
      where
        only : (k : ℕ) (d : A) → k < length (a ∷ l) → p (get_or (a ∷ l) k d) ≡ true → k ≡ 0
        only zero d h s = refl
        only (suc k) d h s = let z = ap {B = ℕ} (λ b. cond b 1 0) t in absurd (none p l (omega arith) k d (omega arith) s)
    go false t rest =
        let z = ap {B = ℕ} (λ b. cond b 1 0) t in
        let r : Sole p l = rest (omega arith) in
        record { place = suc r.place; there = omega (arith, r.there); passes = r.passes; only = only r }
      where
        only : (r : Sole p l) (k : ℕ) (d : A) → k < length (a ∷ l) → p (get_or (a ∷ l) k d) ≡ true → k ≡ suc r.place
        only r zero d h s = let z = ap {B = ℕ} (λ b. cond b 1 0) (sym t ∙ s) in omega arith
        only r (suc k) d h s = ap suc (r.only k d (omega arith) s)

pub count_one : CountOne
count_one x y l e = sole (holds x y) l e

pub map_map : {A B C : Type 0} (g : B → C) (f : A → B) (l : List A) → map g (map f l) ≡ map (λ a. g (f a)) l
map_map g f [] = refl
map_map g f (a ∷ l) = ap (λ r. g (f a) ∷ r) (map_map g f l)

counting_append : (k a b : ℕ) → range_with_len k (a + b) ≡ range_with_len k a ++ range_with_len (k + a) b
counting_append k zero b =
    let e : 0 + b ≡ b = omega arith in
    let d : k + 0 ≡ k = omega arith in
    ap₂ (λ x y. range_with_len x y) (sym d) e
counting_append k (suc a) b =
    let e : suc a + b ≡ suc (a + b) = omega arith in
    let d : k + 1 + a ≡ k + suc a = omega arith in
    ap (range_with_len k) e ∙ ap (λ r. k ∷ r) (counting_append (k + 1) a b ∙ ap (λ x. range_with_len (k + 1) a ++ range_with_len x b) d)

-- the part of row j from column i on
row : {A : Type 0} (f : ℕ → ℕ → A) (n j i k : ℕ) → i + k ≤ n → map (λ c. f c j) (range_with_len i k) ≡ map (λ t. f (t % n) (t / n)) (range_with_len (j * n + i) k)
row f n j i zero h = refl
row f n j i (suc k) h =
    let e : j * n + (i + 1) ≡ j * n + i + 1 = omega arith in
    ap₂ (λ a r. a ∷ r) (ap₂ f (sym (mod-mul-add j n i (omega arith))) (sym (div-mul-add j n i (omega arith))))
    (row f n j (i + 1) k (omega arith) ∙ ap (λ x. map (λ t. f (t % n) (t / n)) (range_with_len x k)) e)

rows : {A : Type 0} (f : ℕ → ℕ → A) (n j m : ℕ) → product f (range_with_len 0 n) (range_with_len j m) ≡ map (λ t. f (t % n) (t / n)) (range_with_len (j * n) (m * n))
rows f n j zero = let e : 0 * n ≡ 0 = omega arith in sym (ap (λ x. map (λ t. f (t % n) (t / n)) (range_with_len (j * n) x)) e)
rows f n j (suc m) =
    let g = λ (t : ℕ). f (t % n) (t / n) in
    let e : suc m * n ≡ n + m * n = omega arith in
    let d : (j + 1) * n ≡ j * n + n = omega arith in
    let z : j * n + 0 ≡ j * n = omega arith in
    ap₂ ◌++◌ (row f n j 0 n (omega arith) ∙ ap (λ x. map g (range_with_len x n)) z) (rows f n (j + 1) m ∙ ap (λ x. map g (range_with_len x (m * n))) d)
    ∙ sym (map-append g (range_with_len (j * n) n) (range_with_len (j * n + n) (m * n)))
    ∙ ap (map g) (sym (counting_append (j * n) n (m * n)) ∙ ap (range_with_len (j * n)) (sym e))

-- a number below n * m stands in a column below n and a row below m
some_columns : (n m k : ℕ) → k < n * m → 0 < n
some_columns zero m k h = omega (arith, zero-mul m)
some_columns (suc n) m k h = omega arith

pub column_below : (n m k : ℕ) → k < n * m → k % n < n
column_below n m k h = mod_below k n (some_columns n m k h)

pub row_below : (n m k : ℕ) → k < n * m → k / n < m
row_below n m k h = div_below k n m (some_columns n m k h) (omega (arith, mul_comm n m))

-- rows and columns by number: item t stands in column t % n and row t / n
pub row_by_row : {A : Type 0} (f : ℕ → ℕ → A) (n m : ℕ) → product f (range_with_len 0 n) (range_with_len 0 m) ≡ map (λ t. f (t % n) (t / n)) (range_with_len 0 (m * n))
row_by_row f n m = let e : 0 * n ≡ 0 = omega arith in rows f n 0 m ∙ ap (λ x. map (λ t. f (t % n) (t / n)) (range_with_len x (m * n))) e

pub get_or_product : {A : Type 0} (f : ℕ → ℕ → A) (n m k : ℕ) (d : A) → k < n * m → get_or (product f (range_with_len 0 n) (range_with_len 0 m)) k d ≡ f (k % n) (k / n)
get_or_product f n m k d h =
    ap (λ l. get_or l k d) (row_by_row f n m)
    ∙ get_or-map-range_with_len (λ t. f (t % n) (t / n)) 0 (m * n) k k d (omega (arith, mul_comm n m)) (omega arith)

pub length_product : {A : Type 0} (f : ℕ → ℕ → A) (n m : ℕ) → length (product f (range_with_len 0 n) (range_with_len 0 m)) ≡ n * m
length_product f n m =
    ap length (row_by_row f n m) ∙ length-map-range_with_len (λ t. f (t % n) (t / n)) 0 (m * n) ∙ mul_comm m n

pub map_product : {A B : Type 0} (g : A → B) (f : ℕ → ℕ → A) (l m : List ℕ) → map g (product f l m) ≡ product (λ i j. g (f i j)) l m
map_product g f l [] = refl
map_product g f l (b ∷ m) = map-append g (map (λ a. f a b) l) (product f l m) ∙ ap₂ ◌++◌ (map_map g (λ a. f a b) l) (map_product g f l m)
