-- What a test of columns and rows keeps of a list row by row.
use Rattle.std.proofs.Common.{◌≡◌, ℕ, zero, suc, ◌+◌, ◌-◌, ◌<◌, ◌≤◌, max, Bool, true, false, cond, ◌&&◌, ◌⊎◌, List, [], ◌∷◌, ◌++◌, map, filter, get_or, sym, refl, ap, ◌∙◌, ap₂, inl, inr, arith}
use Rattle.std.specs.Prelude.{All}
use Rattle.std.specs.List.{range_with_len}
use Rattle.std.proofs.lemmas.List.FromFn.{fill_by_all, get_or-range_with_len, length-range_with_len}
use Rattle.std.proofs.lemmas.List.Elements.{filter-append}
use Rattle.std.proofs.lemmas.List.Elements.{All-append, All-map, All-nil}
use Rattle.std.proofs.lemmas.Bool.{cases_lt, cond-false, cond-true}
use Rattle.rect.specs.Sums.{each, product}
use Rattle.rect.proofs.Places.{map_map}

neither : (b : Bool) → (b && false) ≡ false
neither true = refl
neither false = refl

kept_row : {A C : Type 0} (p : C → Bool) (f : A → C) (q : A → Bool) (t : Bool) → ((a : A) → p (f a) ≡ (q a && t)) → (l : List A)
    → filter p (map f l) ≡ cond t (map f (filter q l)) []
kept_row p f q true e [] = refl
kept_row p f q false e [] = refl
kept_row {A} {C} p f q true e (a ∷ l) = go (q a) refl (kept_row p f q true e l)
  where
    go : (b : Bool) → q a ≡ b → filter p (map f l) ≡ map f (filter q l)
        → cond (p (f a)) (f a ∷ filter p (map f l)) (filter p (map f l)) ≡ map f (cond b (a ∷ filter q l) (filter q l))
    go true w rest =
        cond-true (p (f a)) (f a ∷ filter p (map f l)) (filter p (map f l)) (e a ∙ ap (λ (b : Bool). b && true) w)
        ∙ ap (λ (r : List C). f a ∷ r) rest
    go false w rest =
        cond-false (p (f a)) (f a ∷ filter p (map f l)) (filter p (map f l)) (e a ∙ ap (λ (b : Bool). b && true) w) ∙ rest
kept_row p f q false e (a ∷ l) =
    cond-false (p (f a)) (f a ∷ filter p (map f l)) (filter p (map f l)) (e a ∙ neither (q a)) ∙ kept_row p f q false e l

pub kept_product : {A B C : Type 0} (p : C → Bool) (f : A → B → C) (q : A → Bool) (s : B → Bool)
    → ((a : A) (b : B) → p (f a b) ≡ (q a && s b)) → (l : List A) (m : List B)
    → filter p (product f l m) ≡ product f (filter q l) (filter s m)
kept_product p f q s e l [] = refl
kept_product {A} {B} {C} p f q s e l (b ∷ m) =
    filter-append p (map (λ a. f a b) l) (product f l m)
    ∙ ap₂ ◌++◌ (kept_row p (λ a. f a b) q (s b) (λ a. e a b) l) (kept_product p f q s e l m)
    ∙ join (s b)
  where
    join : (t : Bool) → cond t (map (λ a. f a b) (filter q l)) [] ++ product f (filter q l) (filter s m)
        ≡ product f (filter q l) (cond t (b ∷ filter s m) (filter s m))
    join true = refl
    join false = refl

-- of a, a + 1, .. n - 1 those from k on
pub kept_from : (q : ℕ → Bool) (k n : ℕ) → ((i : ℕ) → i < k → q i ≡ false) → ((i : ℕ) → k ≤ i → i < n → q i ≡ true) → (a m : ℕ) → a + m ≡ n
    → filter q (range_with_len a m) ≡ range_with_len (max a k) (n - max a k)
kept_from q k n lo hi a zero e = let z : n - max a k ≡ 0 = omega arith in sym (ap (range_with_len (max a k)) z)
kept_from q k n lo hi a (suc m) e = go (cases_lt a k) (kept_from q k n lo hi (a + 1) m (omega arith))
  where
    go : (a < k) ⊎ (k ≤ a) → filter q (range_with_len (a + 1) m) ≡ range_with_len (max (a + 1) k) (n - max (a + 1) k)
        → cond (q a) (a ∷ filter q (range_with_len (a + 1) m)) (filter q (range_with_len (a + 1) m)) ≡ range_with_len (max a k) (n - max a k)
    go (inl h) rest =
        let d : max (a + 1) k ≡ max a k = omega arith in
        cond-false (q a) (a ∷ filter q (range_with_len (a + 1) m)) (filter q (range_with_len (a + 1) m)) (lo a h) ∙ rest ∙ ap (λ j. range_with_len j (n - j)) d
    go (inr h) rest =
        let d : max (a + 1) k ≡ a + 1 = omega arith in
        let f : max a k ≡ a = omega arith in
        let g : n - a ≡ suc (n - (a + 1)) = omega arith in
        cond-true (q a) (a ∷ filter q (range_with_len (a + 1) m)) (filter q (range_with_len (a + 1) m)) (hi a h (omega arith))
        ∙ ap (λ (r : List ℕ). a ∷ r) (rest ∙ ap (λ j. range_with_len j (n - j)) d)
        ∙ sym (ap (λ j. range_with_len j (n - j)) f ∙ ap (range_with_len a) g)

-- columns and rows counted from 0
counting_shift : (a n : ℕ) → range_with_len a n ≡ map (λ i. a + i) (range_with_len 0 n)
counting_shift a n = fill_by_all (λ i. a + i) (range_with_len a n) n 0 (length-range_with_len a n) (λ k h. get_or-range_with_len a n k 0 h)

product_map : {A B C : Type 0} (f : B → C → A) (g : ℕ → B) (h : ℕ → C) (l m : List ℕ) → product f (map g l) (map h m) ≡ product (λ i j. f (g i) (h j)) l m
product_map f g h l [] = refl
product_map f g h l (b ∷ m) = ap₂ ◌++◌ (map_map (λ a. f a (h b)) g l) (product_map f g h l m)

pub shifted : {A : Type 0} (f : ℕ → ℕ → A) (a n b m : ℕ) → product f (range_with_len a n) (range_with_len b m) ≡ product (λ i j. f (a + i) (b + j)) (range_with_len 0 n) (range_with_len 0 m)
shifted f a n b m =
    ap₂ (product f) (counting_shift a n) (counting_shift b m) ∙ product_map f (λ i. a + i) (λ j. b + j) (range_with_len 0 n) (range_with_len 0 m)

-- what holds of every item
all_row : {A B : Type 0} (P : B → Type 0) (f : A → B) → ((a : A) → P (f a)) → (l : List A) → All P (map f l)
all_row P f h l = All-map P f l (λ k d _. h (get_or l k d))

pub all_product : {A B C : Type 0} (P : C → Type 0) (f : A → B → C) → ((a : A) (b : B) → P (f a b)) → (l : List A) (m : List B) → All P (product f l m)
all_product P f h l [] = All-nil P
all_product P f h l (b ∷ m) = All-append P (map (λ a. f a b) l) (product f l m) (all_row P (λ a. f a b) (λ a. h a b) l) (all_product P f h l m)

pub all_each : {A B : Type 0} (P : B → Type 0) (g : A → List B) → ((a : A) → All P (g a)) → (l : List A) → All P (each g l)
all_each P g f [] = All-nil P
all_each P g f (a ∷ l) = All-append P (g a) (each g l) (f a) (all_each P g f l)
