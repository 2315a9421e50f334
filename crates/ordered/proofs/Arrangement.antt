use Rattle.std.proofs.Common.{◌≡◌, ℕ, zero, suc, ◌+◌, ◌-◌, ◌<◌, ◌≤◌, true, eqb, leb, List, [], ◌∷◌, ◌++◌, take, drop, sym, refl, ap, ◌∙◌, subst, ◌⊎◌, inl, inr, arith}
use Rattle.std.specs.List.{insert, All}
use Rattle.std.specs.List.Sorted.{IsNonDecreasingBy, IsPermutation}
use Rattle.std.proofs.lemmas.List.Sorted.{IsPermutation-refl, IsPermutation-cons, IsPermutation-trans, IsPermutation-to_front, IsPermutation-insert, IsNonDecreasingBy-insert, IsNonDecreasingBy-drop}
use Rattle.std.proofs.lemmas.List.Elements.{filter-append, All-filter, filter_passes}
use Rattle.std.proofs.lemmas.List.Recursion.{or_at, or_from_places}
use Rattle.std.proofs.lemmas.List.{append_assoc, append-nil, take-append-drop, get_or-drop, length-drop}
use Rattle.std.proofs.lemmas.Bool.{cases_Bool, cases_lt, le-leb, lt-leb, eqb-true, eq-eqb, ne_eqb, cond-true, cond-false}
use Rattle.ordered.specs.Order.{some_up_to, placed, placed_all, with_index, IsPlace, Arranged, ArrangementLaw}

-- A record that is placed is inserted at its place.
pub placed_at : {X : Type 0} (key : X → ℕ) (x : X) (ys : List X) (at : ℕ) → IsPlace key x ys at → placed key x ys ≡ insert ys at x
placed_at key x [] zero p = refl
placed_at key x [] (suc at) p = let w = p.within in absurd (omega arith)
placed_at key x (y ∷ ys) zero p =
    cond-false _ _ _ (or_from_places (some_up_to key (key x)) (λ z. leb (key z) (key x)) refl (λ _ _. refl) (y ∷ ys) x (λ k h. lt-leb _ _ (p.greater k x (omega arith) h)))
placed_at key x (y ∷ ys) (suc at) p =
    let w = p.within in
    cond-true _ _ _ (or_at (some_up_to key (key x)) (λ z. leb (key z) (key x)) refl (λ _ _. refl) (y ∷ ys) at x w (le-leb _ _ (p.behind at x (omega arith))))
    ∙ ap (λ l. y ∷ l) (placed_at key x ys at (record {
      within = omega arith;
      behind = λ k d e. p.behind (suc k) d (omega arith);
      greater = λ k d h l. p.greater (suc k) d (omega arith) (omega arith);
    }))

-- One more row in front, which is behind the record or not.
place_more : {X : Type 0} (key : X → ℕ) (x y : X) (ys : List X) (at : ℕ) → IsPlace key x ys at → (0 < at) ⊎ (key y ≤ key x) → IsPlace key x (y ∷ ys) (at + 1)
place_more key x y ys at p b =
    let w = p.within in
    record {
      within = omega arith;
      behind = elim [ zero ↦ λ d e. elim b [ inl h ↦ absurd (omega arith) | inr h ↦ h ] | suc k ↦ λ d e. p.behind k d (omega arith) ];
      greater = elim [ zero ↦ λ d h l. absurd (omega arith) | suc k ↦ λ d h l. p.greater k d (omega arith) (omega arith) ];
    }

-- Any list has such a place.
place_in : {X : Type 0} (key : X → ℕ) (x : X) (ys : List X) → (at : ℕ) × IsPlace key x ys at
place_in key x [] = (0, record { within = omega arith; behind = λ k d e. absurd (omega arith); greater = λ k d h l. absurd (omega arith) })
place_in key x (y ∷ ys) =
    let p = place_in key x ys in
    elim (cases_lt 0 p.0) [
      | inl b ↦ (p.0 + 1, place_more key x y ys p.0 p.1 (inl b))
      | inr n ↦
          elim (cases_lt (key x) (key y)) [
            | inl g ↦ (0, record { within = omega arith; behind = λ k d e. absurd (omega arith); greater = elim [ zero ↦ λ d h l. g | suc k ↦ λ d h l. p.1.greater k d (omega arith) (omega arith) ] })
            | inr b ↦ (p.0 + 1, place_more key x y ys p.0 p.1 (inr b))
          ]
    ]

placed_rises : {X : Type 0} (key : X → ℕ) (x : X) (ys : List X) → IsNonDecreasingBy key ys → IsNonDecreasingBy key (placed key x ys)
placed_rises key x ys r =
    let p = place_in key x ys in
    let w = p.1.within in
    subst (IsNonDecreasingBy key) (sym (placed_at key x ys p.0 p.1))
    (IsNonDecreasingBy-insert key ys p.0 x r w
    (λ k d h. omega (arith, r k (p.0 - 1) d (omega arith) (omega arith), p.1.behind (p.0 - 1) d (omega arith)))
    (λ k d h l. omega (arith, p.1.greater k d h l)))

placed_shuffled : {X : Type 0} (key : X → ℕ) (x : X) (ys : List X) → IsPermutation (x ∷ ys) (placed key x ys)
placed_shuffled key x ys = let p = place_in key x ys in subst (IsPermutation (x ∷ ys)) (sym (placed_at key x ys p.0 p.1)) (IsPermutation-insert ys p.0 x)

-- An index below all has no records.
with_none : {X : Type 0} (key : X → ℕ) (n : ℕ) (ys : List X) → All (λ y. n < key y) ys → with_index key n ys ≡ []
with_none key n [] a = refl
with_none key n (y ∷ ys) a =
    cond-false _ _ _ (ne_eqb (key y) n (λ e. omega (arith, a 0 y (omega arith)))) ∙ with_none key n ys (λ k d l. a (suc k) d (omega arith))

-- Where all are greater than x, x may stand at either end.
with_around : {X : Type 0} (key : X → ℕ) (n : ℕ) (x : X) (qs : List X) → All (λ q. key x < key q) qs → with_index key n (x ∷ qs) ≡ with_index key n qs ++ with_index key n (x ∷ [])
with_around key n x qs a =
    elim (cases_Bool (eqb (key x) n)) [
      | inl t ↦
          let e = eqb-true (key x) n t in
          let none : with_index key n qs ≡ [] = with_none key n qs (λ k d l. omega (arith, a k d l)) in
          rw (t, none) refl
      | inr f ↦ rw f (sym (append-nil (with_index key n qs)))
    ]

with_placed : {X : Type 0} (key : X → ℕ) (n : ℕ) (x : X) (ys : List X) → with_index key n (placed key x ys) ≡ with_index key n ys ++ with_index key n (x ∷ [])
with_placed key n x ys =
    let p = place_in key x ys in
    let front = take p.0 ys in
    let back = drop p.0 ys in
    ap (with_index key n) (placed_at key x ys p.0 p.1)
    ∙ (filter-append _ front (x ∷ back)
    ∙ (ap (λ l. with_index key n front ++ l) (with_around key n x back (λ k d l. subst (λ y. key x < key y) (sym (get_or-drop p.0 ys k d)) (p.1.greater (p.0 + k) d (omega arith) (omega (arith, length-drop p.0 ys)))))
    ∙ (sym (append_assoc (with_index key n front) (with_index key n back) (with_index key n (x ∷ [])))
    ∙ ap (λ l. l ++ with_index key n (x ∷ [])) (sym (filter-append _ front back) ∙ ap (with_index key n) (take-append-drop p.0 ys)))))

pub arranged_none : {X : Type 0} (key : X → ℕ) → Arranged X key [] []
arranged_none key = record { in_order = λ i j d le lt. absurd (omega arith); equals_as_arrived = λ n. refl; rearranged = IsPermutation-refl [] }

pub arranged_next : {X : Type 0} (key : X → ℕ) (arrivals rows : List X) (x : X) → Arranged X key arrivals rows → Arranged X key (arrivals ++ x ∷ []) (placed key x rows)
arranged_next key arrivals rows x a =
    record {
      in_order = placed_rises key x rows a.in_order;
      equals_as_arrived = λ n. with_placed key n x rows ∙ (ap (λ l. l ++ with_index key n (x ∷ [])) (a.equals_as_arrived n) ∙ sym (filter-append _ arrivals (x ∷ [])));
      rearranged =
          IsPermutation-trans _ (x ∷ arrivals) _ (IsPermutation-to_front arrivals x)
          (IsPermutation-trans _ (x ∷ rows) _ (IsPermutation-cons x _ _ a.rearranged) (placed_shuffled key x rows));
    }

pub arranged_all : {X : Type 0} (key : X → ℕ) (xs arrivals rows : List X) → Arranged X key arrivals rows → Arranged X key (arrivals ++ xs) (placed_all key xs rows)
arranged_all key [] arrivals rows a = subst (λ l. Arranged _ key l rows) (sym (append-nil arrivals)) a
arranged_all key (x ∷ xs) arrivals rows a =
    subst (λ l. Arranged _ key l (placed_all key xs (placed key x rows))) (append_assoc arrivals (x ∷ []) xs)
    (arranged_all key xs (arrivals ++ x ∷ []) (placed key x rows) (arranged_next key arrivals rows x a))

with_here : {X : Type 0} (key : X → ℕ) (y : X) (ys : List X) → with_index key (key y) (y ∷ ys) ≡ y ∷ with_index key (key y) ys
with_here key y ys = cond-true _ _ _ (eq-eqb (key y) (key y) refl)

-- An index that is there is not below the first.
first_low : {X : Type 0} (key : X → ℕ) (n : ℕ) (y : X) (ys : List X) (z : X) (zs : List X) → IsNonDecreasingBy key (y ∷ ys) → with_index key n (y ∷ ys) ≡ z ∷ zs → key y ≤ n
first_low key n y ys z zs r e =
    let low : key y ≤ key z = subst (All (λ v. key y ≤ key v)) e (All-filter (λ v. eqb (key v) n) (λ v. key y ≤ key v) (y ∷ ys) (λ k d l. r 0 k d (omega arith) l)) 0 z (omega arith) in
    let here : key z ≡ n = eqb-true (key z) n (subst (All (λ v. eqb (key v) n ≡ true)) e (filter_passes (λ v. eqb (key v) n) (y ∷ ys)) 0 z (omega arith)) in
    omega arith

-- Lists in order that have the same records of each index are the same.
same_rows : {X : Type 0} (key : X → ℕ) (xs ys : List X) → IsNonDecreasingBy key xs → IsNonDecreasingBy key ys → ((n : ℕ) → with_index key n xs ≡ with_index key n ys) → xs ≡ ys
same_rows key [] [] u v h = refl
same_rows key [] (b ∷ ys) u v h = let e = h (key b) ∙ with_here key b ys in cc
same_rows key (a ∷ xs) [] u v h = let e = sym (with_here key a xs) ∙ h (key a) in cc
same_rows key (a ∷ xs) (b ∷ ys) u v h =
    let ba = first_low key (key a) b ys a _ v (sym (h (key a)) ∙ with_here key a xs) in
    let ab = first_low key (key b) a xs b _ u (h (key b) ∙ with_here key b ys) in
    let k : key b ≡ key a = omega arith in
    let first : a ∷ with_index key (key a) xs ≡ b ∷ with_index key (key a) ys = sym (with_here key a xs) ∙ (h (key a) ∙ cond-true _ _ _ (eq-eqb (key b) (key a) k)) in
    let heads : a ≡ b = cc in
    let tails : xs ≡ ys =
    same_rows key xs ys (IsNonDecreasingBy-drop key 1 (a ∷ xs) u) (IsNonDecreasingBy-drop key 1 (b ∷ ys) v)
    (λ n.
    let both : with_index key n (a ∷ xs) ≡ with_index key n (a ∷ ys) = h n ∙ ap (λ z. with_index key n (z ∷ ys)) (sym heads) in
    elim (cases_Bool (eqb (key a) n)) [
      | inl t ↦ let e : a ∷ with_index key n xs ≡ a ∷ with_index key n ys = rw t at both in cc
      | inr f ↦ rw f at both
    ]) in
    cc

pub arrangement_law : {X : Type 0} (key : X → ℕ) → ArrangementLaw X key
arrangement_law key =
    let one : (arrivals : List _) → Arranged _ key arrivals (placed_all key arrivals []) = λ arrivals. arranged_all key arrivals [] [] (arranged_none key) in
    record {
      one = one;
      no_other = λ arrivals rows a. let b = one arrivals in same_rows key rows (placed_all key arrivals []) a.in_order b.in_order (λ n. a.equals_as_arrived n ∙ sym (b.equals_as_arrived n));
      next = arranged_next key;
    }
