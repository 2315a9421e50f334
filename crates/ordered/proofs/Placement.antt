use Rattle.std.proofs.Common.{◌≡◌, ℕ, ◌+◌, ◌<◌, ◌≤◌, List, [], ◌∷◌, ◌++◌, length, take, drop, set, sym, refl, ap, ◌∙◌, subst, rules, arith}
use Rattle.std.specs.List.{insert, copy_within}
use Rattle.std.proofs.lemmas.List.{length-append, length-take, length-drop, length-set, take_at, drop_at, same_lists, places, get_or-set_same}
use Rattle.std.proofs.lemmas.Bool.{cases_eq}
use Rattle.ordered.specs.Order.{placed, IsPlace, Arranged, Inserted}
use Rattle.ordered.proofs.Arrangement.{placed_at, arranged_next}

-- The rows behind `at` moved up by one, and the record written there.
written : {X : Type 0} (old : List X) (len at : ℕ) (x : X) → len < length old → at ≤ len → set (copy_within old at len (at + 1)) at x ≡ insert (take len old) at x ++ drop (len + 1) old
written old len at x r w = same_lists _ _ (search (rules, places)) (λ k d h. grind (arith, places, get_or-set_same, cases_eq k at))

-- What is then in the rows.
pub inserted : {X : Type 0} (key : X → ℕ) (old after : List X) (len : ℕ) (x : X) → len < length old → length after ≡ length old → after ≡ placed key x (take len old) ++ drop (len + 1) old → Inserted X key x old len after (len + 1)
inserted key old after len x h l e =
    let front = placed key x (take len old) in
    let back = drop (len + 1) old in
    let n : length front ≡ len + 1 = omega (arith, ap length e, length-append front back, length-drop (len + 1) old) in
    let filled : take (len + 1) after ≡ front = ap (take (len + 1)) e ∙ take_at front back (len + 1) n in
    record {
      free = h;
      long = l;
      counted = refl;
      filled = filled;
      others = ap (drop (len + 1)) e ∙ drop_at front back (len + 1) n;
      arranged = λ arrivals a. subst (Arranged _ key (arrivals ++ x ∷ [])) (sym filled) (arranged_next key arrivals (take len old) x a);
    }

-- The same at a place, behind which the rows were moved up.
pub inserted_at : {X : Type 0} (key : X → ℕ) (x : X) (old mid : List X) (len at : ℕ) → len < length old → IsPlace key x (take len old) at → mid ≡ copy_within old at len (at + 1) → length mid ≡ length old → Inserted X key x old len (set mid at x) (len + 1)
inserted_at key x old mid len at r p e m =
    let w = p.within in
    let front = placed_at key x (take len old) at p in
    inserted key old (set mid at x) len x r (length-set mid at x ∙ m)
    (ap (λ l. set l at x) e ∙ (written old len at x r (omega (arith, length-take len old)) ∙ ap (λ l. l ++ drop (len + 1) old) (sym front)))
