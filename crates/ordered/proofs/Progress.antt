use Rattle.std.proofs.Common.{◌≡◌, ℕ, ◌+◌, ◌≤◌, List, [], ◌++◌, length, take, drop, sym, ap, ◌∙◌, subst, arith}
use Rattle.std.proofs.lemmas.List.{take_all}
use Rattle.ordered.specs.Order.{placed_all, Arranged, InsertedAll}
use Rattle.ordered.proofs.Arrangement.{arranged_none, arranged_all}

-- What the loop keeps: the first i of the records are in.
pub record Progress {X : Type 0} (key : X → ℕ) (xs before : List X) (len : ℕ) (after : List X) (count i : ℕ) : Type 0 where
  pub free : len + length xs ≤ length before
  pub long : length after ≡ length before
  pub counted : count ≡ len + i
  pub filled : take count after ≡ placed_all key (take i xs) (take len before)
  pub others : drop count after ≡ drop count before

-- At the loop's end all of them are in.
pub progress_all : {X : Type 0} (key : X → ℕ) (xs before after : List X) (len count i : ℕ) → Progress key xs before len after count i → length xs ≤ i → i ≤ length xs → InsertedAll X key xs before len after count
progress_all key xs before after len count i p h k =
    let c = p.counted in
    let f : take count after ≡ placed_all key xs (take len before) = p.filled ∙ ap (λ l. placed_all key l (take len before)) (take_all i xs h) in
    let onto : (arrivals : List _) → Arranged _ key arrivals (take len before) → Arranged _ key (arrivals ++ xs) (take count after) =
    λ arrivals a. subst (Arranged _ key (arrivals ++ xs)) (sym f) (arranged_all key xs arrivals (take len before) a) in
    record {
      free = p.free;
      long = p.long;
      counted = omega arith;
      filled = f;
      others = p.others;
      arranged = onto;
      alone = λ z. onto [] (subst (Arranged _ key []) (sym (ap (λ n. take n before) z)) (arranged_none key));
    }
