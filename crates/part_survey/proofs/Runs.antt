-- How far a tile-part header is read.
use Rattle.std.proofs.Common.{◌≡◌, ℕ, ◌+◌, ◌<◌, ◌≤◌, Bool, List, [], ◌∷◌, ◌++◌, length, Some, None, Ok, Result, sym, refl, ap, ◌∙◌, subst, append_assoc, append-nil, arith, lit≤}
use Rattle.faults.specs.declared.decode.DecodeError.{DecodeError}
use Rattle.reader.specs.declared.reader.BitReader.{BitReader}
use Rattle.settings.specs.declared.inherit.Setting.TheVariants.{Cod, Coc, Qcd, Qcc}
use Rattle.headers.specs.declared.found.Found.{Found}
use Rattle.headers.specs.declared.found.Found.TheVariants.{Stands, Ends, NoMarker}
use Rattle.headers.specs.declared.found.Segment.{Segment}
use Rattle.headers.specs.declared.found.Segment.TheVariants.{Sets, Ppm, Ppt, Skipped}
use Rattle.headers.specs.Standing.{Item, Ending, by_marker, by_none, stands, ends, part_standing, KeptOf, item_of, FoundAs}
use Rattle.headers.specs.Grammar.{PartHeaded, headers_by, headers_in}
use Rattle.headers.proofs.Onwards.{part_onward}
use Rattle.part_survey.specs.declared.survey.HeaderEnd.{HeaderEnd}
use Rattle.part_survey.specs.Ends.{ppt_count_of, ended, HeaderEnds}

-- segments, n of them PPT, stand from p0 up to p: whatever header is behind them makes one with them
pub record Run (d : List ℕ) (csiz : ℕ) (packets strict : Bool) (p0 p n : ℕ) : Type 0 where
  pub xs : List Item
  pub onward : (ys : List Item) (e : Ending) → PartHeaded d csiz packets strict p ys e → PartHeaded d csiz packets strict p0 (xs ++ ys) e
  pub many : headers_in xs ≡ n
  pub few : p0 + n ≤ p
  pub inside : p ≤ length d

pub run_none : (d : List ℕ) (csiz : ℕ) (packets strict : Bool) (p : ℕ) → p ≤ length d → Run d csiz packets strict p p 0
run_none d csiz packets strict p l = record { xs = []; onward = λ ys e h. h; many = refl; few = omega arith; inside = l }

in_more : (xs : List Item) (x : Item) → headers_in (xs ++ x ∷ []) ≡ headers_in xs + headers_by x.contents
in_more [] x = omega arith
in_more (y ∷ ys) x = omega (arith, in_more ys x)

-- what is kept of a segment says whether it is PPT
count_kept : (g : Segment) (x : Item) → KeptOf g x → headers_by x.contents ≡ ppt_count_of g
count_kept (Sets (Cod c)) x k = ap headers_by k.0
count_kept (Sets (Coc i c)) x k = ap headers_by k.0
count_kept (Sets (Qcd q)) x k = ap headers_by k.0
count_kept (Sets (Qcc i q)) x k = ap headers_by k.0
count_kept (Ppm n) x k = ap headers_by k.0
count_kept (Ppt z p n) x k = ap headers_by k.0
count_kept Skipped x k = ap headers_by k

one_at_most : (g : Segment) → ppt_count_of g ≤ 1
one_at_most (Sets s) = lit≤ tt
one_at_most (Ppm n) = lit≤ tt
one_at_most (Ppt z p n) = lit≤ tt
one_at_most Skipped = lit≤ tt

-- one segment more
pub run_more :
    (d d1 : List ℕ) (csiz : ℕ) (packets strict : Bool) (p0 p n m : ℕ) (a : BitReader) (f : Found) (g : Segment)
    → Run d csiz packets strict p0 p n → d1 ≡ d → FoundAs (part_standing d1 csiz packets strict p) a (Ok f) → f ≡ Stands g → m ≡ ppt_count_of g
    → Run d csiz packets strict p0 a.place (n + m) × (p < a.place)
run_more d d1 csiz packets strict p0 p n m a f g r same found is count =
    let t : FoundAs (part_standing d1 csiz packets strict p) a (Ok (Stands g)) =
    subst (λ (y : Found). FoundAs (part_standing d1 csiz packets strict p) a (Ok y)) is found in
    let x : Item = item_of (part_standing d1 csiz packets strict p) in
    let here : part_standing d csiz packets strict p ≡ stands x = subst (λ (y : List ℕ). part_standing y csiz packets strict p ≡ stands x) same t.0 in
    let on = part_onward d csiz packets strict p x here in
    let by = count_kept g x t.2 in
    let next : Run d csiz packets strict p0 x.behind (n + m) =
    record {
      xs = r.xs ++ x ∷ [];
      onward = λ ys e h. rw append_assoc (r.onward (x ∷ ys) e (here, h));
      many = omega (arith, in_more r.xs x, r.many, by);
      few = omega (arith, r.few, one_at_most g, on.0);
      inside = on.1;
    } in
    (subst (λ (q : ℕ). Run d csiz packets strict p0 q (n + m)) t.1 next, omega (arith, on.0, t.1))

-- where the header ends behind the run
pub run_ends :
    (d d1 : List ℕ) (csiz : ℕ) (packets strict : Bool) (p0 p n : ℕ) (e : Ending) (a : Result HeaderEnd DecodeError)
    → Run d csiz packets strict p0 p n → d1 ≡ d → part_standing d1 csiz packets strict p ≡ ends e → a ≡ ended n e
    → HeaderEnds d csiz packets strict p0 a
run_ends d d1 csiz packets strict p0 p n e a r same s is =
    let here : part_standing d csiz packets strict p ≡ ends e = subst (λ (y : List ℕ). part_standing y csiz packets strict p ≡ ends e) same s in (
      r.xs,
      e,
      subst (λ (ys : List Item). PartHeaded d csiz packets strict p0 ys e) (append-nil r.xs) (r.onward [] e here),
      is ∙ ap (λ (m : ℕ). ended m e) (sym r.many),
    )

pub run_closed :
    (d d1 : List ℕ) (csiz : ℕ) (packets strict : Bool) (p0 p n q : ℕ) (a : BitReader) (f : Found)
    → Run d csiz packets strict p0 p n → d1 ≡ d → FoundAs (part_standing d1 csiz packets strict p) a (Ok f) → f ≡ Ends → q ≡ a.place
    → HeaderEnds d csiz packets strict p0 (Ok (record { place = q; headers = Some n }))
run_closed d d1 csiz packets strict p0 p n q a f r same found is at =
    let t : FoundAs (part_standing d1 csiz packets strict p) a (Ok Ends) =
    subst (λ (y : Found). FoundAs (part_standing d1 csiz packets strict p) a (Ok y)) is found in
    run_ends d d1 csiz packets strict p0 p n (by_marker a.place) (Ok (record { place = q; headers = Some n })) r same t (rw at refl)

pub run_cut :
    (d d1 : List ℕ) (csiz : ℕ) (packets strict : Bool) (p0 p n q : ℕ) (a : BitReader) (f : Found)
    → Run d csiz packets strict p0 p n → d1 ≡ d → FoundAs (part_standing d1 csiz packets strict p) a (Ok f) → f ≡ NoMarker → q ≡ a.place
    → HeaderEnds d csiz packets strict p0 (Ok (record { place = q; headers = None }))
run_cut d d1 csiz packets strict p0 p n q a f r same found is at =
    let t : FoundAs (part_standing d1 csiz packets strict p) a (Ok NoMarker) =
    subst (λ (y : Found). FoundAs (part_standing d1 csiz packets strict p) a (Ok y)) is found in
    run_ends d d1 csiz packets strict p0 p n (by_none a.place) (Ok (record { place = q; headers = None })) r same t (rw at refl)
