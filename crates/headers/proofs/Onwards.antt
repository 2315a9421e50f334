-- Every reading ends behind where it began, and in the codestream.
use Rattle.std.proofs.Common.{ℕ, ◌+◌, ◌≤◌, Bool, true, false, cond, eqb, ltb, leb, List, [], ◌∷◌, ◌++◌, length, get_or, take, subst, inl, inr, arith}
use Rattle.std.proofs.lemmas.Bool.{cases_Bool}
use Rattle.std.proofs.lemmas.Bool.Decides.{nat_tests}
use Rattle.faults.specs.declared.decode.DecodeError.TheVariants.{Marker}
use Rattle.faults.specs.declared.decode.MarkerError.TheVariants.{Invalid}
use Rattle.layouts.specs.Layouts.{Field, Layout, fields, behind, Reading, read, failed, reading, followed, prefixed, meaning, size, value_at}
use Rattle.layouts.specs.declared.header.HeaderKind.TheVariants.{Main, TilePart}
use Rattle.coding.specs.Coding.{cod_layout, coc_layout}
use Rattle.packed.specs.Segment.{segment_layout, place_after}
use Rattle.packed.specs.Ppm.{ppm_reading, ending_at, inside_layout}
use Rattle.packed.specs.Ppt.{ppt_layout}
use Rattle.quantization.specs.Quantization.{qcd_layout, qcc_layout}
use Rattle.headers.specs.declared.kind.Kind.{Kind}
use Rattle.headers.specs.declared.kind.Kind.TheVariants as kind
use Rattle.headers.specs.Kinds.{main_kind_of, part_kind_of}
use Rattle.headers.specs.Standing.{Contents, Standing, stands, ends, by_none, refused, as_read, in_image, behind_main, main_standing, behind_part, part_standing}
use Rattle.headers.specs.Laws.{MainOnward, PartOnward}

-- a reading from p on ends there or behind, in the codestream
abbrev On : List ℕ → ℕ → Reading → Type 0
On d p R = (p ≤ place_after R) × (place_after R ≤ length d)

prefixed_on : (d : List ℕ) (p q : ℕ) (vs : List ℕ) (R : Reading) → p ≤ q → On d q R → On d p (prefixed vs R)
prefixed_on d p q vs (read ws o) l h = (omega (arith, h.0), h.1)
prefixed_on d p q vs (failed e o) l h = (omega (arith, h.0), h.1)

followed_on :
    (d : List ℕ) (p : ℕ) (R : Reading) (k : List ℕ → ℕ → Reading) → On d p R → ((vs : List ℕ) (q : ℕ) → q ≤ length d → On d q (k vs q))
    → On d p (followed R k)
followed_on d p (read vs q) k h f = prefixed_on d p q vs (k vs q) h.0 (f vs q h.1)
followed_on d p (failed e q) k h f = h

reading_on : (fs : List Field) (d : List ℕ) (p : ℕ) (vs : List ℕ) → p ≤ length d → On d p (reading fs d p vs)
reading_on [] d p vs l = (omega arith, l)
reading_on (f ∷ fs) d p vs l =
    elim (cases_Bool (leb (p + size f.width) (length d))) [
      | inl t ↦
          let within : p + size f.width ≤ length d = grind (arith, nat_tests) in
          elim (cases_Bool (f.admits vs (value_at f.width d p))) [
            | inl a ↦
                let on = reading_on fs d (p + size f.width) (vs ++ value_at f.width d p ∷ []) within in
                rw (t, a) (omega (arith, on.0), on.1)
            | inr a ↦ rw (t, a) (omega arith, within)
          ]
      | inr t ↦ rw t (omega arith, l)
    ]

meaning_on : (l : Layout) (d : List ℕ) (p : ℕ) → p ≤ length d → On d p (meaning l d p)
meaning_on (fields fs) d p h = reading_on fs d p [] h
meaning_on (behind l k) d p h =
    followed_on d p (meaning l d p) (λ vs q. meaning (k vs) d q) (meaning_on l d p h) (λ vs q m. meaning_on (k vs) d q m)

ending_on : (d : List ℕ) (end : ℕ) (R : Reading) → end ≤ length d → On d end (ending_at end R)
ending_on d end (read vs q) l = (omega arith, l)
ending_on d end (failed e q) l = (omega arith, l)

ppm_on : (d : List ℕ) (p : ℕ) → p ≤ length d → On d p (ppm_reading d p)
ppm_on d p h =
    followed_on d p (meaning segment_layout d p) (λ vs end. ending_at end (meaning (inside_layout end (get_or vs 1 0)) (take end d) (get_or vs 1 0)))
    (meaning_on segment_layout d p h)
    (λ vs end m. ending_on d end (meaning (inside_layout end (get_or vs 1 0)) (take end d) (get_or vs 1 0)) m)

-- what stands at p ends behind its marker, in the codestream
abbrev StandsOn : List ℕ → ℕ → Standing → Type 0
StandsOn d p (stands x) = (p + 2 ≤ x.behind) × (x.behind ≤ length d)
StandsOn d p (ends e) = Unit {0}

read_on : (c : Contents) (m : ℕ) (d : List ℕ) (p : ℕ) (R : Reading) → On d (p + 2) R → StandsOn d p (as_read c m R)
read_on c m d p (read vs q) h = h
read_on c m d p (failed e q) h = tt

image_on : (csiz : ℕ) (d : List ℕ) (p : ℕ) (s : Standing) → StandsOn d p s → StandsOn d p (in_image csiz p s)
image_on csiz d p (ends e) h = tt
image_on csiz d p (stands x) h =
    elim (cases_Bool (ltb (get_or x.values 1 0) csiz)) [ inl t ↦ rw t h | inr t ↦ rw t tt ]

layout_on : (c : Contents) (m : ℕ) (l : Layout) (d : List ℕ) (p : ℕ) → p + 2 ≤ length d → StandsOn d p (as_read c m (meaning l d (p + 2)))
layout_on c m l d p h = read_on c m d p (meaning l d (p + 2)) (meaning_on l d (p + 2) h)

behind_main_lem : (d : List ℕ) (csiz p : ℕ) (k : Kind) → p + 2 ≤ length d → StandsOn d p (behind_main d csiz p k)
behind_main_lem d csiz p kind.Sot l = tt
behind_main_lem d csiz p kind.Sod l = tt
behind_main_lem d csiz p kind.Eoc l = tt
behind_main_lem d csiz p kind.Cod l = layout_on _ _ cod_layout d p l
behind_main_lem d csiz p kind.Coc l = layout_on _ _ (coc_layout Main csiz) d p l
behind_main_lem d csiz p kind.Qcd l = layout_on _ _ qcd_layout d p l
behind_main_lem d csiz p kind.Qcc l = layout_on _ _ (qcc_layout Main csiz) d p l
behind_main_lem d csiz p kind.Ppm l = read_on _ _ d p (ppm_reading d (p + 2)) (ppm_on d (p + 2) l)
behind_main_lem d csiz p kind.Ppt l = tt
behind_main_lem d csiz p kind.Rgn l = layout_on _ _ segment_layout d p l
behind_main_lem d csiz p kind.Tlm l = layout_on _ _ segment_layout d p l
behind_main_lem d csiz p kind.Plt l = tt
behind_main_lem d csiz p kind.Com l = layout_on _ _ segment_layout d p l
behind_main_lem d csiz p kind.Crg l = meaning_on segment_layout d (p + 2) l
behind_main_lem d csiz p kind.Bare l = (omega arith, l)
behind_main_lem d csiz p kind.Foreign l = tt

behind_part_lem : (d : List ℕ) (csiz : ℕ) (packets : Bool) (p : ℕ) (k : Kind) → p + 2 ≤ length d → StandsOn d p (behind_part d csiz packets p k)
behind_part_lem d csiz packets p kind.Sot l = tt
behind_part_lem d csiz packets p kind.Sod l = tt
behind_part_lem d csiz packets p kind.Eoc l = tt
behind_part_lem d csiz packets p kind.Cod l = layout_on _ _ cod_layout d p l
behind_part_lem d csiz packets p kind.Coc l = image_on csiz d p _ (layout_on _ _ (coc_layout TilePart csiz) d p l)
behind_part_lem d csiz packets p kind.Qcd l = layout_on _ _ qcd_layout d p l
behind_part_lem d csiz packets p kind.Qcc l = image_on csiz d p _ (layout_on _ _ (qcc_layout TilePart csiz) d p l)
behind_part_lem d csiz packets p kind.Ppm l = tt
behind_part_lem d csiz true p kind.Ppt l = tt
behind_part_lem d csiz false p kind.Ppt l = layout_on _ _ ppt_layout d p l
behind_part_lem d csiz packets p kind.Rgn l = tt
behind_part_lem d csiz packets p kind.Tlm l = tt
behind_part_lem d csiz packets p kind.Plt l = layout_on _ _ segment_layout d p l
behind_part_lem d csiz packets p kind.Com l = layout_on _ _ segment_layout d p l
behind_part_lem d csiz packets p kind.Crg l = tt
behind_part_lem d csiz packets p kind.Bare l = (omega arith, l)
behind_part_lem d csiz packets p kind.Foreign l = tt

main_on : (d : List ℕ) (csiz p : ℕ) → StandsOn d p (main_standing d csiz p)
unfolding main_standing
main_on d csiz p =
    elim (cases_Bool (leb (p + 2) (length d))) [
      | inl t ↦
          let l : p + 2 ≤ length d = grind (arith, nat_tests) in
          elim (cases_Bool (eqb (get_or d p 0) 255)) [
            | inl a ↦ rw (t, a) (behind_main_lem d csiz p (main_kind_of (get_or d (p + 1) 0)) l)
            | inr a ↦ rw (t, a) tt
          ]
      | inr t ↦ rw t tt
    ]

missing : (strict : Bool) (d : List ℕ) (p : ℕ) → StandsOn d p (cond strict (ends (refused (Marker (Invalid p)))) (ends (by_none p)))
missing true d p = tt
missing false d p = tt

part_on : (d : List ℕ) (csiz : ℕ) (packets strict : Bool) (p : ℕ) → StandsOn d p (part_standing d csiz packets strict p)
unfolding part_standing
part_on d csiz packets strict p =
    elim (cases_Bool (leb (p + 2) (length d))) [
      | inl t ↦
          let l : p + 2 ≤ length d = grind (arith, nat_tests) in
          elim (cases_Bool (eqb (get_or d p 0) 255)) [
            | inl a ↦ rw (t, a) (behind_part_lem d csiz packets p (part_kind_of (get_or d (p + 1) 0)) l)
            | inr a ↦ rw (t, a) (missing strict d p)
          ]
      | inr t ↦ rw t (missing strict d p)
    ]

pub main_onward : MainOnward
main_onward d csiz p x e = subst (λ (s : Standing). StandsOn d p s) e (main_on d csiz p)

pub part_onward : PartOnward
part_onward d csiz packets strict p x e = subst (λ (s : Standing). StandsOn d p s) e (part_on d csiz packets strict p)
