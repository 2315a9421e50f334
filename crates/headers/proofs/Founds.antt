-- A reading as what stands at a place.
use Rattle.std.proofs.Common.{◌≡◌, ℕ, ◌+◌, ◌<◌, Bool, true, false, ltb, List, get_or, None, Ok, Option, Result, sym, refl, ap, ◌∙◌, subst, ap₂}
use Rattle.std.proofs.lemmas.Bool.{lt-ltb}
use Rattle.faults.specs.declared.decode.DecodeError.{DecodeError}
use Rattle.faults.specs.declared.decode.DecodeError.TheVariants.{Marker}
use Rattle.faults.specs.declared.decode.MarkerError.TheVariants.{Invalid}
use Rattle.reader.specs.Bytes.{marker_at}
use Rattle.reader.specs.Reads.{bytes_of}
use Rattle.reader.specs.declared.reader.BitReader.{BitReader}
use Rattle.layouts.specs.Layouts.{Layout, Reading, read, failed, values_of, meaning, here}
use Rattle.layouts.proofs.Tables.{never}
use Rattle.headers.specs.declared.found.Found.{Found}
use Rattle.headers.specs.declared.found.Found.TheVariants.{Stands}
use Rattle.headers.specs.declared.found.Segment.{Segment}
use Rattle.headers.specs.Standing.{Contents, Standing, ends, by_none, refused, as_read, in_image, by_main, main_standing, by_part, part_standing, KeptOf, FoundAs}

pub as_found :
    (k : Contents) (m : ℕ) (R : Reading) (g : Segment) (a : BitReader) → R ≡ read (values_of R) a.place
    → KeptOf g (record { contents = k; values = values_of R; behind = a.place }) → FoundAs (as_read k m R) a (Ok (Stands g))
as_found k m (read vs q) g a e h =
    let s : q ≡ a.place = cc in
    (refl, s, subst (λ (b : ℕ). KeptOf g (record { contents = k; values = vs; behind = b })) (sym s) h)
as_found k m (failed c q) g a e h = never _ _ _ _ _ refl e

pub found_as : (s t : Standing) (a : BitReader) (r : Result Found DecodeError) → t ≡ s → FoundAs t a r → FoundAs s a r
found_as s t a r e f = subst (λ (x : Standing). FoundAs x a r) e f

-- a segment that is read by a reader which has moved behind its marker, and what `then` makes of it
pub read_found :
    (then : Standing → Standing) (l : Layout) (k : Contents) (m : ℕ) (d : List ℕ) (p : ℕ) (s : Standing) (b a : BitReader)
    (r : Result Found DecodeError) → then (as_read k m (meaning l d (p + 2))) ≡ s → bytes_of b ≡ d → b.place ≡ p + 2
    → FoundAs (then (as_read k m (here l b))) a r → FoundAs s a r
read_found then l k m d p s b a r g same at h =
    found_as s (then (as_read k m (here l b))) a r (ap₂ (λ (s : List ℕ) (q : ℕ). then (as_read k m (meaning l s q))) same at ∙ g) h

-- by the marker that stands there, or is missing
pub main_standing_lem : (d : List ℕ) (csiz p : ℕ) (o : Option ℕ) → o ≡ marker_at d p → by_main d csiz p o ≡ main_standing d csiz p
unfolding main_standing
main_standing_lem d csiz p o e = ap (by_main d csiz p) e

pub part_standing_lem :
    (d : List ℕ) (csiz : ℕ) (packets strict : Bool) (p : ℕ) (o : Option ℕ) → o ≡ marker_at d p
    → by_part d csiz packets strict p o ≡ part_standing d csiz packets strict p
unfolding part_standing
part_standing_lem d csiz packets strict p o e = ap (by_part d csiz packets strict p) e

pub part_none :
    (d : List ℕ) (csiz : ℕ) (packets : Bool) (p q : ℕ) → None ≡ marker_at d p → q ≡ p
    → (part_standing d csiz packets true p ≡ ends (refused (Marker (Invalid q)))) × (part_standing d csiz packets false p ≡ ends (by_none q))
part_none d csiz packets p q e f = (
  sym (part_standing_lem d csiz packets true p None e) ∙ ap (λ (x : ℕ). ends (refused (Marker (Invalid x)))) (sym f),
  sym (part_standing_lem d csiz packets false p None e) ∙ ap (λ (x : ℕ). ends (by_none x)) (sym f),
)

-- a segment whose component index is tested behind it
pub image_found :
    (csiz p : ℕ) (k : Contents) (m : ℕ) (R : Reading) (g : Segment) (a : BitReader) → R ≡ read (values_of R) a.place → get_or (values_of R) 1 0 < csiz
    → KeptOf g (record { contents = k; values = values_of R; behind = a.place }) → FoundAs (in_image csiz p (as_read k m R)) a (Ok (Stands g))
image_found csiz p k m (failed c q) g a e lt h = never _ _ _ _ _ refl e
image_found csiz p k m (read vs q) g a e lt h =
    let t : ltb (get_or vs 1 0) csiz ≡ true = lt-ltb (get_or vs 1 0) csiz lt in
    let s : q ≡ a.place = cc in
    rw t (refl, s, subst (λ (b : ℕ). KeptOf g (record { contents = k; values = vs; behind = b })) (sym s) h)
