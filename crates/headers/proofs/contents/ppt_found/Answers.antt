use Rattle.std.proofs.Common.{◌≡◌, ℕ, ◌+◌, ◌-◌, ◌≤◌, true, List, [], ◌∷◌, length, refl, subst, ap, add-zero, arith}
use Rattle.std.specs.Prelude.{slice_index}
use Rattle.reader.specs.Bytes.{word_at}
use Rattle.reader.specs.Reads.{bytes_of}
use Rattle.reader.proofs.Parts.{part_length}
use Rattle.layouts.specs.Laws.{Stand, Accepted, ReadsAs}
use Rattle.layouts.specs.Layouts.{here, meaning, read, values_of, one, two, run, at_least}
use Rattle.layouts.proofs.Laws.{layouts_read}
use Rattle.packed.specs.Ppt.{ppt_layout}
use Rattle.headers.specs.declared.found.Segment.TheVariants.{Ppt}
use Rattle.headers.specs.Standing as standing
use Rattle.headers.proofs.Founds.{as_found}
use Rattle.headers.proofs.contents.ppt_found.Goals as goal

-- the bytes of an accepted PPT are in the codestream
ppt_inside : (d : List ℕ) (p : ℕ) (vs : List ℕ) (q : ℕ) → meaning ppt_layout d p ≡ read vs q → slice_index vs 2 + (slice_index vs 0 - 3) ≤ length d
ppt_inside d p vs q e =
    let length_field : Stand = record { width = two; admits = at_least 3 [] } in
    let index_field : Stand = record { width = one; admits = λ _. true } in
    let run_field : Stand = record { width = run (word_at d p - 3); admits = λ _. true } in
    let a : Accepted (length_field ∷ index_field ∷ run_field ∷ []) d p vs q =
    subst (ReadsAs (length_field ∷ index_field ∷ run_field ∷ []) d p) e (layouts_read ppt_layout d p) in
    let long : slice_index vs 0 ≡ word_at d p =
    subst (λ (x : ℕ). slice_index vs 0 ≡ word_at d x) (add-zero p) (a.values [] length_field (index_field ∷ run_field ∷ []) refl) in
    let begins = a.values (length_field ∷ index_field ∷ []) run_field [] refl in
    let there = (a.taken (length_field ∷ index_field ∷ []) run_field [] refl).there in
    let n : slice_index vs 0 - 3 ≡ word_at d p - 3 = ap (λ (x : ℕ). x - 3) long in
    omega (arith, n, begins, there)

pub returns : goal.returns
returns c =
    let f = c.in_ok-ppt.ensures in
    let m = f.0.1 in
    let d = bytes_of c.args.reader.now in
    let l : length c.in_ok-ppt.ppt.«data».now ≡ slice_index (values_of (here ppt_layout c.args.reader.now)) 0 - 3 =
    part_length d c.in_ok-ppt.ppt.«data».now _ _ (ppt_inside d c.args.reader.now.place _ _ f.0.0) m.bytes.0 in (
      as_found standing.ppt 97 (here ppt_layout c.args.reader.now)
          (Ppt c.in_ok-ppt.ppt.zppt c.in_ok-ppt.ppt.place (length c.in_ok-ppt.ppt.«data».now))
          c.ppt_marker.new.reader f.0.0 (refl, m.zppt, m.place, l),
      f.1,
    )
