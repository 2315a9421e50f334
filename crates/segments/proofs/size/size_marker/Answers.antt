use Rattle.std.proofs.Common.{◌≡◌, ℕ, ◌+◌, List, Some, sym, ap, ◌∙◌, subst, ap₂, Bor, rules}
use Rattle.layouts.specs.Layouts.{meaning, read, values_of, here}
use Rattle.segments.specs.Siz.{siz_layout, Weighs}
use Rattle.segments.proofs.Sizes.{size_judged}
use Rattle.segments.proofs.size.size_marker.Goals as goal

pub returns : goal.returns
returns c =
    let b = c.args.reader.now in
    let m = c.read_marker.new.self in
    let f = c.in_ok-read_marker.ensures in
    let g = c.in_ok-fields.ensures in
    let d : m.«data».now ≡ b.«data».now = ap (λ (s : Bor (List ℕ)). s.now) f.same in
    let at : m.place ≡ b.place + 2 = f.reads.1 in
    let h : meaning siz_layout b.«data».now (b.place + 2) ≡ read (values_of (here siz_layout m)) c.size_fields.new.reader.place =
    ap₂ (λ (s : List ℕ) (p : ℕ). meaning siz_layout s p) (sym d) (sym at) ∙ g.0.0 in
    record {
      reads =
          size_judged b m c.size_fields.new.reader c.in_ok-fields.fields (values_of (here siz_layout m)) c.accept.result
          (f.reads.0 ∙ ap Some c.if-branch-ne-SIZ.false) at h g.0.1
          (subst (λ (n : ℕ). Weighs n c.in_ok-fields.fields c.accept.result) c.offset-place.ensures c.accept.ensures);
      same = search rules;
    }
