-- The start of a codestream, read; and its tiles.
use Rattle.std.proofs.Common.{◌≡◌, ℕ, ◌+◌, ◌*◌, ◌<◌, true, List, Some, Ok, Err, Option, Result, sym, ap, ◌∙◌, subst, ap₂}
use Rattle.faults.specs.declared.decode.DecodeError.{DecodeError}
use Rattle.reader.specs.Bytes.{marker_at}
use Rattle.reader.specs.Reads.{bytes_of}
use Rattle.reader.specs.declared.reader.BitReader.{BitReader}
use Rattle.segments.specs.Siz.{Outcome, accepted, refused, siz_outcome, size_of, grid_in, component_at, ReadsSize}
use Rattle.segments.specs.declared.size_data.SizeData.{SizeData}
use Rattle.geometry.proofs.TileLaws.{tiles_partition}
use Rattle.picture.specs.Outlines.{begun, outline_outcome, end_of, across, down, SizeStated, CutUp}

-- behind SOC the outcome is SIZ's
first : (d : List ℕ) (o : Outcome) → marker_at d 0 ≡ Some 79 → siz_outcome d 2 ≡ o → outline_outcome d ≡ o
first d o k e = ap (λ (m : Option ℕ). begun m (siz_outcome d 2)) k ∙ e

ended : (o p : Outcome) → o ≡ p → end_of o ≡ end_of p
ended o p e = ap end_of e

pub behind_soc :
    (d : List ℕ) (m a : BitReader) (r : Result SizeData DecodeError) → marker_at d 0 ≡ Some 79 → bytes_of m ≡ d → m.place ≡ 2 → ReadsSize m a r
    → SizeStated d r
behind_soc d m a (Err e) k same at w =
    let o : outline_outcome d ≡ refused e a.place = first d _ k (ap₂ siz_outcome (sym same) (sym at) ∙ w) in
    o ∙ ap (refused e) (sym (ended _ _ o))
behind_soc d m a (Ok s) k same at w =
    let o : outline_outcome d ≡ accepted (size_of d s) a.place =
    first d _ k (ap₂ siz_outcome (sym same) (sym at) ∙ w.0 ∙ ap (λ (l : List ℕ). accepted (size_of l s) a.place) same) in (
      o ∙ ap (accepted (size_of d s)) (sym (ended _ _ o)),
      subst (λ (l : List ℕ). (i : ℕ) → i < s.csiz → component_at l (s.components + 3 * i) ≡ true) same w.1,
    )

pub cut_up : (s : SizeData) → CutUp (grid_in s)
cut_up s =
    let p =
    tiles_partition (across (grid_in s)) (down (grid_in s))
    (record { filled = s.filled.0; sided = s.sided.0; before = s.before.0; reached = s.reached.0 })
    (record { filled = s.filled.1; sided = s.sided.1; before = s.before.1; reached = s.reached.1 }) in
    record { areas_add_up = p.areas; exactly_one = p.points }
