-- The three sections of SIZ, joined.
use Rattle.std.proofs.Common.{◌≡◌, ℕ, ◌+◌, ◌*◌, Bool, true, false, List, [], ◌++◌, length, get_or, drop, Some, None, Ok, Err, Option, Result, sym, refl, ap, ◌∙◌, subst, ap₂, append_assoc, arith, length-append}
use Rattle.std.proofs.lemmas.List.{get_or_append_left, get_or-append_right}
use Rattle.std.proofs.lemmas.List.Prefix.{front_rest}
use Rattle.layouts.specs.Layouts.{read, reading, meaning}
use Rattle.std.proofs.lemmas.Bool.Decides.{nat_tests}
use Rattle.faults.specs.declared.decode.DecodeError.{DecodeError}
use Rattle.reader.specs.Bytes.{marker_at, part}
use Rattle.reader.specs.Reads.{bytes_of}
use Rattle.reader.specs.declared.reader.BitReader.{BitReader}
use Rattle.segments.specs.Siz.{Grid, Siz, image_table, tile_table, components_layout, siz_layout, grid_of, siz_of, fields_grid, grid_in, sampled, refusal, unless, judged, marked, siz_outcome, accepted, MadeSize, Weighs, ReadsSize}
use Rattle.segments.specs.declared.fields.SizeFields.{SizeFields}
use Rattle.segments.specs.declared.size_data.SizeData.{SizeData}
use Rattle.segments.proofs.Components.{components_read, component_there}
use Rattle.layouts.proofs.Tables.{table_read}
use Rattle.layouts.proofs.Times.{followed_read}

-- the place where the component fields begin
pub components_place :
    (d : List ℕ) (p q r : ℕ) (is ts : List ℕ) → reading image_table d p [] ≡ read is q → reading tile_table d q [] ≡ read ts r → r ≡ p + 38
components_place d p q r is ts a b = omega (arith, (table_read image_table d p [] is q a).1, (table_read tile_table d q [] ts r b).1)

-- the number of components, and their fields
csiz_at : (is ts cs : List ℕ) → length is ≡ 6 → length ts ≡ 5 → get_or (is ++ (ts ++ cs)) 10 0 ≡ get_or ts 4 0
csiz_at is ts cs six five =
    get_or-append_right is (ts ++ cs) 6 10 0 six (omega arith) ∙ get_or_append_left ts cs 0 4 (omega arith)

behind_both : (is ts cs : List ℕ) → length is ≡ 6 → length ts ≡ 5 → drop 11 (is ++ (ts ++ cs)) ≡ cs
behind_both is ts cs six five =
    let l : length (is ++ ts) ≡ 11 = omega (arith, length-append is ts) in
    subst (λ (n : ℕ). drop n (is ++ (ts ++ cs)) ≡ cs) l (front_rest (is ++ (ts ++ cs)) (is ++ ts) cs (sym (append_assoc is ts cs)))

-- a segment that is read, by its three sections
pub record Sections (d : List ℕ) (p : ℕ) (vs : List ℕ) (q : ℕ) : Type 0 where
  pub bytes : (siz_of vs).components ≡ part (3 * (siz_of vs).csiz) d (p + 38)
  pub list : meaning (components_layout (siz_of vs).csiz) d (p + 38) ≡ read (siz_of vs).components q

pub sections : (d : List ℕ) (p : ℕ) (vs : List ℕ) (q : ℕ) → meaning siz_layout d p ≡ read vs q → Sections d p vs q
sections d p vs q e =
    let s = followed_read (reading image_table d p []) _ vs q e in
    let t = followed_read (reading tile_table d s.middle []) _ s.us q s.second in
    let six : length s.ws ≡ 6 = ap length (table_read image_table d p [] s.ws s.middle s.first).0 in
    let five : length t.ws ≡ 5 = ap length (table_read tile_table d s.middle [] t.ws t.middle t.first).0 in
    let place = components_place d p s.middle t.middle s.ws t.ws s.first t.first in
    let all : vs ≡ s.ws ++ (t.ws ++ t.us) = s.joined ∙ ap (λ (l : List ℕ). s.ws ++ l) t.joined in
    let many : get_or vs 10 0 ≡ get_or t.ws 4 0 = ap (λ (l : List ℕ). get_or l 10 0) all ∙ csiz_at s.ws t.ws t.us six five in
    let rest : drop 11 vs ≡ t.us = ap (λ (l : List ℕ). drop 11 l) all ∙ behind_both s.ws t.ws t.us six five in
    let list : meaning (components_layout (get_or vs 10 0)) d (p + 38) ≡ read (drop 11 vs) q =
    ap₂ (λ (n r : ℕ). meaning (components_layout n) d r) many (sym place) ∙ t.second ∙ ap (λ (l : List ℕ). read l q) (sym rest) in
    record { bytes = (components_read (get_or vs 10 0) d (p + 38) (drop 11 vs) q list).0; list = list }

-- a segment that is not refused is sampled
refused_not : (at : ℕ) (g : Grid) (ok : Bool) → refusal at g ok ≡ None → ok ≡ true
refused_not at g true e = refl
refused_not at g false e = grind (arith, nat_tests)

siz_same :
    (g h : Grid) (m n : ℕ) (cs ds : List ℕ) → g ≡ h → m ≡ n → cs ≡ ds
    → ◌≡◌ {A = Siz} (record { grid = g; csiz = m; components = cs }) (record { grid = h; csiz = n; components = ds })
siz_same g h m n cs ds a b c = rw (a, b, c) refl

-- what is read, weighed
pub size_judged :
    (b m a : BitReader) (f : SizeFields) (vs : List ℕ) (r : Result SizeData DecodeError) → marker_at (bytes_of b) b.place ≡ Some 81
    → m.place ≡ b.place + 2 → meaning siz_layout (bytes_of b) (b.place + 2) ≡ read vs a.place → MadeSize m f vs
    → Weighs b.place f r → ReadsSize b a r
size_judged b m a f vs r k at h made w = go r w
  where
    same : refusal b.place (grid_of vs) (sampled (siz_of vs).csiz (siz_of vs).components) ≡ refusal b.place (fields_grid f) f.sampled
    same = ap₂ (refusal b.place) (sym made.grid) (sym made.sampled)

    begun :
        siz_outcome (bytes_of b) b.place
        ≡ unless (refusal b.place (fields_grid f) f.sampled) (siz_of vs) a.place
    begun =
        ap (λ (o : Option ℕ). marked b.place o (judged b.place (meaning siz_layout (bytes_of b) (b.place + 2)))) k
        ∙ ap (judged b.place) h
        ∙ ap (λ (o : Option DecodeError). unless o (siz_of vs) a.place) same

    go : (r : Result SizeData DecodeError) → Weighs b.place f r → ReadsSize b a r
    go (Err e) w = begun ∙ ap (λ (o : Option DecodeError). unless o (siz_of vs) a.place) w
    go (Ok s) w =
        let x = sections (bytes_of b) (b.place + 2) vs a.place h in
        let many : get_or vs 10 0 ≡ s.csiz = sym (w.2 ∙ made.csiz) in
        let place : b.place + 2 + 38 ≡ s.components = omega (arith, w.3, made.place, at) in
        let list : meaning (components_layout s.csiz) (bytes_of b) s.components ≡ read (drop 11 vs) a.place =
        ap₂ (λ (n p : ℕ). meaning (components_layout n) (bytes_of b) p) (sym many) (sym place) ∙ x.list in
        let flag : sampled s.csiz (drop 11 vs) ≡ true =
        ap (λ (n : ℕ). sampled n (drop 11 vs)) (sym many) ∙ sym made.sampled ∙ refused_not b.place (fields_grid f) f.sampled w.0 in (
          begun
              ∙ ap (λ (o : Option DecodeError). unless o (siz_of vs) a.place) w.0
              ∙ ap (λ (z : Siz). accepted z a.place)
              (siz_same (grid_of vs) (grid_in s) (get_or vs 10 0) s.csiz (drop 11 vs) (part (3 * s.csiz) (bytes_of b) s.components)
              (sym (w.1 ∙ made.grid)) many (x.bytes ∙ ap₂ (λ (n p : ℕ). part (3 * n) (bytes_of b) p) many place)),
          component_there s.csiz (bytes_of b) s.components (drop 11 vs) a.place list flag,
        )
