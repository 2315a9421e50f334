-- What a main header comes to, by what was gone through and tested.
use Rattle.std.proofs.Common.{if◌then◌else◌, ◌≡◌, ℕ, ◌+◌, ◌*◌, ◌<◌, Bool, true, false, not, leb, List, is_some, Some, None, Ok, Err, Option, Result, sym, refl, ap, ◌∙◌, subst, Bor}
use Rattle.std.proofs.lemmas.Bool.{leb-true}
use Rattle.faults.specs.declared.decode.DecodeError.{DecodeError}
use Rattle.reader.specs.declared.reader.BitReader.{BitReader}
use Rattle.segments.specs.Siz.{Siz, Outcome, accepted, siz_outcome, size_of, grid_in, tiles_of, component_at, ReadsSize}
use Rattle.segments.specs.declared.size_data.SizeData.{SizeData}
use Rattle.segments.specs.Siz as siz
use Rattle.headers.specs.Standing.{Item, Ending, by_marker, by_none, refused, main_standing}
use Rattle.headers.specs.Grammar.{MainHeaded, packets_in}
use Rattle.headers.proofs.Once.{one_header}
use Rattle.main_settings.specs.Components.{last_of, cod_in, qcd_in, component_refusal, Tested}
use Rattle.main_settings.specs.Settled.{ComponentsTested}
use Rattle.main_survey.specs.Main.{Header, too_short, room_for, lacking, at_sot, unless, ended, concluded, WithRoom, BehindSiz, ComesTo}
use Rattle.main_survey.specs.Laws.{OneOutcome, Accepted, ReadAgain}
use Rattle.main_survey.specs.Passing.{passed_by, PassedTo, SotTested}
use Rattle.main_survey.specs.declared.passed.Passed.{Passed}
use Rattle.main_survey.specs.declared.room.Room.{Room}

-- SIZ, and the room for what it says
pub siz_refused : (d : List ℕ) (p : ℕ) (r : Room) (f : DecodeError) (q : ℕ) → siz_outcome d p ≡ siz.refused f q → ComesTo d p r (Err f)
siz_refused d p r f q e = rw e refl

pub no_room :
    (d : List ℕ) (p : ℕ) (r : Room) (s : Siz) (b : ℕ) → siz_outcome d p ≡ accepted s b → room_for r s.csiz (tiles_of s.grid) ≡ false
    → ComesTo d p r (Err too_short)
no_room d p r s b e f = rw (e, f) refl

pub with_room :
    (d : List ℕ) (p : ℕ) (r : Room) (s : Siz) (b : ℕ) (xs : List Item) (e : Ending) (o : Result Header DecodeError)
    → siz_outcome d p ≡ accepted s b → room_for r s.csiz (tiles_of s.grid) ≡ true → MainHeaded d s.csiz b xs e
    → o ≡ concluded r.packets s b xs e → ComesTo d p r o
with_room d p r s b xs e o is roomy headed at = rw (is, roomy) (xs, e, headed, at)

-- by whether the packets find room
abbrev passed_case : Bool → List Item → Ending → Result Passed DecodeError
passed_case t xs e = if t then passed_by xs e else Err too_short

abbrev concluded_case : Bool → Siz → ℕ → List Item → Ending → Result Header DecodeError
concluded_case t s b xs e = if t then ended s b xs e else Err too_short

abbrev pub header_by : Siz → ℕ → Passed → Header
header_by s b m = record { size = s; segments = b; packets = m.packets; place = m.place }

passed_case_lem :
    (t : Bool) (s : Siz) (b : ℕ) (xs : List Item) (e : Ending) (m : Passed) → Ok m ≡ passed_case t xs e
    → concluded_case t s b xs e ≡ unless (lacking m.cod m.qcd m.place (component_refusal s.csiz m.place xs)) (header_by s b m)
passed_case_lem false s b xs e m h = absurd cc
passed_case_lem true s b xs (by_none q) m h = absurd cc
passed_case_lem true s b xs (refused f) m h = absurd cc
passed_case_lem true s b xs (by_marker q) m h =
    let n : Passed = record { cod = is_some (last_of cod_in xs); qcd = is_some (last_of qcd_in xs); packets = packets_in xs; place = q } in
    let same : n ≡ m = cc in
    ap (λ (z : Passed). unless (lacking z.cod z.qcd z.place (component_refusal s.csiz z.place xs)) (header_by s b z)) same

refused_case :
    (t : Bool) (s : Siz) (b : ℕ) (xs : List Item) (e : Ending) (f : DecodeError) → Err f ≡ passed_case t xs e → concluded_case t s b xs e ≡ Err f
refused_case false s b xs e f h = let same : too_short ≡ f = cc in ap (λ (g : DecodeError). Err g) same
refused_case true s b xs (by_none q) f h = cc
refused_case true s b xs (refused g) f h = cc
refused_case true s b xs (by_marker q) f h = absurd cc

-- what the tests at SOT make of a header
abbrev pub tested_header : Result (Unit {0}) DecodeError → Header → Result Header DecodeError
tested_header (Ok u) h = Ok h
tested_header (Err f) h = Err f

unless_tested : (o : Option DecodeError) (h : Header) (t : Result (Unit {0}) DecodeError) → Tested o t → tested_header t h ≡ unless o h
unless_tested o h (Ok u) e = rw e refl
unless_tested o h (Err f) e = rw e refl

-- an accepted SIZ at p of the codestream d with its end at b, and room for what it says
pub record Begun (d : List ℕ) (p : ℕ) (r : Room) (s : SizeData) (b : ℕ) : Type 0 where
  pub size : siz_outcome d p ≡ accepted (size_of d s) b
  pub components : (k : ℕ) → k < s.csiz → component_at d (s.components + 3 * k) ≡ true
  pub roomy : room_for r s.csiz (tiles_of (grid_in s)) ≡ true

pub begun :
    (d : Bor (List ℕ)) (p : ℕ) (r : Room) (x y : BitReader) (s : SizeData) (tiles b : ℕ) (ok : Bool) → x.«data» ≡ d → x.place ≡ p
    → ReadsSize x y (Ok s) → tiles ≡ tiles_of (grid_in s) → ok ≡ room_for r s.csiz tiles → ok ≡ true → b ≡ y.place → Begun d.now p r s b
begun d p r x y s tiles b ok e f h t o is g =
    let read : (siz_outcome d.now x.place ≡ accepted (size_of d.now s) y.place)
    × ((k : ℕ) → k < s.csiz → component_at d.now (s.components + 3 * k) ≡ true) =
    subst
    (λ (z : Bor (List ℕ)). (siz_outcome z.now x.place ≡ accepted (size_of z.now s) y.place)
    × ((k : ℕ) → k < s.csiz → component_at z.now (s.components + 3 * k) ≡ true))
    e h in
    record {
      size = ap (siz_outcome d.now) (sym f) ∙ read.0 ∙ ap (accepted (size_of d.now s)) (sym g);
      components = read.1;
      roomy = ap (room_for r s.csiz) (sym t) ∙ sym o ∙ is;
    }

-- the segments behind SIZ are refused
pub main_refused :
    (d : List ℕ) (p : ℕ) (r : Room) (s : SizeData) (b : ℕ) (f : DecodeError) → Begun d p r s b → PassedTo d s.csiz b r.packets (Err f)
    → ComesTo d p r (Err f)
main_refused d p r s b f g h =
    with_room d p r (size_of d s) b h.0 h.1 (Err f) g.size g.roomy h.2
    (sym (refused_case (leb (packets_in h.0) r.packets) (size_of d s) b h.0 h.1 f h.3))

-- or they are gone through, and then the tests at SOT decide
pub main_tested :
    (d : List ℕ) (p : ℕ) (r : Room) (s : SizeData) (b : ℕ) (m : Passed) (t : Result (Unit {0}) DecodeError) → Begun d p r s b
    → PassedTo d s.csiz b r.packets (Ok m) → SotTested d s.csiz b m t → ComesTo d p r (tested_header t (header_by (size_of d s) b m))
main_tested d p r s b m t g h tested =
    with_room d p r (size_of d s) b h.0 h.1 _ g.size g.roomy h.2
    (unless_tested _ (header_by (size_of d s) b m) t (tested h.0 h.1 h.2)
    ∙ sym (passed_case_lem (leb (packets_in h.0) r.packets) (size_of d s) b h.0 h.1 m h.3))

-- the components are tested by the same header
pub same_header :
    (d : List ℕ) (csiz p q : ℕ) (xs : List Item) (e : Ending) (r : Result (Unit {0}) DecodeError) → ComponentsTested d csiz p q r
    → MainHeaded d csiz p xs e → Tested (component_refusal csiz q xs) r
same_header d csiz p q xs e r t h =
    let one = one_header (main_standing d csiz) p t.xs xs t.e e t.headed h in
    subst (λ (ys : List Item). Tested (component_refusal csiz q ys) r) one.0 t.tested

lacking_none :
    (c q : Bool) (at : ℕ) (f : Option DecodeError) (r : Result (Unit {0}) DecodeError) → not c ≡ false → not q ≡ false → Tested f r
    → Tested (lacking c q at f) r
lacking_none true true at f r h k t = t
lacking_none true false at f r h k t = absurd cc
lacking_none false q at f r h k t = absurd cc

pub sot_tested :
    (d : List ℕ) (csiz p : ℕ) (m : Passed) (r : Result (Unit {0}) DecodeError) → not m.cod ≡ false → not m.qcd ≡ false
    → ComponentsTested d csiz p m.place r → SotTested d csiz p m r
sot_tested d csiz p m r h k t xs e headed =
    lacking_none m.cod m.qcd m.place (component_refusal csiz m.place xs) r h k (same_header d csiz p m.place xs e r t headed)

-- one outcome
room_once :
    (d : List ℕ) (room : ℕ) (s : Siz) (b : ℕ) (t : Bool) (o u : Result Header DecodeError) → WithRoom d room s b t o → WithRoom d room s b t u → o ≡ u
room_once d room s b false o u h k = h ∙ sym k
room_once d room s b true o u h k =
    let one = one_header (main_standing d s.csiz) b h.0 k.0 h.1 k.1 h.2 k.2 in
    let x = one.0 in
    let y = one.1 in
    let v = h.3 in
    let w = k.3 in
    cc

siz_once : (d : List ℕ) (r : Room) (s : Outcome) (o u : Result Header DecodeError) → BehindSiz d r s o → BehindSiz d r s u → o ≡ u
siz_once d r (siz.refused f b) o u h k = h ∙ sym k
siz_once d r (accepted s b) o u h k = room_once d r.packets s b (room_for r s.csiz (tiles_of s.grid)) o u h k

pub one_outcome : OneOutcome
one_outcome d p r o u h k = siz_once d r (siz_outcome d p) o u h k

-- what an accepted header says, from its end back to SIZ
tested_case :
    (o : Option DecodeError) (h g : Header) → Ok g ≡ unless o h → (o ≡ None) × (g ≡ h)
tested_case None h g e = (refl, cc)
tested_case (Some f) h g e = absurd cc

again_case :
    (t : Bool) (d : List ℕ) (p : ℕ) (r : Room) (s : Siz) (b : ℕ) (xs : List Item) (e : Ending) (h : Header) → leb (packets_in xs) r.packets ≡ t
    → siz_outcome d p ≡ accepted s b → MainHeaded d s.csiz b xs e → Ok h ≡ concluded_case t s b xs e → Accepted d p r h
again_case false d p r s b xs e h fit is headed at = absurd cc
again_case true d p r s b xs (by_none q) h fit is headed at = absurd cc
again_case true d p r s b xs (refused f) h fit is headed at = absurd cc
again_case true d p r s b xs (by_marker q) h fit is headed at =
    let g : Header = record { size = s; segments = b; packets = packets_in xs; place = q } in
    let t = tested_case (at_sot s.csiz xs q) g h at in
    let all : Accepted d p r g = record { xs = xs; siz = is; headed = headed; complete = t.0; packets = refl; fits = leb-true (packets_in xs) r.packets fit } in
    subst (λ (z : Header). Accepted d p r z) (sym t.1) all

again_room :
    (t : Bool) (d : List ℕ) (p : ℕ) (r : Room) (s : Siz) (b : ℕ) (h : Header) → siz_outcome d p ≡ accepted s b → WithRoom d r.packets s b t (Ok h)
    → Accepted d p r h
again_room false d p r s b h is w = absurd cc
again_room true d p r s b h is w =
    again_case (leb (packets_in w.0) r.packets) d p r s b w.0 w.1 h refl is w.2 w.3

again_siz :
    (o : Outcome) (d : List ℕ) (p : ℕ) (r : Room) (h : Header) → siz_outcome d p ≡ o → BehindSiz d r o (Ok h) → Accepted d p r h
again_siz (siz.refused f b) d p r h is w = absurd cc
again_siz (accepted s b) d p r h is w = again_room (room_for r s.csiz (tiles_of s.grid)) d p r s b h is w

pub read_again : ReadAgain
read_again d p r h c = again_siz (siz_outcome d p) d p r h refl c
