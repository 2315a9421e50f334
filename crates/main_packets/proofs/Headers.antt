-- The packets of a main header, segment by segment.
use Rattle.std.proofs.Common.{◌≡◌, ℕ, ◌+◌, ◌≤◌, List, [], ◌∷◌, ◌++◌, length, Some, None, Ok, Option, ControlFlow, Break, Continue, refl, subst, arith}
use Rattle.headers.specs.Kinds.{main_kind_of}
use Rattle.headers.specs.Standing.{Contents, cod, coc, qcd, qcc, ppm, nothing, Item, Ending, by_marker, by_none, stands, ends, as_read, behind_main, by_main, main_standing, KeptOf, item_of, FoundAs}
use Rattle.headers.specs.Grammar.{MainHeaded}
use Rattle.headers.specs.declared.kind.Kind.{Kind}
use Rattle.headers.specs.declared.kind.Kind.TheVariants as kind
use Rattle.headers.proofs.Onwards.{main_onward}
use Rattle.headers.specs.declared.found.Found.{Found}
use Rattle.headers.specs.declared.found.Found.TheVariants.{Stands, Ends, NoMarker}
use Rattle.headers.specs.declared.found.Segment.{Segment}
use Rattle.headers.specs.declared.found.Segment.TheVariants.{Sets, Ppm, Ppt, Skipped}
use Rattle.layouts.specs.Layouts.{Reading, read, failed}
use Rattle.packed.specs.Ppm.{ppm_reading}
use Rattle.reader.specs.Bytes.{marker_at}
use Rattle.reader.specs.declared.reader.BitReader.{BitReader}
use Rattle.settings.specs.declared.inherit.Setting.TheVariants.{Cod, Coc, Qcd, Qcc}
use Rattle.settings.specs.declared.rows.PackedRow.{PackedRow}
use Rattle.main_packets.specs.Packets.{rows_by, rows_in}
use Rattle.main_packets.specs.Steps.{NthWith, InSegment, InHeader}
use Rattle.main_packets.proofs.Indices.{with_before, with_behind}

-- a PPM segment that stands at p is what is read behind its marker
as_read_of : (c : Contents) (m : ℕ) (R : Reading) (x : Item) → as_read c m R ≡ stands x → (x.contents ≡ c) × (R ≡ read x.values x.behind)
as_read_of c m (read vs q) x s = (cc, cc)
as_read_of c m (failed e q) x s = (cc, cc)

kind_ppm :
    (d : List ℕ) (csiz p : ℕ) (x : Item) (k : Kind) → behind_main d csiz p k ≡ stands x → x.contents ≡ ppm
    → ppm_reading d (p + 2) ≡ read x.values x.behind
kind_ppm d csiz p x kind.Sot s h = cc
kind_ppm d csiz p x kind.Sod s h = cc
kind_ppm d csiz p x kind.Eoc s h = cc
kind_ppm d csiz p x kind.Cod s h = cc ((as_read_of cod 82 _ x s).0)
kind_ppm d csiz p x kind.Coc s h = cc ((as_read_of coc 83 _ x s).0)
kind_ppm d csiz p x kind.Qcd s h = cc ((as_read_of qcd 92 _ x s).0)
kind_ppm d csiz p x kind.Qcc s h = cc ((as_read_of qcc 93 _ x s).0)
kind_ppm d csiz p x kind.Ppm s h = (as_read_of ppm 96 _ x s).1
kind_ppm d csiz p x kind.Ppt s h = cc
kind_ppm d csiz p x kind.Rgn s h = cc ((as_read_of nothing 94 _ x s).0)
kind_ppm d csiz p x kind.Tlm s h = cc ((as_read_of nothing 85 _ x s).0)
kind_ppm d csiz p x kind.Plt s h = cc
kind_ppm d csiz p x kind.Com s h = cc ((as_read_of nothing 100 _ x s).0)
kind_ppm d csiz p x kind.Crg s h = cc
kind_ppm d csiz p x kind.Bare s h = cc
kind_ppm d csiz p x kind.Foreign s h = cc

marker_ppm :
    (d : List ℕ) (csiz p : ℕ) (x : Item) (m : Option ℕ) → by_main d csiz p m ≡ stands x → x.contents ≡ ppm
    → ppm_reading d (p + 2) ≡ read x.values x.behind
marker_ppm d csiz p x (Some m) s h = kind_ppm d csiz p x (main_kind_of m) s h
marker_ppm d csiz p x None s h = cc

main_ppm :
    (d : List ℕ) (csiz p : ℕ) (x : Item) → main_standing d csiz p ≡ stands x → x.contents ≡ ppm
    → ppm_reading d (p + 2) ≡ read x.values x.behind
unfolding main_standing
main_ppm d csiz p x s h = marker_ppm d csiz p x (marker_at d p) s h

-- where a header ends there is no segment
pub header_ends : (d : List ℕ) (csiz p z n : ℕ) (e : Ending) → main_standing d csiz p ≡ ends e → InHeader d csiz p z n (Continue n)
header_ends d csiz p z n e s [] f h = (omega arith, λ n l. refl)
header_ends d csiz p z n e s (y ∷ ys) f h = let t = h.0 in absurd (cc)

pub header_over :
    (d : List ℕ) (csiz p z n : ℕ) (a : BitReader) (f : Found) → FoundAs (main_standing d csiz p) a (Ok f) → ((g : Segment) → f ≡ Stands g → ⊥)
    → InHeader d csiz p z n (Continue n)
header_over d csiz p z n a (Stands g) h k = absurd (k g refl)
header_over d csiz p z n a Ends h k = header_ends d csiz p z n (by_marker a.place) h
header_over d csiz p z n a NoMarker h k = header_ends d csiz p z n (by_none a.place) h

-- a segment that stands at p and ends at q
pub record Stood (d : List ℕ) (csiz p q : ℕ) (g : Segment) : Type 0 where
  pub item : Item
  pub stood : main_standing d csiz p ≡ stands item
  pub ends_at : item.behind ≡ q
  pub kept : KeptOf g item
  pub ahead : p + 2 ≤ q
  pub inside : q ≤ length d

pub stood_by :
    (d : List ℕ) (csiz p : ℕ) (a : BitReader) (g : Segment) → FoundAs (main_standing d csiz p) a (Ok (Stands g))
    → Stood d csiz p a.place g
stood_by d csiz p a g h =
    let x = item_of (main_standing d csiz p) in
    let o = main_onward d csiz p x h.0 in
    let e = h.1 in
    record { item = x; stood = h.0; ends_at = e; kept = h.2; ahead = omega (arith, o.0); inside = omega (arith, o.1) }

-- its packets: of PPM what is read behind its marker, and of another none
abbrev pub rows_at : {d : List ℕ} {csiz p q : ℕ} {g : Segment} → Stood d csiz p q g → List PackedRow
rows_at s = rows_by s.item.contents s.item.values

pub rows_ppm :
    {d : List ℕ} {csiz p q : ℕ} {g : Segment} (s : Stood d csiz p q g) (z n m : ℕ) (r : ControlFlow PackedRow ℕ) → g ≡ Ppm m
    → InSegment d (p + 2) z n r → NthWith z (rows_at s) n r
rows_ppm {d} {csiz} {p} s z n m r e h =
    let is : s.item.contents ≡ ppm = (subst (λ (y : Segment). KeptOf y s.item) e s.kept).0 in
    rw is (h s.item.values s.item.behind (main_ppm d csiz p s.item s.stood is))

kept_none : (g : Segment) (x : Item) → ((n : ℕ) → g ≡ Ppm n → ⊥) → KeptOf g x → rows_by x.contents x.values ≡ []
kept_none (Sets (Cod c)) x h k = rw k.0 refl
kept_none (Sets (Coc i c)) x h k = rw k.0 refl
kept_none (Sets (Qcd q)) x h k = rw k.0 refl
kept_none (Sets (Qcc i q)) x h k = rw k.0 refl
kept_none (Ppm n) x h k = absurd (h n refl)
kept_none (Ppt z p n) x h k = rw k.0 refl
kept_none Skipped x h k = rw k refl

pub rows_none :
    {d : List ℕ} {csiz p q : ℕ} {g : Segment} (s : Stood d csiz p q g) (z n : ℕ) → ((m : ℕ) → g ≡ Ppm m → ⊥)
    → NthWith z (rows_at s) n (Continue n)
rows_none {g = g} s z n h = rw (kept_none g s.item h s.kept) (omega arith, λ n l. refl)

-- a header that begins with it
stepped :
    {d : List ℕ} {csiz p q : ℕ} {g : Segment} (s : Stood d csiz p q g) (z n : ℕ) (r : ControlFlow PackedRow ℕ)
    → ((ys : List Item) (e : Ending) → MainHeaded d csiz q ys e → NthWith z (rows_at s ++ rows_in ys) n r) → InHeader d csiz p z n r
stepped s z n r f [] e h = let t = s.stood in absurd (cc)
stepped s z n r f (y ∷ ys) e h =
    let t = s.stood in
    let u = h.0 in
    let same : y ≡ s.item = cc in
    rw same (f ys e (rw (← s.ends_at, ← same) h.1))

pub header_here :
    {d : List ℕ} {csiz p q : ℕ} {g : Segment} (s : Stood d csiz p q g) (z n : ℕ) (x : PackedRow) → NthWith z (rows_at s) n (Break x)
    → InHeader d csiz p z n (Break x)
header_here s z n x h = stepped s z n (Break x) (λ ys e t. with_before (rows_at s) (rows_in ys) z n x h)

pub header_behind :
    {d : List ℕ} {csiz p q : ℕ} {g : Segment} (s : Stood d csiz p q g) (z n l : ℕ) (r : ControlFlow PackedRow ℕ)
    → NthWith z (rows_at s) n (Continue l) → InHeader d csiz q z l r → InHeader d csiz p z n r
header_behind s z n l r h rest = stepped s z n r (λ ys e t. with_behind (rows_at s) (rows_in ys) z n l r h (rest ys e t))
