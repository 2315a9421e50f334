-- How far the segments behind SIZ have been gone through.
use Rattle.std.proofs.Common.{◌≡◌, ℕ, ◌+◌, ◌-◌, ◌<◌, ◌≤◌, Bool, true, false, ◌||◌, leb, List, [], ◌∷◌, ◌++◌, length, is_some, Some, None, Ok, Err, Option, Result, sym, refl, ap, ◌∙◌, subst, arith, Bor}
use Rattle.std.specs.Option.{option_or}
use Rattle.std.proofs.lemmas.Bool.{le-leb, lt-leb}
use Rattle.faults.specs.declared.decode.DecodeError.{DecodeError}
use Rattle.faults.specs.declared.decode.DecodeError.TheVariants.{Marker}
use Rattle.faults.specs.declared.decode.MarkerError.TheVariants.{Invalid}
use Rattle.reader.specs.Reads.{bytes_of}
use Rattle.reader.specs.declared.reader.BitReader.{BitReader}
use Rattle.settings.specs.declared.inherit.Setting.{Setting}
use Rattle.settings.specs.declared.inherit.Setting.TheVariants.{Cod, Coc, Qcd, Qcc}
use Rattle.headers.specs.declared.found.Segment.{Segment}
use Rattle.headers.specs.declared.found.Segment.TheVariants.{Sets, Ppm, Ppt, Skipped}
use Rattle.headers.specs.declared.found.Found.{Found}
use Rattle.headers.specs.declared.found.Found.TheVariants.{Stands, Ends, NoMarker}
use Rattle.headers.specs.declared.main_header.MainHeader.{MainHeader}
use Rattle.headers.specs.Standing.{Contents, cod, coc, qcd, qcc, ppt, nothing, Item, Ending, by_marker, by_none, refused, stands, ends, main_standing, SetsAs, KeptOf, Finds}
use Rattle.headers.specs.Grammar.{packets_by, packets_in}
use Rattle.headers.proofs.Once.{some_main}
use Rattle.headers.proofs.Onwards.{main_onward}
use Rattle.headers.proofs.Paths.{Path, path_none, path_more, path_ends, found_stands, found_ends, found_none}
use Rattle.main_settings.specs.Components.{last_of, of_cod, cod_in, of_qcd, qcd_in}
use Rattle.main_settings.proofs.Said.{last_push}
use Rattle.main_survey.specs.Main.{too_short}
use Rattle.main_survey.specs.Passing.{passed_by, PassedTo}
use Rattle.main_survey.specs.declared.passed.Passed.{Passed}

-- the segments up to where the reader is, with what is known of them
pub record Run (h : MainHeader) (room : ℕ) (b : BitReader) (c q : Bool) (n : ℕ) : Type 0 where
  pub same : b.«data» ≡ h.codestream
  pub xs : List Item
  pub path : Path (main_standing h.codestream.now h.csiz) h.segments xs b.place
  pub has_cod : is_some (last_of cod_in xs) ≡ c
  pub has_qcd : is_some (last_of qcd_in xs) ≡ q
  pub many : packets_in xs ≡ n
  pub fits : n ≤ room

pub run_none : (h : MainHeader) (room : ℕ) (b : BitReader) → b.«data» ≡ h.codestream → b.place ≡ h.segments → Run h room b false false 0
run_none h room b e at =
    record {
      same = e;
      xs = [];
      path = rw at (path_none (main_standing h.codestream.now h.csiz) h.segments);
      has_cod = refl;
      has_qcd = refl;
      many = refl;
      fits = omega arith;
    }

some_either : (a b : Option (List ℕ)) → is_some (option_or a b) ≡ (is_some a || is_some b)
some_either (Some x) b = refl
some_either None b = refl

some_push : (f : Item → Option (List ℕ)) (xs : List Item) (x : Item) (b : Bool) → is_some (last_of f xs) ≡ b
    → is_some (last_of f (xs ++ x ∷ [])) ≡ (is_some (f x) || b)
some_push f xs x b e =
    ap is_some (last_push f xs x) ∙ some_either (f x) (last_of f xs) ∙ ap (λ (c : Bool). is_some (f x) || c) e

pub packets_append : (xs ys : List Item) → packets_in (xs ++ ys) ≡ packets_in xs + packets_in ys
packets_append [] ys = omega arith
packets_append (x ∷ xs) ys = omega (arith, packets_append xs ys)

-- the segment that was found between b and a
pub record Met (h : MainHeader) (b a : BitReader) (g : Segment) : Type 0 where
  pub same : a.«data» ≡ h.codestream
  pub item : Item
  pub stood : main_standing h.codestream.now h.csiz b.place ≡ stands item
  pub behind : item.behind ≡ a.place
  pub kept : KeptOf g item
  pub ahead : b.place < a.place
  pub inside : a.place ≤ length h.codestream.now

-- by a reader of the header's codestream
standing : (h : MainHeader) (b : BitReader) → b.«data» ≡ h.codestream → main_standing (bytes_of b) h.csiz b.place ≡ main_standing h.codestream.now h.csiz b.place
standing h b same = ap (λ (y : Bor (List ℕ)). main_standing y.now h.csiz b.place) same

pub met :
    (h : MainHeader) (room : ℕ) (b a : BitReader) (c q : Bool) (n : ℕ) (f : Found) (g : Segment) → Run h room b c q n
    → Finds (main_standing (bytes_of b) h.csiz b.place) b a (Ok f) → f ≡ Stands g → Met h b a g
met h room b a c q n f g r found is =
    let x = found_stands _ _ f g a (standing h b r.same) found.0 is in
    let on = main_onward h.codestream.now h.csiz b.place x.0 x.1 in
    record {
      same = found.1 ∙ r.same;
      item = x.0;
      stood = x.1;
      behind = x.2;
      kept = x.3;
      ahead = omega (arith, on.0, x.2);
      inside = omega (arith, on.1, x.2);
    }

-- one segment more
run_next :
    (h : MainHeader) (room : ℕ) (b a : BitReader) (c q : Bool) (n : ℕ) (c' q' : Bool) (n' : ℕ) (g : Segment) (r : Run h room b c q n)
    (m : Met h b a g) → (is_some (cod_in m.item) || c) ≡ c' → (is_some (qcd_in m.item) || q) ≡ q'
    → packets_by m.item.contents m.item.values + n ≡ n' → n' ≤ room → Run h room a c' q' n'
run_next h room b a c q n c' q' n' g r m ec eq en l =
    record {
      same = m.same;
      xs = r.xs ++ m.item ∷ [];
      path =
          subst (λ (o : ℕ). Path (main_standing h.codestream.now h.csiz) h.segments (r.xs ++ m.item ∷ []) o) m.behind
          (path_more (main_standing h.codestream.now h.csiz) h.segments b.place r.xs m.item r.path m.stood);
      has_cod = some_push cod_in r.xs m.item c r.has_cod ∙ ec;
      has_qcd = some_push qcd_in r.xs m.item q r.has_qcd ∙ eq;
      many = omega (arith, packets_append r.xs (m.item ∷ []), r.many);
      fits = l;
    }

pub kept_as : (g g' : Segment) (x : Item) → g ≡ g' → KeptOf g x → KeptOf g' x
kept_as g g' x e h = subst (λ (y : Segment). KeptOf y x) e h

-- a COD, a QCD, a PPM, or another segment
pub run_cod :
    (h : MainHeader) (room : ℕ) (b a : BitReader) (c q : Bool) (n : ℕ) (g : Segment) (r : Run h room b c q n) (m : Met h b a g)
    → m.item.contents ≡ cod → Run h room a true q n
run_cod h room b a c q n g r m e = run_next h room b a c q n true q n g r m (rw e refl) (rw e refl) (rw e (omega arith)) r.fits

pub run_qcd :
    (h : MainHeader) (room : ℕ) (b a : BitReader) (c q : Bool) (n : ℕ) (g : Segment) (r : Run h room b c q n) (m : Met h b a g)
    → m.item.contents ≡ qcd → Run h room a c true n
run_qcd h room b a c q n g r m e = run_next h room b a c q n c true n g r m (rw e refl) (rw e refl) (rw e (omega arith)) r.fits

pub run_ppm :
    (h : MainHeader) (room : ℕ) (b a : BitReader) (c q : Bool) (n k : ℕ) (g : Segment) (r : Run h room b c q n) (m : Met h b a g)
    → KeptOf (Ppm k) m.item → k ≤ room - n → Run h room a c q (n + k)
run_ppm h room b a c q n k g r m kept l =
    let e = kept.0 in
    run_next h room b a c q n c q (n + k) g r m (rw e refl) (rw e refl) (rw e (omega (arith, kept.1))) (omega (arith, r.fits))

-- nothing is kept of a segment but COD, QCD and packets
pub record Plain (k : Contents) (vs : List ℕ) : Type 0 where
  pub no_cod : is_some (of_cod k vs) ≡ false
  pub no_qcd : is_some (of_qcd k vs) ≡ false
  pub no_packets : packets_by k vs ≡ 0

plain_by : (k j : Contents) (vs : List ℕ) → k ≡ j → Plain j vs → Plain k vs
plain_by k j vs e p = rw e p

pub plain_setting :
    (s : Setting) (k : Contents) (vs : List ℕ) → ((x : _) → s ≡ Cod x → ⊥) → ((x : _) → s ≡ Qcd x → ⊥) → SetsAs s k vs → Plain k vs
plain_setting (Cod x) k vs c q h = absurd (c x refl)
plain_setting (Coc i x) k vs c q h = plain_by k coc vs h.0 (record { no_cod = refl; no_qcd = refl; no_packets = refl })
plain_setting (Qcd x) k vs c q h = absurd (q x refl)
plain_setting (Qcc i x) k vs c q h = plain_by k qcc vs h.0 (record { no_cod = refl; no_qcd = refl; no_packets = refl })

pub plain_segment :
    (g : Segment) (x : Item) → ((s : Setting) → g ≡ Sets s → ⊥) → ((n : ℕ) → g ≡ Ppm n → ⊥) → KeptOf g x → Plain x.contents x.values
plain_segment (Sets s) x c q h = absurd (c s refl)
plain_segment (Ppm n) x c q h = absurd (q n refl)
plain_segment (Ppt z p n) x c q h = plain_by x.contents ppt x.values h.0 (record { no_cod = refl; no_qcd = refl; no_packets = refl })
plain_segment Skipped x c q h = plain_by x.contents nothing x.values h (record { no_cod = refl; no_qcd = refl; no_packets = refl })

pub run_plain :
    (h : MainHeader) (room : ℕ) (b a : BitReader) (c q : Bool) (n : ℕ) (g : Segment) (r : Run h room b c q n) (m : Met h b a g)
    → Plain m.item.contents m.item.values → Run h room a c q n
run_plain h room b a c q n g r m p =
    run_next h room b a c q n c q n g r m (rw p.no_cod refl) (rw p.no_qcd refl) (omega (arith, p.no_packets)) r.fits

-- where the header ends behind the run
pub run_ends :
    (h : MainHeader) (room : ℕ) (b : BitReader) (c q : Bool) (n : ℕ) (e : Ending) (o : Result Passed DecodeError) (r : Run h room b c q n)
    → main_standing h.codestream.now h.csiz b.place ≡ ends e → o ≡ passed_by r.xs e → PassedTo h.codestream.now h.csiz h.segments room o
run_ends h room b c q n e o r s is =
    let t : leb (packets_in r.xs) room ≡ true = le-leb (packets_in r.xs) room (omega (arith, r.many, r.fits)) in
    (r.xs, e, path_ends (main_standing h.codestream.now h.csiz) h.segments b.place r.xs e r.path s, rw t is)

-- by SOT, for want of a marker, or by a refusal
pub run_sot :
    (h : MainHeader) (room : ℕ) (b a : BitReader) (c q : Bool) (n o : ℕ) (f : Found) → Run h room b c q n
    → Finds (main_standing (bytes_of b) h.csiz b.place) b a (Ok f) → f ≡ Ends → o ≡ a.place
    → PassedTo h.codestream.now h.csiz h.segments room (Ok (record { cod = c; qcd = q; packets = n; place = o }))
run_sot h room b a c q n o f r found is at =
    let s = found_ends _ _ f a (standing h b r.same) found.0 is in
    run_ends h room b c q n (by_marker a.place) _ r s (simp (at, r.has_cod, r.has_qcd, r.many) refl)

pub run_lost :
    (h : MainHeader) (room : ℕ) (b a : BitReader) (c q : Bool) (n o : ℕ) (f : Found) (v : DecodeError) → Run h room b c q n
    → Finds (main_standing (bytes_of b) h.csiz b.place) b a (Ok f) → f ≡ NoMarker → o ≡ a.place → v ≡ Marker (Invalid o)
    → PassedTo h.codestream.now h.csiz h.segments room (Err v)
run_lost h room b a c q n o f v r found is at e =
    let s = found_none _ _ f a (standing h b r.same) found.0 is in
    run_ends h room b c q n (by_none a.place) _ r s (rw (e, at) refl)

pub run_refused :
    (h : MainHeader) (room : ℕ) (b a : BitReader) (c q : Bool) (n : ℕ) (f : DecodeError) (o : Result Passed DecodeError) → Run h room b c q n
    → Finds (main_standing (bytes_of b) h.csiz b.place) b a (Err f) → o ≡ Err f → PassedTo h.codestream.now h.csiz h.segments room o
run_refused h room b a c q n f o r found is =
    run_ends h room b c q n (refused f) o r (sym (standing h b r.same) ∙ found.0) is

-- where the packets of one segment more pass the room
pub run_full :
    (h : MainHeader) (room : ℕ) (b a : BitReader) (c q : Bool) (n k : ℕ) (g : Segment) (v : DecodeError) → Run h room b c q n → (m : Met h b a g)
    → KeptOf (Ppm k) m.item → room - n < k → v ≡ too_short → PassedTo h.codestream.now h.csiz h.segments room (Err v)
run_full h room b a c q n k g v r m kept l e =
    let rest = some_main h.codestream.now h.csiz m.item.behind in
    let all = r.xs ++ m.item ∷ rest.0 in
    let many : packets_by m.item.contents m.item.values ≡ k = rw kept.0 (sym kept.1) in
    let over : room < packets_in all = omega (arith, packets_append r.xs (m.item ∷ rest.0), r.many, r.fits) in
    let t : leb (packets_in all) room ≡ false = lt-leb (packets_in all) room over in
    (all, rest.1, r.path (m.item ∷ rest.0) rest.1 (m.stood, rest.2), rw (t, e) refl)
