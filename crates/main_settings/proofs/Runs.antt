-- A main header read segment by segment, and a row that its settings are applied to.
use Rattle.std.proofs.Common.{◌≡◌, ℕ, ◌<◌, ◌≤◌, List, [], ◌∷◌, ◌++◌, length, Ok, Err, Result, sym, refl, ap, ◌∙◌, subst, append_assoc, append-nil, arith, Bor}
use Rattle.faults.specs.declared.decode.DecodeError.{DecodeError}
use Rattle.reader.specs.Reads.{bytes_of}
use Rattle.reader.specs.declared.reader.BitReader.{BitReader}
use Rattle.headers.specs.Standing.{Contents, Item, Ending, by_marker, by_none, refused, ends, main_standing, SetsAs, KeptOf, Finds}
use Rattle.headers.specs.Grammar.{SetBy, SettingsIn}
use Rattle.headers.specs.declared.found.Found.{Found}
use Rattle.headers.specs.declared.found.Found.TheVariants.{Stands, Ends, NoMarker}
use Rattle.headers.specs.declared.found.Segment.{Segment}
use Rattle.headers.specs.declared.found.Segment.TheVariants.{Sets, Ppm, Ppt, Skipped}
use Rattle.headers.specs.declared.main_header.MainHeader.{MainHeader}
use Rattle.headers.proofs.Onwards.{main_onward}
use Rattle.headers.proofs.Paths.{Path, path_none, path_more, path_ends, found_stands}
use Rattle.settings.specs.Inheritance.{after, applied, inherited}
use Rattle.settings.specs.Rows.{BlankSettings}
use Rattle.settings.specs.declared.inherit.Setting.{Setting}
use Rattle.settings.specs.declared.inherit.Setting.TheVariants.{Cod, Coc, Qcd, Qcc}
use Rattle.settings.specs.declared.rows.ComponentSettings.{ComponentSettings}
use Rattle.settings.proofs.Applied.{main_settled}
use Rattle.main_settings.specs.Components.{last_of, cod_in, coc_in, qcd_in, qcc_in}
use Rattle.main_settings.specs.Settled.{ComponentSettled}
use Rattle.main_settings.proofs.Said.{SaidBy, said_more, last_push}

-- the setting of a segment, if it has one
abbrev pub settings_of : Segment → List Setting
settings_of (Sets s) = s ∷ []
settings_of (Ppm n) = []
settings_of (Ppt z p n) = []
settings_of Skipped = []

-- the segments up to where the reader is, and the row s that their settings made
pub record Run (h : MainHeader) (b : BitReader) (k : ℕ) (s : ComponentSettings) : Type 0 where
  pub same : b.«data» ≡ h.codestream
  pub xs : List Item
  pub path : Path (main_standing h.codestream.now h.csiz) h.segments xs b.place
  pub ss : List Setting
  pub settings : SettingsIn xs ss
  pub blank : ComponentSettings
  pub is_blank : BlankSettings blank
  pub made : s ≡ applied k blank ss
  pub said : SaidBy (last_of (coc_in k) xs) (last_of cod_in xs) (last_of (qcc_in k) xs) (last_of qcd_in xs) s

pub run_none : (h : MainHeader) (b : BitReader) (k : ℕ) (s : ComponentSettings) → b.«data» ≡ h.codestream → b.place ≡ h.segments → BlankSettings s → Run h b k s
run_none h b k s same at blank =
    record {
      same = same;
      xs = [];
      path = rw at (path_none (main_standing h.codestream.now h.csiz) h.segments);
      ss = [];
      settings = refl;
      blank = s;
      is_blank = blank;
      made = refl;
      said = record { levels = blank.parameters.levels; quantization = blank.quantization; own_coc = blank.coc; own_qcc = blank.qcc };
    }

settings_push :
    (xs : List Item) (x : Item) (ss ts : List Setting) → SettingsIn xs ss → SetBy x.contents x.values ts → SettingsIn (xs ++ x ∷ []) (ss ++ ts)
settings_push [] x ss ts h set = (ts, [], ap (λ (us : List Setting). us ++ ts) h ∙ sym (append-nil ts), set, refl)
settings_push (y ∷ ys) x ss ts h set = (
  h.0,
  h.1 ++ ts,
  ap (λ (us : List Setting). us ++ ts) h.2 ∙ append_assoc h.0 h.1 ts,
  h.3,
  settings_push ys x h.1 ts h.4 set,
)

applied_push : (k : ℕ) (s : ComponentSettings) (xs ys : List Setting) → applied k s (xs ++ ys) ≡ applied k (applied k s xs) ys
applied_push k s [] ys = refl
applied_push k s (x ∷ xs) ys = applied_push k (after k x s) xs ys

sets_by : (s : Setting) (c : Contents) (vs : List ℕ) → SetsAs s c vs → SetBy c vs (s ∷ [])
sets_by (Cod x) c vs h = rw h.0 (Cod x, refl, (refl, h.1))
sets_by (Coc i x) c vs h = rw h.0 (Coc i x, refl, (refl, h.1))
sets_by (Qcd x) c vs h = rw h.0 (Qcd x, refl, (refl, h.1))
sets_by (Qcc i x) c vs h = rw h.0 (Qcc i x, refl, (refl, h.1))

kept_by : (g : Segment) (x : Item) → KeptOf g x → SetBy x.contents x.values (settings_of g)
kept_by (Sets s) x h = sets_by s x.contents x.values h
kept_by (Ppm n) x h = rw h.0 refl
kept_by (Ppt z p n) x h = rw h.0 refl
kept_by Skipped x h = rw h refl

said_push :
    (k : ℕ) (g : Segment) (x : Item) (xs : List Item) (s : ComponentSettings)
    → SaidBy (last_of (coc_in k) xs) (last_of cod_in xs) (last_of (qcc_in k) xs) (last_of qcd_in xs) s → KeptOf g x
    → SaidBy (last_of (coc_in k) (xs ++ x ∷ [])) (last_of cod_in (xs ++ x ∷ [])) (last_of (qcc_in k) (xs ++ x ∷ [])) (last_of qcd_in (xs ++ x ∷ []))
    (applied k s (settings_of g))
said_push k (Sets o) x xs s r h =
    rw (last_push (coc_in k) xs x, last_push cod_in xs x, last_push (qcc_in k) xs x, last_push qcd_in xs x)
    (said_more k o x.contents x.values _ _ _ _ s r h)
said_push k (Ppm n) x xs s r h =
    rw (last_push (coc_in k) xs x, last_push cod_in xs x, last_push (qcc_in k) xs x, last_push qcd_in xs x, h.0) r
said_push k (Ppt z p n) x xs s r h =
    rw (last_push (coc_in k) xs x, last_push cod_in xs x, last_push (qcc_in k) xs x, last_push qcd_in xs x, h.0) r
said_push k Skipped x xs s r h =
    rw (last_push (coc_in k) xs x, last_push cod_in xs x, last_push (qcc_in k) xs x, last_push qcd_in xs x, h) r

-- one segment more, and how far it goes
pub run_more :
    (h : MainHeader) (b a : BitReader) (k : ℕ) (s t : ComponentSettings) (f : Found) (g : Segment) → Run h b k s
    → Finds (main_standing (bytes_of b) h.csiz b.place) b a (Ok f) → f ≡ Stands g → t ≡ applied k s (settings_of g)
    → Run h a k t × (b.place < a.place) × (a.place ≤ length h.codestream.now)
run_more h b a k s t f g r found is e =
    let d : List ℕ = h.codestream.now in
    let x = found_stands (main_standing (bytes_of b) h.csiz b.place) (main_standing d h.csiz b.place) f g a
    (ap (λ (y : Bor (List ℕ)). main_standing y.now h.csiz b.place) r.same) found.0 is in
    let on = main_onward d h.csiz b.place x.0 x.1 in (
      record {
        same = found.1 ∙ r.same;
        xs = r.xs ++ x.0 ∷ [];
        path = subst (λ (o : ℕ). Path (main_standing d h.csiz) h.segments (r.xs ++ x.0 ∷ []) o) x.2 (path_more (main_standing d h.csiz) h.segments b.place r.xs x.0 r.path x.1);
        ss = r.ss ++ settings_of g;
        settings = settings_push r.xs x.0 r.ss (settings_of g) r.settings (kept_by g x.0 x.3);
        blank = r.blank;
        is_blank = r.is_blank;
        made = e ∙ ap (λ (u : ComponentSettings). applied k u (settings_of g)) r.made ∙ sym (applied_push k r.blank r.ss (settings_of g));
        said = rw e (said_push k g x.0 r.xs s r.said x.3);
      },
      omega (arith, on.0, x.2),
      omega (arith, on.1, x.2),
    )

-- a segment that sets nothing
pub unset : (g : Segment) (k : ℕ) (s : ComponentSettings) → ((o : Setting) → g ≡ Sets o → ⊥) → s ≡ applied k s (settings_of g)
unset (Sets o) k s none = absurd (none o refl)
unset (Ppm n) k s none = refl
unset (Ppt z p n) k s none = refl
unset Skipped k s none = refl

-- where no segment was found, the header ends
ends_by : (b a : BitReader) (csiz : ℕ) (f : Result Found DecodeError) → Finds (main_standing (bytes_of b) csiz b.place) b a f
    → ((g : Segment) → f ≡ Ok (Stands g) → ⊥) → (e : Ending) × (main_standing (bytes_of b) csiz b.place ≡ ends e)
ends_by b a csiz (Ok (Stands g)) h none = absurd (none g refl)
ends_by b a csiz (Ok Ends) h none = (by_marker a.place, h.0)
ends_by b a csiz (Ok NoMarker) h none = (by_none a.place, h.0)
ends_by b a csiz (Err f) h none = (refused f, h.0)

pub run_ends :
    (h : MainHeader) (b a : BitReader) (k : ℕ) (s t : ComponentSettings) (f : Result Found DecodeError) → Run h b k s
    → Finds (main_standing (bytes_of b) h.csiz b.place) b a f → ((g : Segment) → f ≡ Ok (Stands g) → ⊥) → t ≡ inherited s
    → ComponentSettled h.codestream.now h.csiz h.segments k t
run_ends h b a k s t f r found none is =
    let d : List ℕ = h.codestream.now in
    let e = ends_by b a h.csiz f found none in
    record {
      xs = r.xs;
      e = e.0;
      ss = r.ss;
      headed = path_ends (main_standing d h.csiz) h.segments b.place r.xs e.0 r.path (ap (λ (y : Bor (List ℕ)). main_standing y.now h.csiz b.place) (sym r.same) ∙ e.1);
      settings = r.settings;
      settled = main_settled k r.blank s t r.ss r.is_blank r.made is;
      levels = rw is r.said.levels;
      quantization = rw is r.said.quantization;
    }
