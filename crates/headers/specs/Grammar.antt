-- A header: segments one behind another, and how they end.
use Rattle.std.specs.Prelude.{◌≡◌, ℕ, ◌+◌, Bool, List, [], ◌∷◌, ◌++◌, length, drop}
use Rattle.packed.specs.Ppm.{packets_of}
use Rattle.headers.specs.Standing.{Contents, cod, coc, qcd, qcc, ppm, ppt, nothing, Item, Ending, Standing, stands, ends, main_standing, part_standing, SetsAs}
use Rattle.settings.specs.declared.inherit.Setting.{Setting}

-- from the place p on the segments xs stand one behind another, and behind the last of them the header ends by e; `at` says what stands at a
-- place
abbrev pub Headed : (ℕ → Standing) → ℕ → List Item → Ending → Type 0
Headed at p [] e = at p ≡ ends e
Headed at p (x ∷ xs) e = (at p ≡ stands x) × Headed at x.behind xs e

-- a main header of csiz components, from behind SIZ
abbrev pub MainHeaded : List ℕ → ℕ → ℕ → List Item → Ending → Type 0
MainHeaded d csiz p xs e = Headed (main_standing d csiz) p xs e

-- a tile-part header, from behind its SOT segment; whether packets of the main header are kept, and whether it is read strictly
abbrev pub PartHeaded : List ℕ → ℕ → Bool → Bool → ℕ → List Item → Ending → Type 0
PartHeaded d csiz packets strict p xs e = Headed (part_standing d csiz packets strict) p xs e

-- how many packets a PPM segment has
abbrev pub packets_by : Contents → List ℕ → ℕ
packets_by cod vs = 0
packets_by coc vs = 0
packets_by qcd vs = 0
packets_by qcc vs = 0
packets_by ppm vs = length (packets_of (drop 3 vs))
packets_by ppt vs = 0
packets_by nothing vs = 0

-- the number of packets in a header's PPM segments
abbrev pub packets_in : List Item → ℕ
packets_in [] = 0
packets_in (x ∷ xs) = packets_by x.contents x.values + packets_in xs

abbrev pub headers_by : Contents → ℕ
headers_by cod = 0
headers_by coc = 0
headers_by qcd = 0
headers_by qcc = 0
headers_by ppm = 0
headers_by ppt = 1
headers_by nothing = 0

-- the number of PPT segments in a header
abbrev pub headers_in : List Item → ℕ
headers_in [] = 0
headers_in (x ∷ xs) = headers_by x.contents + headers_in xs

-- the settings that a segment makes: one, or none
abbrev pub SetBy : Contents → List ℕ → List Setting → Type 0
SetBy cod vs ss = (s : Setting) × (ss ≡ s ∷ []) × SetsAs s cod vs
SetBy coc vs ss = (s : Setting) × (ss ≡ s ∷ []) × SetsAs s coc vs
SetBy qcd vs ss = (s : Setting) × (ss ≡ s ∷ []) × SetsAs s qcd vs
SetBy qcc vs ss = (s : Setting) × (ss ≡ s ∷ []) × SetsAs s qcc vs
SetBy ppm vs ss = ss ≡ []
SetBy ppt vs ss = ss ≡ []
SetBy nothing vs ss = ss ≡ []

-- the settings of a header's COD, COC, QCD and QCC segments, in their order
abbrev pub SettingsIn : List Item → List Setting → Type 0
SettingsIn [] ss = ss ≡ []
SettingsIn (x ∷ xs) ss =
    (first : List Setting) × (rest : List Setting) × (ss ≡ first ++ rest) × SetBy x.contents x.values first × SettingsIn xs rest
