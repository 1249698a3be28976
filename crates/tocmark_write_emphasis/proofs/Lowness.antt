-- The markers that may be chosen are ASCII, and so is the one that is chosen.
use Rattle.std.proofs.Common.{◌≡◌, ◌<◌, ◌==◌, ℕ, Bool, true, false, if◌then◌else◌, Option, Some, None, IfSome, List, [], ◌∷◌, refl, subst, arith, slice_index, unwrap_or}
use Rattle.std.proofs.lemmas.Bool.{false≢true}
use Rattle.std.specs.Prelude.{not}
use Rattle.tocmark_write_texts.specs.Characters.{underscore}
use Rattle.tocmark_event.specs.View.{TagView, Emphasis, Strong}
use Rattle.tocmark_spelling.specs.Kinds.{is_emphasis_or_strong}
use Rattle.tocmark_spelling.specs.Look.{Look}
use Rattle.tocmark_spelling.specs.Marker.{fits_underscore, other_marker, asked_marker, marker_of, beside_parent, marker_by_runs, after_closing, inside_parent, marker_by_sharing, literal_marker, in_width, marker_in, marker, ends_delimiter}
use Rattle.tocmark_spelling.specs.Page.{Level, Path, Page}
use Rattle.tocmark_spelling.specs.Places.{nearest}
use Rattle.tocmark_spelling.specs.Plan.{Setting, Manner}
use Rattle.tocmark_spelling.specs.Runs.{is_marker}
use Rattle.tocmark_spelling.specs.Words.{last_byte, or_else}
use Rattle.tocmark_spelling.specs.declared.plan.Delimiters.{Delimiters}
use Rattle.tocmark_spelling.specs.declared.plan.Layout.{Layout}
use Rattle.tocmark_spelling.specs.declared.plan.Layout.TheVariants.{Preferred, Runs, Uniform, Shared, RuleThree}
use Rattle.tocmark_spelling.specs.declared.plan.TextSpelling.{TextSpelling}
use Rattle.tocmark_spelling.specs.declared.plan.TextSpelling.TheVariants.{Escaped, Literal, Entities, LiteralEntities}
use Rattle.tocmark_write_emphasis.specs.Facts.{AreLow, HasLow, IsNearest, IsPlace, asked_by}
use Rattle.tocmark_write_emphasis.specs.declared.facts.EmphasisEvents.{EmphasisEvents}
use Rattle.tocmark_write_emphasis.specs.declared.facts.Parent.{Parent}
use Rattle.tocmark_write_emphasis.specs.declared.facts.NodeSurroundings.{NodeSurroundings}
use Rattle.tocmark_write_emphasis.proofs.Nodes.{marker-bound}
use Rattle.tocmark_write_emphasis.specs.Low.{chooses_bytes, AreLowAsked, AreLowLevels, AsksLow, HasLowLiterals, OpensLow}

-- the nearest open one
pub nearest-low : (path : Path) → AreLowLevels path → IfSome (nearest is_emphasis_or_strong path) (λ l. marker_of l < 128)
nearest-low [] h = tt
nearest-low (l ∷ path) h = by_case (is_emphasis_or_strong l.tag) h.0 (nearest-low path h.1)
  where
    by_case : (b : Bool) → (b ≡ true → marker_of l < 128) → IfSome (nearest is_emphasis_or_strong path) (λ l. marker_of l < 128) → IfSome (if b then Some l else nearest is_emphasis_or_strong path) (λ l. marker_of l < 128)
    by_case true h rest = h refl
    by_case false h rest = rest

parent-low : (layout : Layout) (f : Option Parent) (o : Option Level) (l : Look) (p : Page) → IsNearest layout f o l p → IfSome o (λ l. marker_of l < 128) → IfSome f (λ f. f.marker < 128)
parent-low layout None o l p is h = tt
parent-low layout (Some f) None l p is h = absurd is
parent-low layout (Some f) (Some parent) l p is h = subst (λ c. c < 128) is.marker h

pub asked-low : (d : Delimiters) (strong : Bool) → AreLowAsked d → asked_by d strong < 128
asked-low d true h = h.strong
asked-low d false h = h.emphasis

are-low : (d : Delimiters) (layout : Layout) (node : EmphasisEvents) (place : NodeSurroundings) (token : List ℕ) (l : Look) (path : Path) (p : Page)
    → AreLowAsked d → AreLowLevels path → HasLowLiterals node → IsPlace layout place token l path p → AreLow (asked_by d node.strong) node place
are-low d layout node place token l path p asked levels literals is =
    record {
      asked_is = asked-low d node.strong asked;
      parent = parent-low layout place.parent (nearest is_emphasis_or_strong path) l p is.parent (nearest-low path levels);
      before = literals.before;
      after = literals.after;
    }

where-low : (layout : Layout) (asked : ℕ) (node : EmphasisEvents) (place : NodeSurroundings) → (chooses_bytes layout ≡ true → AreLow asked node place) → HasLow layout asked node place
where-low Preferred asked node place h = tt
where-low Uniform asked node place h = tt
where-low Runs asked node place h = h refl
where-low (Shared ends adjacent split) asked node place h = h refl
where-low RuleThree asked node place h = h refl

-- the markers that may be chosen at a place
pub has-low : (d : Delimiters) (node : EmphasisEvents) (place : NodeSurroundings) (token : List ℕ) (l : Look) (path : Path) (p : Page)
    → AsksLow d → OpensLow d path → HasLowLiterals node → IsPlace d.layout place token l path p → HasLow d.layout (asked_by d node.strong) node place
has-low d node place token l path p asked levels literals is =
    where-low d.layout (asked_by d node.strong) node place (λ e. are-low d d.layout node place token l path p (asked e) (levels e) literals is)

-- ---- the marker that is chosen

if-low : (b : Bool) (x y : ℕ) → x < 128 → y < 128 → (if b then x else y) < 128
if-low true x y h k = h
if-low false x y h k = k

star : 42 < 128
star = omega arith

line : 95 < 128
line = omega arith

other-low : (c : ℕ) → other_marker c < 128
other-low c = if-low _ _ _ line star

beside-low : (s : Setting) (c : ℕ) (l : Look) (o : Option Level) (p : Page) → c < 128 → beside_parent s c l o p < 128
beside-low s c l None p h = h
beside-low s c l (Some parent) p h = if-low _ _ _ (other-low c) h

runs-low : (s : Setting) (c : ℕ) (l : Look) (path : Path) (p : Page) → c < 128 → marker_by_runs s c l path p < 128
runs-low s c l path p h =
    if-low (not (fits_underscore s l.opening.before l.closing.after)) _ _ star
    (if-low (ends_delimiter l.previous) _ _ (if-low (last_byte p.sheet.text == underscore) _ _ star line)
    (if-low l.prefers _ _ line (beside-low s c l (nearest is_emphasis_or_strong path) p h)))

marker-or : (c : ℕ) (b : Bool) → is_marker c ≡ b → (if b then c else 42) < 128
marker-or c false e = star
marker-or c true e = marker-bound c e

after-low : (layout : Layout) (l : Look) (p : Page) → after_closing layout l p < 128
after-low layout l p = if-low _ _ _ (marker-or (last_byte p.sheet.text) (is_marker (last_byte p.sheet.text)) refl) (if-low _ _ _ line star)

inside-low : (s : Setting) (layout : Layout) (c : ℕ) (t : TagView) (l : Look) (o : Option Level) (p : Page) → c < 128 → IfSome o (λ l. marker_of l < 128) → inside_parent s layout c t l o p < 128
inside-low s layout c t l None p h k = h
inside-low s layout c t l (Some parent) p h k = if-low _ _ _ k (other-low (marker_of parent))

sharing-low : (s : Setting) (layout : Layout) (c : ℕ) (t : TagView) (l : Look) (path : Path) (p : Page) → c < 128 → IfSome (nearest is_emphasis_or_strong path) (λ l. marker_of l < 128) → marker_by_sharing s layout c t l path p < 128
sharing-low s layout c t l path p h k = if-low _ _ _ (after-low layout l p) (inside-low s layout c t l (nearest is_emphasis_or_strong path) p h k)

-- an ASCII character, if there is one
abbrev IsLow : Option ℕ → Type 0
IsLow o = IfSome o (λ c. c < 128)

or-low : (a b : Option ℕ) → IsLow a → IsLow b → IsLow (or_else a b)
or-low None b h k = k
or-low (Some x) b h k = h

literal-low : (text : TextSpelling) (l : Look) → IsLow l.opening.literal_before → IsLow l.closing.literal_after → IsLow (literal_marker text l)
literal-low Escaped l h k = tt
literal-low Literal l h k = tt
literal-low Entities l h k = tt
literal-low LiteralEntities l h k = or-low l.opening.literal_before l.closing.literal_after h k

unwrap-low : (o : Option ℕ) (x : ℕ) → IsLow o → x < 128 → unwrap_or o x < 128
unwrap-low None x h k = k
unwrap-low (Some y) x h k = h

first-low : (t : TagView) (c : ℕ) → c < 128 → slice_index (in_width t c) 0 < 128
first-low Emphasis c h = h
first-low Strong c h = h
first-low t c h = omega arith

in-low : (layout : Layout) (s : Setting) (m : Manner) (t : TagView) (l : Look) (path : Path) (p : Page)
    → chooses_bytes layout ≡ true → asked_marker m.markers t < 128 → IfSome (nearest is_emphasis_or_strong path) (λ l. marker_of l < 128) → IsLow l.opening.literal_before → IsLow l.closing.literal_after
    → slice_index (marker_in layout s m t l path p) 0 < 128
in-low Preferred s m t l path p e asked parent before after = absurd (false≢true e)
in-low Uniform s m t l path p e asked parent before after = absurd (false≢true e)
in-low Runs s m t l path p e asked parent before after = first-low t _ (runs-low s (asked_marker m.markers t) l path p asked)
in-low (Shared ends adjacent split) s m t l path p e asked parent before after =
    first-low t _ (unwrap-low (literal_marker m.plan.text l) _ (literal-low m.plan.text l before after) (sharing-low s (Shared ends adjacent split) (asked_marker m.markers t) t l path p asked parent))
in-low RuleThree s m t l path p e asked parent before after =
    first-low t _ (unwrap-low (literal_marker m.plan.text l) _ (literal-low m.plan.text l before after) (sharing-low s RuleThree (asked_marker m.markers t) t l path p asked parent))

pub marker-low : (s : Setting) (m : Manner) (t : TagView) (l : Look) (path : Path) (p : Page)
    → chooses_bytes m.plan.layout ≡ true → asked_marker m.markers t < 128 → IfSome (nearest is_emphasis_or_strong path) (λ l. marker_of l < 128) → IsLow l.opening.literal_before → IsLow l.closing.literal_after
    → slice_index (marker s m t l path p) 0 < 128
unfolding marker
marker-low s m t l path p e asked parent before after = in-low m.plan.layout s m t l path p e asked parent before after
