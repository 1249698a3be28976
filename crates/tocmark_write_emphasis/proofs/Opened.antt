-- Each step of the machine keeps the markers of the open containers ASCII.
use Rattle.std.proofs.Common.{◌≡◌, ◌<◌, ℕ, Bool, true, false, if◌then◌else◌, Option, Some, None, IfSome, List, [], ◌∷◌, refl, sym, ◌∙◌, subst, arith, slice_index}
use Rattle.std.proofs.lemmas.Bool.{false≢true}
use Rattle.tocmark_event.specs.Options.{OptionsView}
use Rattle.tocmark_event.specs.View.{TagView, Emphasis, Strong, Item, Heading, TableCell, TableHead, Link, Image, CodeBlock, Indented, Fenced, Superscript, Subscript, HtmlBlock, ListOf, LeafView, Text, Code, SourcedLeaf, SourcedEvent, EventView, Start, End, Leaf}
use Rattle.tocmark_event.specs.declared.event.LinkType.{LinkType}
use Rattle.tocmark_event.specs.declared.event.LinkType.TheVariants as link
use Rattle.tocmark_spelling.specs.Body.{Trees}
use Rattle.tocmark_spelling.specs.Closing.{closing, closing_of, close_html, close_link, close_list, needs_id}
use Rattle.tocmark_spelling.specs.Edges.{edge_before, edge_after}
use Rattle.tocmark_spelling.specs.Gap.{gap}
use Rattle.tocmark_spelling.specs.Kinds.{and_is, is_cell, is_emphasis_or_strong, is_table, is_text}
use Rattle.tocmark_spelling.specs.Look.{Look, look}
use Rattle.tocmark_spelling.specs.Machine.{Machine, going, step, begun_if, started, entered, arrive, around, kids_of, behind_end}
use Rattle.tocmark_spelling.specs.Marker.{opening_token, asked_marker, marker_of}
use Rattle.tocmark_spelling.specs.Opening.{entered_if, is_uniform, item_in, opening}
use Rattle.tocmark_spelling.specs.Page.{OpeningChoice, Plain, HtmlEnds, Listed, Width, Headers, Level, Path, Page, Site, Around, front}
use Rattle.tocmark_spelling.specs.Places.{is_in, is_directly_in, widened, widened_level, wider, with_header, with_width, width_of}
use Rattle.tocmark_spelling.specs.Plan.{Setting, Manner}
use Rattle.tocmark_spelling.specs.PlanOf.{manner_of}
use Rattle.tocmark_spelling.specs.Runs.{behind_run, close_width, literal_after, literal_before, start_width, text_only}
use Rattle.tocmark_spelling.specs.Spelling.{skips_body}
use Rattle.tocmark_spelling.specs.Stretch.{leaf_on, leaf_text}
use Rattle.tocmark_spelling.specs.declared.plan.Delimiters.{Delimiters}
use Rattle.tocmark_write_emphasis.specs.Facts.{tag_of}
use Rattle.tocmark_write_emphasis.proofs.Lowness.{asked-low, marker-low, nearest-low}
use Rattle.tocmark_write_emphasis.proofs.Nodes.{marker_only-low}
use Rattle.tocmark_write_emphasis.specs.Low.{chooses_bytes, AreLowLevels, AsksLow, OpensLow, site_in}

-- ---- a content that changes

nothing-low : 0 < 128
nothing-low = omega arith

token-low : (l : Level) (c : OpeningChoice) → opening_token c ≡ opening_token l.content → (is_emphasis_or_strong l.tag ≡ true → marker_of l < 128) → is_emphasis_or_strong l.tag ≡ true → slice_index (opening_token c) 0 < 128
token-low l c same h e = subst (λ t. slice_index t 0 < 128) (sym same) (h e)

wider-token : (n : ℕ) (c : OpeningChoice) → opening_token (wider n c) ≡ opening_token c
wider-token n (Width k) = refl
wider-token n c = refl

width-token : (n : ℕ) (c : OpeningChoice) → opening_token (with_width n c) ≡ opening_token c
width-token n (Headers ns) = refl
width-token n c = refl

widened-by : (n : ℕ) (l : Level) (path : Path) → AreLowLevels (l ∷ path) → AreLowLevels (widened n path) → (b : Bool) → AreLowLevels (if b then widened_level n l ∷ path else l ∷ widened n path)
widened-by n l path h ih true = (token-low l (wider n l.content) (wider-token n l.content) h.0, h.1)
widened-by n l path h ih false = (h.0, ih)

widened-low : (n : ℕ) (path : Path) → AreLowLevels path → AreLowLevels (widened n path)
widened-low n [] h = tt
widened-low n (l ∷ path) h = widened-by n l path h (widened-low n path h.1) (is_cell l.tag)

header-by : (n : ℕ) (l : Level) (path : Path) → AreLowLevels (l ∷ path) → AreLowLevels (with_header n path) → (b : Bool) → AreLowLevels (if b then record l { content = with_width n l.content } ∷ path else l ∷ with_header n path)
header-by n l path h ih true = (token-low l (with_width n l.content) (width-token n l.content) h.0, h.1)
header-by n l path h ih false = (h.0, ih)

header-low : (n : ℕ) (path : Path) → AreLowLevels path → AreLowLevels (with_header n path)
header-low n [] h = tt
header-low n (l ∷ path) h = header-by n l path h (header-low n path h.1) (is_table l.tag)

-- ---- a leaf

text-by : (path : Path) (n : ℕ) (b : Bool) (p q : Page) → AreLowLevels path → AreLowLevels (if◌then◌else◌ {A = Site} b (record { path = path; page = p }) (record { path = widened n path; page = q })).path
text-by path n true p q h = h
text-by path n false p q h = widened-low n path h

leaf-low : (s : Setting) (m : Manner) (l : LeafView) (source : Option (List ℕ)) (a : Around) (path : Path) (p : Page) → AreLowLevels path → AreLowLevels (leaf_text s m l source a path p).path
leaf-low s m (Text t) source a path p h = text-by path _ (and_is is_text (front a.after)) _ _ h
leaf-low s m (Code t) source a path p h = widened-low _ path h
leaf-low s m l source a path p h = h

leaf_on-low : (s : Setting) (m : Manner) (l : SourcedLeaf) (a : Around) (path : Path) (p : Page) → AreLowLevels path → AreLowLevels (leaf_on s m l a path p).path
unfolding leaf_on
leaf_on-low s m l a path p h = leaf-low s m l.leaf l.source a path p h

-- ---- an opening

-- where an event was not refused, the open containers are as they should be
abbrev IsLowAt : Option Site → Type 0
IsLowAt o = IfSome o (λ here. AreLowLevels here.path)

low-either : (b : Bool) (x y : Option Site) → IsLowAt x → IsLowAt y → IsLowAt (if b then x else y)
low-either true x y h k = h
low-either false x y h k = k

if-low : (b : Bool) (t : TagView) (prefix : List ℕ) (c : OpeningChoice) (path : Path) (p : Page) → is_emphasis_or_strong t ≡ false → AreLowLevels path → IsLowAt (entered_if b t prefix c path p)
if-low true t prefix c path p e h = ((λ k. absurd (false≢true (sym e ∙ k))), h)
if-low false t prefix c path p e h = tt

item-low : (s : Setting) (c : OpeningChoice) (list : Level) (l : Look) (outside : Path) (p : Page) → AreLowLevels outside → IsLowAt (item_in s c list l outside p)
item-low s (Listed c) list l outside p h = ((λ k. absurd (false≢true k)), ((λ k. nothing-low), h))
item-low s c list l outside p h = tt

-- the markers that are beside a run in Texts
before-low : (width : SourcedEvent → ℕ) (before : List SourcedEvent) → IfSome (literal_before width before) (λ c. c < 128)
before-low width before = marker_only-low (edge_before (text_only (front (behind_run width before))))

after-low : (width : SourcedEvent → ℕ) (after : List SourcedEvent) → IfSome (literal_after width after) (λ c. c < 128)
after-low width after = marker_only-low (edge_after (text_only (front (behind_run width after))))

opening-low : (s : Setting) (m : Manner) (t : TagView) (kids : Trees) (a : Around) (path : Path) (p : Page)
    → chooses_bytes m.plan.layout ≡ true → ((strong : Bool) → asked_marker m.markers (tag_of strong) < 128) → AreLowLevels path
    → IsLowAt (opening s m t (look s m t kids a) path p)
unfolding opening
opening-low s m (Heading level id classes attrs) kids a path p e asked h = if-low _ _ [] _ path _ refl h
opening-low s m Item kids a [] p e asked h = tt
opening-low s m Item kids a (list ∷ outside) p e asked h = item-low s list.content list _ outside _ h.1
opening-low s m TableHead kids a path p e asked h = if-low (is_directly_in is_table path) TableHead [] Plain path _ refl h
opening-low s m TableCell kids a path p e asked h = if-low (is_in is_table path) TableCell [] (Width 0) path _ refl h
opening-low s m (CodeBlock Indented) kids a path p e asked h = ((λ k. absurd (false≢true k)), h)
opening-low s m (CodeBlock (Fenced info)) kids a path p e asked h = ((λ k. absurd (false≢true k)), h)
opening-low s m Superscript kids a path p e asked h =
    low-either s.options.use_html_for_super_sub_script _ _ ((λ k. absurd (false≢true k)), h)
    (low-either (is_uniform m.plan.layout) _ _ ((λ k. absurd (false≢true k)), h) ((λ k. absurd (false≢true k)), h))
opening-low s m Subscript kids a path p e asked h =
    low-either s.options.use_html_for_super_sub_script _ _ ((λ k. absurd (false≢true k)), h) ((λ k. absurd (false≢true k)), h)
opening-low s m Emphasis kids a path p e asked h =
    ((λ k. marker-low s m Emphasis (look s m Emphasis kids a) path _ e (asked false) (nearest-low path h) (before-low start_width a.before) (after-low close_width a.after)), h)
opening-low s m Strong kids a path p e asked h =
    ((λ k. marker-low s m Strong (look s m Strong kids a) path _ e (asked true) (nearest-low path h) (before-low start_width a.before) (after-low close_width a.after)), h)
opening-low s m t kids a path p e asked h = ((λ k. absurd (false≢true k)), h)

-- ---- a closing

reference-low : (b : Bool) (path : Path) (p q : Page) → AreLowLevels path → AreLowLevels (if◌then◌else◌ {A = Site} b (record { path = path; page = p }) (record { path = path; page = q })).path
reference-low true path p q h = h
reference-low false path p q h = h

html-low : (o : OptionsView) (c : OpeningChoice) (path : Path) (p : Page) → AreLowLevels path → AreLowLevels (close_html o c path p).path
html-low o (HtmlEnds blank closed) path p h = h
html-low o c path p h = h

list-low : (o : OptionsView) (t : TagView) (c : OpeningChoice) (path : Path) (p : Page) → AreLowLevels path → AreLowLevels (close_list o t c path p).path
list-low o t (Listed c) path p h = h
list-low o t c path p h = h

link-low : (k : LinkType) (dest title id : List ℕ) (l : Level) (path : Path) (p : Page) → AreLowLevels path → AreLowLevels (close_link k dest title id l path p).path
link-low link.Collapsed dest title id l path p h = reference-low (needs_id l.content id) path _ _ h
link-low link.Shortcut dest title id l path p h = reference-low (needs_id l.content id) path _ _ h
link-low k dest title id l path p h = h

closing_of-low : (o : OptionsView) (t : TagView) (l : Level) (path : Path) (p : Page) → AreLowLevels path → AreLowLevels (closing_of o t l path p).path
closing_of-low o HtmlBlock l path p h = html-low o l.content path p h
closing_of-low o (ListOf number) l path p h = list-low o (ListOf number) l.content path p h
closing_of-low o TableCell l path p h = header-low (width_of l.content) path h
closing_of-low o (Link k dest title id) l path p h = link-low k dest title id l path p h
closing_of-low o (Image k dest title id) l path p h = link-low k dest title id l path p h
closing_of-low o t l path p h = h

closing-low : (o : OptionsView) (path : Path) (p : Page) → AreLowLevels path → IsLowAt (closing o path p)
unfolding closing
closing-low o [] p h = tt
closing-low o (l ∷ path) p h = closing_of-low o l.tag l path p h.1

-- ---- a step

-- a machine is in such containers, or has refused an event
abbrev IsLowIn : Machine → Type 0
IsLowIn machine = IsLowAt (site_in machine)

entered-low : (b : Bool) (t : TagView) (here : Site) (before : List SourcedEvent) → AreLowLevels here.path → IsLowIn (entered b t here before)
entered-low true t here before h = h
entered-low false t here before h = h

started-low : (t : TagView) (o : Option Site) (before : List SourcedEvent) → IsLowAt o → IsLowIn (started t o before)
started-low t None before h = tt
started-low t (Some here) before h = entered-low (skips_body here.path) t here before h

arrive-low : (o : Option Site) (before : List SourcedEvent) → IsLowAt o → IsLowIn (arrive o before)
arrive-low None before h = tt
arrive-low (Some here) before h = h

begun-low : (s : Setting) (m : Manner) (next : Option EventView) (t : TagView) (kids : Trees) (after : Option (List SourcedEvent)) (here : Site) (before : List SourcedEvent)
    → chooses_bytes m.plan.layout ≡ true → ((strong : Bool) → asked_marker m.markers (tag_of strong) < 128) → AreLowLevels here.path
    → IsLowIn (begun_if s m next t kids after here before)
begun-low s m next t kids None here before e asked h = tt
begun-low s m next t kids (Some after) here before e asked h =
    started-low t (opening s m t (look s m t kids (around before after next)) here.path (gap (Start t) here.path here.page)) (Start t ∷ before)
    (opening-low s m t kids (around before after next) here.path (gap (Start t) here.path here.page) e asked h)

step-low : (s : Setting) (m : Manner) (next : Option EventView) (e : SourcedEvent) (rest before : List SourcedEvent) (here : Site)
    → chooses_bytes m.plan.layout ≡ true → ((strong : Bool) → asked_marker m.markers (tag_of strong) < 128) → AreLowLevels here.path
    → IsLowIn (step s m next e rest (going here before))
step-low s m next (Leaf l) rest before here e asked h = leaf_on-low s m l (around before rest next) here.path here.page h
step-low s m next (Start t) rest before here e asked h = begun-low s m next t (kids_of rest) (behind_end 0 rest) here before e asked h
step-low s m next (End k) rest before here e asked h = arrive-low (closing s.options here.path here.page) (End k ∷ before) (closing-low s.options here.path here.page h)

-- where an event is not refused, each open container of emphasis or strong emphasis opened with an ASCII byte, if each did before
pub low-step : (s : Setting) (d : Delimiters) (source : Bool) (next : Option EventView) (e : SourcedEvent) (rest before : List SourcedEvent) (here there : Site)
    → AsksLow d → OpensLow d here.path
    → site_in (step s (manner_of d source) next e rest (going here before)) ≡ Some there
    → OpensLow d there.path
low-step s d source next e rest before here there asked opens at chooses =
    subst IsLowAt at (step-low s (manner_of d source) next e rest before here chooses (λ strong. asked-low d strong (asked chooses)) (opens chooses))
