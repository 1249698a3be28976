-- A forest has a spelling just where no node of it is misplaced.
use Rattle.std.specs.Prelude.{◌≡◌, ◌↔◌, ℕ, Bool, true, false, not, ◌||◌, ◌&&◌, if◌then◌else◌, Option, Some, None, List, [], ◌∷◌, refl}
use mathlib.Core.Path.{sym, ◌∙◌, ap, subst}
use mathlib.Core.Bool.{not-not, true≢false}
use Rattle.std.specs.List.{list_any}
use Rattle.tocmark_event.specs.Forest.{empty, leaf, node}
use Rattle.tocmark_event.specs.View.{TagView, Item, Heading, TableCell, TableHead, Link, Image, LeafView, Text, Code, SourcedLeaf, Start, Leaf, CodeBlock, Indented, Fenced, Superscript, Subscript, HtmlBlock, ListOf}
use Rattle.tocmark_spelling.specs.Body.{Trees}
use Rattle.tocmark_spelling.specs.ById.{by_id}
use Rattle.tocmark_event.specs.Options.{OptionsView}
use Rattle.tocmark_event.specs.declared.event.LinkType.{LinkType}
use Rattle.tocmark_event.specs.declared.event.LinkType.TheVariants as link
use Rattle.tocmark_spelling.specs.Closing.{closing, closing_of, close_html, close_link, close_list, needs_id}
use Rattle.tocmark_spelling.specs.Kinds.{and_is, is_cell, is_heading, is_list, is_table, is_text}
use Rattle.tocmark_spelling.specs.Look.{look, Look}
use Rattle.tocmark_spelling.specs.Opening.{entered_if, is_uniform, item_in, opening}
use Rattle.tocmark_spelling.specs.Page.{OpeningChoice, Plain, HtmlEnds, Listed, Width, Headers, Level, Path, Page, Site, Around, front}
use Rattle.tocmark_spelling.specs.Places.{is_in, is_directly_in, widened, widened_level, wider, with_header, with_width, width_of}
use Rattle.tocmark_spelling.specs.Plan.{Setting, Manner}
use Rattle.tocmark_spelling.specs.Spelling.{spelling, is_misplaced, is_wrong_in, directly_in, skips_body, is_named, body_or_id, then_site}
use Rattle.tocmark_spelling.specs.Stretch.{leaf_on, leaf_text}
use Rattle.tocmark_spelling.specs.Gap.{gap}
use Rattle.tocmark_spelling.specs.Runs.{ahead_of, beyond, inside, past}

-- the tags of the open containers, innermost first
abbrev pub tags_of : Path → List TagView
tags_of [] = []
tags_of (l ∷ path) = l.tag ∷ tags_of path

abbrev pub is_listed : OpeningChoice → Bool
is_listed (Listed c) = true
is_listed c = false

-- just the lists made a list's choice
abbrev pub IsSound : Path → Type 0
IsSound [] = Unit {0}
IsSound (l ∷ path) = (is_listed l.content ≡ is_list l.tag) × IsSound path

-- the same containers are open
pub record Keeps (before after : Path) : Type 0 where
  pub tags : tags_of after ≡ tags_of before
  pub sound : IsSound before → IsSound after

keeps-refl : (path : Path) → Keeps path path
keeps-refl path = record { tags = refl; sound = λ h. h }

in-tags : (test : TagView → Bool) (path : Path) → list_any test (tags_of path) ≡ is_in test path
in-tags test [] = refl
in-tags test (l ∷ path) = ap (λ b. test l.tag || b) (in-tags test path)

directly-tags : (test : TagView → Bool) (path : Path) → directly_in test (tags_of path) ≡ is_directly_in test path
directly-tags test [] = refl
directly-tags test (l ∷ path) = refl

wider-listed : (n : ℕ) (c : OpeningChoice) → is_listed (wider n c) ≡ is_listed c
wider-listed n (Width k) = refl
wider-listed n c = refl

header-listed : (n : ℕ) (c : OpeningChoice) → is_listed (with_width n c) ≡ is_listed c
header-listed n (Headers ns) = refl
header-listed n c = refl

keeps-under : (l : Level) (before after : Path) → Keeps before after → Keeps (l ∷ before) (l ∷ after)
keeps-under l before after k = record { tags = ap (λ ts. l.tag ∷ ts) k.tags; sound = λ h. (h.0, k.sound h.1) }

keeps-content : (l : Level) (c : OpeningChoice) (path : Path) → is_listed c ≡ is_listed l.content → Keeps (l ∷ path) (record l { content = c } ∷ path)
keeps-content l c path e = record { tags = refl; sound = λ h. (e ∙ h.0, h.1) }

widened-by : (n : ℕ) (l : Level) (path : Path) → Keeps path (widened n path) → (b : Bool) → Keeps (l ∷ path) (if b then widened_level n l ∷ path else l ∷ widened n path)
widened-by n l path ih true = keeps-content l (wider n l.content) path (wider-listed n l.content)
widened-by n l path ih false = keeps-under l path (widened n path) ih

keeps-widened : (n : ℕ) (path : Path) → Keeps path (widened n path)
keeps-widened n [] = keeps-refl []
keeps-widened n (l ∷ path) = widened-by n l path (keeps-widened n path) (is_cell l.tag)

header-by : (n : ℕ) (l : Level) (path : Path) → Keeps path (with_header n path) → (b : Bool) → Keeps (l ∷ path) (if b then record l { content = with_width n l.content } ∷ path else l ∷ with_header n path)
header-by n l path ih true = keeps-content l (with_width n l.content) path (header-listed n l.content)
header-by n l path ih false = keeps-under l path (with_header n path) ih

keeps-header : (n : ℕ) (path : Path) → Keeps path (with_header n path)
keeps-header n [] = keeps-refl []
keeps-header n (l ∷ path) = header-by n l path (keeps-header n path) (is_table l.tag)

keeps-trans : (a b c : Path) → Keeps a b → Keeps b c → Keeps a c
keeps-trans a b c h k = record { tags = k.tags ∙ h.tags; sound = λ w. k.sound (h.sound w) }

-- a leaf leaves the containers open

text-by : (path : Path) (n : ℕ) (b : Bool) (p q : Page) → Keeps path (if◌then◌else◌ {A = Site} b (record { path = path; page = p }) (record { path = widened n path; page = q })).path
text-by path n true p q = keeps-refl path
text-by path n false p q = keeps-widened n path

leaf-keeps : (s : Setting) (m : Manner) (l : LeafView) (source : Option (List ℕ)) (a : Around) (path : Path) (p : Page) → Keeps path (leaf_text s m l source a path p).path
leaf-keeps s m (Text t) source a path p = text-by path _ (and_is is_text (front a.after)) _ _
leaf-keeps s m (Code t) source a path p = keeps-widened _ path
leaf-keeps s m l source a path p = keeps-refl path

leaf_on-keeps : (s : Setting) (m : Manner) (l : SourcedLeaf) (a : Around) (path : Path) (p : Page) → Keeps path (leaf_on s m l a path p).path
unfolding leaf_on
leaf_on-keeps s m l a path p = leaf-keeps s m l.leaf l.source a path p

-- what an opening gives: none where the container is misplaced, else the path is longer by it
abbrev pub Under : TagView → Path → Path → Type 0
Under t path [] = ⊥
Under t path (l ∷ outside) = (l.tag ≡ t) × (is_listed l.content ≡ is_list t) × Keeps path outside

abbrev pub Opens : Bool → Bool → TagView → Path → Option Site → Type 0
Opens wrong named t path None = wrong ≡ true
Opens wrong named t path (Some here) = (wrong ≡ false) × Under t path here.path × (skips_body here.path ≡ named)

if-opens : (b wrong named : Bool) (t : TagView) (prefix : List ℕ) (c : OpeningChoice) (path : Path) (p : Page) → wrong ≡ not b → is_listed c ≡ is_list t → is_named c ≡ named
    → Opens wrong named t path (entered_if b t prefix c path p)
if-opens true wrong named t prefix c path p e listed is_n = (e, (refl, listed, keeps-refl path), is_n)
if-opens false wrong named t prefix c path p e listed is_n = e

item-opens : (s : Setting) (c : OpeningChoice) (list : Level) (l : Look) (outside : Path) (p : Page) → list.content ≡ c → is_listed c ≡ is_list list.tag
    → Opens (not (is_list list.tag)) false Item (list ∷ outside) (item_in s c list l outside p)
item-opens s (Listed c) list l outside p e h =
    (ap not (sym h), (refl, refl, keeps-content list _ outside (ap is_listed (sym e))), refl)
item-opens s c list l outside p e h = ap not (sym h)

opens-either : (wrong named : Bool) (t : TagView) (path : Path) (b : Bool) (x y : Option Site)
    → Opens wrong named t path x → Opens wrong named t path y → Opens wrong named t path (if b then x else y)
opens-either wrong named t path true x y hx hy = hx
opens-either wrong named t path false x y hx hy = hy

opening-opens : (s : Setting) (m : Manner) (t : TagView) (kids : Trees) (a : Around) (path : Path) (p : Page) → IsSound path
    → Opens (is_wrong_in t (tags_of path)) (by_id s t kids) t path (opening s m t (look s m t kids a) path p)
unfolding opening by_id
opening-opens s m (Heading level id classes attrs) kids a path p w =
    if-opens (not (is_in is_heading path)) _ false _ [] _ path _ (in-tags is_heading path ∙ sym (not-not (is_in is_heading path))) refl refl
opening-opens s m (Item) kids a [] p w = refl
opening-opens s m (Item) kids a (list ∷ outside) p w = item-opens s list.content list _ outside _ refl w.0
opening-opens s m TableHead kids a path p w =
    if-opens (is_directly_in is_table path) _ false TableHead [] Plain path _ (ap not (directly-tags is_table path)) refl refl
opening-opens s m TableCell kids a path p w =
    if-opens (is_in is_table path) _ false TableCell [] (Width 0) path _ (ap not (in-tags is_table path)) refl refl
opening-opens s m (CodeBlock Indented) kids a path p w = (refl, (refl, refl, keeps-refl path), refl)
opening-opens s m (CodeBlock (Fenced info)) kids a path p w = (refl, (refl, refl, keeps-refl path), refl)
opening-opens s m Superscript kids a path p w =
    opens-either false false Superscript path s.options.use_html_for_super_sub_script _ _
    (refl, (refl, refl, keeps-refl path), refl)
    (opens-either false false Superscript path (is_uniform m.plan.layout) _ _
    (refl, (refl, refl, keeps-refl path), refl) (refl, (refl, refl, keeps-refl path), refl))
opening-opens s m Subscript kids a path p w =
    opens-either false false Subscript path s.options.use_html_for_super_sub_script _ _
    (refl, (refl, refl, keeps-refl path), refl) (refl, (refl, refl, keeps-refl path), refl)
opening-opens s m t kids a path p w = (refl, (refl, refl, keeps-refl path), refl)

-- a closing takes the innermost container off

abbrev pub Closes : Path → Option Site → Type 0
Closes outside None = ⊥
Closes outside (Some here) = Keeps outside here.path

reference-keeps : (b : Bool) (path : Path) (p q : Page) → Keeps path (if◌then◌else◌ {A = Site} b (record { path = path; page = p }) (record { path = path; page = q })).path
reference-keeps true path p q = keeps-refl path
reference-keeps false path p q = keeps-refl path

html-keeps : (o : OptionsView) (c : OpeningChoice) (path : Path) (p : Page) → Keeps path (close_html o c path p).path
html-keeps o (HtmlEnds blank closed) path p = keeps-refl path
html-keeps o c path p = keeps-refl path

list-keeps : (o : OptionsView) (t : TagView) (c : OpeningChoice) (path : Path) (p : Page) → Keeps path (close_list o t c path p).path
list-keeps o t (Listed c) path p = keeps-refl path
list-keeps o t c path p = keeps-refl path

link-keeps : (k : LinkType) (dest title id : List ℕ) (l : Level) (path : Path) (p : Page) → Keeps path (close_link k dest title id l path p).path
link-keeps link.Collapsed dest title id l path p = reference-keeps (needs_id l.content id) path _ _
link-keeps link.Shortcut dest title id l path p = reference-keeps (needs_id l.content id) path _ _
link-keeps k dest title id l path p = keeps-refl path

closing_of-keeps : (o : OptionsView) (t : TagView) (l : Level) (path : Path) (p : Page) → Keeps path (closing_of o t l path p).path
closing_of-keeps o HtmlBlock l path p = html-keeps o l.content path p
closing_of-keeps o (ListOf number) l path p = list-keeps o (ListOf number) l.content path p
closing_of-keeps o TableCell l path p = keeps-header (width_of l.content) path
closing_of-keeps o (Link k dest title id) l path p = link-keeps k dest title id l path p
closing_of-keeps o (Image k dest title id) l path p = link-keeps k dest title id l path p
closing_of-keeps o t l path p = keeps-refl path

-- what the spelling of a forest gives: none where a node is misplaced, else the same containers are open as before

abbrev pub Spells : Bool → Path → Option Site → Type 0
Spells wrong path None = wrong ≡ true
Spells wrong path (Some here) = (wrong ≡ false) × Keeps path here.path

spells-moved : (wrong wrong' : Bool) (path after : Path) (o : Option Site) → Keeps path after → wrong ≡ wrong' → Spells wrong after o → Spells wrong' path o
spells-moved wrong wrong' path after None k e h = sym e ∙ h
spells-moved wrong wrong' path after (Some here) k e h = (sym e ∙ h.0, keeps-trans path after here.path k h.1)

IsPath : List TagView → Type 0
IsPath [] = ⊥
IsPath (t ∷ ts) = Unit {0}

rest_of : List TagView → List TagView
rest_of [] = []
rest_of (t ∷ ts) = ts

-- of a container and its right neighbours: what is wrong with it, with its children and with them
abbrev pub any_wrong : Bool → Bool → Bool → Bool → Bool
any_wrong wrong named kids f = wrong || (not named && kids) || f

-- its right neighbours, after its closing
after-closing : (o : OptionsView) (l : Level) (path outside : Path) (full : Path) (pg : Page) (rest : Site → Option Site) (fw : List TagView → Bool)
    → Keeps path outside → (IsSound path → IsSound (l ∷ outside)) → IsSound path → Keeps (l ∷ outside) full
    → ((h : Site) → IsSound h.path → Spells (fw (tags_of h.path)) h.path (rest h))
    → Spells (fw (tags_of path)) path (then_site (closing o full pg) rest)
unfolding closing IsPath rest_of
after-closing o l path outside [] pg rest fw k sound w kf ih = absurd (subst IsPath (sym kf.tags) tt)
after-closing o l path outside (l' ∷ out) pg rest fw k sound w kf ih =
    let here : Site = closing_of o l'.tag l' out pg in
    let kc : Keeps out here.path = closing_of-keeps o l'.tag l' out pg in
    let kout : Keeps path out = record { tags = out-tags ∙ k.tags; sound = λ v. (kf.sound (sound v)).1 } in
    let kh : Keeps path here.path = keeps-trans path out here.path kout kc in
    spells-moved (fw (tags_of here.path)) (fw (tags_of path)) path here.path (rest here) kh (ap fw kh.tags) (ih here (kh.sound w))
  where
    out-tags : tags_of out ≡ tags_of outside
    out-tags = ap rest_of kf.tags

-- the body, or the id in its place, and then the closing and the right neighbours
after-opening : (o : OptionsView) (t : TagView) (l : Level) (path outside : Path) (pg : Page) (named : Bool) (body rest : Site → Option Site) (kw fw : List TagView → Bool)
    → l.tag ≡ t → is_listed l.content ≡ is_list t → Keeps path outside → IsSound path
    → ((h : Site) → IsSound h.path → Spells (kw (tags_of h.path)) h.path (body h))
    → ((h : Site) → IsSound h.path → Spells (fw (tags_of h.path)) h.path (rest h))
    → Spells (any_wrong false named (kw (t ∷ tags_of path)) (fw (tags_of path))) path
    (then_site (body_or_id named t (record { path = l ∷ outside; page = pg }) body) (λ full. then_site (closing o full.path full.page) rest))
after-opening o t l path outside pg true body rest kw fw tag listed k w ihk ihf =
    after-closing o l path outside (l ∷ outside) _ rest fw k (λ v. (listed ∙ sym (ap is_list tag), k.sound v)) w (keeps-refl (l ∷ outside)) ihf
after-opening o t l path outside pg false body rest kw fw tag listed k w ihk ihf =
    by (body (record { path = l ∷ outside; page = pg })) (ihk (record { path = l ∷ outside; page = pg }) (sound w))
  where
    sound : IsSound path → IsSound (l ∷ outside)
    sound v = (listed ∙ sym (ap is_list tag), k.sound v)

    same : kw (t ∷ tags_of path) ≡ kw (tags_of (l ∷ outside))
    same = ap kw (sym (ap (λ u. u ∷ tags_of outside) tag ∙ ap (λ ts. t ∷ ts) k.tags))

    by : (r : Option Site) → Spells (kw (tags_of (l ∷ outside))) (l ∷ outside) r
        → Spells (any_wrong false false (kw (t ∷ tags_of path)) (fw (tags_of path))) path (then_site r (λ full. then_site (closing o full.path full.page) rest))
    by None e = ap (λ b. b || fw (tags_of path)) (same ∙ e)
    by (Some full) h =
        spells-moved (fw (tags_of path)) _ path path _ (keeps-refl path) (sym (ap (λ b. b || fw (tags_of path)) (same ∙ h.0)))
        (after-closing o l path outside full.path full.page rest fw k sound w h.1 ihf)

-- a whole container and its right neighbours
from-opening : (o : OptionsView) (t : TagView) (path : Path) (x : Option Site) (wrong named : Bool) (body rest : Site → Option Site) (kw fw : List TagView → Bool)
    → Opens wrong named t path x → IsSound path
    → ((h : Site) → IsSound h.path → Spells (kw (tags_of h.path)) h.path (body h))
    → ((h : Site) → IsSound h.path → Spells (fw (tags_of h.path)) h.path (rest h))
    → Spells (any_wrong wrong named (kw (t ∷ tags_of path)) (fw (tags_of path))) path
    (then_site x (λ open_. then_site (body_or_id (skips_body open_.path) t open_ body) (λ full. then_site (closing o full.path full.page) rest)))
from-opening o t path None wrong named body rest kw fw e w ihk ihf = ap (λ b. any_wrong b named (kw (t ∷ tags_of path)) (fw (tags_of path))) e
from-opening o t path (Some here) wrong named body rest kw fw h w ihk ihf = by here.path here.page h
  where
    by : (pth : Path) (pg : Page) → Opens wrong named t path (Some (record { path = pth; page = pg }))
        → Spells (any_wrong wrong named (kw (t ∷ tags_of path)) (fw (tags_of path))) path
        (then_site (body_or_id (skips_body pth) t (record { path = pth; page = pg }) body) (λ full. then_site (closing o full.path full.page) rest))
    by [] pg g = absurd g.1
    by (l ∷ outside) pg g =
        spells-moved _ _ path path _ (keeps-refl path)
        (ap (λ b. any_wrong b (is_named l.content) (kw (t ∷ tags_of path)) (fw (tags_of path))) (sym g.0)
        ∙ ap (λ b. any_wrong wrong b (kw (t ∷ tags_of path)) (fw (tags_of path))) g.2)
        (after-opening o t l path outside pg (is_named l.content) body rest kw fw g.1.0 g.1.1 g.1.2 w ihk ihf)

-- a forest has a spelling just where no node of it is misplaced, and its spelling leaves the same containers open
pub spelling-spells : (s : Setting) (m : Manner) (f : Trees) (a : Around) (path : Path) (p : Page) → IsSound path
    → Spells (is_misplaced s (tags_of path) f) path (spelling s m f a path p)
unfolding spelling is_misplaced
spelling-spells s m empty a path p w = (refl, keeps-refl path)
spelling-spells s m (leaf l f) a path p w =
    let k : Keeps path (leaf_on s m l (ahead_of f a) path p).path = leaf_on-keeps s m l (ahead_of f a) path p in
    spells-moved _ _ path (leaf_on s m l (ahead_of f a) path p).path _ k (ap (λ ts. is_misplaced s ts f) k.tags)
    (spelling-spells s m f (past (Leaf l) a) (leaf_on s m l (ahead_of f a) path p).path (leaf_on s m l (ahead_of f a) path p).page (k.sound w))
spelling-spells s m (node t kids f) a path p w =
    from-opening s.options t path (opening s m t (look s m t kids (ahead_of f a)) path (gap (Start t) path p)) (is_wrong_in t (tags_of path)) (by_id s t kids)
    (λ here. spelling s m kids (inside t (ahead_of f a)) here.path here.page)
    (λ here. spelling s m f (beyond t kids a) here.path here.page)
    (λ ts. is_misplaced s ts kids) (λ ts. is_misplaced s ts f)
    (opening-opens s m t kids (ahead_of f a) path (gap (Start t) path p) w) w
    (λ h v. spelling-spells s m kids (inside t (ahead_of f a)) h.path h.page v)
    (λ h v. spelling-spells s m f (beyond t kids a) h.path h.page v)

is-there : {A : Type 0} → Option A → Type 0
is-there None = ⊥
is-there (Some a) = Unit {0}

spells-none : (wrong : Bool) (path : Path) (o : Option Site) → Spells wrong path o → (o ≡ None) ↔ (wrong ≡ true)
unfolding is-there
spells-none wrong path None h = (λ e. h, λ e. refl)
spells-none wrong path (Some here) h = (λ e. absurd (subst is-there e tt), λ e. absurd (true≢false (sym e ∙ h.0)))

-- a unit has no spelling just where a node of it is misplaced
pub none-misplaced : (s : Setting) (m : Manner) (f : Trees) (a : Around) (p : Page) → (spelling s m f a [] p ≡ None) ↔ (is_misplaced s [] f ≡ true)
none-misplaced s m f a p = spells-none (is_misplaced s [] f) [] (spelling s m f a [] p) (spelling-spells s m f a [] p tt)
