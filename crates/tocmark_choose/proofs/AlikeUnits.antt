-- A unit whose texts are spelled alike in the source and escaped is spelled alike in both manners.
use Rattle.std.proofs.Common.{◌≡◌, ◌∙◌, ◌==◌, ◌+◌, ⊎_elim, chars, codes, length, ℕ, Bool, true, false, ◌&&◌, ◌||◌, if◌then◌else◌, Option, Some, None, List, [], ◌∷◌, ◌++◌, refl, sym, ap, subst}
use Rattle.std.specs.Prelude.{is_some, not}
use Rattle.std.proofs.lemmas.Bool.{false≢true, or_cases, true≢false}
use Rattle.std.proofs.lemmas.Str.{IsUtf8-append}
use Rattle.tocmark_event.specs.Forest.{empty, leaf, node, flat, flat_onto}
use Rattle.tocmark_event.specs.Options.{OptionsView}
use Rattle.tocmark_event.specs.View.{TagView, BlockQuote, CodeBlock, Indented, Fenced, HtmlBlock, Heading, ListOf, Item, DefinitionListTitle, DefinitionListDefinition, TableHead, TableCell, Emphasis, Strong, Superscript, Subscript, Link, Image, MetadataBlock, LeafView, Text, Code, InlineMath, DisplayMath, Html, InlineHtml, FootnoteReference, SoftBreak, HardBreak, Rule, TaskListMarker, EventView, SourcedEvent, SourcedLeaf, Start, End, Leaf, end_of}
use Rattle.tocmark_event.specs.declared.event.LinkType.{LinkType}
use Rattle.tocmark_event.specs.declared.event.LinkType.TheVariants as link
use Rattle.tocmark_write_texts.specs.Bare.{is_mark}
use Rattle.tocmark_write_texts.specs.Characters.{greater_than}
use Rattle.tocmark_write_texts.specs.Escape.{Surroundings, escaped}
use Rattle.tocmark_write_texts.specs.Leaves.{code_span, display_math, footnote_reference, inline_math, last_is, task_marker}
use Rattle.tocmark_spelling.specs.Body.{Trees}
use Rattle.tocmark_spelling.specs.Closing.{closing, closing_of, close_html, close_link, close_list, needs_id, with_line_end, with_quote_end}
use Rattle.tocmark_spelling.specs.Gap.{before_event, close_up, closed_up, forget_quote, gap, quote_line_for, raised_before, raised_for_block, raised_for_list, raised_for_title, resumed, separated, with_quote_line}
use Rattle.tocmark_spelling.specs.Kinds.{and_is, is_break, is_cell, is_heading, is_item, is_list, is_table, is_text}
use Rattle.tocmark_spelling.specs.Marker.{marker}
use Rattle.tocmark_spelling.specs.Look.{Look, look}
use Rattle.tocmark_spelling.specs.Opening.{entered_if, is_empty_inner, is_uniform, item_in, item_marker, next_number, on_new_line, opening, with_label}
use Rattle.tocmark_spelling.specs.Page.{OpeningChoice, HtmlEnds, Listed, Around, Held, Level, Page, Path, Site, filled_to, following, front, with_last, with_trail, written}
use Rattle.tocmark_spelling.specs.Places.{at_item_start, is_close, is_directly_in, is_in, is_raw, is_raw_tag, widened, widened_level}
use Rattle.tocmark_spelling.specs.Plan.{Manner, Markers, Setting}
use Rattle.tocmark_spelling.specs.Runs.{ahead_of, beyond, inside, past}
use Rattle.tocmark_spelling.specs.Spelling.{body_or_id, id_of, skips_body, spelling, then_site}
use Rattle.tocmark_spelling.specs.Stretch.{both, code_on, held_with, leaf_on, leaf_text, or_escaped, place, rule_on, rule_text, stretch_on, stretch_text}
use Rattle.tocmark_spelling.specs.declared.plan.Layout.TheVariants.{Preferred}
use Rattle.tocmark_spelling.specs.declared.plan.TextSpelling.TheVariants.{Escaped}
use Rattle.tocmark_spelling.specs.declared.trail.Last.TheVariants.{Inline, Other}
use Rattle.tocmark_write_labels.specs.Document.{DocumentView}
use Rattle.tocmark_write_pending.specs.Placeholder.{whole}
use Rattle.tocmark_choose.specs.Alike.{AreAlike, IsAlike, IsEventAlike, closed_at, is_link, is_link_end, is_within, place_after, place_after_leaf}
use Rattle.tocmark_choose.specs.declared.alike.Place.{Place}
use Rattle.tocmark_choose.specs.declared.alike.Place.TheVariants.{Front, Settled, Within}
use Rattle.tocmark_choose.specs.Candidates.{in_manner}
use Rattle.tocmark_choose.specs.Choice.{page_in, page_of, spelled}
use Rattle.tocmark_choose.proofs.PlainTexts.{plain-joined, plain_escaped}
use Rattle.tocmark_choose.proofs.Reaching.{Begun, BegunAt, ThenBegun, begun-later, begun-widened, closing-begun, gap-grows, grows-on, opening-begun, written-grows}
use Rattle.tocmark_choose.proofs.InLines.{IsInLine, IsSettled, closed-in-line, end-link, ends-last, ends_inside, gap-settled, html-ends, span-ends, text-in-line, written-in-line}

-- ---- what keeps the stretch that is held

if-held : (b : Bool) (p q : Page) (h : Option Held) → p.held ≡ h → q.held ≡ h → (if b then p else q).held ≡ h
if-held true p q h x y = x
if-held false p q h x y = y

line-held : (line : Option (List ℕ)) (path : Path) (p : Page) → (with_quote_line line path p).held ≡ p.held
line-held None path p = refl
line-held (Some line) path p = refl

closed-held : (e : EventView) (path : Path) (p : Page) → (closed_up e path p).held ≡ p.held
closed-held e path p =
    if-held (not p.trail.open_html && is_close path) (close_up e path p) (forget_quote p) p.held (line-held (quote_line_for e p.trail) path p) refl

separated-held : (e : EventView) (path : Path) (p : Page) → (separated e path p).held ≡ p.held
separated-held e path p = if-held (is_break e) p (with_trail (record p.trail { owed = 0 }) (filled_to p.trail.owed path p)) p.held refl refl

gap-held : (e : EventView) (path : Path) (p : Page) → (gap e path p).held ≡ p.held
gap-held e path p =
    let here : Page = before_event e path p in
    separated-held e path (with_trail (raised_before e path here.trail) here)
    ∙ closed-held e path (with_trail (raised_for_block e (raised_for_title e (raised_for_list e path (resumed e p.trail)))) p)

new-line-held : (path : Path) (p : Page) → (on_new_line path p).held ≡ p.held
new-line-held path p = if-held ((p.sheet.feeds == 0) && not (at_item_start path p)) (written path (codes "\n") p) p p.held refl refl

label-held : (label : Option (List ℕ)) (needed empty_inner : Bool) (path : Path) (p : Page) → (with_label label needed empty_inner path p).held ≡ p.held
label-held (Some label) true empty_inner path p = refl
label-held (Some label) false empty_inner path p = refl
label-held None needed empty_inner path p = refl

-- where the spelling is, this stretch is held
abbrev Holds : Option Held → Option Site → Type 0
Holds h None = Unit {0}
Holds h (Some here) = here.page.held ≡ h

either-holds : (b : Bool) (x y : Option Site) (h : Option Held) → Holds h x → Holds h y → Holds h (if b then x else y)
either-holds true x y h k l = k
either-holds false x y h k l = l

entered-holds : (b : Bool) (t : TagView) (prefix : List ℕ) (c : OpeningChoice) (path : Path) (p : Page) → Holds p.held (entered_if b t prefix c path p)
entered-holds true t prefix c path p = refl
entered-holds false t prefix c path p = tt

item-holds : (s : Setting) (c : OpeningChoice) (list : Level) (l : Look) (outside : Path) (p : Page) → Holds p.held (item_in s c list l outside p)
item-holds s (Listed c) list l outside p =
    let path : Path = record list { content = Listed (record c { number = next_number s.options c.number }) } ∷ outside in
    label-held s.label (c.labelled || is_empty_inner l path) (is_empty_inner l path) path (written path (item_marker c) p)
item-holds s c list l outside p = tt

opening-holds : (s : Setting) (m : Manner) (t : TagView) (l : Look) (path : Path) (p : Page) → Holds p.held (opening s m t l path p)
unfolding opening
opening-holds s m (Heading level id classes attrs) l path p = entered-holds (not (is_in is_heading path)) _ [] _ path _
opening-holds s m (BlockQuote kind) l path p = new-line-held path _
opening-holds s m (CodeBlock Indented) l path p = if-held (at_item_start path (with_last Other p)) _ _ p.held refl (new-line-held path (with_last Other p))
opening-holds s m (CodeBlock (Fenced info)) l path p = new-line-held path _
opening-holds s m Item l [] p = tt
opening-holds s m Item l (list ∷ outside) p = item-holds s list.content list l outside _
opening-holds s m DefinitionListTitle l path p = if-held _ _ _ p.held refl refl
opening-holds s m DefinitionListDefinition l path p = if-held l.begins_paragraph _ _ p.held refl refl
opening-holds s m TableHead l path p = entered-holds (is_directly_in is_table path) TableHead [] _ path _
opening-holds s m TableCell l path p = entered-holds (is_in is_table path) TableCell [] _ path _
opening-holds s m Superscript l path p =
    either-holds s.options.use_html_for_super_sub_script _ _ p.held refl (either-holds (is_uniform m.plan.layout) _ _ p.held refl refl)
opening-holds s m Subscript l path p = either-holds s.options.use_html_for_super_sub_script _ _ p.held refl refl
opening-holds s m t l path p = refl

either-site : (b : Bool) (x y : Site) (h : Option Held) → x.page.held ≡ h → y.page.held ≡ h → (if b then x else y).page.held ≡ h
either-site true x y h k l = k
either-site false x y h k l = l

html-held : (o : OptionsView) (c : OpeningChoice) (path : Path) (p : Page) → (close_html o c path p).page.held ≡ p.held
html-held o (HtmlEnds blank closed) path p = refl
html-held o c path p = refl

list-held : (o : OptionsView) (t : TagView) (c : OpeningChoice) (path : Path) (p : Page) → (close_list o t c path p).page.held ≡ p.held
list-held o t (Listed c) path p = if-held (is_in is_list path) _ _ p.held refl refl
list-held o t c path p = refl

link-held : (k : LinkType) (dest title id : List ℕ) (l : Level) (path : Path) (p : Page) → (close_link k dest title id l path p).page.held ≡ p.held
link-held link.Collapsed dest title id l path p = either-site (needs_id l.content id) _ _ p.held refl refl
link-held link.Shortcut dest title id l path p = either-site (needs_id l.content id) _ _ p.held refl refl
link-held k dest title id l path p = refl

quote-end-held : (path : Path) (p : Page) → (with_quote_end path p).held ≡ p.held
quote-end-held path p = if-held p.trail.open_html p (with_quote_line p.trail.quote_line path p) p.held refl (line-held p.trail.quote_line path p)

line-end-held : (path : Path) (p : Page) → (with_line_end path p).held ≡ p.held
line-end-held path p = if-held p.trail.raw_end p (filled_to 1 path p) p.held refl refl

closing_of-held : (o : OptionsView) (t : TagView) (l : Level) (path : Path) (p : Page) → (closing_of o t l path p).page.held ≡ p.held
closing_of-held o (BlockQuote kind) l path p = if-held (is_in is_item path) _ _ p.held refl refl
closing_of-held o HtmlBlock l path p = html-held o l.content path p
closing_of-held o (ListOf number) l path p = list-held o (ListOf number) l.content path p
closing_of-held o DefinitionListDefinition l path p = line-end-held path (with_quote_end path p) ∙ quote-end-held path p
closing_of-held o (Link kind dest title id) l path p = link-held kind dest title id l path p
closing_of-held o (Image kind dest title id) l path p = link-held kind dest title id l path p
closing_of-held o t l path p = refl

closing-holds : (o : OptionsView) (path : Path) (p : Page) → Holds p.held (closing o path p)
unfolding closing
closing-holds o [] p = tt
closing-holds o (l ∷ path) p = closing_of-held o l.tag l path p

-- ---- where texts are written as they are

widened-by : (n : ℕ) (l : Level) (path : Path) → is_raw (widened n path) ≡ is_raw path → (b : Bool) → is_raw (if b then widened_level n l ∷ path else l ∷ widened n path) ≡ is_raw (l ∷ path)
widened-by n l path ih true = refl
widened-by n l path ih false = ap (λ b. is_raw_tag l.tag || b) ih

widened-raw : (n : ℕ) (path : Path) → is_raw (widened n path) ≡ is_raw path
widened-raw n [] = refl
widened-raw n (l ∷ path) = widened-by n l path (widened-raw n path) (is_cell l.tag)

-- where the spelling is, texts are written as they are
abbrev IsRawSite : Option Site → Type 0
IsRawSite None = Unit {0}
IsRawSite (Some here) = is_raw here.path ≡ true

opening-raw : (s : Setting) (m : Manner) (t : TagView) (l : Look) (path : Path) (p : Page) → is_raw_tag t ≡ true → IsRawSite (opening s m t l path p)
unfolding opening
opening-raw s m (CodeBlock Indented) l path p e = refl
opening-raw s m (CodeBlock (Fenced info)) l path p e = refl
opening-raw s m HtmlBlock l path p e = refl
opening-raw s m (MetadataBlock kind) l path p e = refl
opening-raw s m (Link kind dest title id) l path p e = ap (λ b. b || is_raw path) e
opening-raw s m t l path p e = absurd (false≢true e)

-- ---- a stretch

-- a stretch that is alike where it is
record IsHeldAlikeAt (path : Path) (p : Page) (h : Held) : Type 0 where
  within : Bool
  in_line : within ≡ true → IsInLine path p
  alike : IsAlike within h.text h.source

-- a stretch that is held is alike
abbrev IsHeldAlike : Path → Page → Option Held → Type 0
IsHeldAlike path p None = Unit {0}
IsHeldAlike path p (Some h) = IsHeldAlikeAt path p h

alike-joined : (b c : Bool) (t u : List ℕ) (source more : Option (List ℕ)) → IsAlike b t source → IsAlike c u more → IsAlike (b || c) (t ++ u) (both source more)
alike-joined b c t u (Some source) (Some more) h k =
    ((λ j. h.0 j ++ k.0 j), IsUtf8-append t u h.1 k.1, plain-joined b c t u h.2 k.2)
alike-joined b c t u None more h k = tt
alike-joined b c t u (Some source) None h k = tt

alike-longer : (path : Path) (p : Page) (within : Bool) (held : Option Held) (t : List ℕ) (source : Option (List ℕ)) (a : Around) → IsHeldAlike path p held → (within ≡ true → IsInLine path p)
    → IsAlike within t source → IsHeldAlikeAt path p (held_with held t source a)
alike-longer path p within None t source a h here k = record { within = within; in_line = here; alike = k }
alike-longer path p within (Some h) t source a is here k = record {
  within = is.within || within;
  in_line = λ e. ⊎_elim is.in_line here (or_cases is.within within e);
  alike = alike-joined is.within within h.text t h.source source is.alike k;
}

alike-text : (p : Surroundings) (within : Bool) (text : List ℕ) (source : Option (List ℕ)) → p.first_encoded ≡ false → p.last_encoded ≡ false → is_mark p.token ≡ true → (within ≡ true → p.at_front ≡ false)
    → IsAlike within text source → or_escaped source p text ≡ escaped p text
alike-text p within text None f l t at h = refl
alike-text p within text (Some source) f l t at h = h.0 ∙ sym (plain_escaped p f l t within at text h.1 h.2)

-- inside a line, whatever is held
in-line-held : (path : Path) (p : Page) (h : Option Held) → IsInLine path p → IsInLine path (record p { held = h })
in-line-held path p h k = record { settled = k.settled; inline = k.inline; ended = k.ended; some = k.some; began = k.began }

-- ---- what fits the events that follow

-- what is so of a page at a place
abbrev Stands : Place → Path → Page → Type 0
Stands Front path p = Unit {0}
Stands Settled path p = p.held ≡ None → IsSettled p.trail
Stands Within path p = IsInLine path p

stands-within : (w : Place) (path : Path) (p : Page) → Stands w path p → is_within w ≡ true → IsInLine path p
stands-within Front path p h e = absurd (false≢true e)
stands-within Settled path p h e = absurd (false≢true e)
stands-within Within path p h e = h

-- what a spelling holds before these events, inside containers of these tags: a stretch that is alike or written as it is, and
-- before another event than a Text none
record Fits (raw : Bool) (w : Place) (ts : List TagView) (es : List SourcedEvent) (path : Path) (p : Page) : Type 0 where
  alike : is_raw path ≡ false → IsHeldAlike path p p.held
  none : and_is is_text (front es) ≡ false → p.held ≡ None
  in_raw : raw ≡ true → is_raw path ≡ true
  begun : Begun ts path (length p.sheet.text)
  stands : Stands w path p

fits-none : (raw : Bool) (w : Place) (ts : List TagView) (es : List SourcedEvent) (path : Path) (p : Page) → p.held ≡ None → (raw ≡ true → is_raw path ≡ true) → Begun ts path (length p.sheet.text)
    → Stands w path p → Fits raw w ts es path p
fits-none raw w ts es path p e r begun h = record { alike = λ _. subst (IsHeldAlike path p) (sym e) tt; none = λ _. e; in_raw = r; begun = begun; stands = h }

abbrev ThenFits : Bool → Place → List TagView → List SourcedEvent → Option Site → Type 0
ThenFits raw w ts es None = Unit {0}
ThenFits raw w ts es (Some here) = Fits raw w ts es here.path here.page

-- two spellings are the same, and fit the events that follow
record Agrees (raw : Bool) (w : Place) (ts : List TagView) (es : List SourcedEvent) (x y : Option Site) : Type 0 where
  same : x ≡ y
  fits : ThenFits raw w ts es y

record LeafAgrees (raw : Bool) (w : Place) (ts : List TagView) (es : List SourcedEvent) (x y : Site) : Type 0 where
  same : x ≡ y
  fits : Fits raw w ts es y.path y.page

-- whether the texts after a forest are written as they are
abbrev raw_behind : Bool → Trees → Bool
raw_behind raw empty = raw
raw_behind raw (leaf l f) = raw_behind raw f
raw_behind raw (node t kids f) = raw_behind false f

-- where the event after a forest is
abbrev place_behind : Place → Trees → Place
place_behind w empty = w
place_behind w (leaf l f) = place_behind (place_after w (Leaf l)) f
place_behind w (node t kids f) = place_behind (place_after (place_behind (place_after w (Start t)) kids) (End (end_of t))) f

alike-behind : (raw : Bool) (w : Place) (f : Trees) (es : List SourcedEvent) → AreAlike raw w (flat_onto f es) → AreAlike (raw_behind raw f) (place_behind w f) es
alike-behind raw w empty es h = h
alike-behind raw w (leaf l f) es h = alike-behind raw (place_after w (Leaf l)) f es h.1
alike-behind raw w (node t kids f) es h =
    let inner : Place = place_after w (Start t) in
    alike-behind false (place_after (place_behind inner kids) (End (end_of t))) f es
    (alike-behind (is_raw_tag t) inner kids (End (end_of t) ∷ flat_onto f es) h.1).1

-- where a container's closing leaves the page
abbrev ThenStands : Place → Option Site → Type 0
ThenStands w None = Unit {0}
ThenStands w (Some here) = Stands w here.path here.page

-- a page on which nothing is owed, unless nothing is known of it
abbrev IsSettledAt : Place → Page → Type 0
IsSettledAt Front p = Unit {0}
IsSettledAt w p = IsSettled p.trail

stands-settled : (w : Place) (path : Path) (p : Page) → p.held ≡ None → Stands w path p → IsSettledAt w p
stands-settled Front path p e h = tt
stands-settled Settled path p e h = h e
stands-settled Within path p e h = h.settled

settled-at : (w : Place) (p : Page) → IsSettled p.trail → IsSettledAt w p
settled-at Front p h = tt
settled-at Settled p h = h
settled-at Within p h = h

closing-stands : (o : OptionsView) (t : TagView) (ts : List TagView) (w : Place) (path : Path) (p : Page) → Begun (t ∷ ts) path (length p.sheet.text) → (is_link t ≡ true → IsSettledAt w p)
    → ThenStands (place_after w (End (end_of t))) (closing o path p)
unfolding closing
closing-stands o t ts w [] p begun h = absurd begun
closing-stands o t ts w (l ∷ path) p begun h = by (is_link t) refl
  where
    there : Site
    there = closing_of o l.tag l path p

    after : (v : Place) → is_link t ≡ true → IsSettledAt v p → Stands (closed_at v) there.path there.page
    after Front e k = tt
    after Settled e k = closed-in-line ts o l.tag l path p (ap is_link begun.0 ∙ e) begun.2 k
    after Within e k = closed-in-line ts o l.tag l path p (ap is_link begun.0 ∙ e) begun.2 k

    by : (b : Bool) → is_link t ≡ b → ThenStands (if is_link_end (end_of t) then closed_at w else Front) (Some there)
    by true e = subst (λ b. ThenStands (if b then closed_at w else Front) (Some there)) (sym (end-link t ∙ e)) (after w e (h e))
    by false e = subst (λ b. ThenStands (if b then closed_at w else Front) (Some there)) (sym (end-link t ∙ e)) tt

-- where a container's opening leaves it
linked-stands : (s : Setting) (m : Manner) (t : TagView) (l : Look) (path : Path) (p : Page) → IsSettled p.trail → is_link t ≡ true → ThenStands Settled (opening s m t l path p)
unfolding opening
linked-stands s m (Link kind dest title id) l path p h e = λ _. record { owed = h.owed; shut = h.shut; unquoted = h.unquoted }
linked-stands s m (Image kind dest title id) l path p h e = λ _. record { owed = h.owed; shut = h.shut; unquoted = h.unquoted }
linked-stands s m t l path p h e = absurd (false≢true e)

front-stands : (o : Option Site) → ThenStands Front o
front-stands None = tt
front-stands (Some here) = tt

opening-stands : (s : Setting) (m : Manner) (t : TagView) (l : Look) (path : Path) (p : Page) (w : Place) → IsSettled p.trail → ThenStands (place_after w (Start t)) (opening s m t l path p)
opening-stands s m t l path p w h = by (is_link t) refl
  where
    by : (b : Bool) → is_link t ≡ b → ThenStands (if is_link t then Settled else Front) (opening s m t l path p)
    by true e = subst (λ b. ThenStands (if b then Settled else Front) (opening s m t l path p)) (sym e) (linked-stands s m t l path p h e)
    by false e = subst (λ b. ThenStands (if b then Settled else Front) (opening s m t l path p)) (sym e) (front-stands (opening s m t l path p))

-- ---- a unit

module _ (s : Setting) (k : Markers) (token : is_mark s.options.emphasis_token ≡ true) where
  -- the preferred layout, from the source or escaped
  abbrev manner : Bool → Manner
  manner source = in_manner Preferred Escaped k source

  raw-or : (b : Bool) (path : Path) (x y z : List ℕ) → is_raw path ≡ b → (is_raw path ≡ false → y ≡ z) → (if b then x else y) ≡ (if b then x else z)
  raw-or true path x y z e h = refl
  raw-or false path x y z e h = h e

  stretch-same : (h : Held) (next : Option EventView) (path : Path) (p : Page) → (is_raw path ≡ false → IsHeldAlikeAt path p h) → stretch_on s (manner true) h next path p ≡ stretch_on s (manner false) h next path p
  stretch-same h next path p alike =
      let begun : Page = record p { held = None } in
      let here : Page = gap (Leaf (Text h.text)) path begun in
      let at : Surroundings = place s (manner false) h.after_close next path here in
      let wider : Path = (stretch_on s (manner false) h next path p).path in
      let on : List ℕ → Site = λ text. record { path = wider; page = with_last Inline (written path text here) } in
      ap on (raw-or (is_raw path) path h.text (or_escaped h.source at h.text) (escaped at h.text) refl
      (λ e. let k = alike e in alike-text at k.within h.text h.source refl refl token (λ b. text-in-line h.text path begun (in-line-held path p None (k.in_line b))) k.alike))

  text-alike : (raw within : Bool) (t : List ℕ) (source : Option (List ℕ)) (path : Path) → IsEventAlike raw within (Leaf (record { leaf = Text t; source = source })) → (raw ≡ true → is_raw path ≡ true)
      → is_raw path ≡ false → IsAlike within t source
  text-alike true within t source path h r e = absurd (true≢false (sym (r refl) ∙ e))
  text-alike false within t source path h r e = h

  some≢none : {X : Type 0} (x : X) → Some x ≡ None → ⊥
  some≢none x e = true≢false (ap is_some e)

  module _ (raw : Bool) (w : Place) (ts : List TagView) (t : List ℕ) (source : Option (List ℕ)) (a : Around) (path : Path) (p : Page) (h : IsEventAlike raw (is_within w) (Leaf (record { leaf = Text t; source = source })))
      (fits : Fits raw w ts (Leaf (record { leaf = Text t; source = source }) ∷ a.after) path p) where
    abbrev longer : Held
    longer = held_with p.held t source a

    alike-held : is_raw path ≡ false → IsHeldAlikeAt path p longer
    alike-held e = alike-longer path p (is_within w) p.held t source a (fits.alike e) (stands-within w path p fits.stands) (text-alike raw (is_within w) t source path h fits.in_raw e)

    abbrev waits : Site
    waits = record { path = path; page = record p { held = Some longer } }

    abbrev ends : Site
    ends = stretch_on s (manner false) longer (following a) path p

    waits-alike : IsHeldAlikeAt path p longer → IsHeldAlikeAt path waits.page longer
    waits-alike k = record { within = k.within; in_line = λ e. in-line-held path p (Some longer) (k.in_line e); alike = k.alike }

    abbrev begun-page : Page
    begun-page = gap (Leaf (Text longer.text)) path (record p { held = None })

    ends-begun : Begun ts ends.path (length ends.page.sheet.text)
    ends-begun =
        let text : List ℕ = stretch_text s (manner false) longer (following a) path begun-page in
        begun-widened (length (chars longer.text)) ts path (length ends.page.sheet.text)
        (begun-later ts path (length p.sheet.text) (length ends.page.sheet.text)
        (grows-on p begun-page (written path text begun-page) (gap-grows (Leaf (Text longer.text)) path (record p { held = None })) (written-grows path text begun-page)) fits.begun)

    ends-settled : IsSettled ends.page.trail
    ends-settled =
        let k = gap-settled (Leaf (Text longer.text)) path (record p { held = None }) refl in
        record { owed = k.owed; shut = k.shut; unquoted = k.unquoted }

    text-fits : (b : Bool) → and_is is_text (front a.after) ≡ b → Fits raw Settled ts a.after (if b then waits else ends).path (if b then waits else ends).page
    text-fits true e = record {
      alike = λ r. waits-alike (alike-held r);
      none = λ f. absurd (true≢false (sym e ∙ f));
      in_raw = fits.in_raw;
      begun = fits.begun;
      stands = λ none. absurd (some≢none longer none);
    }
    text-fits false e =
        fits-none raw Settled ts a.after ends.path ends.page (gap-held (Leaf (Text longer.text)) path (record p { held = None })) (λ r. widened-raw (length (chars longer.text)) path ∙ fits.in_raw r) ends-begun
        (λ _. ends-settled)

    text-agrees : LeafAgrees raw Settled ts a.after (leaf_text s (manner true) (Text t) source a path p) (leaf_text s (manner false) (Text t) source a path p)
    text-agrees = record {
      same = ap (λ x. if and_is is_text (front a.after) then waits else x) (stretch-same longer (following a) path p alike-held);
      fits = text-fits (and_is is_text (front a.after)) refl;
    }

  -- an inline leaf: the containers are those that were open
  inline-begun : (ts : List TagView) (l : LeafView) (text : List ℕ) (path : Path) (p : Page) → Begun ts path (length p.sheet.text) → Begun ts path (length (written path text (gap (Leaf l) path p)).sheet.text)
  inline-begun ts l text path p h =
      let here : Page = gap (Leaf l) path p in
      begun-later ts path (length p.sheet.text) (length (written path text here).sheet.text) (grows-on p here (written path text here) (gap-grows (Leaf l) path p) (written-grows path text here)) h

  module _ (raw : Bool) (w : Place) (ts : List TagView) (source : Option (List ℕ)) (a : Around) (path : Path) (p : Page) where
    abbrev FitsBefore : LeafView → Type 0
    FitsBefore l = Fits raw w ts (Leaf (record { leaf = l; source = source }) ∷ a.after) path p

    -- one that leaves nothing known
    plain-fits : (l : LeafView) (text : List ℕ) → and_is is_text (Some (Leaf l)) ≡ false → FitsBefore l → Fits raw Front ts a.after path (with_last Inline (written path text (gap (Leaf l) path p)))
    plain-fits l text e fits =
        fits-none raw Front ts a.after path (with_last Inline (written path text (gap (Leaf l) path p))) (gap-held (Leaf l) path p ∙ fits.none e) fits.in_raw (inline-begun ts l text path p fits.begun) tt

    gap-begun : (l : LeafView) → FitsBefore l → Begun ts path (length (gap (Leaf l) path p).sheet.text)
    gap-begun l fits = begun-later ts path (length p.sheet.text) (length (gap (Leaf l) path p).sheet.text) (gap-grows (Leaf l) path p) fits.begun

    code-fits : (t : List ℕ) → FitsBefore (Code t) → Fits raw Within ts a.after (code_on t path p).path (code_on t path p).page
    code-fits t fits =
        let text : List ℕ = code_span (is_in is_table path) t in
        let n = length (chars t) + 2 in
        let here : Page = gap (Leaf (Code t)) path p in
        fits-none raw Within ts a.after (widened n path) (with_last Inline (written path text here)) (gap-held (Leaf (Code t)) path p ∙ fits.none refl) (λ r. widened-raw n path ∙ fits.in_raw r)
        (begun-widened n ts path (length (written path text here).sheet.text) (inline-begun ts (Code t) text path p fits.begun))
        (written-in-line ts path (widened n path) text here (span-ends (is_in is_table path) t) (begun-widened n ts path (length here.sheet.text) (gap-begun (Code t) fits))
        (gap-settled (Leaf (Code t)) path p refl))

    -- one that ends inside a line
    line-fits : (l : LeafView) (text : List ℕ) → and_is is_text (Some (Leaf l)) ≡ false → is_break (Leaf l) ≡ false → ends_inside text ≡ true → FitsBefore l
        → Fits raw Within ts a.after path (with_last Inline (written path text (gap (Leaf l) path p)))
    line-fits l text e b ends fits =
        let here : Page = gap (Leaf l) path p in
        fits-none raw Within ts a.after path (with_last Inline (written path text here)) (gap-held (Leaf l) path p ∙ fits.none e) fits.in_raw (inline-begun ts l text path p fits.begun)
        (written-in-line ts path path text here ends (gap-begun l fits) (gap-settled (Leaf l) path p b))

    html-fits : (t : List ℕ) (b : Bool) → last_is greater_than t ≡ b → FitsBefore (InlineHtml t)
        → Fits raw (if b then Within else Front) ts a.after path (with_last Inline (written path t (gap (Leaf (InlineHtml t)) path p)))
    html-fits t false e fits = plain-fits (InlineHtml t) t refl fits
    html-fits t true e fits = line-fits (InlineHtml t) t refl refl (html-ends t e) fits

    block-fits : (t : List ℕ) → FitsBefore (Html t) → Fits raw Front ts a.after path (with_last Other (written path t p))
    block-fits t fits =
        fits-none raw Front ts a.after path (with_last Other (written path t p)) (fits.none refl) fits.in_raw
        (begun-later ts path (length p.sheet.text) (length (written path t p).sheet.text) (written-grows path t p) fits.begun) tt

    rule-fits : FitsBefore Rule → Fits raw Front ts a.after path (rule_on s path p).page
    rule-fits fits =
        let here : Page = gap (Leaf Rule) path p in
        fits-none raw Front ts a.after path (rule_on s path p).page (gap-held (Leaf Rule) path p ∙ fits.none refl) fits.in_raw (inline-begun ts Rule (rule_text here.trail.last path) path p fits.begun) tt

  leaf-agrees : (raw : Bool) (w : Place) (ts : List TagView) (l : LeafView) (source : Option (List ℕ)) (a : Around) (path : Path) (p : Page) → IsEventAlike raw (is_within w) (Leaf (record { leaf = l; source = source }))
      → Fits raw w ts (Leaf (record { leaf = l; source = source }) ∷ a.after) path p
      → LeafAgrees raw (place_after_leaf l) ts a.after (leaf_text s (manner true) l source a path p) (leaf_text s (manner false) l source a path p)
  leaf-agrees raw w ts (Text t) source a path p h fits = text-agrees raw w ts t source a path p h fits
  leaf-agrees raw w ts (Code t) source a path p h fits = record { same = refl; fits = code-fits raw w ts source a path p t fits }
  leaf-agrees raw w ts (InlineMath t) source a path p h fits = record { same = refl; fits = plain-fits raw w ts source a path p (InlineMath t) (inline_math (is_in is_table path) t) refl fits }
  leaf-agrees raw w ts (DisplayMath t) source a path p h fits = record { same = refl; fits = plain-fits raw w ts source a path p (DisplayMath t) (display_math (is_in is_table path) t) refl fits }
  leaf-agrees raw w ts (Html t) source a path p h fits = record { same = refl; fits = block-fits raw w ts source a path p t fits }
  leaf-agrees raw w ts (InlineHtml t) source a path p h fits = record { same = refl; fits = html-fits raw w ts source a path p t (last_is greater_than t) refl fits }
  leaf-agrees raw w ts (FootnoteReference t) source a path p h fits = record { same = refl; fits = line-fits raw w ts source a path p (FootnoteReference t) (footnote_reference t) refl refl (ends-last (codes "[^" ++ t) 93 refl) fits }
  leaf-agrees raw w ts SoftBreak source a path p h fits = record { same = refl; fits = plain-fits raw w ts source a path p SoftBreak (codes "\n") refl fits }
  leaf-agrees raw w ts HardBreak source a path p h fits = record { same = refl; fits = plain-fits raw w ts source a path p HardBreak (codes "  \n") refl fits }
  leaf-agrees raw w ts Rule source a path p h fits = record { same = refl; fits = rule-fits raw w ts source a path p fits }
  leaf-agrees raw w ts (TaskListMarker b) source a path p h fits = record { same = refl; fits = plain-fits raw w ts source a path p (TaskListMarker b) (task_marker b) refl fits }

  leaf_on-agrees : (raw : Bool) (w : Place) (ts : List TagView) (l : SourcedLeaf) (a : Around) (path : Path) (p : Page) → IsEventAlike raw (is_within w) (Leaf l) → Fits raw w ts (Leaf l ∷ a.after) path p
      → LeafAgrees raw (place_after w (Leaf l)) ts a.after (leaf_on s (manner true) l a path p) (leaf_on s (manner false) l a path p)
  unfolding leaf_on
  leaf_on-agrees raw w ts l a path p h fits =
      leaf-agrees raw w ts l.leaf l.source a path p h (record { alike = fits.alike; none = fits.none; in_raw = fits.in_raw; begun = fits.begun; stands = fits.stands })

  opening-same : (t : TagView) (kids : Trees) (a : Around) (path : Path) (p : Page) → opening s (manner true) t (look s (manner true) t kids a) path p ≡ opening s (manner false) t (look s (manner false) t kids a) path p
  unfolding opening marker
  opening-same Emphasis kids a path p = refl
  opening-same Strong kids a path p = refl
  opening-same (CodeBlock Indented) kids a path p = refl
  opening-same (CodeBlock (Fenced info)) kids a path p = refl
  opening-same t kids a path p = refl

  -- ---- a container

  module _ (raw : Bool) (w : Place) (ts : List TagView) (es : List SourcedEvent) (t : TagView) (inner : Place) (rest : Bool → Site → Option Site)
      (ih : (here : Site) → here.page.held ≡ None → BegunAt ts here → Stands (place_after inner (End (end_of t))) here.path here.page → Agrees raw w ts es (rest true here) (rest false here)) where
    after-closing : (path : Path) (p : Page) → p.held ≡ None → Begun (t ∷ ts) path (length p.sheet.text) → (is_link t ≡ true → IsSettledAt inner p)
        → Agrees raw w ts es (then_site (closing s.options path p) (rest true)) (then_site (closing s.options path p) (rest false))
    after-closing path p e begun settled =
        by (closing s.options path p) (subst (λ h. Holds h (closing s.options path p)) e (closing-holds s.options path p)) (closing-begun ts s.options t path p begun)
        (closing-stands s.options t ts inner path p begun settled)
      where
        by : (o : Option Site) → Holds None o → ThenBegun ts o → ThenStands (place_after inner (End (end_of t))) o → Agrees raw w ts es (then_site o (rest true)) (then_site o (rest false))
        by None h b st = record { same = refl; fits = tt }
        by (Some here) h b st = ih here h b st

    abbrev then_closing : Bool → Site → Option Site
    then_closing source full = then_site (closing s.options full.path full.page) (rest source)

    after-body : (raw_inner : Bool) (later : List SourcedEvent) (x y : Option Site) → Agrees raw_inner inner (t ∷ ts) (End (end_of t) ∷ later) x y
        → Agrees raw w ts es (then_site x (then_closing true)) (then_site y (then_closing false))
    after-body raw_inner later x y h =
        let one = by y h.fits in
        record { same = ap (λ o. then_site o (then_closing true)) h.same ∙ one.same; fits = one.fits }
      where
        by : (o : Option Site) → ThenFits raw_inner inner (t ∷ ts) (End (end_of t) ∷ later) o → Agrees raw w ts es (then_site o (then_closing true)) (then_site o (then_closing false))
        by None f = record { same = refl; fits = tt }
        by (Some full) f = after-closing full.path full.page (f.none refl) f.begun (λ _. stands-settled inner full.path full.page (f.none refl) f.stands)

    -- where the body begins
    abbrev begins : Place
    begins = if is_link t then Settled else Front

    module _ (raw_inner : Bool) (later : List SourcedEvent) (body : Bool → Site → Option Site)
        (ihb : (here : Site) → here.page.held ≡ None → (is_raw_tag t ≡ true → is_raw here.path ≡ true) → BegunAt (t ∷ ts) here → Stands begins here.path here.page
        → Agrees raw_inner inner (t ∷ ts) (End (end_of t) ∷ later) (body true here) (body false here)) where
      abbrev then_body : Bool → Bool → Site → Option Site
      then_body named source open_ = then_site (body_or_id named t open_ (body source)) (then_closing source)

      -- a link in whose place its id is
      named-settled : (here : Site) → here.page.held ≡ None → Stands begins here.path here.page → is_link t ≡ true → IsSettledAt inner (with_last Inline (written here.path (id_of t) here.page))
      named-settled here e stands link =
          let h : IsSettled here.page.trail = subst (λ b. Stands (if b then Settled else Front) here.path here.page) link stands e in
          settled-at inner (with_last Inline (written here.path (id_of t) here.page)) (record { owed = h.owed; shut = h.shut; unquoted = h.unquoted })

      by-name : (named : Bool) (here : Site) → here.page.held ≡ None → (is_raw_tag t ≡ true → is_raw here.path ≡ true) → BegunAt (t ∷ ts) here → Stands begins here.path here.page
          → Agrees raw w ts es (then_body named true here) (then_body named false here)
      by-name true here e r begun stands =
          after-closing here.path (with_last Inline (written here.path (id_of t) here.page)) e
          (begun-later (t ∷ ts) here.path (length here.page.sheet.text) (length (written here.path (id_of t) here.page).sheet.text) (written-grows here.path (id_of t) here.page) begun)
          (named-settled here e stands)
      by-name false here e r begun stands = after-body raw_inner later (body true here) (body false here) (ihb here e r begun stands)

      after-opening : (x : Option Site) → Holds None x → (is_raw_tag t ≡ true → IsRawSite x) → ThenBegun (t ∷ ts) x → ThenStands begins x
          → Agrees raw w ts es (then_site x (λ open_. then_body (skips_body open_.path) true open_)) (then_site x (λ open_. then_body (skips_body open_.path) false open_))
      after-opening None h r begun stands = record { same = refl; fits = tt }
      after-opening (Some here) h r begun stands = by-name (skips_body here.path) here h r begun stands

  agrees : (raw : Bool) (w : Place) (ts : List TagView) (f : Trees) (a : Around) (path : Path) (p : Page) → AreAlike raw w (flat_onto f a.after) → Fits raw w ts (flat_onto f a.after) path p
      → Agrees (raw_behind raw f) (place_behind w f) ts a.after (spelling s (manner true) f a path p) (spelling s (manner false) f a path p)
  unfolding spelling
  agrees raw w ts empty a path p h fits = record { same = refl; fits = fits }
  agrees raw w ts (leaf l f) a path p h fits =
      let one = leaf_on-agrees raw w ts l (ahead_of f a) path p h.0 fits in
      let here : Site = leaf_on s (manner false) l (ahead_of f a) path p in
      let two = agrees raw (place_after w (Leaf l)) ts f (past (Leaf l) a) here.path here.page h.1 one.fits in
      record { same = ap (λ x. spelling s (manner true) f (past (Leaf l) a) x.path x.page) one.same ∙ two.same; fits = two.fits }
  agrees raw w ts (node t kids f) a path p h fits =
      let around : Around = ahead_of f a in
      let begun : Page = gap (Start t) path p in
      let seen : Look = look s (manner false) t kids around in
      let opened : Option Site = opening s (manner false) t seen path begun in
      let none : begun.held ≡ None = gap-held (Start t) path p ∙ fits.none refl in
      let later : List SourcedEvent = flat_onto f a.after in
      let first : Place = place_after w (Start t) in
      let inner : Place = place_behind first kids in
      let next : Place = place_after inner (End (end_of t)) in
      let behind = alike-behind (is_raw_tag t) first kids (End (end_of t) ∷ later) h.1 in
      let low : Begun ts path (length begun.sheet.text) = begun-later ts path (length p.sheet.text) (length begun.sheet.text) (gap-grows (Start t) path p) fits.begun in
      let body : Bool → Site → Option Site = λ source here. spelling s (manner source) kids (inside t around) here.path here.page in
      let rest : Bool → Site → Option Site = λ source here. spelling s (manner source) f (beyond t kids a) here.path here.page in
      let one =
      after-opening (raw_behind false f) (place_behind next f) ts a.after t inner rest
      (λ here e b st. agrees false next ts f (beyond t kids a) here.path here.page behind.1 (fits-none false next ts later here.path here.page e (λ r. absurd (false≢true r)) b st))
      (raw_behind (is_raw_tag t) kids) later body
      (λ here e r b st. agrees (is_raw_tag t) first (t ∷ ts) kids (inside t around) here.path here.page h.1 (fits-none (is_raw_tag t) first (t ∷ ts) (flat_onto kids (End (end_of t) ∷ later)) here.path here.page e r b st))
      opened (subst (λ x. Holds x opened) none (opening-holds s (manner false) t seen path begun))
      (opening-raw s (manner false) t seen path begun)
      (opening-begun s (manner false) t seen ts path begun low)
      (opening-stands s (manner false) t seen path begun w (gap-settled (Start t) path p refl)) in
      record { same = ap (λ o. then_site o (λ open_. then_site (body_or_id (skips_body open_.path) t open_ (body true)) (λ full. then_site (closing s.options full.path full.page) (rest true)))) (opening-same t kids around path begun) ∙ one.same; fits = one.fits }

  -- the unit is spelled alike from the source and escaped
  pub spelled-alike : (d : DocumentView) (f : Trees) (next : Option EventView) → AreAlike false Front (flat f) → spelled s d f next (manner true) ≡ spelled s d f next (manner false)
  unfolding spelled
  spelled-alike d f next h =
      ap page_of (agrees false Front [] f (whole next) [] (page_in d) h (fits-none false Front [] (flat f) [] (page_in d) refl (λ r. absurd (false≢true r)) tt tt)).same
