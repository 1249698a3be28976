-- How far the text reaches. No step makes it shorter, and each open container begins in it.
use Rattle.std.proofs.Common.{◌≡◌, ◌≤◌, ◌<◌, ◌==◌, ◌-◌, ℕ, Bool, true, false, ◌&&◌, ◌||◌, if◌then◌else◌, Option, Some, None, List, [], ◌∷◌, ◌++◌, codes, length, length-append, refl, arith, replicate, flat_map}
use Rattle.std.specs.Prelude.{not, is_none}
use Rattle.tocmark_event.specs.Options.{OptionsView}
use Rattle.tocmark_event.specs.View.{TagView, BlockQuote, CodeBlock, Indented, Fenced, HtmlBlock, Heading, ListOf, Item, FootnoteDefinition, DefinitionListTitle, DefinitionListDefinition, Table, TableHead, TableRow, TableCell, Emphasis, Strong, Strikethrough, Superscript, Subscript, Link, Image, MetadataBlock, EventView}
use Rattle.tocmark_event.specs.declared.event.LinkType.{LinkType}
use Rattle.tocmark_event.specs.declared.event.LinkType.TheVariants as link
use Rattle.tocmark_write_texts.specs.Destination.{inline_closing}
use Rattle.tocmark_spelling.specs.Closing.{alignment_row, attributes_text, close_html, close_link, close_list, closing, closing_of, closing_token, fence_closing, left, needs_id, underline_of, with_line_end, with_quote_end}
use Rattle.tocmark_spelling.specs.Gap.{before_event, close_up, closed_up, forget_quote, gap, quote_line_for, raised_before, raised_for_block, raised_for_list, raised_for_title, resumed, separated, with_quote_line}
use Rattle.tocmark_spelling.specs.Kinds.{is_break, is_cell, is_heading, is_item, is_list, is_table}
use Rattle.tocmark_spelling.specs.Look.{Look}
use Rattle.tocmark_spelling.specs.Marker.{marker}
use Rattle.tocmark_spelling.specs.Opening.{entered, entered_if, fence, heading_mark, info_byte, is_empty_inner, is_uniform, item_in, item_marker, link_mark, metadata_fence, next_number, on_new_line, opening, quote_mark, strikethrough_token, with_label, without_space}
use Rattle.tocmark_spelling.specs.Page.{Plain, HtmlEnds, Level, Listed, OpeningChoice, Page, Path, Sheet, Site, filled_to, laid, laid_on, lead, prefix_of, put_byte, with_last, with_trail, written}
use Rattle.tocmark_spelling.specs.Places.{at_item_start, is_close, is_directly_in, is_in, widened, widened_level, width_of, with_header, with_width}
use Rattle.tocmark_spelling.specs.Plan.{Manner, Setting}
use Rattle.tocmark_spelling.specs.declared.trail.Last.TheVariants.{Other}

-- ---- the text grows

-- the text of one page is no longer than that of another
abbrev pub Grows : Page → Page → Type 0
Grows p q = length p.sheet.text ≤ length q.sheet.text

at-most : (a b c : ℕ) → a ≤ b → b ≤ c → a ≤ c
at-most a b c h k = omega (arith, h, k)

le-same : (n : ℕ) → n ≤ n
le-same n = omega arith

one-more : (bs cs : List ℕ) (b : ℕ) → length bs < length (bs ++ cs ++ b ∷ [])
one-more bs cs b = omega (arith, length-append bs cs, length-append (bs ++ cs) (b ∷ []))

pub put-more : (prefix : List ℕ) (b : ℕ) (s : Sheet) → length s.text < length (put_byte prefix b s).text
put-more prefix b s = one-more s.text (lead prefix s.feeds) b

below : (a b c : ℕ) → a < b → b ≤ c → a ≤ c
below a b c h k = omega (arith, h, k)

laid-grows : (prefix bs : List ℕ) (s : Sheet) → length s.text ≤ length (laid prefix bs s).text
laid-grows prefix [] s = le-same (length s.text)
laid-grows prefix (b ∷ bs) s = below _ _ _ (put-more prefix b s) (laid-grows prefix bs (put_byte prefix b s))

pub grows-same : (p : Page) → Grows p p
grows-same p = le-same (length p.sheet.text)

pub grows-on : (p q r : Page) → Grows p q → Grows q r → Grows p r
grows-on p q r h k = at-most _ _ _ h k

pub written-grows : (path : Path) (text : List ℕ) (p : Page) → Grows p (written path text p)
written-grows path text p = laid-grows (prefix_of path) text p.sheet

filled-grows : (n : ℕ) (path : Path) (p : Page) → Grows p (filled_to n path p)
filled-grows n path p = laid-grows (prefix_of path) (replicate (n - p.sheet.feeds) 10) p.sheet

if-grows : (b : Bool) (o p q : Page) → Grows o p → Grows o q → Grows o (if b then p else q)
if-grows true o p q x y = x
if-grows false o p q x y = y

line-grows : (line : Option (List ℕ)) (path : Path) (p : Page) → Grows p (with_quote_line line path p)
line-grows None path p = grows-same p
line-grows (Some line) path p =
    let on_line : Page = filled_to 1 path p in
    grows-on p on_line (laid_on [] line on_line) (filled-grows 1 path p) (laid-grows [] line on_line.sheet)

closed-grows : (e : EventView) (path : Path) (p : Page) → Grows p (closed_up e path p)
closed-grows e path p =
    if-grows (not p.trail.open_html && is_close path) p (close_up e path p) (forget_quote p) (line-grows (quote_line_for e p.trail) path p) (grows-same p)

separated-grows : (e : EventView) (path : Path) (p : Page) → Grows p (separated e path p)
separated-grows e path p = if-grows (is_break e) p p (with_trail (record p.trail { owed = 0 }) (filled_to p.trail.owed path p)) (grows-same p) (filled-grows p.trail.owed path p)

pub gap-grows : (e : EventView) (path : Path) (p : Page) → Grows p (gap e path p)
gap-grows e path p =
    let here : Page = before_event e path p in
    grows-on p here (gap e path p)
    (closed-grows e path (with_trail (raised_for_block e (raised_for_title e (raised_for_list e path (resumed e p.trail)))) p))
    (separated-grows e path (with_trail (raised_before e path here.trail) here))

new-line-grows : (path : Path) (p : Page) → Grows p (on_new_line path p)
new-line-grows path p =
    if-grows ((p.sheet.feeds == 0) && not (at_item_start path p)) p (written path (codes "\n") p) p (written-grows path (codes "\n") p) (grows-same p)

-- a text below what may be a new line
below-line : (path : Path) (text : List ℕ) (p : Page) → Grows p (written path text (on_new_line path p))
below-line path text p = grows-on p (on_new_line path p) (written path text (on_new_line path p)) (new-line-grows path p) (written-grows path text (on_new_line path p))

label-grows : (label : Option (List ℕ)) (needed empty_inner : Bool) (path : Path) (p : Page) → Grows p (with_label label needed empty_inner path p)
label-grows (Some label) true empty_inner path p = written-grows path (codes "[" ++ label ++ codes "]: <>") p
label-grows (Some label) false empty_inner path p = grows-same p
label-grows None needed empty_inner path p = grows-same p

-- ---- the open containers

-- containers of these tags are open, innermost first, and each began here or before
abbrev pub Begun : List TagView → Path → ℕ → Type 0
Begun [] [] n = Unit {0}
Begun (t ∷ ts) (l ∷ path) n = (l.tag ≡ t) × (l.start ≤ n) × Begun ts path n
Begun ts path n = ⊥

pub begun-later : (ts : List TagView) (path : Path) (m n : ℕ) → m ≤ n → Begun ts path m → Begun ts path n
begun-later [] [] m n le h = tt
begun-later (t ∷ ts) (l ∷ path) m n le h = (h.0, at-most l.start m n h.1 le, begun-later ts path m n le h.2)
begun-later [] (l ∷ path) m n le h = absurd h
begun-later (t ∷ ts) [] m n le h = absurd h

pub begun-widened : (k : ℕ) (ts : List TagView) (path : Path) (n : ℕ) → Begun ts path n → Begun ts (widened k path) n
begun-widened k [] [] n h = tt
begun-widened k (t ∷ ts) (l ∷ path) n h = by (is_cell l.tag) (begun-widened k ts path n h.2)
  where
    by : (b : Bool) → Begun ts (widened k path) n → Begun (t ∷ ts) (if b then widened_level k l ∷ path else l ∷ widened k path) n
    by true below = h
    by false below = (h.0, h.1, below)
begun-widened k [] (l ∷ path) n h = absurd h
begun-widened k (t ∷ ts) [] n h = absurd h

begun-header : (k : ℕ) (ts : List TagView) (path : Path) (n : ℕ) → Begun ts path n → Begun ts (with_header k path) n
begun-header k [] [] n h = tt
begun-header k (t ∷ ts) (l ∷ path) n h = by (is_table l.tag) (begun-header k ts path n h.2)
  where
    by : (b : Bool) → Begun ts (with_header k path) n → Begun (t ∷ ts) (if b then record l { content = with_width k l.content } ∷ path else l ∷ with_header k path) n
    by true below = h
    by false below = (h.0, h.1, below)
begun-header k [] (l ∷ path) n h = absurd h
begun-header k (t ∷ ts) [] n h = absurd h

-- the same where the spelling is
abbrev pub BegunAt : List TagView → Site → Type 0
BegunAt ts here = Begun ts here.path (length here.page.sheet.text)

abbrev pub ThenBegun : List TagView → Option Site → Type 0
ThenBegun ts None = Unit {0}
ThenBegun ts (Some here) = BegunAt ts here

module _ (ts : List TagView) where
  entered-begun : (t : TagView) (path : Path) (p q : Page) → Grows p q → Begun ts path (length p.sheet.text) → ThenBegun (t ∷ ts) (entered t [] Plain path q)
  entered-begun t path p q g h = (refl, le-same (length q.sheet.text), begun-later ts path (length p.sheet.text) (length q.sheet.text) g h)

  entered_if-begun : (b : Bool) (t : TagView) (prefix : List ℕ) (c : OpeningChoice) (path : Path) (p q : Page) → Grows p q → Begun ts path (length p.sheet.text) → ThenBegun (t ∷ ts) (entered_if b t prefix c path q)
  entered_if-begun true t prefix c path p q g h = entered-begun t path p q g h
  entered_if-begun false t prefix c path p q g h = tt

  -- a text is written first
  marked-begun : (t : TagView) (path : Path) (text : List ℕ) (p : Page) → Begun ts path (length p.sheet.text) → ThenBegun (t ∷ ts) (entered t [] Plain path (written path text p))
  marked-begun t path text p h = entered-begun t path p (written path text p) (written-grows path text p) h

  either-begun : (b : Bool) (x y : Option Site) → ThenBegun ts x → ThenBegun ts y → ThenBegun ts (if b then x else y)
  either-begun true x y h k = h
  either-begun false x y h k = k

  either-site : (b : Bool) (x y : Site) → BegunAt ts x → BegunAt ts y → BegunAt ts (if b then x else y)
  either-site true x y h k = h
  either-site false x y h k = k

  grown-begun : (path : Path) (p q : Page) → Grows p q → Begun ts path (length p.sheet.text) → BegunAt ts (left path q)
  grown-begun path p q g h = begun-later ts path (length p.sheet.text) (length q.sheet.text) g h

item-begun : (s : Setting) (c : OpeningChoice) (list : Level) (l : Look) (ts : List TagView) (outside : Path) (p : Page) → Begun ts (list ∷ outside) (length p.sheet.text) → ThenBegun (Item ∷ ts) (item_in s c list l outside p)
item-begun s (Listed c) list l [] outside p h = absurd h
item-begun s (Listed c) list l (t ∷ ts) outside p h =
    let path : Path = record list { content = Listed (record c { number = next_number s.options c.number }) } ∷ outside in
    let marked : Page = written path (item_marker c) p in
    let labelled : Page = with_label s.label (c.labelled || is_empty_inner l path) (is_empty_inner l path) path marked in
    let grown : Grows p labelled = grows-on p marked labelled (written-grows path (item_marker c) p) (label-grows s.label (c.labelled || is_empty_inner l path) (is_empty_inner l path) path marked) in
    (refl, le-same (length labelled.sheet.text), begun-later (t ∷ ts) path (length p.sheet.text) (length labelled.sheet.text) grown h)
item-begun s c list l ts outside p h = tt

module _ (s : Setting) (m : Manner) where
  pub opening-begun : (t : TagView) (l : Look) (ts : List TagView) (path : Path) (p : Page) → Begun ts path (length p.sheet.text) → ThenBegun (t ∷ ts) (opening s m t l path p)
  unfolding opening
  opening-begun (Heading level id classes attrs) l ts path p h =
      let q : Page = with_last Other p in
      entered_if-begun ts (not (is_in is_heading path)) _ [] _ path q (written path (heading_mark level l.broken) q) (written-grows path (heading_mark level l.broken) q) h
  opening-begun (BlockQuote kind) l ts path p h =
      let q : Page = with_last Other p in
      let at_item = at_item_start path q in
      let text : List ℕ = without_space at_item (quote_mark kind) in
      entered-begun ts (BlockQuote kind) path q (record (written path text (on_new_line path q)) { trail = record (written path text (on_new_line path q)).trail { owed = if at_item && is_none kind then 0 else 1 } }) (below-line path text q) h
  opening-begun (CodeBlock Indented) l ts path p h =
      let q : Page = with_last Other p in
      entered-begun ts (CodeBlock Indented) path q (if at_item_start path q then written path (codes "    ") q else on_new_line path q)
      (if-grows (at_item_start path q) q (written path (codes "    ") q) (on_new_line path q) (written-grows path (codes "    ") q) (new-line-grows path q)) h
  opening-begun (CodeBlock (Fenced info)) l ts path p h =
      let q : Page = with_last Other p in
      let text : List ℕ = fence s.options info l.text ++ flat_map info_byte info ++ codes "\n" in
      entered-begun ts (CodeBlock (Fenced info)) path q (written path text (on_new_line path q)) (below-line path text q) h
  opening-begun HtmlBlock l ts path p h = entered-begun ts HtmlBlock path p (with_last Other p) (grows-same p) h
  opening-begun (ListOf number) l ts path p h = entered-begun ts (ListOf number) path p (with_last Other p) (grows-same p) h
  opening-begun Item l ts [] p h = tt
  opening-begun Item l ts (list ∷ outside) p h = item-begun s list.content list l ts outside (with_last Other p) h
  opening-begun (FootnoteDefinition label) l ts path p h = marked-begun ts (FootnoteDefinition label) path (codes "[^" ++ label ++ codes "]: ") (with_last Other p) h
  opening-begun DefinitionListTitle l ts path p h =
      let q : Page = with_last Other p in
      entered-begun ts DefinitionListTitle path q (if (q.sheet.feeds == 0) && not (length q.sheet.text == 0) && not (at_item_start path q) then written path (codes "\n") q else q)
      (if-grows ((q.sheet.feeds == 0) && not (length q.sheet.text == 0) && not (at_item_start path q)) q (written path (codes "\n") q) q (written-grows path (codes "\n") q) (grows-same q)) h
  opening-begun DefinitionListDefinition l ts path p h =
      let q : Page = with_last Other p in
      let r : Page = if l.begins_paragraph then filled_to 2 path q else q in
      entered-begun ts DefinitionListDefinition path q (written path (codes ": ") r)
      (grows-on q r (written path (codes ": ") r) (if-grows l.begins_paragraph q (filled_to 2 path q) q (filled-grows 2 path q) (grows-same q)) (written-grows path (codes ": ") r)) h
  opening-begun (Table alignments) l ts path p h = entered-begun ts (Table alignments) path p (with_last Other p) (grows-same p) h
  opening-begun TableHead l ts path p h = entered_if-begun ts (is_directly_in is_table path) TableHead [] _ path p (with_last Other p) (grows-same p) h
  opening-begun TableCell l ts path p h =
      let q : Page = with_last Other p in
      entered_if-begun ts (is_in is_table path) TableCell [] _ path q (written path (codes "|") q) (written-grows path (codes "|") q) h
  opening-begun Emphasis l ts path p h = let q : Page = with_last Other p in marked-begun ts Emphasis path (marker s m Emphasis l path q) q h
  opening-begun Strong l ts path p h = let q : Page = with_last Other p in marked-begun ts Strong path (marker s m Strong l path q) q h
  opening-begun Strikethrough l ts path p h = marked-begun ts Strikethrough path (strikethrough_token s m path) (with_last Other p) h
  opening-begun Superscript l ts path p h =
      let q : Page = with_last Other p in
      either-begun (Superscript ∷ ts) s.options.use_html_for_super_sub_script _ _ (marked-begun ts Superscript path (codes "<sup>") q h)
      (either-begun (Superscript ∷ ts) (is_uniform m.plan.layout) _ _ (marked-begun ts Superscript path (codes "^^") q h) (marked-begun ts Superscript path (codes "^") q h))
  opening-begun Subscript l ts path p h =
      let q : Page = with_last Other p in
      either-begun (Subscript ∷ ts) s.options.use_html_for_super_sub_script _ _ (marked-begun ts Subscript path (codes "<sub>") q h) (marked-begun ts Subscript path (codes "~") q h)
  opening-begun (Link kind dest title id) l ts path p h = marked-begun ts (Link kind dest title id) path (link_mark kind) (with_last Other p) h
  opening-begun (Image kind dest title id) l ts path p h = marked-begun ts (Image kind dest title id) path (codes "![") (with_last Other p) h
  opening-begun (MetadataBlock kind) l ts path p h = marked-begun ts (MetadataBlock kind) path (metadata_fence kind) (with_last Other p) h
  opening-begun t l ts path p h = entered-begun ts t path p (with_last Other p) (grows-same p) h

-- ---- closings

module _ (ts : List TagView) where
  written-begun : (path : Path) (text : List ℕ) (p q : Page) → Grows p q → Begun ts path (length p.sheet.text) → BegunAt ts (left path (written path text q))
  written-begun path text p q g h = grown-begun ts path p (written path text q) (grows-on p q (written path text q) g (written-grows path text q)) h

  html-begun : (o : OptionsView) (c : OpeningChoice) (path : Path) (p : Page) → Begun ts path (length p.sheet.text) → BegunAt ts (close_html o c path p)
  html-begun o (HtmlEnds blank closed) path p h = h
  html-begun o c path p h = h

  list-begun : (o : OptionsView) (t : TagView) (c : OpeningChoice) (path : Path) (p : Page) → Begun ts path (length p.sheet.text) → BegunAt ts (close_list o t c path p)
  list-begun o t (Listed c) path p h = grown-begun ts path p (close_list o t (Listed c) path p).page (if-grows (is_in is_list path) p _ _ (grows-same p) (grows-same p)) h
  list-begun o t c path p h = h

  link-begun : (k : LinkType) (dest title id : List ℕ) (l : Level) (path : Path) (p : Page) → Begun ts path (length p.sheet.text) → BegunAt ts (close_link k dest title id l path p)
  link-begun link.Collapsed dest title id l path p h = either-site ts (needs_id l.content id) _ _ (written-begun path (codes "][" ++ id ++ codes "]") p p (grows-same p) h) (written-begun path (codes "][]") p p (grows-same p) h)
  link-begun link.Shortcut dest title id l path p h = either-site ts (needs_id l.content id) _ _ (written-begun path (codes "][" ++ id ++ codes "]") p p (grows-same p) h) (written-begun path (codes "]") p p (grows-same p) h)
  link-begun link.Reference dest title id l path p h = written-begun path (codes "][" ++ id ++ codes "]") p p (grows-same p) h
  link-begun link.Autolink dest title id l path p h = written-begun path (codes ">") p p (grows-same p) h
  link-begun link.Email dest title id l path p h = written-begun path (codes ">") p p (grows-same p) h
  link-begun k dest title id l path p h = written-begun path (inline_closing dest title) p p (grows-same p) h

  quote-end-grows : (path : Path) (p : Page) → Grows p (with_quote_end path p)
  quote-end-grows path p = if-grows p.trail.open_html p p (with_quote_line p.trail.quote_line path p) (grows-same p) (line-grows p.trail.quote_line path p)

  line-end-grows : (path : Path) (p : Page) → Grows p (with_line_end path p)
  line-end-grows path p = if-grows p.trail.raw_end p p (filled_to 1 path p) (grows-same p) (filled-grows 1 path p)

  pub closing_of-begun : (o : OptionsView) (t : TagView) (l : Level) (path : Path) (p : Page) → Begun ts path (length p.sheet.text) → BegunAt ts (closing_of o t l path p)
  closing_of-begun o (Heading level id classes attrs) l path p h =
      let q : Page = written path (attributes_text id classes attrs) p in
      written-begun path (underline_of level l.content) p q (written-grows path (attributes_text id classes attrs) p) h
  closing_of-begun o (BlockQuote kind) l path p h = grown-begun ts path p (closing_of o (BlockQuote kind) l path p).page (if-grows (is_in is_item path) p _ _ (grows-same p) (grows-same p)) h
  closing_of-begun o (CodeBlock kind) l path p h = written-begun path (fence_closing l.content p.sheet.feeds) p p (grows-same p) h
  closing_of-begun o HtmlBlock l path p h = html-begun o l.content path p h
  closing_of-begun o (ListOf number) l path p h = list-begun o (ListOf number) l.content path p h
  closing_of-begun o TableHead l path p h = written-begun path (codes "|\n" ++ alignment_row path) p p (grows-same p) h
  closing_of-begun o TableRow l path p h = written-begun path (codes "|") p p (grows-same p) h
  closing_of-begun o TableCell l path p h = begun-header (width_of l.content) ts path (length p.sheet.text) h
  closing_of-begun o DefinitionListDefinition l path p h =
      let shown : Page = with_quote_end path p in
      grown-begun ts path p (with_line_end path shown) (grows-on p shown (with_line_end path shown) (quote-end-grows path p) (line-end-grows path shown)) h
  closing_of-begun o Emphasis l path p h = written-begun path (closing_token l.content) p p (grows-same p) h
  closing_of-begun o Strong l path p h = written-begun path (closing_token l.content) p p (grows-same p) h
  closing_of-begun o Strikethrough l path p h = written-begun path (closing_token l.content) p p (grows-same p) h
  closing_of-begun o Superscript l path p h = written-begun path (closing_token l.content) p p (grows-same p) h
  closing_of-begun o Subscript l path p h = written-begun path (closing_token l.content) p p (grows-same p) h
  closing_of-begun o (Link kind dest title id) l path p h = link-begun kind dest title id l path p h
  closing_of-begun o (Image kind dest title id) l path p h = link-begun kind dest title id l path p h
  closing_of-begun o (MetadataBlock kind) l path p h = written-begun path (metadata_fence kind) p p (grows-same p) h
  closing_of-begun o t l path p h = h

  pub closing-begun : (o : OptionsView) (t : TagView) (path : Path) (p : Page) → Begun (t ∷ ts) path (length p.sheet.text) → ThenBegun ts (closing o path p)
  unfolding closing
  closing-begun o t [] p h = absurd h
  closing-begun o t (l ∷ path) p h = closing_of-begun o l.tag l path p h.2
