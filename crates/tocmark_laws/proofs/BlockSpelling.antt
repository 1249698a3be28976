-- What a paragraph or heading of texts is spelled as: a gap, its mark, and the escape of its texts as one.
use Rattle.std.proofs.Common.{◌≡◌, ◌≢◌, ℕ, ◌-◌, max, Bool, true, false, ◌==◌, ◌&&◌, ◌||◌, nat_lt, List, [], ◌∷◌, ◌++◌, length, replicate, refl, ap, sym, ◌∙◌, arith, append_assoc, append-nil, eq-eqb, Option, Some, None, Ok, chars}
use Rattle.std.proofs.lemmas.Str.{chars-nil}
use Rattle.std.specs.List.{concat}
use Rattle.tocmark_event.specs.Forest.{empty, leaf, node, flat}
use Rattle.tocmark_event.specs.View.{EventView, Start, End, Leaf, Text, SourcedEvent, SourcedLeaf, end_of}
use Rattle.tocmark_event.specs.declared.event.TagEnd.TheVariants as end
use Rattle.tocmark_write_texts.specs.Escape.{Surroundings, escaped}
use Rattle.tocmark_spelling.specs.Body.{Trees, is_broken, some_leaf}
use Rattle.tocmark_spelling.specs.Closing.{closing}
use Rattle.tocmark_spelling.specs.Gap.{gap}
use Rattle.tocmark_spelling.specs.Look.{look}
use Rattle.tocmark_spelling.specs.Opening.{opening, heading_mark}
use Rattle.tocmark_spelling.specs.Page.{Sheet, laid, Path, Page, Site, Around, Trail, OpeningChoice, Plain, Underlined, Held}
use Rattle.tocmark_spelling.specs.declared.trail.Last.{Last}
use Rattle.tocmark_spelling.specs.declared.trail.Last.TheVariants.{Inline, Other, BlockEnd}
use Rattle.tocmark_spelling.specs.Plan.{Setting, Manner}
use Rattle.tocmark_spelling.specs.Spelling.{spelling, then_site, body_or_id, skips_body}
use Rattle.tocmark_spelling.specs.Stretch.{leaf_on, place, held_with, stretch_on}
use Rattle.tocmark_spelling.specs.Runs.{ahead_of, past, beyond}
use Rattle.tocmark_write_renderer.proofs.Laid.{laid-part}
use Rattle.tocmark_choose.specs.Candidates.{preferred_manner, has_source, is_delimiter_block, is_delimiter_tag, is_math, some_tag}
use Rattle.tocmark_choose.specs.Choice as choice
use Rattle.tocmark_choose.specs.Choice.{page_in, spelled, accepted_if, document_after, has_standard_markers}
use Rattle.tocmark_write_labels.specs.Document.{DocumentView}
use Rattle.tocmark_write_pending.specs.Placeholder.{whole, needs_placeholder, needs_placeholder_at, is_ambiguous_list}
use Rattle.tocmark_choose.specs.Chosen.{chosen}
use Rattle.tocmark_choose.proofs.Chosen.{chosen-unlabelled}
use Rattle.tocmark_choose.proofs.PlainUnits.{choice-unasked}
use Rattle.tocmark_laws.specs.TextBlocks.{Kind, ParagraphKind, HeadingKind, Block, HasText, tag_of, mark_of, block_text, place_in, feeds_behind}
use Rattle.tocmark_laws.proofs.BlockEscapes.{IsFilled, no_feed, escaped_filled}
use Rattle.tocmark_laws.proofs.Paragraphs.{either-way, laid-plain, neither_in}

-- the texts of a block as leaves, without sources
abbrev pub text_leaf : List ℕ → SourcedLeaf
text_leaf t = record { leaf = Text t; source = None }

abbrev pub text_trees : List (List ℕ) → Trees
text_trees [] = empty
text_trees (t ∷ ts) = leaf (text_leaf t) (text_trees ts)

-- a block as a tree
abbrev pub unit : Block → Trees
unit b = node (tag_of b.kind) (text_trees b.texts) empty

-- the End that was written last: none, that of a paragraph or heading, or that of a code block
pub data LastEnd : Type 0 where
  NoEnd : LastEnd
  TextEnd : Kind → LastEnd
  CodeEnd : LastEnd

-- what was written last after a block, and at the beginning
abbrev pub last_of : LastEnd → Last
last_of NoEnd = Other
last_of CodeEnd = BlockEnd end.CodeBlock
last_of (TextEnd kind) = BlockEnd (end_of (tag_of kind))

abbrev pub calm : ℕ → Last → Trail
calm owed last = record { owed = owed; last = last; last_list = None; quote_line = None; raw_end = false; open_html = false }

-- a page with nothing but a sheet and such a trail
abbrev pub page_of : Sheet → ℕ → Last → Option Held → Page
page_of sheet owed last held = record { sheet = sheet; trail = calm owed last; references = []; held = held }

-- a sheet at whose end no line feed is
abbrev sheet_of : List ℕ → Sheet
sheet_of text = record { text = text; feeds = 0 }

abbrev pub blank : Sheet
blank = record { text = []; feeds = 0 }

-- what the opening of a block chooses
abbrev content_of : Kind → OpeningChoice
content_of ParagraphKind = Plain
content_of (HeadingKind level) = Underlined false

-- inside a block whose opening ended there
abbrev in_block : Kind → ℕ → Path
in_block kind start = record { tag = tag_of kind; prefix = []; start = start; content = content_of kind } ∷ []

abbrev around : List SourcedEvent → List SourcedEvent → Option EventView → Around
around before after next = record { before = before; after = after; next = next }

abbrev site : Path → Page → Site
site path page = record { path = path; page = page }

none_left : (n : ℕ) → 0 - n ≡ 0
none_left n = omega arith

all_left : (n : ℕ) → max n 0 - 0 ≡ n
all_left n = omega arith

-- the gap before a block
gap_before : (kind : Kind) (before : LastEnd) (owed : ℕ) → gap (Start (tag_of kind)) [] (page_of blank owed (last_of before) None) ≡ page_of (laid [] (replicate (max owed 0 - 0) 10) blank) 0 (last_of before) None
gap_before ParagraphKind NoEnd owed = refl
gap_before ParagraphKind CodeEnd owed = refl
gap_before ParagraphKind (TextEnd ParagraphKind) owed = refl
gap_before ParagraphKind (TextEnd (HeadingKind level)) owed = refl
gap_before (HeadingKind level) NoEnd owed = refl
gap_before (HeadingKind level) CodeEnd owed = refl
gap_before (HeadingKind level) (TextEnd ParagraphKind) owed = refl
gap_before (HeadingKind level) (TextEnd (HeadingKind other)) owed = refl

-- no gap is before a text that begins a block
gap_inside : (kind : Kind) (start : ℕ) (text : List ℕ) (sheet : Sheet) → gap (Leaf (Text text)) (in_block kind start) (page_of sheet 0 Other None) ≡ page_of sheet 0 Other None
gap_inside ParagraphKind start text sheet = ap (λ n. page_of (laid [] (replicate n 10) sheet) 0 Other None) (none_left sheet.feeds)
gap_inside (HeadingKind level) start text sheet = ap (λ n. page_of (laid [] (replicate n 10) sheet) 0 Other None) (none_left sheet.feeds)

or_true : (a b c : Bool) → c ≡ true → (a || b || c) ≡ true
or_true true b c h = refl
or_true false true c h = refl
or_true false false c h = h

itself : (n : ℕ) → (n == n) ≡ true
itself n = eq-eqb n n refl

module _ (s : Setting) where
  abbrev m : Manner
  m = preferred_manner s.options

  -- a text that begins a block is at its front
  place_is : (kind : Kind) (after_close : Bool) (sheet : Sheet) → place s m after_close (Some (End (end_of (tag_of kind)))) (in_block kind (length sheet.text)) (page_of sheet 0 Other None) ≡ place_in s.options s.flags kind
  place_is ParagraphKind after_close sheet = ap (λ b. record (place_in s.options s.flags ParagraphKind) { at_front = b }) (or_true (nat_lt 0 sheet.feeds) (length sheet.text == 0) (length sheet.text == length sheet.text) (itself (length sheet.text)))
  place_is (HeadingKind level) after_close sheet = ap (λ b. record (place_in s.options s.flags (HeadingKind level)) { at_front = b }) (or_true (nat_lt 0 sheet.feeds) (length sheet.text == 0) (length sheet.text == length sheet.text) (itself (length sheet.text)))

  -- where a block's whole text is written
  abbrev written_site : Kind → ℕ → Sheet → List ℕ → Site
  written_site kind start sheet text = site (in_block kind start) (page_of (laid [] (escaped (place_in s.options s.flags kind) text) sheet) 0 Inline None)

  -- the same with the place where the text is
  abbrev placed_site : Kind → ℕ → Surroundings → Page → List ℕ → Site
  placed_site kind start p here text = site (in_block kind start) (record here { sheet = laid [] (escaped p text) here.sheet; trail = record here.trail { last = Inline } })

  stretch_is : (kind : Kind) (h : Held) (start : ℕ) (next : Option EventView) (p here : Page) → gap (Leaf (Text h.text)) (in_block kind start) (record p { held = None }) ≡ here → stretch_on s m h next (in_block kind start) p ≡ placed_site kind start (place s m h.after_close next (in_block kind start) here) here h.text
  stretch_is ParagraphKind h start next p here e = ap (λ (g : Page). placed_site ParagraphKind start (place s m h.after_close next (in_block ParagraphKind start) g) g h.text) e
  stretch_is (HeadingKind level) h start next p here e = ap (λ (g : Page). placed_site (HeadingKind level) start (place s m h.after_close next (in_block (HeadingKind level) start) g) g h.text) e

  stretch_written : (kind : Kind) (h : Held) (held : Option Held) (sheet : Sheet) → stretch_on s m h (Some (End (end_of (tag_of kind)))) (in_block kind (length sheet.text)) (page_of sheet 0 Other held) ≡ written_site kind (length sheet.text) sheet h.text
  stretch_written kind h held sheet =
      stretch_is kind h (length sheet.text) (Some (End (end_of (tag_of kind)))) (page_of sheet 0 Other held) (page_of sheet 0 Other None) (gap_inside kind (length sheet.text) h.text sheet)
      ∙ ap (λ p. placed_site kind (length sheet.text) p (page_of sheet 0 Other None) h.text) (place_is kind h.after_close sheet)

  -- the texts that are held
  abbrev held_text : Option Held → List ℕ
  held_text None = []
  held_text (Some h) = h.text

  held_longer : (held : Option Held) (t : List ℕ) (a : Around) → (held_with held t None a).text ≡ held_text held ++ t
  held_longer None t a = refl
  held_longer (Some h) t a = refl

  -- the last text
  last_text : (kind : Kind) (t : List ℕ) (held : Option Held) (sheet : Sheet) (before after : List SourcedEvent) (next : Option EventView) → let a = around before (End (end_of (tag_of kind)) ∷ after) next in
      spelling s m (leaf (text_leaf t) empty) a (in_block kind (length sheet.text)) (page_of sheet 0 Other held) ≡ Some (stretch_on s m (held_with held t None a) (Some (End (end_of (tag_of kind)))) (in_block kind (length sheet.text)) (page_of sheet 0 Other held))
  unfolding spelling leaf_on
  last_text kind t held sheet before after next = refl

  -- a text that another one follows
  held_on : (kind : Kind) (t u : List ℕ) (ts : List (List ℕ)) (held : Option Held) (sheet : Sheet) (before after : List SourcedEvent) (next : Option EventView) → let a = around before (End (end_of (tag_of kind)) ∷ after) next in
      spelling s m (text_trees (t ∷ u ∷ ts)) a (in_block kind (length sheet.text)) (page_of sheet 0 Other held) ≡ spelling s m (text_trees (u ∷ ts)) (past (Leaf (text_leaf t)) a) (in_block kind (length sheet.text)) (page_of sheet 0 Other (Some (held_with held t None (ahead_of (text_trees (u ∷ ts)) a))))
  unfolding spelling leaf_on
  held_on kind t u ts held sheet before after next = refl

  -- all texts of a block are written as one
  body_written : (kind : Kind) (t : List ℕ) (ts : List (List ℕ)) (held : Option Held) (sheet : Sheet) (before after : List SourcedEvent) (next : Option EventView) → spelling s m (text_trees (t ∷ ts)) (around before (End (end_of (tag_of kind)) ∷ after) next) (in_block kind (length sheet.text)) (page_of sheet 0 Other held) ≡ Some (written_site kind (length sheet.text) sheet (held_text held ++ concat (t ∷ ts)))
  body_written kind t [] held sheet before after next =
      let a = around before (End (end_of (tag_of kind)) ∷ after) next in
      last_text kind t held sheet before after next
      ∙ ap Some (stretch_written kind (held_with held t None a) held sheet)
      ∙ ap (λ x. Some (written_site kind (length sheet.text) sheet x)) (held_longer held t a ∙ ap (λ x. held_text held ++ x) (sym (append-nil t)))
  body_written kind t (u ∷ us) held sheet before after next =
      let a = around before (End (end_of (tag_of kind)) ∷ after) next in
      let h = held_with held t None (ahead_of (text_trees (u ∷ us)) a) in
      held_on kind t u us held sheet before after next
      ∙ body_written kind u us (Some h) sheet (Leaf (text_leaf t) ∷ before) after next
      ∙ ap (λ x. Some (written_site kind (length sheet.text) sheet x)) (ap (λ x. x ++ concat (u ∷ us)) (held_longer held t (ahead_of (text_trees (u ∷ us)) a)) ∙ append_assoc (held_text held) t (concat (u ∷ us)))

  unbroken : (ts : List (List ℕ)) → is_broken (text_trees ts) ≡ false
  unbroken [] = refl
  unbroken (t ∷ ts) = unbroken ts

  -- the opening writes the mark
  opened : (kind : Kind) (ts : List (List ℕ)) (a : Around) (sheet : Sheet) (last : Last) → opening s m (tag_of kind) (look s m (tag_of kind) (text_trees ts) a) [] (page_of sheet 0 last None) ≡ Some (site (in_block kind (length (laid [] (mark_of kind) sheet).text)) (page_of (laid [] (mark_of kind) sheet) 0 Other None))
  unfolding opening
  opened ParagraphKind ts a sheet last = refl
  opened (HeadingKind level) ts a sheet last =
      ap (λ b. let p = page_of (laid [] (heading_mark level b) sheet) 0 Other None in
      Some (site (record { tag = tag_of (HeadingKind level); prefix = []; start = length p.sheet.text; content = Underlined b } ∷ []) p)) (unbroken ts)

  -- the closing writes nothing, and owes line feeds
  closed : (kind : Kind) (start : ℕ) (sheet : Sheet) → closing s.options (in_block kind start) (page_of sheet 0 Inline None) ≡ Some (site [] (page_of sheet (feeds_behind s.options kind) (last_of (TextEnd kind)) None))
  unfolding closing
  closed ParagraphKind start sheet = refl
  closed (HeadingKind level) start sheet = refl

  -- the rest of a block, once its texts are written, once it is open, and once its gap is written
  abbrev from_texts : Kind → List (List ℕ) → Option EventView → Site → Option Site
  from_texts kind ts next full =
      then_site (closing s.options full.path full.page) (λ here. spelling s m empty (beyond (tag_of kind) (text_trees ts) (around [] [] next)) here.path here.page)

  abbrev from_opening : Kind → List (List ℕ) → Option EventView → Site → Option Site
  from_opening kind ts next here =
      then_site (body_or_id (skips_body here.path) (tag_of kind) here (λ here. spelling s m (text_trees ts) (around (Start (tag_of kind) ∷ []) (End (end_of (tag_of kind)) ∷ []) next) here.path here.page)) (λ full. from_texts kind ts next full)

  abbrev from_gap : Kind → List (List ℕ) → Option EventView → Page → Option Site
  from_gap kind ts next p =
      then_site (opening s m (tag_of kind) (look s m (tag_of kind) (text_trees ts) (around [] [] next)) [] p) (λ here. from_opening kind ts next here)

  begun : (kind : Kind) (ts : List (List ℕ)) (next : Option EventView) (p : Page) → spelling s m (node (tag_of kind) (text_trees ts) empty) (whole next) [] p ≡ from_gap kind ts next (gap (Start (tag_of kind)) [] p)
  unfolding spelling
  begun kind ts next p = refl

  entered : (kind : Kind) (start : ℕ) (ts : List (List ℕ)) (next : Option EventView) (p : Page) → from_opening kind ts next (site (in_block kind start) p) ≡ then_site (spelling s m (text_trees ts) (around (Start (tag_of kind) ∷ []) (End (end_of (tag_of kind)) ∷ []) next) (in_block kind start) p) (λ full. from_texts kind ts next full)
  entered ParagraphKind start ts next p = refl
  entered (HeadingKind level) start ts next p = refl

  ended : (kind : Kind) (start : ℕ) (ts : List (List ℕ)) (next : Option EventView) (sheet : Sheet) → from_texts kind ts next (site (in_block kind start) (page_of sheet 0 Inline None)) ≡ Some (site [] (page_of sheet (feeds_behind s.options kind) (last_of (TextEnd kind)) None))
  unfolding spelling
  ended kind start ts next sheet =
      ap (λ o. then_site o (λ here. spelling s m empty (beyond (tag_of kind) (text_trees ts) (around [] [] next)) here.path here.page)) (closed kind start sheet)

  -- the sheet of a block after so many line feeds, before its text
  abbrev marked : ℕ → Kind → Sheet
  marked owed kind = laid [] (mark_of kind) (laid [] (replicate owed 10) blank)

  abbrev escape_of : Kind → List ℕ → List ℕ
  escape_of kind text = escaped (place_in s.options s.flags kind) text

  -- a block's page
  abbrev left_page : Kind → Sheet → Page
  left_page kind sheet = page_of sheet (feeds_behind s.options kind) (last_of (TextEnd kind)) None

  -- a block is spelled as its gap, its mark and the escape of its texts
  unit_spelled : (kind : Kind) (t : List ℕ) (ts : List (List ℕ)) (before : LastEnd) (owed : ℕ) (next : Option EventView) → spelling s m (node (tag_of kind) (text_trees (t ∷ ts)) empty) (whole next) [] (page_of blank owed (last_of before) None) ≡ Some (site [] (left_page kind (laid [] (escape_of kind (concat (t ∷ ts))) (marked owed kind))))
  unit_spelled kind t ts before owed next =
      begun kind (t ∷ ts) next (page_of blank owed (last_of before) None)
      ∙ ap (from_gap kind (t ∷ ts) next) (gap_before kind before owed ∙ ap (λ n. page_of (laid [] (replicate n 10) blank) 0 (last_of before) None) (all_left owed))
      ∙ ap (λ o. then_site o (λ here. from_opening kind (t ∷ ts) next here)) (opened kind (t ∷ ts) (around [] [] next) (laid [] (replicate owed 10) blank) (last_of before))
      ∙ entered kind (length (marked owed kind).text) (t ∷ ts) next (page_of (marked owed kind) 0 Other None)
      ∙ ap (λ o. then_site o (λ full. from_texts kind (t ∷ ts) next full)) (body_written kind t ts None (marked owed kind) (Start (tag_of kind) ∷ []) [] next)
      ∙ ended kind (length (marked owed kind).text) (t ∷ ts) next (laid [] (escape_of kind (concat (t ∷ ts))) (marked owed kind))

  marked_text : (owed : ℕ) (kind : Kind) → (marked owed kind).text ≡ replicate owed 10 ++ mark_of kind
  marked_text owed kind =
      laid-plain (mark_of kind) (laid [] (replicate owed 10) blank) ∙ ap (λ x. x ++ mark_of kind) (laid-plain (replicate owed 10) blank)

  -- what is on that page
  sheet_is : (owed : ℕ) (kind : Kind) (text : List ℕ) → chars text ≢ [] → laid [] (escape_of kind text) (marked owed kind) ≡ sheet_of (replicate owed 10 ++ (mark_of kind ++ escape_of kind text))
  sheet_is owed kind text h =
      let e = escape_of kind text in
      let filled : IsFilled e = escaped_filled s.options s.flags kind text h in
      laid-part [] e (marked owed kind) (no_feed e filled.feedless) (λ z. omega (arith, z, filled.some))
      ∙ ap (λ (x : List ℕ). sheet_of (((marked owed kind).text ++ x) ++ e)) (either-way (nat_lt 0 (marked owed kind).feeds) [])
      ∙ ap (λ x. sheet_of (x ++ e)) (append-nil (marked owed kind).text)
      ∙ ap (λ x. sheet_of (x ++ e)) (marked_text owed kind)
      ∙ ap sheet_of (append_assoc (replicate owed 10) (mark_of kind) e)

-- a document after a block, or at its beginning, which owes so many line feeds
pub record IsCalm (d : DocumentView) (owed : ℕ) (before : LastEnd) : Type 0 where
  pub trail : d.trail ≡ calm owed (last_of before)
  pub feeds : d.feeds ≡ 0
  pub none : d.references ≡ []

page_is : (d : DocumentView) (owed : ℕ) (before : LastEnd) → IsCalm d owed before → page_in d ≡ page_of blank owed (last_of before) None
page_is d owed before h =
    ap (λ n. record { sheet = record { text = []; feeds = n }; trail = d.trail; references = []; held = None }) h.feeds
    ∙ ap (λ t. record { sheet = blank; trail = t; references = []; held = None }) h.trail

some_text : (b : Block) → HasText b → (b.texts ≡ []) → ⊥
some_text b h e = h (ap (λ ts. chars (concat ts)) e ∙ chars-nil)

no_sources : (ts : List (List ℕ)) → has_source (text_trees ts) ≡ false
no_sources [] = refl
no_sources (t ∷ ts) = no_sources ts

texts_undelimited : (ts : List (List ℕ)) → is_delimiter_block (text_trees ts) ≡ false
texts_undelimited [] = refl
texts_undelimited (t ∷ ts) = texts_undelimited ts

-- no block has delimiters
block_undelimited : (b : Block) → is_delimiter_block (unit b) ≡ false
block_undelimited b = by_kind b.kind
  where
    none : ((some_tag is_delimiter_tag (text_trees b.texts) || false) || (some_leaf is_math (text_trees b.texts) || false)) ≡ false
    none = neither_in (some_tag is_delimiter_tag (text_trees b.texts)) (some_leaf is_math (text_trees b.texts)) (texts_undelimited b.texts)

    by_kind : (kind : Kind) → is_delimiter_block (node (tag_of kind) (text_trees b.texts) empty) ≡ false
    by_kind ParagraphKind = none
    by_kind (HeadingKind level) = none

-- no block needs a placeholder
texts_placed : (ts : List (List ℕ)) (a : Around) → needs_placeholder_at (text_trees ts) a ≡ false
texts_placed [] a = refl
texts_placed (t ∷ ts) a = texts_placed ts (record a { before = Leaf (text_leaf t) ∷ a.before })

pub block_placed : (b : Block) → needs_placeholder (unit b) ≡ false
unfolding needs_placeholder
block_placed b = by_kind b.kind
  where
    by_kind : (kind : Kind) → (is_ambiguous_list (tag_of kind) (text_trees b.texts) (record { before = []; after = []; next = None }) || needs_placeholder_at (text_trees b.texts) (record { before = Start (tag_of kind) ∷ []; after = End (end_of (tag_of kind)) ∷ []; next = None }) || false) ≡ false
    by_kind ParagraphKind = ap (λ x. x || false) (texts_placed b.texts _)
    by_kind (HeadingKind level) = ap (λ x. x || false) (texts_placed b.texts _)

module _ (s : Setting) (d : DocumentView) (b : Block) (next : Option EventView) where
  abbrev unit_text : ℕ → List ℕ
  unit_text owed = replicate owed 10 ++ block_text s.options s.flags b

  abbrev unit_page : ℕ → Page
  unit_page owed = left_page s b.kind (record { text = unit_text owed; feeds = 0 })

  -- the choice for a block is the line feeds that are owed, its mark and the escape of its texts
  pub record IsChosen (owed : ℕ) : Type 0 where
    pub document : DocumentView
    pub is : chosen s d (flat (unit b)) next ≡ Ok (unit_text owed, document)
    pub after : IsCalm document (feeds_behind s.options b.kind) (TextEnd b.kind)

  page_spelled : (owed : ℕ) (before : LastEnd) → IsCalm d owed before → HasText b → spelled s d (unit b) next (preferred_manner s.options) ≡ Some (unit_page owed)
  unfolding spelled
  page_spelled owed before h some = by_texts b.texts refl
    where
      by_texts : (ts : List (List ℕ)) → b.texts ≡ ts → choice.page_of (spelling s (preferred_manner s.options) (unit b) (whole next) [] (page_in d)) ≡ Some (unit_page owed)
      by_texts [] e = absurd (some_text b some e)
      by_texts (t ∷ ts) e =
          ap (λ p. choice.page_of (spelling s (preferred_manner s.options) (unit b) (whole next) [] p)) (page_is d owed before h)
          ∙ ap (λ us. choice.page_of (spelling s (preferred_manner s.options) (node (tag_of b.kind) (text_trees us) empty) (whole next) [] (page_of blank owed (last_of before) None))) e
          ∙ ap choice.page_of (unit_spelled s b.kind t ts before owed next)
          ∙ ap (λ us. Some (left_page s b.kind (laid [] (escape_of s b.kind (concat us)) (marked s owed b.kind)))) (sym e)
          ∙ ap (λ x. Some (left_page s b.kind x)) (sheet_is s owed b.kind (concat b.texts) some)

  left_calm : (owed : ℕ) (before : LastEnd) → IsCalm d owed before → IsCalm (document_after s d (unit_page owed)) (feeds_behind s.options b.kind) (TextEnd b.kind)
  unfolding document_after
  left_calm owed before h = record { trail = refl; feeds = refl; none = append-nil d.references ∙ h.none }

  unasked : (has_source (unit b) && has_standard_markers s.options) ≡ false
  unasked = ap (λ x. (x || false) && has_standard_markers s.options) (no_sources b.texts)

  pub block_chosen : s.options.check_plain_blocks ≡ false → s.label ≡ None → (owed : ℕ) (before : LastEnd) → IsCalm d owed before → HasText b → IsChosen owed
  block_chosen off none owed before h some = record {
    document = document_after s d (unit_page owed);
    is =
        chosen-unlabelled s d (unit b) next none (block_placed b)
        ∙ choice-unasked s d (unit b) next (block_undelimited b) off unasked
        ∙ ap (accepted_if s d) (page_spelled owed before h some);
    after = left_calm owed before h;
  }
