-- What a plain block is spelled as in any containers, once its gap is written.
use Rattle.std.proofs.Common.{◌≡◌, ℕ, ◌+◌, ◌-◌, ◌<◌, max, Bool, true, false, not, ◌==◌, ◌||◌, if◌then◌else◌, nat_lt, List, [], ◌∷◌, ◌++◌, length, replicate, chars, codes, flat_map, refl, ap, sym, ◌∙◌, arith, append_assoc, append-nil, length-append, zero, suc, ◌≤◌, Option, Some, None}
use Rattle.std.proofs.lemmas.Bool.Decides.{nat_tests}
use Rattle.std.specs.List.{AllByRecursion, concat}
use Rattle.tocmark_event.specs.Forest.{empty, leaf, node, flat_onto}
use Rattle.tocmark_event.specs.View.{EventView, Start, End, Leaf, Text, SoftBreak, Rule, Paragraph, CodeBlock, Fenced, TagView, SourcedEvent, SourcedLeaf, end_of}
use Rattle.tocmark_event.specs.declared.event.HeadingLevel.{HeadingLevel}
use Rattle.tocmark_event.specs.declared.event.TagEnd.TheVariants as end
use Rattle.tocmark_write_texts.specs.Escape.{Surroundings, escaped}
use Rattle.tocmark_spelling.specs.Body.{Trees, joined_by, text_of_leaf, is_broken}
use Rattle.tocmark_spelling.specs.Closing.{closing}
use Rattle.tocmark_spelling.specs.Gap.{gap}
use Rattle.tocmark_spelling.specs.Kinds.{is_heading, is_table}
use Rattle.tocmark_spelling.specs.Look.{look}
use Rattle.tocmark_spelling.specs.Opening.{opening, entered_if, heading_mark, level_number, fence, info_byte, on_new_line}
use Rattle.tocmark_spelling.specs.Page.{Sheet, laid, prefix_of, Path, Page, Site, Around, Plain, Underlined, Fence, Held, with_last, written}
use Rattle.tocmark_spelling.specs.Places.{is_in, is_raw, widened}
use Rattle.tocmark_spelling.specs.Plan.{Setting, Manner}
use Rattle.tocmark_spelling.specs.Runs.{ahead_of, beyond, inside, past}
use Rattle.tocmark_spelling.specs.Spelling.{spelling, then_site, body_or_id, skips_body}
use Rattle.tocmark_spelling.specs.Stretch.{at_front, leaf_on, place, held_with, stretch_on, rule_text}
use Rattle.tocmark_spelling.specs.declared.trail.Last.{Last}
use Rattle.tocmark_spelling.specs.declared.trail.Last.TheVariants.{Inline, Other, BlockEnd}
use Rattle.tocmark_choose.specs.Candidates.{preferred_manner}
use Rattle.tocmark_write_renderer.specs.WriterOf.{HasNoFeed}
use Rattle.tocmark_write_renderer.proofs.Laid.{laid-append}
use Rattle.tocmark_laws.specs.PlainLines.{PlacedLine}
use Rattle.tocmark_laws.specs.TextBlocks.{ParagraphKind, HeadingKind, tag_of, mark_of, place_in, feeds_behind}
use Rattle.tocmark_laws.proofs.BlockEscapes.{IsFilled, no_feed}
use Rattle.tocmark_laws.proofs.BlockSpelling.{text_leaf, text_trees, page_of}
use Rattle.tocmark_laws.proofs.CodeBlocks as code
use Rattle.tocmark_laws.proofs.DocumentSpelling.{escape_stands, rule_leaf}
use Rattle.tocmark_laws.proofs.PlainEscapes.{ArePrintable}
use Rattle.tocmark_laws.proofs.PlainEscapedTexts.{IsLine}
use Rattle.tocmark_laws.proofs.PlainSpelling.{break_leaf, line_trees, line_place, placed, AreLinesIn}
use Rattle.tocmark_document_laws.specs.DocumentLines.{code_text, paragraph_lines}
use Rattle.tocmark_document_laws.proofs.Under.{lines_at, text_at, within, line_laid, line_texts, lines_feeds, lines_laid, lines_then, some_under}

abbrev pub site : Path → Page → Site
site path page = record { path = path; page = page }

abbrev pub around : List SourcedEvent → List SourcedEvent → Option EventView → Around
around before after next = record { before = before; after = after; next = next }

-- containers in which texts are escaped, and that are no heading and no table
pub record IsSpot (path : Path) : Type 0 where
  pub raw : is_raw path ≡ false
  pub heading : is_in is_heading path ≡ false
  pub table : is_in is_table path ≡ false
  pub cells : (n : ℕ) → widened n path ≡ path

none_left : (n : ℕ) → 0 - n ≡ 0
none_left n = omega arith

itself : (n : ℕ) → (n == n) ≡ true
itself n = grind (arith, nat_tests)

or_true : (a b c : Bool) → c ≡ true → (a || b || c) ≡ true
or_true true b c h = refl
or_true false true c h = refl
or_true false false c h = h

pub printable_feedless : (xs : List ℕ) → ArePrintable xs → HasNoFeed xs
printable_feedless [] h = tt
printable_feedless (x ∷ xs) h = let low : 32 ≤ x = (h.0).low in (let e : (x == 10) ≡ false = grind (arith, low, nat_tests) in e, printable_feedless xs (h.1))

module _ (s : Setting) where
  abbrev m : Manner
  m = preferred_manner s.options

  -- a container in steps: its gap, its opening, its body and its closing
  abbrev from_closing : TagView → Trees → Trees → Around → Site → Option Site
  from_closing t kids f a here = spelling s m f (beyond t kids a) here.path here.page

  abbrev from_body : TagView → Trees → Trees → Around → Site → Option Site
  from_body t kids f a full = then_site (closing s.options full.path full.page) (λ here. from_closing t kids f a here)

  abbrev from_open : TagView → Trees → Trees → Around → Site → Bool → Option Site
  from_open t kids f a open_ skips =
      then_site (body_or_id skips t open_ (λ here. spelling s m kids (inside t (ahead_of f a)) here.path here.page)) (λ full. from_body t kids f a full)

  abbrev from_gap : TagView → Trees → Trees → Around → Path → Page → Option Site
  from_gap t kids f a path p =
      then_site (opening s m t (look s m t kids (ahead_of f a)) path p) (λ open_. from_open t kids f a open_ (skips_body open_.path))

  node_is : (t : TagView) (kids f : Trees) (a : Around) (path : Path) (p : Page) → spelling s m (node t kids f) a path p ≡ from_gap t kids f a path (gap (Start t) path p)
  unfolding spelling
  node_is t kids f a path p = refl

  pub node_spelled : (t : TagView) (kids f : Trees) (a : Around) (path : Path) (p g : Page) (o full here : Site) →
      gap (Start t) path p ≡ g → opening s m t (look s m t kids (ahead_of f a)) path g ≡ Some o → skips_body o.path ≡ false →
      spelling s m kids (inside t (ahead_of f a)) o.path o.page ≡ Some full → closing s.options full.path full.page ≡ Some here →
      spelling s m (node t kids f) a path p ≡ spelling s m f (beyond t kids a) here.path here.page
  node_spelled t kids f a path p g o full here gapped opened skips body closed =
      node_is t kids f a path p
      ∙ ap (from_gap t kids f a path) gapped
      ∙ ap (λ r. then_site r (λ open_. from_open t kids f a open_ (skips_body open_.path))) opened
      ∙ ap (from_open t kids f a o) skips
      ∙ ap (λ r. then_site r (λ full. from_body t kids f a full)) body
      ∙ ap (λ r. then_site r (λ here. from_closing t kids f a here)) closed

  pub leaf_spelled : (l : SourcedLeaf) (f : Trees) (a : Around) (path : Path) (p : Page) (here : Site) → leaf_on s m l (ahead_of f a) path p ≡ here → spelling s m (leaf l f) a path p ≡ spelling s m f (past (Leaf l) a) here.path here.page
  unfolding spelling
  leaf_spelled l f a path p here e = ap (λ (x : Site). spelling s m f (past (Leaf l) a) x.path x.page) e

  pub end_spelled : (a : Around) (path : Path) (p : Page) → spelling s m empty a path p ≡ Some (site path p)
  unfolding spelling
  end_spelled a path p = refl

  module _ (path : Path) (spot : IsSpot path) where
    abbrev p : List ℕ
    p = prefix_of path

    -- inside a block that has no prefix of its own
    abbrev q : List ℕ
    q = prefix_of path ++ []

    -- paragraphs

    abbrev par : Path → ℕ → Path
    par path start = record { tag = Paragraph; prefix = []; start = start; content = Plain } ∷ path

    abbrev in_par : ℕ → Path
    in_par start = par path start

    par_gap : (start : ℕ) (text : List ℕ) (sheet : Sheet) → gap (Leaf (Text text)) (in_par start) (page_of sheet 0 Other None) ≡ page_of sheet 0 Other None
    par_gap start text sheet = ap (λ n. page_of (laid q (replicate n 10) sheet) 0 Other None) (none_left sheet.feeds)

    -- a stretch of a paragraph's text: whether it is raw, its place, and the containers after it
    abbrev stretched : ℕ → Bool → Surroundings → Path → Page → List ℕ → Site
    stretched start raw place wide here text =
        site (par wide start) (with_last Inline (written (in_par start) (if raw then text else escaped place text) here))

    abbrev placed_so : EventView → Bool → Bool → Bool → Surroundings
    placed_so next front table heading = record (line_place s m next) { at_front = front; in_table = table; in_heading = heading }

    abbrev par_site : ℕ → Sheet → Site
    par_site start sheet = site (in_par start) (page_of sheet 0 Inline None)

    stretch_at : (start : ℕ) (h : Held) (next : EventView) (sheet : Sheet) (last : Last) →
        gap (Leaf (Text h.text)) (in_par start) (page_of sheet 0 last None) ≡ page_of sheet 0 last None → at_front (in_par start) (page_of sheet 0 last None) ≡ true →
        stretch_on s m h (Some next) (in_par start) (page_of sheet 0 last None) ≡ par_site start (laid q (escaped (line_place s m next) h.text) sheet)
    stretch_at start h next sheet last gapped front =
        let here : Page = page_of sheet 0 last None in
        let n : ℕ = length (chars h.text) in
        ap (λ (g : Page). stretched start (is_raw path) (place s m h.after_close (Some next) (in_par start) g) (widened n path) g h.text) gapped
        ∙ ap (λ b. stretched start b (place s m h.after_close (Some next) (in_par start) here) (widened n path) here h.text) spot.raw
        ∙ ap (λ w. stretched start false (place s m h.after_close (Some next) (in_par start) here) w here h.text) (spot.cells n)
        ∙ ap (λ b. stretched start false (placed_so next b (is_in is_table path) (is_in is_heading path)) path here h.text) front
        ∙ ap (λ b. stretched start false (placed_so next true b (is_in is_heading path)) path here h.text) spot.table
        ∙ ap (λ b. stretched start false (placed_so next true false b) path here h.text) spot.heading

    -- the first text is at the front, and so is each one after a soft break
    first_stretch : (h : Held) (next : EventView) (sheet : Sheet) → stretch_on s m h (Some next) (in_par (length sheet.text)) (page_of sheet 0 Other None) ≡ par_site (length sheet.text) (laid q (escaped (line_place s m next) h.text) sheet)
    first_stretch h next sheet =
        stretch_at (length sheet.text) h next sheet Other (par_gap (length sheet.text) h.text sheet)
        (or_true (nat_lt 0 sheet.feeds) (length sheet.text == 0) (length sheet.text == length sheet.text) (itself (length sheet.text)))

    abbrev begun : List ℕ → Sheet
    begun text = record { text = text; feeds = 1 }

    later_stretch : (start : ℕ) (h : Held) (next : EventView) (text : List ℕ) → stretch_on s m h (Some next) (in_par start) (page_of (begun text) 0 Inline None) ≡ par_site start (laid q (escaped (line_place s m next) h.text) (begun text))
    later_stretch start h next text = stretch_at start h next (begun text) Inline refl refl

    text_last : (l : List ℕ) (before after : List SourcedEvent) (next : Option EventView) (path : Path) (p : Page) → leaf_on s m (text_leaf l) (around before (End end.Paragraph ∷ after) next) path (record p { held = None }) ≡ stretch_on s m (held_with None l None (around before (End end.Paragraph ∷ after) next)) (Some (End end.Paragraph)) path (record p { held = None })
    unfolding leaf_on
    text_last l before after next path p = refl

    text_then : (l : List ℕ) (before after : List SourcedEvent) (next : Option EventView) (path : Path) (p : Page) → leaf_on s m (text_leaf l) (around before (Leaf break_leaf ∷ after) next) path (record p { held = None }) ≡ stretch_on s m (held_with None l None (around before (Leaf break_leaf ∷ after) next)) (Some (Leaf SoftBreak)) path (record p { held = None })
    unfolding leaf_on
    text_then l before after next path p = refl

    break_laid : (start : ℕ) (text : List ℕ) (a : Around) → leaf_on s m break_leaf a (in_par start) (page_of (within text) 0 Inline None) ≡ par_site start (begun (text ++ 10 ∷ []))
    unfolding leaf_on
    break_laid start text a = ap (λ x. par_site start (begun (x ++ 10 ∷ []))) (append-nil text)

    -- the escapes of lines
    abbrev escapes : List ℕ → List (List ℕ) → List (List ℕ)
    escapes l ms = paragraph_lines s.options s.flags l ms

    escape_laid : (l : PlacedLine) (sheet : Sheet) → IsLine l → laid q (escaped l.0 l.1) sheet ≡ within (text_at q sheet ++ escaped l.0 l.1)
    escape_laid l sheet h = let stands = escape_stands l h in line_laid q (escaped l.0 l.1) sheet (stands.0) (printable_feedless (escaped l.0 l.1) (stands.1))

    later_lines : (start : ℕ) (text l : List ℕ) (ms : List (List ℕ)) (before after : List SourcedEvent) (next : Option EventView) → AreLinesIn s m (l ∷ ms) → spelling s m (line_trees l ms) (around before (End end.Paragraph ∷ after) next) (in_par start) (page_of (begun text) 0 Inline None) ≡ Some (par_site start (within ((text ++ q) ++ lines_at q (escapes l ms))))
    later_lines start text l [] before after next h =
        let line : List ℕ = escaped (line_place s m (End end.Paragraph)) l in
        leaf_spelled (text_leaf l) empty (around before (End end.Paragraph ∷ after) next) (in_par start) (page_of (begun text) 0 Inline None) _
        (text_last l before after next (in_par start) (page_of (begun text) 0 Inline None) ∙ later_stretch start (held_with None l None (around before (End end.Paragraph ∷ after) next)) (End end.Paragraph) text ∙ ap (par_site start) (escape_laid (placed s m l []) (begun text) (h.0)))
        ∙ end_spelled _ (in_par start) (page_of (within ((text ++ q) ++ line)) 0 Inline None)
        ∙ ap (λ (x : List ℕ). Some (par_site start (within ((text ++ q) ++ x)))) (sym (append-nil line))
    later_lines start text l (n ∷ ms) before after next h =
        let line : List ℕ = escaped (line_place s m (Leaf SoftBreak)) l in
        let all : Around = around before (End end.Paragraph ∷ after) next in
        let here : Around = ahead_of (leaf break_leaf (line_trees n ms)) all in
        leaf_spelled (text_leaf l) (leaf break_leaf (line_trees n ms)) all (in_par start) (page_of (begun text) 0 Inline None) _
        (text_then l before (flat_onto (line_trees n ms) (End end.Paragraph ∷ after)) next (in_par start) (page_of (begun text) 0 Inline None) ∙ later_stretch start (held_with None l None here) (Leaf SoftBreak) text ∙ ap (par_site start) (escape_laid (placed s m l (n ∷ ms)) (begun text) (h.0)))
        ∙ leaf_spelled break_leaf (line_trees n ms) (past (Leaf (text_leaf l)) all) (in_par start) (page_of (within ((text ++ q) ++ line)) 0 Inline None) _ (break_laid start ((text ++ q) ++ line) _)
        ∙ later_lines start (((text ++ q) ++ line) ++ 10 ∷ []) n ms (Leaf break_leaf ∷ Leaf (text_leaf l) ∷ before) after next (h.1)
        ∙ ap (λ (x : List ℕ). Some (par_site start (within x))) (joined n ms)
      where
        joined : (n : List ℕ) (ms : List (List ℕ)) → ((((text ++ q) ++ escaped (line_place s m (Leaf SoftBreak)) l) ++ 10 ∷ []) ++ q) ++ lines_at q (escapes n ms) ≡ (text ++ q) ++ lines_at q (escaped (line_place s m (Leaf SoftBreak)) l ∷ escapes n ms)
        joined n [] = lines_then q (text ++ q) (escaped (line_place s m (Leaf SoftBreak)) l) (escaped (line_place s m (End end.Paragraph)) n) []
        joined n (k ∷ ms) = lines_then q (text ++ q) (escaped (line_place s m (Leaf SoftBreak)) l) (escaped (line_place s m (Leaf SoftBreak)) n) (escapes k ms)

    first_lines : (sheet : Sheet) (l : List ℕ) (ms : List (List ℕ)) (before after : List SourcedEvent) (next : Option EventView) → AreLinesIn s m (l ∷ ms) → spelling s m (line_trees l ms) (around before (End end.Paragraph ∷ after) next) (in_par (length sheet.text)) (page_of sheet 0 Other None) ≡ Some (par_site (length sheet.text) (within (text_at q sheet ++ lines_at q (escapes l ms))))
    first_lines sheet l [] before after next h =
        let start : ℕ = length sheet.text in
        let line : List ℕ = escaped (line_place s m (End end.Paragraph)) l in
        leaf_spelled (text_leaf l) empty (around before (End end.Paragraph ∷ after) next) (in_par start) (page_of sheet 0 Other None) _
        (text_last l before after next (in_par start) (page_of sheet 0 Other None) ∙ first_stretch (held_with None l None (around before (End end.Paragraph ∷ after) next)) (End end.Paragraph) sheet ∙ ap (par_site start) (escape_laid (placed s m l []) sheet (h.0)))
        ∙ end_spelled _ (in_par start) (page_of (within (text_at q sheet ++ line)) 0 Inline None)
        ∙ ap (λ (x : List ℕ). Some (par_site start (within (text_at q sheet ++ x)))) (sym (append-nil line))
    first_lines sheet l (n ∷ ms) before after next h =
        let start : ℕ = length sheet.text in
        let line : List ℕ = escaped (line_place s m (Leaf SoftBreak)) l in
        let all : Around = around before (End end.Paragraph ∷ after) next in
        let here : Around = ahead_of (leaf break_leaf (line_trees n ms)) all in
        leaf_spelled (text_leaf l) (leaf break_leaf (line_trees n ms)) all (in_par start) (page_of sheet 0 Other None) _
        (text_then l before (flat_onto (line_trees n ms) (End end.Paragraph ∷ after)) next (in_par start) (page_of sheet 0 Other None) ∙ first_stretch (held_with None l None here) (Leaf SoftBreak) sheet ∙ ap (par_site start) (escape_laid (placed s m l (n ∷ ms)) sheet (h.0)))
        ∙ leaf_spelled break_leaf (line_trees n ms) (past (Leaf (text_leaf l)) all) (in_par start) (page_of (within (text_at q sheet ++ line)) 0 Inline None) _ (break_laid start (text_at q sheet ++ line) _)
        ∙ later_lines start ((text_at q sheet ++ line) ++ 10 ∷ []) n ms (Leaf break_leaf ∷ Leaf (text_leaf l) ∷ before) after next (h.1)
        ∙ ap (λ (x : List ℕ). Some (par_site start (within x))) (joined n ms)
      where
        joined : (n : List ℕ) (ms : List (List ℕ)) → (((text_at q sheet ++ escaped (line_place s m (Leaf SoftBreak)) l) ++ 10 ∷ []) ++ q) ++ lines_at q (escapes n ms) ≡ text_at q sheet ++ lines_at q (escaped (line_place s m (Leaf SoftBreak)) l ∷ escapes n ms)
        joined n [] = lines_then q (text_at q sheet) (escaped (line_place s m (Leaf SoftBreak)) l) (escaped (line_place s m (End end.Paragraph)) n) []
        joined n (k ∷ ms) = lines_then q (text_at q sheet) (escaped (line_place s m (Leaf SoftBreak)) l) (escaped (line_place s m (Leaf SoftBreak)) n) (escapes k ms)

    par_opened : (kids : Trees) (a : Around) (sheet : Sheet) (last : Last) → opening s m Paragraph (look s m Paragraph kids a) path (page_of sheet 0 last None) ≡ Some (site (in_par (length sheet.text)) (page_of sheet 0 Other None))
    unfolding opening
    par_opened kids a sheet last = refl

    abbrev pub par_page : List ℕ → Page
    par_page text = page_of (within text) (feeds_behind s.options ParagraphKind) (BlockEnd end.Paragraph) None

    par_closed : (start : ℕ) (text : List ℕ) → closing s.options (in_par start) (page_of (within text) 0 Inline None) ≡ Some (site path (par_page text))
    unfolding closing
    par_closed start text = refl

    -- a paragraph is its lines
    pub paragraph_at : (l : List ℕ) (ms : List (List ℕ)) (f : Trees) (a : Around) (page : Page) (sheet : Sheet) (last : Last) → gap (Start Paragraph) path page ≡ page_of sheet 0 last None → AreLinesIn s m (l ∷ ms) →
        spelling s m (node Paragraph (line_trees l ms) f) a path page ≡ spelling s m f (beyond Paragraph (line_trees l ms) a) path (par_page (text_at p sheet ++ lines_at p (paragraph_lines s.options s.flags l ms)))
    paragraph_at l ms f a page sheet last gapped h =
        let kids : Trees = line_trees l ms in
        let start : ℕ = length sheet.text in
        let text : List ℕ = text_at q sheet ++ lines_at q (escapes l ms) in
        node_spelled Paragraph kids f a path page (page_of sheet 0 last None) (site (in_par start) (page_of sheet 0 Other None)) (par_site start (within text)) (site path (par_page text))
        gapped (par_opened kids (ahead_of f a) sheet last) refl (first_lines sheet l ms (Start Paragraph ∷ a.before) (flat_onto f a.after) a.next h) (par_closed start text)
        ∙ ap (λ (x : List ℕ). spelling s m f (beyond Paragraph kids a) path (par_page (text_at x sheet ++ lines_at x (escapes l ms)))) (append-nil p)

    -- headings

    abbrev head : Path → HeadingLevel → ℕ → Path
    head path level start = record { tag = tag_of (HeadingKind level); prefix = []; start = start; content = Underlined false } ∷ path

    abbrev in_head : HeadingLevel → ℕ → Path
    in_head level start = head path level start

    abbrev head_place : HeadingLevel → Surroundings
    head_place level = place_in s.options s.flags (HeadingKind level)

    abbrev head_so : HeadingLevel → Bool → Bool → Surroundings
    head_so level front table = record (head_place level) { at_front = front; in_table = table }

    abbrev head_end : HeadingLevel → SourcedEvent
    head_end level = End (end_of (tag_of (HeadingKind level)))

    abbrev titled : HeadingLevel → ℕ → Bool → Surroundings → Path → Page → List ℕ → Site
    titled level start raw place wide here text =
        site (head wide level start) (with_last Inline (written (in_head level start) (if raw then text else escaped place text) here))

    abbrev head_site : HeadingLevel → ℕ → Sheet → Site
    head_site level start sheet = site (in_head level start) (page_of sheet 0 Inline None)

    head_gap : (level : HeadingLevel) (start : ℕ) (text : List ℕ) (sheet : Sheet) → gap (Leaf (Text text)) (in_head level start) (page_of sheet 0 Other None) ≡ page_of sheet 0 Other None
    head_gap level start text sheet = ap (λ n. page_of (laid q (replicate n 10) sheet) 0 Other None) (none_left sheet.feeds)

    head_stretch : (level : HeadingLevel) (h : Held) (held : Option Held) (sheet : Sheet) → stretch_on s m h (Some (End (end_of (tag_of (HeadingKind level))))) (in_head level (length sheet.text)) (page_of sheet 0 Other held) ≡ head_site level (length sheet.text) (laid q (escaped (head_place level) h.text) sheet)
    head_stretch level h held sheet =
        let start : ℕ = length sheet.text in
        let here : Page = page_of sheet 0 Other None in
        let next : EventView = End (end_of (tag_of (HeadingKind level))) in
        let n : ℕ = length (chars h.text) in
        ap (λ (g : Page). titled level start (is_raw path) (place s m h.after_close (Some next) (in_head level start) g) (widened n path) g h.text) (head_gap level start h.text sheet)
        ∙ ap (λ b. titled level start b (place s m h.after_close (Some next) (in_head level start) here) (widened n path) here h.text) spot.raw
        ∙ ap (λ w. titled level start false (place s m h.after_close (Some next) (in_head level start) here) w here h.text) (spot.cells n)
        ∙ ap (λ b. titled level start false (head_so level b (is_in is_table path)) path here h.text) (or_true (nat_lt 0 sheet.feeds) (start == 0) (start == start) (itself start))
        ∙ ap (λ b. titled level start false (head_so level true b) path here h.text) spot.table

    abbrev held_text : Option Held → List ℕ
    held_text None = []
    held_text (Some h) = h.text

    held_longer : (held : Option Held) (t : List ℕ) (a : Around) → (held_with held t None a).text ≡ held_text held ++ t
    held_longer None t a = refl
    held_longer (Some h) t a = refl

    head_last : (level : HeadingLevel) (t : List ℕ) (held : Option Held) (start : ℕ) (sheet : Sheet) (before after : List SourcedEvent) (next : Option EventView) → let a = around before (head_end level ∷ after) next in
        leaf_on s m (text_leaf t) a (in_head level start) (page_of sheet 0 Other held) ≡ stretch_on s m (held_with held t None a) (Some (End (end_of (tag_of (HeadingKind level))))) (in_head level start) (page_of sheet 0 Other held)
    unfolding leaf_on
    head_last level t held start sheet before after next = refl

    head_held : (level : HeadingLevel) (t u : List ℕ) (ts : List (List ℕ)) (held : Option Held) (start : ℕ) (sheet : Sheet) (before after : List SourcedEvent) (next : Option EventView) → let a = around before (head_end level ∷ after) next in
        leaf_on s m (text_leaf t) (ahead_of (text_trees (u ∷ ts)) a) (in_head level start) (page_of sheet 0 Other held) ≡ site (in_head level start) (page_of sheet 0 Other (Some (held_with held t None (ahead_of (text_trees (u ∷ ts)) a))))
    unfolding leaf_on
    head_held level t u ts held start sheet before after next = refl

    head_texts : (level : HeadingLevel) (t : List ℕ) (ts : List (List ℕ)) (held : Option Held) (sheet : Sheet) (before after : List SourcedEvent) (next : Option EventView) → spelling s m (text_trees (t ∷ ts)) (around before (head_end level ∷ after) next) (in_head level (length sheet.text)) (page_of sheet 0 Other held) ≡ Some (head_site level (length sheet.text) (laid q (escaped (head_place level) (held_text held ++ concat (t ∷ ts))) sheet))
    head_texts level t [] held sheet before after next =
        let a = around before (head_end level ∷ after) next in
        let start : ℕ = length sheet.text in
        leaf_spelled (text_leaf t) empty a (in_head level start) (page_of sheet 0 Other held) _ (head_last level t held start sheet before after next ∙ head_stretch level (held_with held t None a) held sheet)
        ∙ end_spelled _ (in_head level start) _
        ∙ ap (λ (x : List ℕ). Some (head_site level start (laid q (escaped (head_place level) x) sheet))) (held_longer held t a ∙ ap (λ x. held_text held ++ x) (sym (append-nil t)))
    head_texts level t (u ∷ us) held sheet before after next =
        let a = around before (head_end level ∷ after) next in
        let h = held_with held t None (ahead_of (text_trees (u ∷ us)) a) in
        let start : ℕ = length sheet.text in
        leaf_spelled (text_leaf t) (text_trees (u ∷ us)) a (in_head level start) (page_of sheet 0 Other held) _ (head_held level t u us held start sheet before after next)
        ∙ head_texts level u us (Some h) sheet (Leaf (text_leaf t) ∷ before) after next
        ∙ ap (λ (x : List ℕ). Some (head_site level start (laid q (escaped (head_place level) x) sheet))) (ap (λ x. x ++ concat (u ∷ us)) (held_longer held t (ahead_of (text_trees (u ∷ us)) a)) ∙ append_assoc (held_text held) t (concat (u ∷ us)))

    unbroken : (ts : List (List ℕ)) → is_broken (text_trees ts) ≡ false
    unbroken [] = refl
    unbroken (t ∷ ts) = unbroken ts

    abbrev head_open : HeadingLevel → Bool → Bool → Sheet → Option Site
    head_open level inside_one broken sheet =
        let here : Page = page_of (laid p (heading_mark level broken) sheet) 0 Other None in
        entered_if (not inside_one) (tag_of (HeadingKind level)) [] (Underlined broken) path here

    head_opened : (level : HeadingLevel) (ts : List (List ℕ)) (a : Around) (sheet : Sheet) (last : Last) → opening s m (tag_of (HeadingKind level)) (look s m (tag_of (HeadingKind level)) (text_trees ts) a) path (page_of sheet 0 last None) ≡ Some (site (in_head level (length (laid p (mark_of (HeadingKind level)) sheet).text)) (page_of (laid p (mark_of (HeadingKind level)) sheet) 0 Other None))
    unfolding opening
    head_opened level ts a sheet last =
        ap (λ b. head_open level b (is_broken (text_trees ts)) sheet) spot.heading ∙ ap (λ b. head_open level false b sheet) (unbroken ts)

    abbrev pub head_page : HeadingLevel → List ℕ → Page
    head_page level text = page_of (within text) (feeds_behind s.options (HeadingKind level)) (BlockEnd (end_of (tag_of (HeadingKind level)))) None

    head_closed : (level : HeadingLevel) (start : ℕ) (sheet : Sheet) → closing s.options (in_head level start) (page_of sheet 0 Inline None) ≡ Some (site path (page_of sheet (feeds_behind s.options (HeadingKind level)) (BlockEnd (end_of (tag_of (HeadingKind level)))) None))
    unfolding closing
    head_closed level start sheet = refl

    mark_long : (level : HeadingLevel) → 0 < length (mark_of (HeadingKind level))
    mark_long level = omega (arith, length-append (replicate (level_number level) 35) (codes " "))

    hashes_feedless : (n : ℕ) → HasNoFeed (replicate n 35 ++ codes " ")
    hashes_feedless zero = (refl, tt)
    hashes_feedless (suc n) = (refl, hashes_feedless n)

    -- the mark and the text of a heading on a sheet
    head_sheet : (level : HeadingLevel) (text : List ℕ) (sheet : Sheet) → IsFilled (escaped (head_place level) text) → laid q (escaped (head_place level) text) (laid p (mark_of (HeadingKind level)) sheet) ≡ within (text_at p sheet ++ (mark_of (HeadingKind level) ++ escaped (head_place level) text))
    head_sheet level text sheet filled =
        let mark : List ℕ = mark_of (HeadingKind level) in
        let e : List ℕ = escaped (head_place level) text in
        ap (laid q e) (line_laid p mark sheet (mark_long level) (hashes_feedless (level_number level)))
        ∙ line_laid q e (within (text_at p sheet ++ mark)) filled.some (no_feed e filled.feedless)
        ∙ ap (λ (x : List ℕ). within (x ++ e)) (append-nil (text_at p sheet ++ mark))
        ∙ ap within (append_assoc (text_at p sheet) mark e)

    -- a heading is one line: its mark and its text
    pub heading_at : (level : HeadingLevel) (t : List ℕ) (ts : List (List ℕ)) (f : Trees) (a : Around) (page : Page) (sheet : Sheet) (last : Last) → gap (Start (tag_of (HeadingKind level))) path page ≡ page_of sheet 0 last None → IsFilled (escaped (head_place level) (concat (t ∷ ts))) →
        spelling s m (node (tag_of (HeadingKind level)) (text_trees (t ∷ ts)) f) a path page ≡ spelling s m f (beyond (tag_of (HeadingKind level)) (text_trees (t ∷ ts)) a) path (head_page level (text_at p sheet ++ (mark_of (HeadingKind level) ++ escaped (head_place level) (concat (t ∷ ts)))))
    heading_at level t ts f a page sheet last gapped filled =
        let tag : TagView = tag_of (HeadingKind level) in
        let kids : Trees = text_trees (t ∷ ts) in
        let marked : Sheet = laid p (mark_of (HeadingKind level)) sheet in
        let start : ℕ = length marked.text in
        let whole : Sheet = laid q (escaped (head_place level) (concat (t ∷ ts))) marked in
        node_spelled tag kids f a path page (page_of sheet 0 last None) (site (in_head level start) (page_of marked 0 Other None)) (head_site level start whole) (site path (page_of whole (feeds_behind s.options (HeadingKind level)) (BlockEnd (end_of tag)) None))
        gapped (head_opened level (t ∷ ts) (ahead_of f a) sheet last) refl (head_texts level t ts None marked (Start tag ∷ a.before) (flat_onto f a.after) a.next) (head_closed level start whole)
        ∙ ap (λ (x : Sheet). spelling s m f (beyond tag kids a) path (page_of x (feeds_behind s.options (HeadingKind level)) (BlockEnd (end_of tag)) None)) (head_sheet level (concat (t ∷ ts)) sheet filled)

    -- thematic breaks

    abbrev ruled : List ℕ → Page → Site
    ruled text g = site path (record g { sheet = laid p text g.sheet; trail = record g.trail { last = Other; owed = max s.options.newlines_after_rule 1 } })

    abbrev pub rule_page : List ℕ → Page
    rule_page text = page_of (within text) (max s.options.newlines_after_rule 1) Other None

    rule_on_page : (a : Around) (page g : Page) → gap (Leaf Rule) path page ≡ g → leaf_on s m rule_leaf a path page ≡ ruled (rule_text g.trail.last path) g
    unfolding leaf_on
    rule_on_page a page g e = ap (λ (g : Page). ruled (rule_text g.trail.last path) g) e

    -- a thematic break is its mark
    pub rule_at : (mark : List ℕ) (f : Trees) (a : Around) (page : Page) (sheet : Sheet) (last : Last) → gap (Leaf Rule) path page ≡ page_of sheet 0 last None → rule_text last path ≡ mark → 0 < length mark → HasNoFeed mark →
        spelling s m (leaf rule_leaf f) a path page ≡ spelling s m f (past (Leaf rule_leaf) a) path (rule_page (text_at p sheet ++ mark))
    rule_at mark f a page sheet last gapped is long none =
        leaf_spelled rule_leaf f a path page (site path (rule_page (text_at p sheet ++ mark)))
        (rule_on_page (ahead_of f a) page (page_of sheet 0 last None) gapped
        ∙ ap (λ t. ruled t (page_of sheet 0 last None)) is
        ∙ ap (λ (x : Sheet). site path (page_of x (max s.options.newlines_after_rule 1) Other None)) (line_laid p mark sheet long none))

    -- fenced code

    module _ (info : List ℕ) where
      abbrev coded : Path → List ℕ → ℕ → Path
      coded path f start = record { tag = CodeBlock (Fenced info); prefix = []; start = start; content = Fence f } ∷ path

      abbrev in_code : List ℕ → ℕ → Path
      in_code f start = coded path f start

      abbrev code_site : List ℕ → ℕ → Sheet → Site
      code_site f start sheet = site (in_code f start) (page_of sheet 0 Inline None)

      code_gap : (f : List ℕ) (start : ℕ) (text : List ℕ) (sheet : Sheet) → gap (Leaf (Text text)) (in_code f start) (page_of sheet 0 Other None) ≡ page_of sheet 0 Other None
      code_gap f start text sheet = ap (λ n. page_of (laid q (replicate n 10) sheet) 0 Other None) (none_left sheet.feeds)

      code_stretch : (f : List ℕ) (start : ℕ) (h : Held) (held : Option Held) (sheet : Sheet) (next : Option EventView) → stretch_on s m h next (in_code f start) (page_of sheet 0 Other held) ≡ code_site f start (laid q h.text sheet)
      code_stretch f start h held sheet next =
          ap (λ (g : Page). site (coded (widened (length (chars h.text)) path) f start) (with_last Inline (written (in_code f start) h.text g))) (code_gap f start h.text sheet)
          ∙ ap (λ w. site (coded w f start) (page_of (laid q h.text sheet) 0 Inline None)) (spot.cells (length (chars h.text)))

      abbrev code_end : SourcedEvent
      code_end = End end.CodeBlock

      code_last : (f : List ℕ) (start : ℕ) (t : List ℕ) (held : Option Held) (sheet : Sheet) (before after : List SourcedEvent) (next : Option EventView) → let a = around before (code_end ∷ after) next in
          leaf_on s m (text_leaf t) a (in_code f start) (page_of sheet 0 Other held) ≡ stretch_on s m (held_with held t None a) (Some (End end.CodeBlock)) (in_code f start) (page_of sheet 0 Other held)
      unfolding leaf_on
      code_last f start t held sheet before after next = refl

      code_held : (f : List ℕ) (start : ℕ) (t u : List ℕ) (ts : List (List ℕ)) (held : Option Held) (sheet : Sheet) (before after : List SourcedEvent) (next : Option EventView) → let a = around before (code_end ∷ after) next in
          leaf_on s m (text_leaf t) (ahead_of (text_trees (u ∷ ts)) a) (in_code f start) (page_of sheet 0 Other held) ≡ site (in_code f start) (page_of sheet 0 Other (Some (held_with held t None (ahead_of (text_trees (u ∷ ts)) a))))
      unfolding leaf_on
      code_held f start t u ts held sheet before after next = refl

      code_texts : (f : List ℕ) (start : ℕ) (t : List ℕ) (ts : List (List ℕ)) (held : Option Held) (sheet : Sheet) (before after : List SourcedEvent) (next : Option EventView) → spelling s m (text_trees (t ∷ ts)) (around before (code_end ∷ after) next) (in_code f start) (page_of sheet 0 Other held) ≡ Some (code_site f start (laid q (held_text held ++ concat (t ∷ ts)) sheet))
      code_texts f start t [] held sheet before after next =
          let a = around before (code_end ∷ after) next in
          leaf_spelled (text_leaf t) empty a (in_code f start) (page_of sheet 0 Other held) _ (code_last f start t held sheet before after next ∙ code_stretch f start (held_with held t None a) held sheet (Some (End end.CodeBlock)))
          ∙ end_spelled _ (in_code f start) _
          ∙ ap (λ (x : List ℕ). Some (code_site f start (laid q x sheet))) (held_longer held t a ∙ ap (λ x. held_text held ++ x) (sym (append-nil t)))
      code_texts f start t (u ∷ us) held sheet before after next =
          let a = around before (code_end ∷ after) next in
          let h = held_with held t None (ahead_of (text_trees (u ∷ us)) a) in
          leaf_spelled (text_leaf t) (text_trees (u ∷ us)) a (in_code f start) (page_of sheet 0 Other held) _ (code_held f start t u us held sheet before after next)
          ∙ code_texts f start u us (Some h) sheet (Leaf (text_leaf t) ∷ before) after next
          ∙ ap (λ (x : List ℕ). Some (code_site f start (laid q x sheet))) (ap (λ x. x ++ concat (u ∷ us)) (held_longer held t (ahead_of (text_trees (u ∷ us)) a)) ∙ append_assoc (held_text held) t (concat (u ∷ us)))

      abbrev last_behind : List (List ℕ) → Last
      last_behind [] = Other
      last_behind (t ∷ ts) = Inline

      code_body : (f : List ℕ) (start : ℕ) (ts : List (List ℕ)) (sheet : Sheet) (before after : List SourcedEvent) (next : Option EventView) → spelling s m (text_trees ts) (around before (code_end ∷ after) next) (in_code f start) (page_of sheet 0 Other None) ≡ Some (site (in_code f start) (page_of (laid q (concat ts) sheet) 0 (last_behind ts) None))
      code_body f start [] sheet before after next = end_spelled _ (in_code f start) (page_of sheet 0 Other None)
      code_body f start (t ∷ ts) sheet before after next = code_texts f start t ts None sheet before after next

      abbrev opened_by : List ℕ → Page → Site
      opened_by f page =
          let sheet : Sheet = laid p (f ++ flat_map info_byte info ++ codes "\n") page.sheet in
          site (in_code f (length sheet.text)) (record page { sheet = sheet })

      code_open : (ts : List (List ℕ)) (a : Around) (sheet : Sheet) (last : Last) → opening s m (CodeBlock (Fenced info)) (look s m (CodeBlock (Fenced info)) (text_trees ts) a) path (page_of sheet 0 last None) ≡ Some (opened_by (fence s.options info (joined_by text_of_leaf (text_trees ts))) (on_new_line path (page_of sheet 0 Other None)))
      unfolding opening
      code_open ts a sheet last = refl

      code_opened : (ts : List (List ℕ)) (a : Around) (sheet new : Sheet) (last : Last) → on_new_line path (page_of sheet 0 Other None) ≡ page_of new 0 Other None →
          opening s m (CodeBlock (Fenced info)) (look s m (CodeBlock (Fenced info)) (text_trees ts) a) path (page_of sheet 0 last None) ≡ Some (opened_by (fence s.options info (concat ts)) (page_of new 0 Other None))
      code_opened ts a sheet new last e =
          code_open ts a sheet last
          ∙ ap (λ (g : Page). Some (opened_by (fence s.options info (joined_by text_of_leaf (text_trees ts))) g)) e
          ∙ ap (λ (t : List ℕ). Some (opened_by (fence s.options info t) (page_of new 0 Other None))) (code.joined-texts ts)

      -- the page after the block, whose text ended inside a line or not
      abbrev closed_so : List ℕ → Bool → Bool → Sheet → Page
      closed_so f ends inside_line sheet = record {
        sheet = laid p (if ends then f else []) sheet;
        trail = record { owed = max s.options.newlines_after_codeblock 2; last = BlockEnd end.CodeBlock; last_list = None; quote_line = None; raw_end = inside_line; open_html = false };
        references = [];
        held = None;
      }

      code_closed : (f : List ℕ) (start : ℕ) (sheet : Sheet) (last : Last) → nat_lt 0 sheet.feeds ≡ true → closing s.options (in_code f start) (page_of sheet 0 last None) ≡ Some (site path (closed_so f true false sheet))
      unfolding closing
      code_closed f start sheet last some =
          let none : (sheet.feeds == 0) ≡ false = grind (arith, some, nat_tests) in
          ap (λ b. Some (site path (closed_so f b (sheet.feeds == 0) sheet))) some ∙ ap (λ b. Some (site path (closed_so f true b sheet))) none

      abbrev pub code_page : List ℕ → Page
      code_page text = page_of (within text) (max s.options.newlines_after_codeblock 2) (BlockEnd end.CodeBlock) None

      -- what is asked of a code block's lines
      pub record HasCodeLines (ls : List (List ℕ)) : Type 0 where
        pub bytes : flat_map info_byte info ≡ info
        pub info_line : HasNoFeed info
        pub long : 0 < length (fence s.options info (code_text ls))
        pub fence_line : HasNoFeed (fence s.options info (code_text ls))
        pub lines : AllByRecursion HasNoFeed ls

      feedless_append : (xs ys : List ℕ) → HasNoFeed xs → HasNoFeed ys → HasNoFeed (xs ++ ys)
      feedless_append [] ys h k = k
      feedless_append (x ∷ xs) ys h k = (h.0, feedless_append xs ys (h.1) k)

      -- the sheet of a code block
      module _ (ls : List (List ℕ)) (h : HasCodeLines ls) (new : Sheet) where
        abbrev f : List ℕ
        f = fence s.options info (code_text ls)

        abbrev begun_code : Sheet
        begun_code = laid p (f ++ flat_map info_byte info ++ codes "\n") new

        abbrev head_line : Sheet
        head_line = laid p ((f ++ info) ++ codes "\n") new

        begun_is : begun_code ≡ head_line
        begun_is = ap (λ (x : List ℕ). laid p ((f ++ x) ++ codes "\n") new) h.bytes

        long_head : 0 < length (f ++ info)
        long_head = omega (arith, h.long, length-append f info)

        -- the first fence with its info string, and a line feed
        head_is : head_line ≡ record { text = (text_at p new ++ (f ++ info)) ++ 10 ∷ []; feeds = 0 + 1 }
        head_is =
            laid-append p (f ++ info) (codes "\n") new
            ∙ ap (laid p (codes "\n")) (line_laid p (f ++ info) new long_head (feedless_append f info h.fence_line h.info_line))
            ∙ ap (λ (x : List ℕ). (let t : Sheet = record { text = x ++ 10 ∷ []; feeds = 0 + 1 } in t)) (append-nil (text_at p new ++ (f ++ info)))

        begun_feeds : nat_lt 0 begun_code.feeds ≡ true
        begun_feeds = ap (λ (x : Sheet). nat_lt 0 x.feeds) (begun_is ∙ head_is)

        filled_feeds : nat_lt 0 (laid q (concat (line_texts ls)) begun_code).feeds ≡ true
        filled_feeds = lines_feeds q ls begun_code begun_feeds h.lines

        code_sheet : laid p f (laid q (concat (line_texts ls)) begun_code) ≡ within (text_at p new ++ lines_at p ((f ++ info) ∷ ls ++ f ∷ []))
        code_sheet =
            let rest : List ℕ = lines_at p (ls ++ f ∷ []) in
            let first : List ℕ = text_at p new in
            ap (λ (x : List ℕ). laid p f (laid x (concat (line_texts ls)) begun_code)) (append-nil p)
            ∙ lines_laid p ls f begun_code begun_feeds h.lines h.long h.fence_line
            ∙ ap (λ (x : Sheet). within ((x.text ++ p) ++ rest)) (begun_is ∙ head_is)
            ∙ ap within (append_assoc ((first ++ (f ++ info)) ++ 10 ∷ []) p rest ∙ append_assoc (first ++ (f ++ info)) (10 ∷ []) (p ++ rest) ∙ append_assoc first (f ++ info) (10 ∷ (p ++ rest)))
            ∙ ap (λ (x : List ℕ). within (first ++ ((f ++ info) ++ x))) (sym (some_under p ls f))

      -- code is its lines between two fences, on a line of its own
      pub code_at : (ls : List (List ℕ)) (rest : Trees) (a : Around) (page : Page) (sheet new : Sheet) (last : Last) → gap (Start (CodeBlock (Fenced info))) path page ≡ page_of sheet 0 last None → on_new_line path (page_of sheet 0 Other None) ≡ page_of new 0 Other None → HasCodeLines ls →
          spelling s m (node (CodeBlock (Fenced info)) (text_trees (line_texts ls)) rest) a path page ≡ spelling s m rest (beyond (CodeBlock (Fenced info)) (text_trees (line_texts ls)) a) path (code_page (text_at p new ++ lines_at p ((fence s.options info (code_text ls) ++ info) ∷ ls ++ fence s.options info (code_text ls) ∷ [])))
      code_at ls rest a page sheet new last gapped lined h =
          let tag : TagView = CodeBlock (Fenced info) in
          let kids : Trees = text_trees (line_texts ls) in
          let f : List ℕ = fence s.options info (code_text ls) in
          let start : ℕ = length (begun_code ls h new).text in
          let body : Sheet = laid q (concat (line_texts ls)) (begun_code ls h new) in
          node_spelled tag kids rest a path page (page_of sheet 0 last None) (site (in_code f start) (page_of (begun_code ls h new) 0 Other None)) (site (in_code f start) (page_of body 0 (last_behind (line_texts ls)) None)) (site path (closed_so f true false body))
          gapped (code_opened (line_texts ls) (ahead_of rest a) sheet new last lined) refl (code_body f start (line_texts ls) (begun_code ls h new) (Start tag ∷ a.before) (flat_onto rest a.after) a.next) (code_closed f start body (last_behind (line_texts ls)) (filled_feeds ls h new))
          ∙ ap (λ (x : Sheet). spelling s m rest (beyond tag kids a) path (page_of x (max s.options.newlines_after_codeblock 2) (BlockEnd end.CodeBlock) None)) (code_sheet ls h new)
