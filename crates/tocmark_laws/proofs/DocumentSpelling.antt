-- What a paragraph of lines and a thematic break are spelled as, wherever they are in a document.
use Rattle.std.proofs.Common.{◌≡◌, ℕ, ◌-◌, ◌<◌, ◌≤◌, max, Bool, true, false, ◌==◌, ◌&&◌, ◌||◌, if◌then◌else◌, nat_lt, List, [], ◌∷◌, ◌++◌, length, replicate, refl, ap, sym, subst, ◌∙◌, arith, append_assoc, append-nil, eq-eqb, Option, Some, None, Ok}
use Rattle.std.proofs.lemmas.Bool.Decides.{nat_tests}
use Rattle.tocmark_event.specs.Forest.{empty, leaf, node, flat}
use Rattle.tocmark_event.specs.View.{EventView, Start, End, Leaf, Text, SoftBreak, Rule, Paragraph, SourcedEvent, SourcedLeaf}
use Rattle.tocmark_event.specs.declared.event.TagEnd.TheVariants as end
use Rattle.tocmark_write_texts.specs.Escape.{Surroundings, escaped}
use Rattle.tocmark_spelling.specs.Body.{Trees, some_leaf}
use Rattle.tocmark_spelling.specs.Closing.{closing}
use Rattle.tocmark_spelling.specs.Gap.{gap}
use Rattle.tocmark_spelling.specs.Look.{look}
use Rattle.tocmark_spelling.specs.Opening.{opening}
use Rattle.tocmark_spelling.specs.Page.{Sheet, laid, put_byte, Path, Page, Site, Around, Plain, Held}
use Rattle.tocmark_spelling.specs.declared.trail.Last.{Last}
use Rattle.tocmark_spelling.specs.declared.trail.Last.TheVariants.{Inline, Other}
use Rattle.tocmark_spelling.specs.Plan.{Setting, Manner}
use Rattle.tocmark_spelling.specs.Spelling.{spelling, then_site, body_or_id, skips_body}
use Rattle.tocmark_spelling.specs.Stretch.{leaf_on, place, held_with, stretch_on, rule_text}
use Rattle.tocmark_spelling.specs.Runs.{ahead_of, past, beyond}
use Rattle.tocmark_choose.specs.Candidates.{preferred_manner, has_source, is_delimiter_block, is_delimiter_tag, is_math, some_tag}
use Rattle.tocmark_choose.specs.Choice as choice
use Rattle.tocmark_choose.specs.Choice.{page_in, spelled, accepted_if, document_after, has_standard_markers}
use Rattle.tocmark_write_labels.specs.Document.{DocumentView}
use Rattle.tocmark_write_pending.specs.Placeholder.{whole, needs_placeholder, needs_placeholder_at}
use Rattle.tocmark_choose.specs.Chosen.{chosen}
use Rattle.tocmark_choose.proofs.Chosen.{chosen-unlabelled}
use Rattle.tocmark_choose.proofs.PlainUnits.{choice-unasked}
use Rattle.tocmark_reader.proofs.PlainReading.{IsPrintable, IsPlainLine, some_front}
use Rattle.tocmark_read_scan.specs.PlainParts as parts
use Rattle.tocmark_laws.specs.PlainLines.{PlacedLine}
use Rattle.tocmark_laws.specs.TextBlocks.{ParagraphKind, HeadingKind, feeds_behind}
use Rattle.tocmark_laws.proofs.BlockSpelling.{LastEnd, NoEnd, TextEnd, CodeEnd, last_of, page_of, blank, IsCalm}
use Rattle.tocmark_laws.proofs.Paragraphs.{laid-plain, neither_in}
use Rattle.tocmark_laws.proofs.PlainCharacters.{parts_of}
use Rattle.tocmark_laws.proofs.PlainEscapes.{ArePrintable, escape_is}
use Rattle.tocmark_laws.proofs.PlainEscapedBytes.{escaped_is}
use Rattle.tocmark_laws.proofs.PlainEscapedTexts.{IsLine, plain_line}
use Rattle.tocmark_laws.proofs.DocumentBlocks.{hyphens}
use Rattle.tocmark_laws.proofs.DocumentRows.{hyphens_printable}
use Rattle.tocmark_laws.proofs.PlainSpelling.{text_leaf, break_leaf, line_trees, line_place, around, begun, within, placed, lines_text, AreLinesIn}

-- bytes of a line, laid

either_way : (b : Bool) (xs : List ℕ) → (if b then xs else xs) ≡ xs
either_way true xs = refl
either_way false xs = refl

byte_laid : (x : ℕ) (s : Sheet) → IsPrintable x → put_byte [] x s ≡ within (s.text ++ x ∷ [])
byte_laid x s h =
    let low : 32 ≤ x = h.low in
    let feed : (x == 10) ≡ false = grind (arith, nat_tests) in
    rw feed (ap (λ z. within ((s.text ++ z) ++ x ∷ [])) (either_way (nat_lt 0 s.feeds) []) ∙ ap (λ z. within (z ++ x ∷ [])) (append-nil s.text))

laid_line : (x : ℕ) (xs : List ℕ) (s : Sheet) → ArePrintable (x ∷ xs) → laid [] (x ∷ xs) s ≡ within (s.text ++ x ∷ xs)
laid_line x [] s h = byte_laid x s (h.0)
laid_line x (y ∷ ys) s h =
    ap (laid [] (y ∷ ys)) (byte_laid x s (h.0))
    ∙ laid_line y ys (within (s.text ++ x ∷ [])) (h.1)
    ∙ ap within (append_assoc s.text (x ∷ []) (y ∷ ys))

pub laid_some : (xs : List ℕ) (s : Sheet) → 0 < length xs → ArePrintable xs → laid [] xs s ≡ within (s.text ++ xs)
laid_some [] s some h = absurd (omega arith)
laid_some (x ∷ xs) s some h = laid_line x xs s h

pub escape_stands : (l : PlacedLine) → IsLine l → (0 < length (escaped l.0 l.1)) × ArePrintable (escaped l.0 l.1)
escape_stands l h =
    let same : escaped l.0 l.1 ≡ parts.spelled (parts_of l.0 l.1) = escaped_is l h ∙ escape_is l.0 l.1 h.place h.printable in
    let plain : IsPlainLine (parts_of l.0 l.1) = plain_line l.0 l.1 h in
    (subst (λ (xs : List ℕ). 0 < length xs) (sym same) (some_front (parts.spelled (parts_of l.0 l.1)) plain.begins), subst ArePrintable (sym same) plain.printable)

laid_escape : (l : PlacedLine) (s : Sheet) → IsLine l → laid [] (escaped l.0 l.1) s ≡ within (s.text ++ escaped l.0 l.1)
laid_escape l s h = let stands = escape_stands l h in laid_some (escaped l.0 l.1) s (stands.0) (stands.1)

none_left : (n : ℕ) → 0 - n ≡ 0
none_left n = omega arith

all_left : (n : ℕ) → max n 0 - 0 ≡ n
all_left n = omega arith

or_true : (a b c : Bool) → c ≡ true → (a || b || c) ≡ true
or_true true b c h = refl
or_true false true c h = refl
or_true false false c h = h

itself : (n : ℕ) → (n == n) ≡ true
itself n = eq-eqb n n refl

abbrev site : Path → Page → Site
site path page = record { path = path; page = page }

-- inside a paragraph whose opening ended there
abbrev in_par : ℕ → Path
in_par start = record { tag = Paragraph; prefix = []; start = start; content = Plain } ∷ []

gap_before : (before : LastEnd) (owed : ℕ) → gap (Start Paragraph) [] (page_of blank owed (last_of before) None) ≡ page_of (laid [] (replicate (max owed 0 - 0) 10) blank) 0 (last_of before) None
gap_before NoEnd owed = refl
gap_before CodeEnd owed = refl
gap_before (TextEnd ParagraphKind) owed = refl
gap_before (TextEnd (HeadingKind level)) owed = refl

gap_inside : (start : ℕ) (text : List ℕ) (sheet : Sheet) → gap (Leaf (Text text)) (in_par start) (page_of sheet 0 Other None) ≡ page_of sheet 0 Other None
gap_inside start text sheet = ap (λ n. page_of (laid [] (replicate n 10) sheet) 0 Other None) (none_left sheet.feeds)

module _ (s : Setting) where
  abbrev m : Manner
  m = preferred_manner s.options

  -- the first text is at the front
  place_is : (nx : EventView) (after_close : Bool) (sheet : Sheet) → place s m after_close (Some nx) (in_par (length sheet.text)) (page_of sheet 0 Other None) ≡ line_place s m nx
  place_is nx after_close sheet = ap (λ b. record (line_place s m nx) { at_front = b }) (or_true (nat_lt 0 sheet.feeds) (length sheet.text == 0) (length sheet.text == length sheet.text) (itself (length sheet.text)))

  -- where a text is written
  abbrev placed_site : ℕ → Surroundings → Page → List ℕ → Site
  placed_site start p here text = site (in_par start) (record here { sheet = laid [] (escaped p text) here.sheet; trail = record here.trail { last = Inline } })

  abbrev written : ℕ → Sheet → Site
  written start sheet = site (in_par start) (page_of sheet 0 Inline None)

  stretch_is : (h : Held) (start : ℕ) (next : Option EventView) (p here : Page) → gap (Leaf (Text h.text)) (in_par start) (record p { held = None }) ≡ here → stretch_on s m h next (in_par start) p ≡ placed_site start (place s m h.after_close next (in_par start) here) here h.text
  stretch_is h start next p here e = ap (λ (g : Page). placed_site start (place s m h.after_close next (in_par start) g) g h.text) e

  stretch_written : (h : Held) (nx : EventView) (sheet : Sheet) → stretch_on s m h (Some nx) (in_par (length sheet.text)) (page_of sheet 0 Other None) ≡ written (length sheet.text) (laid [] (escaped (line_place s m nx) h.text) sheet)
  stretch_written h nx sheet =
      stretch_is h (length sheet.text) (Some nx) (page_of sheet 0 Other None) (page_of sheet 0 Other None) (gap_inside (length sheet.text) h.text sheet)
      ∙ ap (λ p. placed_site (length sheet.text) p (page_of sheet 0 Other None) h.text) (place_is nx h.after_close sheet)

  -- the first text, last or not
  first_last : (l : List ℕ) (sheet : Sheet) (after : List SourcedEvent) (next : Option EventView) → leaf_on s m (text_leaf l) (around (Start Paragraph ∷ []) (End end.Paragraph ∷ after) next) (in_par (length sheet.text)) (page_of sheet 0 Other None) ≡ written (length sheet.text) (laid [] (escaped (line_place s m (End end.Paragraph)) l) sheet)
  unfolding leaf_on
  first_last l sheet after next = stretch_written (held_with None l None (around (Start Paragraph ∷ []) (End end.Paragraph ∷ after) next)) (End end.Paragraph) sheet

  first_then : (l : List ℕ) (sheet : Sheet) (after : List SourcedEvent) (next : Option EventView) → leaf_on s m (text_leaf l) (around (Start Paragraph ∷ []) (Leaf break_leaf ∷ after) next) (in_par (length sheet.text)) (page_of sheet 0 Other None) ≡ written (length sheet.text) (laid [] (escaped (line_place s m (Leaf SoftBreak)) l) sheet)
  unfolding leaf_on
  first_then l sheet after next = stretch_written (held_with None l None (around (Start Paragraph ∷ []) (Leaf break_leaf ∷ after) next)) (Leaf SoftBreak) sheet

  -- a text after a soft break
  later_last : (start : ℕ) (text l : List ℕ) (before after : List SourcedEvent) (next : Option EventView) → leaf_on s m (text_leaf l) (around (Leaf break_leaf ∷ before) (End end.Paragraph ∷ after) next) (in_par start) (page_of (begun text) 0 Inline None) ≡ written start (laid [] (escaped (line_place s m (End end.Paragraph)) l) (begun text))
  unfolding leaf_on
  later_last start text l before after next = refl

  later_then : (start : ℕ) (text l : List ℕ) (before after : List SourcedEvent) (next : Option EventView) → leaf_on s m (text_leaf l) (around (Leaf break_leaf ∷ before) (Leaf break_leaf ∷ after) next) (in_par start) (page_of (begun text) 0 Inline None) ≡ written start (laid [] (escaped (line_place s m (Leaf SoftBreak)) l) (begun text))
  unfolding leaf_on
  later_then start text l before after next = refl

  break_laid : (start : ℕ) (text : List ℕ) (before after : List SourcedEvent) (next : Option EventView) → leaf_on s m break_leaf (around before after next) (in_par start) (page_of (within text) 0 Inline None) ≡ written start (begun (text ++ 10 ∷ []))
  unfolding leaf_on
  break_laid start text before after next = ap (λ x. written start (begun (x ++ 10 ∷ []))) (append-nil text)

  spelled_leaf : (l : SourcedLeaf) (f : Trees) (a : Around) (path : Path) (p : Page) (here : Site) → leaf_on s m l (ahead_of f a) path p ≡ here → spelling s m (leaf l f) a path p ≡ spelling s m f (past (Leaf l) a) here.path here.page
  unfolding spelling
  spelled_leaf l f a path p here e = ap (λ (x : Site). spelling s m f (past (Leaf l) a) x.path x.page) e

  spelled_end : (a : Around) (here : Site) → spelling s m empty a here.path here.page ≡ Some here
  unfolding spelling
  spelled_end a here = refl

  later_lines : (start : ℕ) (text l : List ℕ) (ms : List (List ℕ)) (before after : List SourcedEvent) (next : Option EventView) → AreLinesIn s m (l ∷ ms) → spelling s m (line_trees l ms) (around (Leaf break_leaf ∷ before) (End end.Paragraph ∷ after) next) (in_par start) (page_of (begun text) 0 Inline None) ≡ Some (written start (within (text ++ lines_text s m l ms)))
  later_lines start text l [] before after next h =
      spelled_leaf (text_leaf l) empty (around (Leaf break_leaf ∷ before) (End end.Paragraph ∷ after) next) (in_par start) (page_of (begun text) 0 Inline None) _ (later_last start text l before after next ∙ ap (written start) (laid_escape (placed s m l []) (begun text) (h.0)))
      ∙ spelled_end _ (written start (within (text ++ lines_text s m l [])))
  later_lines start text l (n ∷ ms) before after next h =
      let line : List ℕ = escaped (line_place s m (Leaf SoftBreak)) l in
      let joined : ((text ++ line) ++ 10 ∷ []) ++ lines_text s m n ms ≡ text ++ lines_text s m l (n ∷ ms) =
      append_assoc (text ++ line) (10 ∷ []) (lines_text s m n ms) ∙ append_assoc text line (10 ∷ lines_text s m n ms)
      in
      spelled_leaf (text_leaf l) (leaf break_leaf (line_trees n ms)) (around (Leaf break_leaf ∷ before) (End end.Paragraph ∷ after) next) (in_par start) (page_of (begun text) 0 Inline None) _ (later_then start text l before _ next ∙ ap (written start) (laid_escape (placed s m l (n ∷ ms)) (begun text) (h.0)))
      ∙ spelled_leaf break_leaf (line_trees n ms) (around (Leaf (text_leaf l) ∷ Leaf break_leaf ∷ before) (End end.Paragraph ∷ after) next) (in_par start) (page_of (within (text ++ line)) 0 Inline None) _ (break_laid start (text ++ line) _ _ next)
      ∙ later_lines start ((text ++ line) ++ 10 ∷ []) n ms (Leaf (text_leaf l) ∷ Leaf break_leaf ∷ before) after next (h.1)
      ∙ ap (λ x. Some (written start (within x))) joined

  lines_spelled : (sheet : Sheet) (l : List ℕ) (ms : List (List ℕ)) (after : List SourcedEvent) (next : Option EventView) → AreLinesIn s m (l ∷ ms) → spelling s m (line_trees l ms) (around (Start Paragraph ∷ []) (End end.Paragraph ∷ after) next) (in_par (length sheet.text)) (page_of sheet 0 Other None) ≡ Some (written (length sheet.text) (within (sheet.text ++ lines_text s m l ms)))
  lines_spelled sheet l [] after next h =
      spelled_leaf (text_leaf l) empty (around (Start Paragraph ∷ []) (End end.Paragraph ∷ after) next) (in_par (length sheet.text)) (page_of sheet 0 Other None) _ (first_last l sheet after next ∙ ap (written (length sheet.text)) (laid_escape (placed s m l []) sheet (h.0)))
      ∙ spelled_end _ (written (length sheet.text) (within (sheet.text ++ lines_text s m l [])))
  lines_spelled sheet l (n ∷ ms) after next h =
      let start : ℕ = length sheet.text in
      let line : List ℕ = escaped (line_place s m (Leaf SoftBreak)) l in
      let joined : ((sheet.text ++ line) ++ 10 ∷ []) ++ lines_text s m n ms ≡ sheet.text ++ lines_text s m l (n ∷ ms) =
      append_assoc (sheet.text ++ line) (10 ∷ []) (lines_text s m n ms) ∙ append_assoc sheet.text line (10 ∷ lines_text s m n ms)
      in
      spelled_leaf (text_leaf l) (leaf break_leaf (line_trees n ms)) (around (Start Paragraph ∷ []) (End end.Paragraph ∷ after) next) (in_par start) (page_of sheet 0 Other None) _ (first_then l sheet _ next ∙ ap (written start) (laid_escape (placed s m l (n ∷ ms)) sheet (h.0)))
      ∙ spelled_leaf break_leaf (line_trees n ms) (around (Leaf (text_leaf l) ∷ Start Paragraph ∷ []) (End end.Paragraph ∷ after) next) (in_par start) (page_of (within (sheet.text ++ line)) 0 Inline None) _ (break_laid start (sheet.text ++ line) _ _ next)
      ∙ later_lines start ((sheet.text ++ line) ++ 10 ∷ []) n ms (Leaf (text_leaf l) ∷ Start Paragraph ∷ []) after next (h.1)
      ∙ ap (λ x. Some (written start (within x))) joined

  -- the paragraph

  opened : (kids : Trees) (a : Around) (sheet : Sheet) (last : Last) → opening s m Paragraph (look s m Paragraph kids a) [] (page_of sheet 0 last None) ≡ Some (site (in_par (length sheet.text)) (page_of sheet 0 Other None))
  unfolding opening
  opened kids a sheet last = refl

  closed : (start : ℕ) (sheet : Sheet) → closing s.options (in_par start) (page_of sheet 0 Inline None) ≡ Some (site [] (page_of sheet (feeds_behind s.options ParagraphKind) (last_of (TextEnd ParagraphKind)) None))
  unfolding closing
  closed start sheet = refl

  abbrev from_texts : Trees → Option EventView → Site → Option Site
  from_texts kids next full =
      then_site (closing s.options full.path full.page) (λ here. spelling s m empty (beyond Paragraph kids (around [] [] next)) here.path here.page)

  abbrev from_opening : Trees → Option EventView → Site → Option Site
  from_opening kids next here =
      then_site (body_or_id (skips_body here.path) Paragraph here (λ here. spelling s m kids (around (Start Paragraph ∷ []) (End end.Paragraph ∷ []) next) here.path here.page)) (λ full. from_texts kids next full)

  abbrev from_gap : Trees → Option EventView → Page → Option Site
  from_gap kids next p =
      then_site (opening s m Paragraph (look s m Paragraph kids (around [] [] next)) [] p) (λ here. from_opening kids next here)

  entered_gap : (kids : Trees) (next : Option EventView) (p : Page) → spelling s m (node Paragraph kids empty) (whole next) [] p ≡ from_gap kids next (gap (Start Paragraph) [] p)
  unfolding spelling
  entered_gap kids next p = refl

  entered : (start : ℕ) (kids : Trees) (next : Option EventView) (p : Page) → from_opening kids next (site (in_par start) p) ≡ then_site (spelling s m kids (around (Start Paragraph ∷ []) (End end.Paragraph ∷ []) next) (in_par start) p) (λ full. from_texts kids next full)
  entered start kids next p = refl

  ended : (start : ℕ) (kids : Trees) (next : Option EventView) (sheet : Sheet) → from_texts kids next (written start sheet) ≡ Some (site [] (page_of sheet (feeds_behind s.options ParagraphKind) (last_of (TextEnd ParagraphKind)) None))
  unfolding spelling
  ended start kids next sheet =
      ap (λ o. then_site o (λ here. spelling s m empty (beyond Paragraph kids (around [] [] next)) here.path here.page)) (closed start sheet)

  abbrev left_page : List ℕ → Page
  left_page text = page_of (within text) (feeds_behind s.options ParagraphKind) (last_of (TextEnd ParagraphKind)) None

  paragraph_spelled : (l : List ℕ) (ms : List (List ℕ)) (before : LastEnd) (owed : ℕ) (next : Option EventView) → AreLinesIn s m (l ∷ ms) → spelling s m (node Paragraph (line_trees l ms) empty) (whole next) [] (page_of blank owed (last_of before) None) ≡ Some (site [] (left_page (replicate owed 10 ++ lines_text s m l ms)))
  paragraph_spelled l ms before owed next h =
      let kids : Trees = line_trees l ms in
      let sheet : Sheet = laid [] (replicate owed 10) blank in
      entered_gap kids next (page_of blank owed (last_of before) None)
      ∙ ap (from_gap kids next) (gap_before before owed ∙ ap (λ n. page_of (laid [] (replicate n 10) blank) 0 (last_of before) None) (all_left owed))
      ∙ ap (λ o. then_site o (λ here. from_opening kids next here)) (opened kids (around [] [] next) sheet (last_of before))
      ∙ entered (length sheet.text) kids next (page_of sheet 0 Other None)
      ∙ ap (λ o. then_site o (λ full. from_texts kids next full)) (lines_spelled sheet l ms [] next h)
      ∙ ended (length sheet.text) kids next (within (sheet.text ++ lines_text s m l ms))
      ∙ ap (λ (x : List ℕ). Some (site [] (left_page (x ++ lines_text s m l ms)))) (laid-plain (replicate owed 10) blank)

-- the paragraph as a unit
abbrev pub para : List ℕ → List (List ℕ) → Trees
para l ms = node Paragraph (line_trees l ms) empty

no_sources : (l : List ℕ) (ms : List (List ℕ)) → has_source (line_trees l ms) ≡ false
no_sources l [] = refl
no_sources l (n ∷ ms) = no_sources n ms

lines_undelimited : (l : List ℕ) (ms : List (List ℕ)) → is_delimiter_block (line_trees l ms) ≡ false
lines_undelimited l [] = refl
lines_undelimited l (n ∷ ms) = lines_undelimited n ms

undelimited : (l : List ℕ) (ms : List (List ℕ)) → is_delimiter_block (para l ms) ≡ false
undelimited l ms = neither_in (some_tag is_delimiter_tag (line_trees l ms)) (some_leaf is_math (line_trees l ms)) (lines_undelimited l ms)

lines_placed : (l : List ℕ) (ms : List (List ℕ)) (a : Around) → needs_placeholder_at (line_trees l ms) a ≡ false
lines_placed l [] a = refl
lines_placed l (n ∷ ms) a = lines_placed n ms _

pub para_placed : (l : List ℕ) (ms : List (List ℕ)) → needs_placeholder (para l ms) ≡ false
unfolding needs_placeholder
para_placed l ms = ap (λ x. x || false) (lines_placed l ms _)

pub page_is : (d : DocumentView) (owed : ℕ) (before : LastEnd) → IsCalm d owed before → page_in d ≡ page_of blank owed (last_of before) None
page_is d owed before h =
    ap (λ n. record { sheet = record { text = []; feeds = n }; trail = d.trail; references = []; held = None }) h.feeds
    ∙ ap (λ t. record { sheet = blank; trail = t; references = []; held = None }) h.trail

-- a unit's choice is this text, and what follows it is after so many line feeds and such a block
pub record IsHanded (s : Setting) (d : DocumentView) (unit : Trees) (next : Option EventView) (text : List ℕ) (owed : ℕ) (before : LastEnd) : Type 0 where
  pub document : DocumentView
  pub is : chosen s d (flat unit) next ≡ Ok (text, document)
  pub after : IsCalm document owed before

module _ (s : Setting) (d : DocumentView) (l : List ℕ) (ms : List (List ℕ)) (next : Option EventView) where
  abbrev text_of : ℕ → List ℕ
  text_of owed = replicate owed 10 ++ lines_text s (preferred_manner s.options) l ms

  page_spelled : (owed : ℕ) (before : LastEnd) → IsCalm d owed before → AreLinesIn s (preferred_manner s.options) (l ∷ ms) → spelled s d (para l ms) next (preferred_manner s.options) ≡ Some (left_page s (text_of owed))
  unfolding spelled
  page_spelled owed before h lines =
      ap (λ p. choice.page_of (spelling s (preferred_manner s.options) (para l ms) (whole next) [] p)) (page_is d owed before h)
      ∙ ap choice.page_of (paragraph_spelled s l ms before owed next lines)

  left_calm : (owed : ℕ) (before : LastEnd) → IsCalm d owed before → IsCalm (document_after s d (left_page s (text_of owed))) (feeds_behind s.options ParagraphKind) (TextEnd ParagraphKind)
  unfolding document_after
  left_calm owed before h = record { trail = refl; feeds = refl; none = append-nil d.references ∙ h.none }

  unasked : (has_source (para l ms) && has_standard_markers s.options) ≡ false
  unasked = ap (λ x. (x || false) && has_standard_markers s.options) (no_sources l ms)

  pub para_chosen : s.options.check_plain_blocks ≡ false → s.label ≡ None → (owed : ℕ) (before : LastEnd) → IsCalm d owed before → AreLinesIn s (preferred_manner s.options) (l ∷ ms) → IsHanded s d (para l ms) next (text_of owed) (feeds_behind s.options ParagraphKind) (TextEnd ParagraphKind)
  para_chosen off none owed before h lines = record {
    document = document_after s d (left_page s (text_of owed));
    is =
        chosen-unlabelled s d (para l ms) next none (para_placed l ms)
        ∙ choice-unasked s d (para l ms) next (undelimited l ms) off unasked
        ∙ ap (accepted_if s d) (page_spelled owed before h lines);
    after = left_calm owed before h;
  }

-- a thematic break as a unit

abbrev pub rule_leaf : SourcedLeaf
rule_leaf = record { leaf = Rule; source = None }

abbrev pub rule_unit : Trees
rule_unit = leaf rule_leaf empty

pub rule_placed : needs_placeholder rule_unit ≡ false
unfolding needs_placeholder
rule_placed = refl

rule_gap : (before : LastEnd) (owed : ℕ) → gap (Leaf Rule) [] (page_of blank owed (last_of before) None) ≡ page_of (laid [] (replicate (max owed 0 - 0) 10) blank) 0 (last_of before) None
rule_gap NoEnd owed = refl
rule_gap CodeEnd owed = refl
rule_gap (TextEnd ParagraphKind) owed = refl
rule_gap (TextEnd (HeadingKind level)) owed = refl

-- after such blocks it is three hyphens
rule_hyphens : (before : LastEnd) → rule_text (last_of before) [] ≡ hyphens
rule_hyphens NoEnd = refl
rule_hyphens CodeEnd = refl
rule_hyphens (TextEnd ParagraphKind) = refl
rule_hyphens (TextEnd (HeadingKind level)) = refl

rule_laid : (owed : ℕ) → laid [] hyphens (laid [] (replicate owed 10) blank) ≡ within (replicate owed 10 ++ hyphens)
rule_laid owed = laid_some hyphens (laid [] (replicate owed 10) blank) (omega arith) hyphens_printable ∙ ap (λ (x : List ℕ). within (x ++ hyphens)) (laid-plain (replicate owed 10) blank)

module _ (s : Setting) where
  abbrev rule_feeds : ℕ
  rule_feeds = max s.options.newlines_after_rule 1

  abbrev rule_page : ℕ → Page
  rule_page owed = page_of (within (replicate owed 10 ++ hyphens)) rule_feeds Other None

  -- the break after its gap
  abbrev ruled : List ℕ → Page → Site
  ruled text g = site [] (record g { sheet = laid [] text g.sheet; trail = record g.trail { last = Other; owed = rule_feeds } })

  rule_on_page : (a : Around) (p g : Page) → gap (Leaf Rule) [] p ≡ g → leaf_on s (preferred_manner s.options) rule_leaf a [] p ≡ ruled (rule_text g.trail.last []) g
  unfolding leaf_on
  rule_on_page a p g e = ap (λ (g : Page). ruled (rule_text g.trail.last []) g) e

  rule_written : (a : Around) (before : LastEnd) (owed : ℕ) → leaf_on s (preferred_manner s.options) rule_leaf a [] (page_of blank owed (last_of before) None) ≡ site [] (rule_page owed)
  rule_written a before owed =
      let feeds : Page = page_of (laid [] (replicate owed 10) blank) 0 (last_of before) None in
      rule_on_page a (page_of blank owed (last_of before) None) feeds (rule_gap before owed ∙ ap (λ n. page_of (laid [] (replicate n 10) blank) 0 (last_of before) None) (all_left owed))
      ∙ ap (λ (t : List ℕ). ruled t feeds) (rule_hyphens before)
      ∙ ap (λ (x : Sheet). site [] (page_of x rule_feeds Other None)) (rule_laid owed)

  rule_spelled : (before : LastEnd) (owed : ℕ) (next : Option EventView) → spelling s (preferred_manner s.options) rule_unit (whole next) [] (page_of blank owed (last_of before) None) ≡ Some (site [] (rule_page owed))
  rule_spelled before owed next =
      spelled_leaf s rule_leaf empty (whole next) [] (page_of blank owed (last_of before) None) (site [] (rule_page owed)) (rule_written (ahead_of empty (whole next)) before owed)
      ∙ spelled_end s (past (Leaf rule_leaf) (whole next)) (site [] (rule_page owed))

module _ (s : Setting) (d : DocumentView) (next : Option EventView) where
  rule_page_spelled : (owed : ℕ) (before : LastEnd) → IsCalm d owed before → spelled s d rule_unit next (preferred_manner s.options) ≡ Some (rule_page s owed)
  unfolding spelled
  rule_page_spelled owed before h =
      ap (λ p. choice.page_of (spelling s (preferred_manner s.options) rule_unit (whole next) [] p)) (page_is d owed before h)
      ∙ ap choice.page_of (rule_spelled s before owed next)

  rule_calm : (owed : ℕ) (before : LastEnd) → IsCalm d owed before → IsCalm (document_after s d (rule_page s owed)) (rule_feeds s) NoEnd
  unfolding document_after
  rule_calm owed before h = record { trail = refl; feeds = refl; none = append-nil d.references ∙ h.none }

  pub rule_chosen : s.options.check_plain_blocks ≡ false → s.label ≡ None → (owed : ℕ) (before : LastEnd) → IsCalm d owed before → IsHanded s d rule_unit next (replicate owed 10 ++ hyphens) (max s.options.newlines_after_rule 1) NoEnd
  rule_chosen off none owed before h = record {
    document = document_after s d (rule_page s owed);
    is =
        chosen-unlabelled s d rule_unit next none rule_placed
        ∙ choice-unasked s d rule_unit next refl off refl
        ∙ ap (accepted_if s d) (rule_page_spelled owed before h);
    after = rule_calm owed before h;
  }
