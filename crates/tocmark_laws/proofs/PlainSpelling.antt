-- What the lines of a paragraph are spelled as: their escapes, joined by line feeds.
use Rattle.std.proofs.Common.{◌≡◌, ℕ, ◌<◌, ◌≤◌, Bool, true, false, ◌==◌, ◌&&◌, if◌then◌else◌, nat_lt, List, [], ◌∷◌, ◌++◌, length, refl, ap, sym, subst, ◌∙◌, arith, append_assoc, append-nil, length-append, Option, Some, None}
use Rattle.std.proofs.lemmas.Bool.Decides.{nat_tests}
use Rattle.tocmark_event.specs.Forest.{empty, leaf}
use Rattle.tocmark_event.specs.View.{EventView, Start, End, Leaf, Text, SoftBreak, Paragraph, SourcedEvent, SourcedLeaf}
use Rattle.tocmark_event.specs.declared.event.TagEnd.TheVariants as end
use Rattle.tocmark_reader.proofs.PlainReading.{IsPrintable}
use Rattle.tocmark_spelling.specs.Body.{Trees}
use Rattle.tocmark_write_texts.specs.Escape.{Surroundings, escaped}
use Rattle.tocmark_spelling.specs.Kinds.{is_emphasis_or_strong, starts, and_is}
use Rattle.tocmark_spelling.specs.Page.{Sheet, laid, put_byte, Path, Page, Site, Around, Trail, Plain, Reference}
use Rattle.tocmark_spelling.specs.declared.trail.Last.{Last}
use Rattle.tocmark_spelling.specs.declared.trail.Last.TheVariants.{Inline, Other}
use Rattle.tocmark_spelling.specs.Plan.{Setting, Manner}
use Rattle.tocmark_spelling.specs.Spelling.{spelling}
use Rattle.tocmark_spelling.specs.Stretch.{leaf_on, is_literal, has_entities}
use Rattle.tocmark_spelling.specs.Runs.{ahead_of, past}
use Rattle.tocmark_reader.proofs.PlainReading.{IsPlainLine, some_front}
use Rattle.tocmark_laws.proofs.PlainCharacters.{parts_of}
use Rattle.tocmark_laws.proofs.PlainEscapes.{ArePrintable, escape_is}
use Rattle.tocmark_laws.proofs.PlainEscapedTexts.{IsLine, plain_line}
use Rattle.tocmark_laws.proofs.PlainEscapedBytes.{escaped_is}
use Rattle.tocmark_read_scan.specs.PlainParts.{spelled}
use Rattle.tocmark_laws.specs.PlainLines.{PlacedLine, escaped_text}

-- a paragraph's lines as leaves, with a soft break between two
abbrev pub text_leaf : List ℕ → SourcedLeaf
text_leaf l = record { leaf = Text l; source = None }

abbrev pub break_leaf : SourcedLeaf
break_leaf = record { leaf = SoftBreak; source = None }

abbrev pub line_trees : List ℕ → List (List ℕ) → Trees
line_trees l [] = leaf (text_leaf l) empty
line_trees l (m ∷ ms) = leaf (text_leaf l) (leaf break_leaf (line_trees m ms))

-- inside a paragraph at the top
abbrev pub in_paragraph : Path
in_paragraph = record { tag = Paragraph; prefix = []; start = 0; content = Plain } ∷ []

abbrev pub calm : Last → Trail
calm last = record { owed = 0; last = last; last_list = None; quote_line = None; raw_end = false; open_html = false }

-- a page inside it
abbrev pub page_of : Sheet → Last → List Reference → Page
page_of sheet last refs = record { sheet = sheet; trail = calm last; references = refs; held = None }

-- what follows a line
abbrev pub next_of : List (List ℕ) → EventView
next_of [] = End end.Paragraph
next_of (m ∷ ms) = Leaf SoftBreak

-- the place of a line
abbrev pub line_place : Setting → Manner → EventView → Surroundings
line_place s m next = record {
  flags = s.flags;
  token = s.options.emphasis_token;
  literal = is_literal m.plan.text;
  first_encoded = has_entities m.plan.text && false;
  last_encoded = has_entities m.plan.text && and_is (λ e. starts is_emphasis_or_strong e) (Some next);
  at_front = true;
  in_table = false;
  in_heading = false;
  next = Some next;
}

abbrev pub around : List SourcedEvent → List SourcedEvent → Option EventView → Around
around before after next = record { before = before; after = after; next = next }

-- a sheet at whose end a line begins
abbrev pub begun : List ℕ → Sheet
begun text = record { text = text; feeds = 1 }

-- a sheet that ends with a byte of a line
abbrev pub within : List ℕ → Sheet
within text = record { text = text; feeds = 0 }

-- the site with this sheet
abbrev pub site_of : Sheet → List Reference → Site
site_of sheet refs = record { path = in_paragraph; page = page_of sheet Inline refs }

-- a text, last or not, at the front of the document or of a line
first_last : (s : Setting) (m : Manner) (l : List ℕ) (after : List SourcedEvent) (next : Option EventView) (refs : List Reference) → m.source ≡ false → leaf_on s m (text_leaf l) (around (Start Paragraph ∷ []) (End end.Paragraph ∷ after) next) in_paragraph (page_of (within []) Other refs) ≡ site_of (laid [] (escaped (line_place s m (End end.Paragraph)) l) (within [])) refs
unfolding leaf_on
first_last s m l after next refs k = rw k refl

first_then : (s : Setting) (m : Manner) (l : List ℕ) (after : List SourcedEvent) (next : Option EventView) (refs : List Reference) → m.source ≡ false → leaf_on s m (text_leaf l) (around (Start Paragraph ∷ []) (Leaf break_leaf ∷ after) next) in_paragraph (page_of (within []) Other refs) ≡ site_of (laid [] (escaped (line_place s m (Leaf SoftBreak)) l) (within [])) refs
unfolding leaf_on
first_then s m l after next refs k = rw k refl

later_last : (s : Setting) (m : Manner) (text l : List ℕ) (before after : List SourcedEvent) (next : Option EventView) (refs : List Reference) → m.source ≡ false → leaf_on s m (text_leaf l) (around (Leaf break_leaf ∷ before) (End end.Paragraph ∷ after) next) in_paragraph (page_of (begun text) Inline refs) ≡ site_of (laid [] (escaped (line_place s m (End end.Paragraph)) l) (begun text)) refs
unfolding leaf_on
later_last s m text l before after next refs k = rw k refl

later_then : (s : Setting) (m : Manner) (text l : List ℕ) (before after : List SourcedEvent) (next : Option EventView) (refs : List Reference) → m.source ≡ false → leaf_on s m (text_leaf l) (around (Leaf break_leaf ∷ before) (Leaf break_leaf ∷ after) next) in_paragraph (page_of (begun text) Inline refs) ≡ site_of (laid [] (escaped (line_place s m (Leaf SoftBreak)) l) (begun text)) refs
unfolding leaf_on
later_then s m text l before after next refs k = rw k refl

-- a soft break is a line feed
break_laid : (s : Setting) (m : Manner) (text : List ℕ) (before after : List SourcedEvent) (next : Option EventView) (refs : List Reference) → leaf_on s m break_leaf (around before after next) in_paragraph (page_of (within text) Inline refs) ≡ site_of (begun (text ++ 10 ∷ [])) refs
unfolding leaf_on
break_laid s m text before after next refs = ap (λ x. site_of (begun (x ++ 10 ∷ [])) refs) (append-nil text)

either_way : (b : Bool) (xs : List ℕ) → (if b then xs else xs) ≡ xs
either_way true xs = refl
either_way false xs = refl

byte_laid : (x : ℕ) (s : Sheet) → IsPrintable x → put_byte [] x s ≡ within (s.text ++ x ∷ [])
byte_laid x s h =
    let low : 32 ≤ x = h.low in
    let feed : (x == 10) ≡ false = grind (arith, nat_tests) in
    rw feed (ap (λ z. within ((s.text ++ z) ++ x ∷ [])) (either_way (nat_lt 0 s.feeds) []) ∙ ap (λ z. within (z ++ x ∷ [])) (append-nil s.text))

-- printable bytes that are laid with no prefix
laid_line : (x : ℕ) (xs : List ℕ) (s : Sheet) → ArePrintable (x ∷ xs) → laid [] (x ∷ xs) s ≡ within (s.text ++ x ∷ xs)
laid_line x [] s h = byte_laid x s (h.0)
laid_line x (y ∷ ys) s h =
    ap (laid [] (y ∷ ys)) (byte_laid x s (h.0))
    ∙ laid_line y ys (within (s.text ++ x ∷ [])) (h.1)
    ∙ ap within (append_assoc s.text (x ∷ []) (y ∷ ys))

laid_some : (xs : List ℕ) (s : Sheet) → 0 < length xs → ArePrintable xs → laid [] xs s ≡ within (s.text ++ xs)
laid_some [] s some h = absurd (omega arith)
laid_some (x ∷ xs) s some h = laid_line x xs s h

-- the escape of a line isn't empty, and its bytes are printable
escape_stands : (l : PlacedLine) → IsLine l → (0 < length (escaped l.0 l.1)) × ArePrintable (escaped l.0 l.1)
escape_stands l h =
    let same : escaped l.0 l.1 ≡ spelled (parts_of l.0 l.1) = escaped_is l h ∙ escape_is l.0 l.1 h.place h.printable in
    let plain : IsPlainLine (parts_of l.0 l.1) = plain_line l.0 l.1 h in
    (subst (λ (xs : List ℕ). 0 < length xs) (sym same) (some_front (spelled (parts_of l.0 l.1)) plain.begins), subst ArePrintable (sym same) plain.printable)

-- the escape of a line, laid with no prefix
laid_escape : (l : PlacedLine) (s : Sheet) → IsLine l → laid [] (escaped l.0 l.1) s ≡ within (s.text ++ escaped l.0 l.1)
laid_escape l s h = let stands = escape_stands l h in laid_some (escaped l.0 l.1) s (stands.0) (stands.1)

-- a line at its place, and further lines at theirs
abbrev pub placed : Setting → Manner → List ℕ → List (List ℕ) → PlacedLine
placed s m l ms = (line_place s m (next_of ms), l)

abbrev pub all_placed : Setting → Manner → List (List ℕ) → List PlacedLine
all_placed s m [] = []
all_placed s m (l ∷ ls) = placed s m l ls ∷ all_placed s m ls

-- the escapes of lines at their places, joined by line feeds
abbrev pub lines_text : Setting → Manner → List ℕ → List (List ℕ) → List ℕ
lines_text s m l ms = escaped_text (placed s m l ms) (all_placed s m ms)

-- each line may be at its place
abbrev pub AreLinesIn : Setting → Manner → List (List ℕ) → Type 0
AreLinesIn s m [] = Unit {0}
AreLinesIn s m (l ∷ ls) = IsLine (placed s m l ls) × AreLinesIn s m ls

longer : (xs ys : List ℕ) → 0 < length xs → 0 < length (xs ++ ys)
longer xs ys h = omega (arith, length-append xs ys)

-- the escapes of lines aren't empty
pub written_some : (s : Setting) (m : Manner) (l : List ℕ) (ms : List (List ℕ)) → AreLinesIn s m (l ∷ ms) → 0 < length (lines_text s m l ms)
written_some s m l [] h = (escape_stands (placed s m l []) (h.0)).0
written_some s m l (n ∷ ms) h = longer (escaped (line_place s m (Leaf SoftBreak)) l) (10 ∷ lines_text s m n ms) ((escape_stands (placed s m l (n ∷ ms)) (h.0)).0)

-- the spelling of a leaf and of what is right of it
pub spelled_leaf : (s : Setting) (m : Manner) (l : SourcedLeaf) (f : Trees) (a : Around) (path : Path) (p : Page) (here : Site) → leaf_on s m l (ahead_of f a) path p ≡ here → spelling s m (leaf l f) a path p ≡ spelling s m f (past (Leaf l) a) here.path here.page
unfolding spelling
spelled_leaf s m l f a path p here e = ap (λ (x : Site). spelling s m f (past (Leaf l) a) x.path x.page) e

pub spelled_end : (s : Setting) (m : Manner) (a : Around) (here : Site) → spelling s m empty a here.path here.page ≡ Some here
unfolding spelling
spelled_end s m a here = refl

-- what lines after a soft break are spelled as
later_lines : (s : Setting) (m : Manner) (text l : List ℕ) (ms : List (List ℕ)) (before after : List SourcedEvent) (next : Option EventView) (refs : List Reference) → m.source ≡ false → AreLinesIn s m (l ∷ ms) → spelling s m (line_trees l ms) (around (Leaf break_leaf ∷ before) (End end.Paragraph ∷ after) next) in_paragraph (page_of (begun text) Inline refs) ≡ Some (site_of (within (text ++ lines_text s m l ms)) refs)
later_lines s m text l [] before after next refs k h =
    let sheet = laid_escape (placed s m l []) (begun text) (h.0) in
    spelled_leaf s m (text_leaf l) empty (around (Leaf break_leaf ∷ before) (End end.Paragraph ∷ after) next) in_paragraph (page_of (begun text) Inline refs) _ (later_last s m text l before after next refs k ∙ ap (λ x. site_of x refs) sheet)
    ∙ spelled_end s m _ (site_of (within (text ++ lines_text s m l [])) refs)
later_lines s m text l (n ∷ ms) before after next refs k h =
    let line : List ℕ = escaped (line_place s m (Leaf SoftBreak)) l in
    let sheet = laid_escape (placed s m l (n ∷ ms)) (begun text) (h.0) in
    let joined : ((text ++ line) ++ 10 ∷ []) ++ lines_text s m n ms ≡ text ++ lines_text s m l (n ∷ ms) =
    append_assoc (text ++ line) (10 ∷ []) (lines_text s m n ms) ∙ append_assoc text line (10 ∷ lines_text s m n ms)
    in
    spelled_leaf s m (text_leaf l) (leaf break_leaf (line_trees n ms)) (around (Leaf break_leaf ∷ before) (End end.Paragraph ∷ after) next) in_paragraph (page_of (begun text) Inline refs) _ (later_then s m text l before _ next refs k ∙ ap (λ x. site_of x refs) sheet)
    ∙ spelled_leaf s m break_leaf (line_trees n ms) (around (Leaf (text_leaf l) ∷ Leaf break_leaf ∷ before) (End end.Paragraph ∷ after) next) in_paragraph (page_of (within (text ++ line)) Inline refs) _ (break_laid s m (text ++ line) _ _ next refs)
    ∙ later_lines s m ((text ++ line) ++ 10 ∷ []) n ms (Leaf (text_leaf l) ∷ Leaf break_leaf ∷ before) after next refs k (h.1)
    ∙ ap (λ x. Some (site_of (within x) refs)) joined

-- the lines of the first paragraph of a document are spelled as their escapes, joined by line feeds
pub lines_spelled : (s : Setting) (m : Manner) (l : List ℕ) (ms : List (List ℕ)) (after : List SourcedEvent) (next : Option EventView) (refs : List Reference) → m.source ≡ false → AreLinesIn s m (l ∷ ms) → spelling s m (line_trees l ms) (around (Start Paragraph ∷ []) (End end.Paragraph ∷ after) next) in_paragraph (page_of (within []) Other refs) ≡ Some (site_of (within (lines_text s m l ms)) refs)
lines_spelled s m l [] after next refs k h =
    let sheet = laid_escape (placed s m l []) (within []) (h.0) in
    spelled_leaf s m (text_leaf l) empty (around (Start Paragraph ∷ []) (End end.Paragraph ∷ after) next) in_paragraph (page_of (within []) Other refs) _ (first_last s m l after next refs k ∙ ap (λ x. site_of x refs) sheet)
    ∙ spelled_end s m _ (site_of (within (lines_text s m l [])) refs)
lines_spelled s m l (n ∷ ms) after next refs k h =
    let line : List ℕ = escaped (line_place s m (Leaf SoftBreak)) l in
    let sheet = laid_escape (placed s m l (n ∷ ms)) (within []) (h.0) in
    let joined : (line ++ 10 ∷ []) ++ lines_text s m n ms ≡ lines_text s m l (n ∷ ms) = append_assoc line (10 ∷ []) (lines_text s m n ms) in
    spelled_leaf s m (text_leaf l) (leaf break_leaf (line_trees n ms)) (around (Start Paragraph ∷ []) (End end.Paragraph ∷ after) next) in_paragraph (page_of (within []) Other refs) _ (first_then s m l _ next refs k ∙ ap (λ x. site_of x refs) sheet)
    ∙ spelled_leaf s m break_leaf (line_trees n ms) (around (Leaf (text_leaf l) ∷ Start Paragraph ∷ []) (End end.Paragraph ∷ after) next) in_paragraph (page_of (within line) Inline refs) _ (break_laid s m line _ _ next refs)
    ∙ later_lines s m (line ++ 10 ∷ []) n ms (Leaf (text_leaf l) ∷ Start Paragraph ∷ []) after next refs k (h.1)
    ∙ ap (λ x. Some (site_of (within x) refs)) joined
