-- From what is said, each piece with its depth, to events: a container ends before what isn't deeper.
use Rattle.std.proofs.Common.{◌≡◌, ℕ, zero, suc, ◌+◌, ◌≤◌, Bool, true, false, ◌==◌, List, [], ◌∷◌, ◌++◌, length, map, take, drop, reverse, refl, ap, sym, ◌∙◌, subst, arith, append_assoc, append-nil, length-append}
use Rattle.std.specs.Prelude.{Some, None}
use Rattle.std.proofs.lemmas.List.{map-append, reverse-append}
use Rattle.tocmark_event.specs.declared.event.TagEnd.{TagEnd}
use Rattle.tocmark_event.specs.Merged.{after_text, merged}
use Rattle.tocmark_event.specs.View.{TagView, Paragraph, Heading, BlockQuote, CodeBlock, Indented, Fenced, HtmlBlock, ListOf, Item, FootnoteDefinition, DefinitionList, DefinitionListTitle, DefinitionListDefinition, Table, TableHead, TableRow, TableCell, Emphasis, Strong, Strikethrough, Superscript, Subscript, Link, Image, MetadataBlock, EventView, Start, End, Leaf, LeafView, Text, Code, InlineMath, DisplayMath, Html, InlineHtml, FootnoteReference, SoftBreak, HardBreak, Rule, TaskListMarker, end_of}
use Rattle.tocmark_commonmark.specs.Blocks.{blocks_of}
use Rattle.tocmark_commonmark.specs.Events.{events_of, element, inline_events, inline_event, paragraph_events, code_events, fed, html_events, block_events, block_event}
use Rattle.tocmark_commonmark.specs.InlineTree as inline
use Rattle.tocmark_commonmark.specs.Inlines.{inlines}
use Rattle.tocmark_commonmark.specs.Links.{Destination}
use Rattle.tocmark_commonmark.specs.Tokens.{resolved}
use Rattle.tocmark_commonmark.specs.Tree as block
use Rattle.tocmark_inline_laws.specs.Said.{Piece, letters, declared, declared_one}
use Rattle.tocmark_standard_laws.specs.Lettered.{letter_events, html_letters, lettered, as_text}
use Rattle.tocmark_standard_laws.specs.Ended.{end_events, ends_from, opened, ended, DeclaredEventsAreSaid}
use Rattle.tocmark_standard_laws.specs.Labels.{destinations_of}
use Rattle.tocmark_standard_laws.specs.SaidBlocks.{html_at, line_said, html_said, words_said, blocks_said, block_said}

-- texts of letters

pub lettered_append : (xs ys : List EventView) → lettered (xs ++ ys) ≡ lettered xs ++ lettered ys
lettered_append [] ys = refl
lettered_append (Leaf (Text t) ∷ es) ys = ap (λ zs. letter_events t ++ zs) (lettered_append es ys) ∙ sym (append_assoc (letter_events t) (lettered es) (lettered ys))
lettered_append (Leaf (Code t) ∷ es) ys = ap (λ zs. Leaf (Code t) ∷ zs) (lettered_append es ys)
lettered_append (Leaf (InlineMath t) ∷ es) ys = ap (λ zs. Leaf (InlineMath t) ∷ zs) (lettered_append es ys)
lettered_append (Leaf (DisplayMath t) ∷ es) ys = ap (λ zs. Leaf (DisplayMath t) ∷ zs) (lettered_append es ys)
lettered_append (Leaf (Html t) ∷ es) ys = ap (λ zs. html_letters t ++ zs) (lettered_append es ys) ∙ sym (append_assoc (html_letters t) (lettered es) (lettered ys))
lettered_append (Leaf (InlineHtml t) ∷ es) ys = ap (λ zs. Leaf (InlineHtml t) ∷ zs) (lettered_append es ys)
lettered_append (Leaf (FootnoteReference t) ∷ es) ys = ap (λ zs. Leaf (FootnoteReference t) ∷ zs) (lettered_append es ys)
lettered_append (Leaf SoftBreak ∷ es) ys = ap (λ zs. Leaf SoftBreak ∷ zs) (lettered_append es ys)
lettered_append (Leaf HardBreak ∷ es) ys = ap (λ zs. Leaf HardBreak ∷ zs) (lettered_append es ys)
lettered_append (Leaf Rule ∷ es) ys = ap (λ zs. Leaf Rule ∷ zs) (lettered_append es ys)
lettered_append (Leaf (TaskListMarker b) ∷ es) ys = ap (λ zs. Leaf (TaskListMarker b) ∷ zs) (lettered_append es ys)
lettered_append (Start t ∷ es) ys = ap (λ zs. Start t ∷ zs) (lettered_append es ys)
lettered_append (End e ∷ es) ys = ap (λ zs. End e ∷ zs) (lettered_append es ys)

pub letter_append : (xs ys : List ℕ) → letter_events (xs ++ ys) ≡ letter_events xs ++ letter_events ys
letter_append [] ys = refl
letter_append (x ∷ xs) ys = ap (λ zs. Leaf (Text (x ∷ [])) ∷ zs) (letter_append xs ys)

-- joining texts changes no letter
after_lettered : (t : List ℕ) (es : List EventView) → lettered (after_text t es) ≡ letter_events t ++ lettered es
after_lettered t [] = refl
after_lettered t (Leaf (Text u) ∷ es) = ap (λ zs. zs ++ lettered es) (letter_append t u) ∙ append_assoc (letter_events t) (letter_events u) (lettered es)
after_lettered t (Leaf (Code u) ∷ es) = refl
after_lettered t (Leaf (InlineMath u) ∷ es) = refl
after_lettered t (Leaf (DisplayMath u) ∷ es) = refl
after_lettered t (Leaf (Html u) ∷ es) = refl
after_lettered t (Leaf (InlineHtml u) ∷ es) = refl
after_lettered t (Leaf (FootnoteReference u) ∷ es) = refl
after_lettered t (Leaf SoftBreak ∷ es) = refl
after_lettered t (Leaf HardBreak ∷ es) = refl
after_lettered t (Leaf Rule ∷ es) = refl
after_lettered t (Leaf (TaskListMarker b) ∷ es) = refl
after_lettered t (Start x ∷ es) = refl
after_lettered t (End e ∷ es) = refl

pub merged_lettered : (es : List EventView) → lettered (merged es) ≡ lettered es
merged_lettered [] = refl
merged_lettered (Leaf (Text t) ∷ es) = after_lettered t (merged es) ∙ ap (λ zs. letter_events t ++ zs) (merged_lettered es)
merged_lettered (Leaf (Code t) ∷ es) = ap (λ zs. Leaf (Code t) ∷ zs) (merged_lettered es)
merged_lettered (Leaf (InlineMath t) ∷ es) = ap (λ zs. Leaf (InlineMath t) ∷ zs) (merged_lettered es)
merged_lettered (Leaf (DisplayMath t) ∷ es) = ap (λ zs. Leaf (DisplayMath t) ∷ zs) (merged_lettered es)
merged_lettered (Leaf (Html t) ∷ es) = ap (λ zs. html_letters t ++ zs) (merged_lettered es)
merged_lettered (Leaf (InlineHtml t) ∷ es) = ap (λ zs. Leaf (InlineHtml t) ∷ zs) (merged_lettered es)
merged_lettered (Leaf (FootnoteReference t) ∷ es) = ap (λ zs. Leaf (FootnoteReference t) ∷ zs) (merged_lettered es)
merged_lettered (Leaf SoftBreak ∷ es) = ap (λ zs. Leaf SoftBreak ∷ zs) (merged_lettered es)
merged_lettered (Leaf HardBreak ∷ es) = ap (λ zs. Leaf HardBreak ∷ zs) (merged_lettered es)
merged_lettered (Leaf Rule ∷ es) = ap (λ zs. Leaf Rule ∷ zs) (merged_lettered es)
merged_lettered (Leaf (TaskListMarker b) ∷ es) = ap (λ zs. Leaf (TaskListMarker b) ∷ zs) (merged_lettered es)
merged_lettered (Start t ∷ es) = ap (λ zs. Start t ∷ zs) (merged_lettered es)
merged_lettered (End e ∷ es) = ap (λ zs. End e ∷ zs) (merged_lettered es)

-- what comes next isn't deeper
abbrev pub IsLow : ℕ → List Piece → Type 0
IsLow d [] = Unit {0}
IsLow d (p ∷ ps) = p.0 ≤ d

drop_more : (d : ℕ) (stack : List TagEnd) (e : TagEnd) → d ≤ length stack → drop d (stack ++ e ∷ []) ≡ drop d stack ++ e ∷ []
drop_more zero [] e l = refl
drop_more zero (s ∷ ss) e l = refl
drop_more (suc d) [] e l = absurd (omega arith)
drop_more (suc d) (s ∷ ss) e l = drop_more d ss e (omega arith)

take_more : (d : ℕ) (stack : List TagEnd) (e : TagEnd) → d ≤ length stack → take d (stack ++ e ∷ []) ≡ take d stack
take_more zero [] e l = refl
take_more zero (s ∷ ss) e l = refl
take_more (suc d) [] e l = absurd (omega arith)
take_more (suc d) (s ∷ ss) e l = ap (λ (xs : List TagEnd). s ∷ xs) (take_more d ss e (omega arith))

ends_more : (d : ℕ) (stack : List TagEnd) (e : TagEnd) → d ≤ length stack → ends_from d (stack ++ e ∷ []) ≡ End e ∷ ends_from d stack
ends_more d stack e l = ap end_events (drop_more d stack e l) ∙ ap (λ (xs : List TagEnd). map (λ (x : TagEnd). End x) xs) (reverse-append (drop d stack) (e ∷ []))

drop_all : (stack : List TagEnd) → drop (length stack) stack ≡ []
drop_all [] = refl
drop_all (s ∷ ss) = drop_all ss

take_whole : (stack : List TagEnd) → take (length stack) stack ≡ stack
take_whole [] = refl
take_whole (s ∷ ss) = ap (λ (xs : List TagEnd). s ∷ xs) (take_whole ss)

ends_none : (stack : List TagEnd) → ends_from (length stack) stack ≡ []
ends_none stack = ap end_events (drop_all stack)

-- a container ends before what isn't deeper
ends_before : (stack : List TagEnd) (e : TagEnd) (ps : List Piece) → IsLow (length stack) ps → ended (stack ++ e ∷ []) ps ≡ End e ∷ ended stack ps
ends_before stack e [] l = ends_more 0 stack e (omega arith)
ends_before stack e (p ∷ ps) l =
    ap (λ (es : List EventView). es ++ (p.1 ∷ ended (opened (p.1) (take (p.0) (stack ++ e ∷ []))) ps)) (ends_more (p.0) stack e l)
    ∙ ap (λ (xs : List TagEnd). (End e ∷ ends_from (p.0) stack) ++ (p.1 ∷ ended (opened (p.1) xs) ps)) (take_more (p.0) stack e l)

-- what is in a container, at the depth of the open ones
container_ended : (stack : List TagEnd) (d : ℕ) (t : TagView) (inside ps : List Piece) (es : List EventView) → d ≡ length stack → IsLow d ps → (ended (stack ++ end_of t ∷ []) (inside ++ ps) ≡ es ++ ended (stack ++ end_of t ∷ []) ps)
    → ended stack (((d, Start t) ∷ inside) ++ ps) ≡ (Start t ∷ es ++ End (end_of t) ∷ []) ++ ended stack ps
container_ended stack d t inside ps es same low h =
    ap (λ n. ends_from n stack ++ (Start t ∷ ended (take n stack ++ end_of t ∷ []) (inside ++ ps))) same
    ∙ ap (λ (xs : List EventView). xs ++ (Start t ∷ ended (take (length stack) stack ++ end_of t ∷ []) (inside ++ ps))) (ends_none stack)
    ∙ ap (λ (xs : List TagEnd). Start t ∷ ended (xs ++ end_of t ∷ []) (inside ++ ps)) (take_whole stack)
    ∙ ap (λ (xs : List EventView). Start t ∷ xs) (h ∙ ap (λ (xs : List EventView). es ++ xs) (ends_before stack (end_of t) ps (subst (λ n. IsLow n ps) same low)) ∙ sym (append_assoc es (End (end_of t) ∷ []) (ended stack ps)))

-- what isn't a container, at that depth
leaf_ended : (stack : List TagEnd) (d : ℕ) (l : LeafView) (ps : List Piece) → d ≡ length stack → ended stack ((d, Leaf l) ∷ ps) ≡ Leaf l ∷ ended stack ps
leaf_ended stack d l ps same =
    ap (λ n. ends_from n stack ++ (Leaf l ∷ ended (take n stack) ps)) same
    ∙ ap (λ (xs : List EventView). xs ++ (Leaf l ∷ ended (take (length stack) stack) ps)) (ends_none stack)
    ∙ ap (λ (xs : List TagEnd). Leaf l ∷ ended xs ps) (take_whole stack)

pub letters_ended : (stack : List TagEnd) (d : ℕ) (t : List ℕ) (ps : List Piece) → d ≡ length stack → ended stack (letters d t ++ ps) ≡ letter_events t ++ ended stack ps
letters_ended stack d [] ps same = refl
letters_ended stack d (b ∷ bs) ps same = leaf_ended stack d (Text (b ∷ [])) (letters d bs ++ ps) same ∙ ap (λ (xs : List EventView). Leaf (Text (b ∷ [])) ∷ xs) (letters_ended stack d bs ps same)

htmls_ended : (stack : List TagEnd) (d : ℕ) (t : List ℕ) (ps : List Piece) → d ≡ length stack → ended stack (html_at d t ++ ps) ≡ html_letters t ++ ended stack ps
htmls_ended stack d [] ps same = refl
htmls_ended stack d (b ∷ bs) ps same = leaf_ended stack d (Html (b ∷ [])) (html_at d bs ++ ps) same ∙ ap (λ (xs : List EventView). Leaf (Html (b ∷ [])) ∷ xs) (htmls_ended stack d bs ps same)

grown : (stack : List TagEnd) (e : TagEnd) (d : ℕ) → d ≡ length stack → suc d ≡ length (stack ++ e ∷ [])
grown stack e d same = let q : length (stack ++ e ∷ []) ≡ length stack + 1 = length-append stack (e ∷ []) in omega (arith, q, same)

low_up : (d : ℕ) (ps : List Piece) → IsLow d ps → IsLow (suc d) ps
low_up d [] h = tt
low_up d (p ∷ ps) h = omega arith

-- the front of what is said at a depth is at it

letters_low : (d : ℕ) (t : List ℕ) (ps : List Piece) → IsLow d ps → IsLow d (letters d t ++ ps)
letters_low d [] ps h = h
letters_low d (b ∷ bs) ps h = omega arith

inline_low : (d : ℕ) (i : inline.Inline) (ps : List Piece) → IsLow d ps → IsLow d (declared_one d i ++ ps)
inline_low d (inline.Text t) ps h = letters_low d t ps h
inline_low d (inline.Code t) ps h = omega arith
inline_low d (inline.RawHtml t) ps h = omega arith
inline_low d inline.SoftBreak ps h = omega arith
inline_low d inline.HardBreak ps h = omega arith
inline_low d (inline.Emphasis e) ps h = omega arith
inline_low d (inline.Strong e) ps h = omega arith
inline_low d (inline.Link k x t l e) ps h = omega arith
inline_low d (inline.Image k x t l e) ps h = omega arith

inlines_low : (d : ℕ) (is : inline.Inlines) (ps : List Piece) → IsLow d ps → IsLow d (declared d is ++ ps)
inlines_low d inline.none ps h = h
inlines_low d (inline.more i rest) ps h = subst (IsLow d) (sym (append_assoc (declared_one d i) (declared d rest) ps)) (inline_low d i (declared d rest ++ ps) (inlines_low d rest ps h))

words_low : (labels : List Destination) (d : ℕ) (tight : Bool) (t : List ℕ) (ps : List Piece) → IsLow d ps → IsLow d (words_said tight labels d t ++ ps)
words_low labels d true t ps h = inlines_low d (inlines labels t) ps h
words_low labels d false t ps h = omega arith

block_low : (labels : List Destination) (d : ℕ) (tight : Bool) (b : block.Block) (ps : List Piece) → IsLow d ps → IsLow d (block_said labels d tight b ++ ps)
block_low labels d tight block.Rule ps h = omega arith
block_low labels d tight (block.Heading l t) ps h = omega arith
block_low labels d tight (block.IndentedCode t) ps h = omega arith
block_low labels d tight (block.FencedCode i t) ps h = omega arith
block_low labels d tight (block.Html t) ps h = omega arith
block_low labels d tight (block.Definitions x) ps h = h
block_low labels d tight (block.Paragraph t) ps h = words_low labels d tight t ps h
block_low labels d tight (block.Quote q) ps h = omega arith
block_low labels d tight (block.BulletList s t is) ps h = omega arith
block_low labels d tight (block.OrderedList s n t is) ps h = omega arith
block_low labels d tight (block.Item i) ps h = omega arith

blocks_low : (labels : List Destination) (d : ℕ) (tight : Bool) (bs : block.Blocks) (ps : List Piece) → IsLow d ps → IsLow d (blocks_said labels d tight bs ++ ps)
blocks_low labels d tight block.none ps h = h
blocks_low labels d tight (block.more b rest) ps h = subst (IsLow d) (sym (append_assoc (block_said labels d tight b) (blocks_said labels d tight rest) ps)) (block_low labels d tight b (blocks_said labels d tight rest ++ ps) (blocks_low labels d tight rest ps h))

-- the events of inlines

element_lettered : (t : TagView) (es : List EventView) → lettered (element t es) ≡ Start t ∷ lettered es ++ End (end_of t) ∷ []
element_lettered t es = ap (λ (xs : List EventView). Start t ∷ xs) (lettered_append es (End (end_of t) ∷ []))

-- a container of inlines, if what is in it is said so
inlines_in : (stack : List TagEnd) (d : ℕ) (t : TagView) (e : inline.Inlines) (ps : List Piece) → d ≡ length stack → IsLow d ps → ended (stack ++ end_of t ∷ []) (declared (suc d) e ++ ps) ≡ lettered (inline_events e) ++ ended (stack ++ end_of t ∷ []) ps
    → ended stack (((d, Start t) ∷ declared (suc d) e) ++ ps) ≡ lettered (element t (inline_events e)) ++ ended stack ps
inlines_in stack d t e ps same low h = container_ended stack d t (declared (suc d) e) ps (lettered (inline_events e)) same low h ∙ ap (λ (xs : List EventView). xs ++ ended stack ps) (sym (element_lettered t (inline_events e)))

mutual
  inlines_ended : (stack : List TagEnd) (d : ℕ) (is : inline.Inlines) (ps : List Piece) → d ≡ length stack → IsLow d ps → ended stack (declared d is ++ ps) ≡ lettered (inline_events is) ++ ended stack ps
  inlines_ended stack d inline.none ps same low = refl
  inlines_ended stack d (inline.more i rest) ps same low =
      ap (ended stack) (append_assoc (declared_one d i) (declared d rest) ps)
      ∙ inline_ended stack d i (declared d rest ++ ps) same (inlines_low d rest ps low)
      ∙ ap (λ (xs : List EventView). lettered (inline_event i) ++ xs) (inlines_ended stack d rest ps same low)
      ∙ sym (append_assoc (lettered (inline_event i)) (lettered (inline_events rest)) (ended stack ps))
      ∙ ap (λ (xs : List EventView). xs ++ ended stack ps) (sym (lettered_append (inline_event i) (inline_events rest)))

  inline_ended : (stack : List TagEnd) (d : ℕ) (i : inline.Inline) (ps : List Piece) → d ≡ length stack → IsLow d ps → ended stack (declared_one d i ++ ps) ≡ lettered (inline_event i) ++ ended stack ps
  inline_ended stack d (inline.Text t) ps same low = letters_ended stack d t ps same ∙ ap (λ (xs : List EventView). xs ++ ended stack ps) (sym (append-nil (letter_events t)))
  inline_ended stack d (inline.Code t) ps same low = leaf_ended stack d (Code t) ps same
  inline_ended stack d (inline.RawHtml t) ps same low = leaf_ended stack d (InlineHtml t) ps same
  inline_ended stack d inline.SoftBreak ps same low = leaf_ended stack d SoftBreak ps same
  inline_ended stack d inline.HardBreak ps same low = leaf_ended stack d HardBreak ps same
  inline_ended stack d (inline.Emphasis e) ps same low = inlines_in stack d Emphasis e ps same low (inlines_ended (stack ++ end_of Emphasis ∷ []) (suc d) e ps (grown stack (end_of Emphasis) d same) (low_up d ps low))
  inline_ended stack d (inline.Strong e) ps same low = inlines_in stack d Strong e ps same low (inlines_ended (stack ++ end_of Strong ∷ []) (suc d) e ps (grown stack (end_of Strong) d same) (low_up d ps low))
  inline_ended stack d (inline.Link k x t l e) ps same low = inlines_in stack d (Link k x t l) e ps same low (inlines_ended (stack ++ end_of (Link k x t l) ∷ []) (suc d) e ps (grown stack (end_of (Link k x t l)) d same) (low_up d ps low))
  inline_ended stack d (inline.Image k x t l e) ps same low = inlines_in stack d (Image k x t l) e ps same low (inlines_ended (stack ++ end_of (Image k x t l) ∷ []) (suc d) e ps (grown stack (end_of (Image k x t l)) d same) (low_up d ps low))

inlines_at : (stack : List TagEnd) (d : ℕ) (t : TagView) (e : inline.Inlines) (ps : List Piece) → d ≡ length stack → IsLow d ps → ended stack (((d, Start t) ∷ declared (suc d) e) ++ ps) ≡ lettered (element t (inline_events e)) ++ ended stack ps
inlines_at stack d t e ps same low = inlines_in stack d t e ps same low (inlines_ended (stack ++ end_of t ∷ []) (suc d) e ps (grown stack (end_of t) d same) (low_up d ps low))

-- the events of blocks

html_ended : (stack : List TagEnd) (d : ℕ) (line t : List ℕ) (ps : List Piece) → d ≡ length stack → ended stack (html_said d line t ++ ps) ≡ lettered (html_events line t) ++ ended stack ps
html_ended stack d line [] ps same = refl
html_ended stack d line (b ∷ bs) ps same = by (b == 10) (html_ended stack d [] bs ps same) (html_ended stack d (line ++ b ∷ []) bs ps same)
  where
    by : (k : Bool) → ended stack (html_said d [] bs ++ ps) ≡ lettered (html_events [] bs) ++ ended stack ps → ended stack (html_said d (line ++ b ∷ []) bs ++ ps) ≡ lettered (html_events (line ++ b ∷ []) bs) ++ ended stack ps
        → ended stack (line_said (λ l. html_said d l bs) d line b k ++ ps) ≡ lettered (fed (λ l. html_events l bs) line b k) ++ ended stack ps
    by true h j =
        ap (ended stack) (append_assoc (html_at d (line ++ b ∷ [])) (html_said d [] bs) ps)
        ∙ htmls_ended stack d (line ++ b ∷ []) (html_said d [] bs ++ ps) same
        ∙ ap (λ (xs : List EventView). html_letters (line ++ b ∷ []) ++ xs) h
        ∙ sym (append_assoc (html_letters (line ++ b ∷ [])) (lettered (html_events [] bs)) (ended stack ps))
    by false h j = j

code_ended : (stack : List TagEnd) (d : ℕ) (t : TagView) (text : List ℕ) (ps : List Piece) → d ≡ length stack → IsLow d ps → ended stack (((d, Start t) ∷ letters (suc d) text) ++ ps) ≡ lettered (element t (code_events text)) ++ ended stack ps
code_ended stack d t text ps same low =
    container_ended stack d t (letters (suc d) text) ps (letter_events text) same low (letters_ended (stack ++ end_of t ∷ []) (suc d) text ps (grown stack (end_of t) d same))
    ∙ ap (λ (xs : List EventView). xs ++ ended stack ps) (ap (λ (xs : List EventView). Start t ∷ xs ++ End (end_of t) ∷ []) (sym (code_lettered text)) ∙ sym (element_lettered t (code_events text)))
  where
    code_lettered : (text : List ℕ) → lettered (code_events text) ≡ letter_events text
    code_lettered [] = refl
    code_lettered (b ∷ bs) = append-nil (letter_events (b ∷ bs))

words_ended : (labels : List Destination) (stack : List TagEnd) (d : ℕ) (tight : Bool) (t : List ℕ) (ps : List Piece) → d ≡ length stack → IsLow d ps → ended stack (words_said tight labels d t ++ ps) ≡ lettered (paragraph_events tight (inline_events (inlines labels t))) ++ ended stack ps
words_ended labels stack d true t ps same low = inlines_ended stack d (inlines labels t) ps same low
words_ended labels stack d false t ps same low = inlines_at stack d Paragraph (inlines labels t) ps same low

-- a container of blocks, if what is in it is said so
blocks_in : (labels : List Destination) (stack : List TagEnd) (d : ℕ) (t : TagView) (tight : Bool) (bs : block.Blocks) (ps : List Piece) → d ≡ length stack → IsLow d ps → ended (stack ++ end_of t ∷ []) (blocks_said labels (suc d) tight bs ++ ps) ≡ lettered (block_events labels tight bs) ++ ended (stack ++ end_of t ∷ []) ps
    → ended stack (((d, Start t) ∷ blocks_said labels (suc d) tight bs) ++ ps) ≡ lettered (element t (block_events labels tight bs)) ++ ended stack ps
blocks_in labels stack d t tight bs ps same low h = container_ended stack d t (blocks_said labels (suc d) tight bs) ps (lettered (block_events labels tight bs)) same low h ∙ ap (λ (xs : List EventView). xs ++ ended stack ps) (sym (element_lettered t (block_events labels tight bs)))

mutual
  pub blocks_ended : (labels : List Destination) (stack : List TagEnd) (d : ℕ) (tight : Bool) (bs : block.Blocks) (ps : List Piece) → d ≡ length stack → IsLow d ps → ended stack (blocks_said labels d tight bs ++ ps) ≡ lettered (block_events labels tight bs) ++ ended stack ps
  blocks_ended labels stack d tight block.none ps same low = refl
  blocks_ended labels stack d tight (block.more b rest) ps same low =
      ap (ended stack) (append_assoc (block_said labels d tight b) (blocks_said labels d tight rest) ps)
      ∙ block_ended labels stack d tight b (blocks_said labels d tight rest ++ ps) same (blocks_low labels d tight rest ps low)
      ∙ ap (λ (xs : List EventView). lettered (block_event labels tight b) ++ xs) (blocks_ended labels stack d tight rest ps same low)
      ∙ sym (append_assoc (lettered (block_event labels tight b)) (lettered (block_events labels tight rest)) (ended stack ps))
      ∙ ap (λ (xs : List EventView). xs ++ ended stack ps) (sym (lettered_append (block_event labels tight b) (block_events labels tight rest)))

  block_ended : (labels : List Destination) (stack : List TagEnd) (d : ℕ) (tight : Bool) (b : block.Block) (ps : List Piece) → d ≡ length stack → IsLow d ps → ended stack (block_said labels d tight b ++ ps) ≡ lettered (block_event labels tight b) ++ ended stack ps
  block_ended labels stack d tight block.Rule ps same low = leaf_ended stack d Rule ps same
  block_ended labels stack d tight (block.Heading l t) ps same low = inlines_at stack d (Heading l None [] []) (inlines labels t) ps same low
  block_ended labels stack d tight (block.IndentedCode t) ps same low = code_ended stack d (CodeBlock Indented) t ps same low
  block_ended labels stack d tight (block.FencedCode i t) ps same low = code_ended stack d (CodeBlock (Fenced (resolved i))) t ps same low
  block_ended labels stack d tight (block.Html t) ps same low =
      container_ended stack d HtmlBlock (html_said (suc d) [] t) ps (lettered (html_events [] t)) same low (html_ended (stack ++ end_of HtmlBlock ∷ []) (suc d) [] t ps (grown stack (end_of HtmlBlock) d same))
      ∙ ap (λ (xs : List EventView). xs ++ ended stack ps) (sym (element_lettered HtmlBlock (html_events [] t)))
  block_ended labels stack d tight (block.Definitions x) ps same low = refl
  block_ended labels stack d tight (block.Paragraph t) ps same low = words_ended labels stack d tight t ps same low
  block_ended labels stack d tight (block.Quote q) ps same low = blocks_in labels stack d (BlockQuote None) false q ps same low (blocks_ended labels (stack ++ end_of (BlockQuote None) ∷ []) (suc d) false q ps (grown stack (end_of (BlockQuote None)) d same) (low_up d ps low))
  block_ended labels stack d tight (block.BulletList s t is) ps same low = blocks_in labels stack d (ListOf None) t is ps same low (blocks_ended labels (stack ++ end_of (ListOf None) ∷ []) (suc d) t is ps (grown stack (end_of (ListOf None)) d same) (low_up d ps low))
  block_ended labels stack d tight (block.OrderedList s n t is) ps same low = blocks_in labels stack d (ListOf (Some n)) t is ps same low (blocks_ended labels (stack ++ end_of (ListOf (Some n)) ∷ []) (suc d) t is ps (grown stack (end_of (ListOf (Some n))) d same) (low_up d ps low))
  block_ended labels stack d tight (block.Item i) ps same low = blocks_in labels stack d Item tight i ps same low (blocks_ended labels (stack ++ end_of Item ∷ []) (suc d) tight i ps (grown stack (end_of Item) d same) (low_up d ps low))

-- what blocks say, as events
pub said_events : (labels : List Destination) (bs : block.Blocks) → ended [] (blocks_said labels 0 false bs) ≡ lettered (block_events labels false bs)
said_events labels bs = ap (ended []) (sym (append-nil (blocks_said labels 0 false bs))) ∙ blocks_ended labels [] 0 false bs [] refl tt ∙ append-nil (lettered (block_events labels false bs))

-- info strings as texts

abbrev pub piece_as_text : Piece → Piece
piece_as_text p = (p.0, as_text (p.1))

ends_as_text : (ends : List TagEnd) → map as_text (map (λ (e : TagEnd). End e) ends) ≡ map (λ (e : TagEnd). End e) ends
ends_as_text [] = refl
ends_as_text (e ∷ es) = ap (λ (xs : List EventView). End e ∷ xs) (ends_as_text es)

opened_as_text : (e : EventView) (stack : List TagEnd) → opened (as_text e) stack ≡ opened e stack
opened_as_text (Start (CodeBlock (Fenced i))) stack = refl
opened_as_text (Start (CodeBlock Indented)) stack = refl
opened_as_text (Start Paragraph) stack = refl
opened_as_text (Start (Heading l i c a)) stack = refl
opened_as_text (Start (BlockQuote k)) stack = refl
opened_as_text (Start HtmlBlock) stack = refl
opened_as_text (Start (ListOf n)) stack = refl
opened_as_text (Start Item) stack = refl
opened_as_text (Start (FootnoteDefinition l)) stack = refl
opened_as_text (Start DefinitionList) stack = refl
opened_as_text (Start DefinitionListTitle) stack = refl
opened_as_text (Start DefinitionListDefinition) stack = refl
opened_as_text (Start (Table a)) stack = refl
opened_as_text (Start TableHead) stack = refl
opened_as_text (Start TableRow) stack = refl
opened_as_text (Start TableCell) stack = refl
opened_as_text (Start Emphasis) stack = refl
opened_as_text (Start Strong) stack = refl
opened_as_text (Start Strikethrough) stack = refl
opened_as_text (Start Superscript) stack = refl
opened_as_text (Start Subscript) stack = refl
opened_as_text (Start (Link k d t i)) stack = refl
opened_as_text (Start (Image k d t i)) stack = refl
opened_as_text (Start (MetadataBlock k)) stack = refl
opened_as_text (End e) stack = refl
opened_as_text (Leaf (Text t)) stack = refl
opened_as_text (Leaf (Code t)) stack = refl
opened_as_text (Leaf (InlineMath t)) stack = refl
opened_as_text (Leaf (DisplayMath t)) stack = refl
opened_as_text (Leaf (Html t)) stack = refl
opened_as_text (Leaf (InlineHtml t)) stack = refl
opened_as_text (Leaf (FootnoteReference t)) stack = refl
opened_as_text (Leaf SoftBreak) stack = refl
opened_as_text (Leaf HardBreak) stack = refl
opened_as_text (Leaf Rule) stack = refl
opened_as_text (Leaf (TaskListMarker b)) stack = refl

pub ended_as_text : (stack : List TagEnd) (ps : List Piece) → ended stack (map piece_as_text ps) ≡ map as_text (ended stack ps)
ended_as_text stack [] = sym (ends_as_text (reverse (drop 0 stack)))
ended_as_text stack (p ∷ ps) =
    ap (λ (s : List TagEnd). ends_from (p.0) stack ++ (as_text (p.1) ∷ ended s (map piece_as_text ps))) (opened_as_text (p.1) (take (p.0) stack))
    ∙ ap (λ (xs : List EventView). ends_from (p.0) stack ++ (as_text (p.1) ∷ xs)) (ended_as_text (opened (p.1) (take (p.0) stack)) ps)
    ∙ ap (λ (xs : List EventView). xs ++ (as_text (p.1) ∷ map as_text (ended (opened (p.1) (take (p.0) stack)) ps))) (sym (ends_as_text (reverse (drop (p.0) stack))))
    ∙ sym (map-append as_text (ends_from (p.0) stack) (p.1 ∷ ended (opened (p.1) (take (p.0) stack)) ps))

pub events-said : DeclaredEventsAreSaid
unfolding events_of
events-said text = merged_lettered (block_events (destinations_of text) false (blocks_of text)) ∙ sym (said_events (destinations_of text) (blocks_of text))
