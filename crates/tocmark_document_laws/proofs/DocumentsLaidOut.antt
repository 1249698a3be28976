-- What is handed for a document of trees is its layout: each tree at the top is a unit.
use Rattle.std.proofs.Common.{◌≡◌, ℕ, suc, ◌+◌, ◌-◌, ◌<◌, ◌≤◌, ◌==◌, length, subst, max, true≢false, Bool, true, false, ◌&&◌, ◌||◌, if◌then◌else◌, List, [], ◌∷◌, ◌++◌, map, codes, refl, ap, sym, ◌∙◌, arith, append_assoc, append-nil, eq-eqb, Option, Some, None, Result, Ok, Err}
use Rattle.std.specs.Char.{char_set_contains, encode_utf8}
use Rattle.std.specs.List.{concat}
use Rattle.tocmark_read_scan.proofs.PlainTests.{eq_of, none_of}
use Rattle.tocmark_event.specs.Ends.{same_end, end_code}
use Rattle.tocmark_event.specs.Forest.{empty, leaf, node, flat, flat_onto}
use Rattle.tocmark_event.specs.Options.{OptionsView}
use Rattle.tocmark_event.specs.Reading.{ReadingView}
use Rattle.tocmark_event.specs.View.{EventView, Start, End, Leaf, Text, Rule, Paragraph, BlockQuote, CodeBlock, Fenced, Item, ListOf, TagView, SourcedEvent, SourcedLeaf, end_of}
use Rattle.tocmark_event.specs.declared.event.TagEnd.{TagEnd}
use Rattle.tocmark_event.specs.declared.event.TagEnd.TheVariants as end
use Rattle.tocmark_event.specs.declared.event.flags.ParserOptions.{ParserOptions}
use Rattle.tocmark_event.specs.declared.options.Error.{Error}
use Rattle.tocmark_event.specs.declared.options.Error.TheVariants as error
use Rattle.tocmark_reader.specs.PlainTexts.{line_events}
use Rattle.tocmark_spelling.specs.Body.{Trees, is_empty, some_leaf}
use Rattle.tocmark_spelling.specs.Page.{Around, Page, Trail, front}
use Rattle.tocmark_spelling.specs.Kinds.{and_is, is_indented_code, starts}
use Rattle.tocmark_spelling.specs.Plan.{Setting, Manner}
use Rattle.tocmark_spelling.specs.Runs.{ahead_of, beyond, inside}
use Rattle.tocmark_spelling.specs.declared.trail.LastList.{LastList}
use Rattle.tocmark_spelling.specs.PlanOf.{setting_of}
use Rattle.tocmark_spelling.specs.Spelling.{spelling}
use Rattle.tocmark_choose.specs.Candidates.{preferred_manner, has_source, is_delimiter_block, is_delimiter_tag, is_math, some_tag}
use Rattle.tocmark_choose.specs.Choice as choice
use Rattle.tocmark_choose.specs.Choice.{page_in, spelled, accepted_if, document_after, has_standard_markers}
use Rattle.tocmark_choose.specs.Chosen.{chosen}
use Rattle.tocmark_choose.proofs.Chosen.{chosen-unlabelled}
use Rattle.tocmark_choose.proofs.PlainUnits.{choice-unasked}
use Rattle.tocmark_write_labels.specs.Definitions.{definitions_text}
use Rattle.tocmark_write_labels.specs.Document.{DocumentView, first_document}
use Rattle.tocmark_write_labels.specs.Ending.{last_texts, holds_raw_block}
use Rattle.tocmark_write_pending.specs.Placeholder.{begins_with_empty_item, is_inline_end_or_leaf, is_only_item, is_only_paragraph, whole, needs_placeholder, needs_placeholder_at}
use Rattle.tocmark_write_pending.specs.Units.{waits}
use Rattle.tocmark_write_pending.proofs.Forests.{waits-flat}
use Rattle.tocmark_state.specs.Ranges.{unranged}
use Rattle.tocmark_state.specs.WorkView.{keeping, rendering}
use Rattle.tocmark_state.specs.Walk.{Walk, Done, done, Kept, Rendering, Standing, beginning, nothing_yet, go_on, stay, finished_of, flushed, flushed_before, flushed_or_deferred, flush_of, hand_walk, handed_text, joins, advance, step, walk, script, ended, with_event}
use Rattle.tocmark_laws.specs.Documents.{ArePlainTokens, PlainBlock, PlainHeading, PlainParagraph, PlainRule, PlainCode, plain_events}
use Rattle.tocmark_laws.specs.TextBlocks.{HeadingKind, tag_of}
use Rattle.tocmark_laws.proofs.BlockSpelling.{calm, text_trees, page_of}
use Rattle.tocmark_laws.proofs.DocumentSpelling.{rule_leaf}
use Rattle.tocmark_laws.proofs.DocumentsReadBack.{may_stand}
use Rattle.tocmark_laws.proofs.PlainSpelling.{break_leaf, line_trees}
use Rattle.tocmark_document_laws.specs.Blocks.{Blocks, Nothing, PlainThen, QuoteThen, BulletsThen, ItemThen, ArePlain, ArePlainIn, begins_item, document, events_of, is_lone, is_nothing, is_paragraph_alone}
use Rattle.tocmark_document_laws.specs.DocumentLines.{How, Beside, Below, Outside, bullet_for, document_lines, feeds_after, feeds_below, feeds_below_list, feeds_below_quote, in_bullets, joined, layout, lines_of, list_gap, no_lists, plain_gap, plain_lines, quote_lines}
use Rattle.tocmark_document_laws.specs.LaidOut.{JoinTo}
use Rattle.tocmark_document_laws.proofs.Spots.{site}
use Rattle.tocmark_document_laws.proofs.TreesSpelled.{AllStand, AreMarks, Before, Fresh, Goes, IsBelow, IsMark, Spells, bullet_after, goes_on, items_cons, last_of, page_so, plain_long, plain_past, plain_tree, spells, top_place, trees}
use Rattle.tocmark_document_laws.proofs.Under.{under, under_append, lines_at, lines_at_append, line_texts, within}

-- ---- what holds of trees

or_none : (a b : Bool) → a ≡ false → b ≡ false → (a || b) ≡ false
or_none true b h k = h
or_none false b h k = k

lines_tags : (l : List ℕ) (ms : List (List ℕ)) → some_tag is_delimiter_tag (line_trees l ms) ≡ false
lines_tags l [] = refl
lines_tags l (n ∷ ms) = lines_tags n ms

texts_tags : (ts : List (List ℕ)) → some_tag is_delimiter_tag (text_trees ts) ≡ false
texts_tags [] = refl
texts_tags (t ∷ ts) = texts_tags ts

trees_tags : (f : Blocks) → some_tag is_delimiter_tag (trees f) ≡ false
trees_tags Nothing = refl
trees_tags (PlainThen (PlainParagraph l ms) f) = or_none (some_tag is_delimiter_tag (line_trees l ms)) (some_tag is_delimiter_tag (trees f)) (lines_tags l ms) (trees_tags f)
trees_tags (PlainThen (PlainHeading level ts) f) = or_none (some_tag is_delimiter_tag (text_trees ts)) (some_tag is_delimiter_tag (trees f)) (texts_tags ts) (trees_tags f)
trees_tags (PlainThen PlainRule f) = trees_tags f
trees_tags (PlainThen (PlainCode info ls) f) = or_none (some_tag is_delimiter_tag (text_trees (line_texts ls))) (some_tag is_delimiter_tag (trees f)) (texts_tags (line_texts ls)) (trees_tags f)
trees_tags (QuoteThen kids f) = or_none (some_tag is_delimiter_tag (trees kids)) (some_tag is_delimiter_tag (trees f)) (trees_tags kids) (trees_tags f)
trees_tags (BulletsThen kids f) = or_none (some_tag is_delimiter_tag (trees kids)) (some_tag is_delimiter_tag (trees f)) (trees_tags kids) (trees_tags f)
trees_tags (ItemThen kids f) = or_none (some_tag is_delimiter_tag (trees kids)) (some_tag is_delimiter_tag (trees f)) (trees_tags kids) (trees_tags f)

lines_math : (l : List ℕ) (ms : List (List ℕ)) → some_leaf is_math (line_trees l ms) ≡ false
lines_math l [] = refl
lines_math l (n ∷ ms) = lines_math n ms

texts_math : (ts : List (List ℕ)) → some_leaf is_math (text_trees ts) ≡ false
texts_math [] = refl
texts_math (t ∷ ts) = texts_math ts

trees_math : (f : Blocks) → some_leaf is_math (trees f) ≡ false
trees_math Nothing = refl
trees_math (PlainThen (PlainParagraph l ms) f) = or_none (some_leaf is_math (line_trees l ms)) (some_leaf is_math (trees f)) (lines_math l ms) (trees_math f)
trees_math (PlainThen (PlainHeading level ts) f) = or_none (some_leaf is_math (text_trees ts)) (some_leaf is_math (trees f)) (texts_math ts) (trees_math f)
trees_math (PlainThen PlainRule f) = trees_math f
trees_math (PlainThen (PlainCode info ls) f) = or_none (some_leaf is_math (text_trees (line_texts ls))) (some_leaf is_math (trees f)) (texts_math (line_texts ls)) (trees_math f)
trees_math (QuoteThen kids f) = or_none (some_leaf is_math (trees kids)) (some_leaf is_math (trees f)) (trees_math kids) (trees_math f)
trees_math (BulletsThen kids f) = or_none (some_leaf is_math (trees kids)) (some_leaf is_math (trees f)) (trees_math kids) (trees_math f)
trees_math (ItemThen kids f) = or_none (some_leaf is_math (trees kids)) (some_leaf is_math (trees f)) (trees_math kids) (trees_math f)

lines_sources : (l : List ℕ) (ms : List (List ℕ)) → has_source (line_trees l ms) ≡ false
lines_sources l [] = refl
lines_sources l (n ∷ ms) = lines_sources n ms

texts_sources : (ts : List (List ℕ)) → has_source (text_trees ts) ≡ false
texts_sources [] = refl
texts_sources (t ∷ ts) = texts_sources ts

trees_sources : (f : Blocks) → has_source (trees f) ≡ false
trees_sources Nothing = refl
trees_sources (PlainThen (PlainParagraph l ms) f) = or_none (has_source (line_trees l ms)) (has_source (trees f)) (lines_sources l ms) (trees_sources f)
trees_sources (PlainThen (PlainHeading level ts) f) = or_none (has_source (text_trees ts)) (has_source (trees f)) (texts_sources ts) (trees_sources f)
trees_sources (PlainThen PlainRule f) = trees_sources f
trees_sources (PlainThen (PlainCode info ls) f) = or_none (has_source (text_trees (line_texts ls))) (has_source (trees f)) (texts_sources (line_texts ls)) (trees_sources f)
trees_sources (QuoteThen kids f) = or_none (has_source (trees kids)) (has_source (trees f)) (trees_sources kids) (trees_sources f)
trees_sources (BulletsThen kids f) = or_none (has_source (trees kids)) (has_source (trees f)) (trees_sources kids) (trees_sources f)
trees_sources (ItemThen kids f) = or_none (has_source (trees kids)) (has_source (trees f)) (trees_sources kids) (trees_sources f)

lines_placed : (l : List ℕ) (ms : List (List ℕ)) (a : Around) → needs_placeholder_at (line_trees l ms) a ≡ false
lines_placed l [] a = refl
lines_placed l (n ∷ ms) a = lines_placed n ms _

texts_placed : (ts : List (List ℕ)) (a : Around) → needs_placeholder_at (text_trees ts) a ≡ false
texts_placed [] a = refl
texts_placed (t ∷ ts) a = texts_placed ts _

-- no list is one item with one paragraph alone
abbrev pub NoneLone : Blocks → Type 0
NoneLone Nothing = Unit {0}
NoneLone (PlainThen b f) = NoneLone f
NoneLone (QuoteThen kids f) = NoneLone kids × NoneLone f
NoneLone (BulletsThen items f) = (is_lone items ≡ false) × NoneLone items × NoneLone f
NoneLone (ItemThen kids f) = NoneLone kids × NoneLone f

empty_plain : (b : PlainBlock) (f : Trees) → is_empty (plain_tree b f) ≡ false
empty_plain (PlainParagraph l ms) f = refl
empty_plain (PlainHeading level ts) f = refl
empty_plain PlainRule f = refl
empty_plain (PlainCode info ls) f = refl

empty_is : (f : Blocks) → is_empty (trees f) ≡ is_nothing f
empty_is Nothing = refl
empty_is (PlainThen b f) = empty_plain b (trees f)
empty_is (QuoteThen kids f) = refl
empty_is (BulletsThen items f) = refl
empty_is (ItemThen kids f) = refl

alone_is : (f : Blocks) → is_only_paragraph (trees f) ≡ is_paragraph_alone f
alone_is Nothing = refl
alone_is (PlainThen (PlainParagraph l ms) f) = empty_is f
alone_is (PlainThen (PlainHeading level ts) f) = refl
alone_is (PlainThen PlainRule f) = refl
alone_is (PlainThen (PlainCode info ls) f) = refl
alone_is (QuoteThen kids f) = refl
alone_is (BulletsThen items f) = refl
alone_is (ItemThen kids f) = refl

lone_is : (f : Blocks) → is_only_item (trees f) ≡ is_lone f
lone_is Nothing = refl
lone_is (PlainThen (PlainParagraph l ms) f) = refl
lone_is (PlainThen (PlainHeading level ts) f) = refl
lone_is (PlainThen PlainRule f) = refl
lone_is (PlainThen (PlainCode info ls) f) = refl
lone_is (QuoteThen kids f) = refl
lone_is (BulletsThen items f) = refl
lone_is (ItemThen kids f) = ap (λ b. b && is_empty (trees f)) (alone_is kids) ∙ ap (λ b. is_paragraph_alone kids && b) (empty_is f)

-- nothing inline is right before
abbrev IsApart : Around → Type 0
IsApart a = and_is is_inline_end_or_leaf (front a.before) ≡ false

apart_plain : (b : PlainBlock) (a : Around) → IsApart (plain_past b a)
apart_plain (PlainParagraph l ms) a = refl
apart_plain (PlainHeading level ts) a = refl
apart_plain PlainRule a = refl
apart_plain (PlainCode info ls) a = refl

not_lone : (empty inline lone : Bool) → inline ≡ false → lone ≡ false → ((empty && inline) || lone) ≡ false
not_lone true inline lone h k = or_none inline lone h k
not_lone false inline lone h k = k

trees_placed : (f : Blocks) (a : Around) → IsApart a → NoneLone f → needs_placeholder_at (trees f) a ≡ false
trees_placed Nothing a h k = refl
trees_placed (PlainThen (PlainParagraph l ms) f) a h k = or_none (needs_placeholder_at (line_trees l ms) _) (needs_placeholder_at (trees f) _) (lines_placed l ms _) (trees_placed f _ refl k)
trees_placed (PlainThen (PlainHeading level ts) f) a h k = or_none (needs_placeholder_at (text_trees ts) _) (needs_placeholder_at (trees f) _) (texts_placed ts _) (trees_placed f _ refl k)
trees_placed (PlainThen PlainRule f) a h k = trees_placed f _ refl k
trees_placed (PlainThen (PlainCode info ls) f) a h k = or_none (needs_placeholder_at (text_trees (line_texts ls)) _) (needs_placeholder_at (trees f) _) (texts_placed (line_texts ls) _) (trees_placed f _ refl k)
trees_placed (QuoteThen kids f) a h k = or_none (needs_placeholder_at (trees kids) _) (needs_placeholder_at (trees f) _) (trees_placed kids _ refl (k.0)) (trees_placed f _ refl (k.1))
trees_placed (ItemThen kids f) a h k = or_none (needs_placeholder_at (trees kids) _) (needs_placeholder_at (trees f) _) (trees_placed kids _ refl (k.0)) (trees_placed f _ refl (k.1))
trees_placed (BulletsThen items f) a h k =
    let lone : is_only_item (trees items) ≡ false = lone_is items ∙ k.0 in
    let inner : (needs_placeholder_at (trees items) _ || needs_placeholder_at (trees f) _) ≡ false = or_none (needs_placeholder_at (trees items) (inside (ListOf None) (ahead_of (trees f) a))) (needs_placeholder_at (trees f) (beyond (ListOf None) (trees items) a)) (trees_placed items _ refl (k.1)) (trees_placed f _ refl (k.2)) in
    ap (λ b. (b || needs_placeholder_at (trees items) (inside (ListOf None) (ahead_of (trees f) a))) || needs_placeholder_at (trees f) (beyond (ListOf None) (trees items) a)) (not_lone (begins_with_empty_item (trees items)) (and_is is_inline_end_or_leaf (front a.before)) (is_only_item (trees items)) h lone)
    ∙ inner

-- no leaf has a source
abbrev AreUnsourced : Trees → Type 0
AreUnsourced empty = Unit {0}
AreUnsourced (leaf l f) = (l.source ≡ None) × AreUnsourced f
AreUnsourced (node t kids f) = AreUnsourced kids × AreUnsourced f

lines_unsourced : (l : List ℕ) (ms : List (List ℕ)) → AreUnsourced (line_trees l ms)
lines_unsourced l [] = (refl, tt)
lines_unsourced l (n ∷ ms) = (refl, (refl, lines_unsourced n ms))

texts_unsourced : (ts : List (List ℕ)) → AreUnsourced (text_trees ts)
texts_unsourced [] = tt
texts_unsourced (t ∷ ts) = (refl, texts_unsourced ts)

trees_unsourced : (f : Blocks) → AreUnsourced (trees f)
trees_unsourced Nothing = tt
trees_unsourced (PlainThen (PlainParagraph l ms) f) = (lines_unsourced l ms, trees_unsourced f)
trees_unsourced (PlainThen (PlainHeading level ts) f) = (texts_unsourced ts, trees_unsourced f)
trees_unsourced (PlainThen PlainRule f) = (refl, trees_unsourced f)
trees_unsourced (PlainThen (PlainCode info ls) f) = (texts_unsourced (line_texts ls), trees_unsourced f)
trees_unsourced (QuoteThen kids f) = (trees_unsourced kids, trees_unsourced f)
trees_unsourced (BulletsThen kids f) = (trees_unsourced kids, trees_unsourced f)
trees_unsourced (ItemThen kids f) = (trees_unsourced kids, trees_unsourced f)

-- ---- their events

-- the events of trees, and then these
abbrev events_onto : Trees → List EventView → List EventView
events_onto empty es = es
events_onto (leaf l f) es = Leaf l.leaf ∷ events_onto f es
events_onto (node t kids f) es = Start t ∷ events_onto kids (End (end_of t) ∷ events_onto f es)

lines_onto : (l : List ℕ) (ms : List (List ℕ)) (es : List EventView) → line_events l ms ++ es ≡ events_onto (line_trees l ms) es
lines_onto l [] es = refl
lines_onto l (n ∷ ms) es = ap (λ (xs : List EventView). Leaf (Text l) ∷ Leaf break_leaf.leaf ∷ xs) (lines_onto n ms es)

texts_onto : (ts : List (List ℕ)) (es : List EventView) → map (λ t. Leaf (Text t)) ts ++ es ≡ events_onto (text_trees ts) es
texts_onto [] es = refl
texts_onto (t ∷ ts) es = ap (λ (xs : List EventView). Leaf (Text t) ∷ xs) (texts_onto ts es)

codes_onto : (ls : List (List ℕ)) (es : List EventView) → map (λ l. Leaf (Text (l ++ codes "\n"))) ls ++ es ≡ events_onto (text_trees (line_texts ls)) es
codes_onto [] es = refl
codes_onto (l ∷ ls) es = ap (λ (xs : List EventView). Leaf (Text (l ++ codes "\n")) ∷ xs) (codes_onto ls es)

plain_onto : (b : PlainBlock) (f : Trees) (es : List EventView) → plain_events b ++ events_onto f es ≡ events_onto (plain_tree b f) es
plain_onto (PlainParagraph l ms) f es =
    let rest : List EventView = events_onto f es in
    ap (λ (xs : List EventView). Start Paragraph ∷ xs) (append_assoc (line_events l ms) (End end.Paragraph ∷ []) rest ∙ lines_onto l ms (End end.Paragraph ∷ rest))
plain_onto (PlainHeading level ts) f es =
    let rest : List EventView = events_onto f es in
    let last : EventView = End (end_of (tag_of (HeadingKind level))) in
    ap (λ (xs : List EventView). Start (tag_of (HeadingKind level)) ∷ xs) (append_assoc (map (λ t. Leaf (Text t)) ts) (last ∷ []) rest ∙ texts_onto ts (last ∷ rest))
plain_onto PlainRule f es = refl
plain_onto (PlainCode info ls) f es =
    let rest : List EventView = events_onto f es in
    ap (λ (xs : List EventView). Start (CodeBlock (Fenced info)) ∷ xs) (append_assoc (map (λ l. Leaf (Text (l ++ codes "\n"))) ls) (End end.CodeBlock ∷ []) rest ∙ codes_onto ls (End end.CodeBlock ∷ rest))

trees_onto : (f : Blocks) (es : List EventView) → events_of f ++ es ≡ events_onto (trees f) es
trees_onto Nothing es = refl
trees_onto (PlainThen b f) es =
    append_assoc (plain_events b) (events_of f) es
    ∙ ap (λ (xs : List EventView). plain_events b ++ xs) (trees_onto f es)
    ∙ plain_onto b (trees f) es
trees_onto (QuoteThen kids f) es =
    let last : EventView = End (end.BlockQuote None) in
    ap (λ (xs : List EventView). Start (BlockQuote None) ∷ xs)
    (append_assoc (events_of kids) (last ∷ events_of f) es
    ∙ ap (λ (xs : List EventView). events_of kids ++ last ∷ xs) (trees_onto f es)
    ∙ trees_onto kids (last ∷ events_onto (trees f) es))
trees_onto (BulletsThen kids f) es =
    let last : EventView = End (end.List false) in
    ap (λ (xs : List EventView). Start (ListOf None) ∷ xs)
    (append_assoc (events_of kids) (last ∷ events_of f) es
    ∙ ap (λ (xs : List EventView). events_of kids ++ last ∷ xs) (trees_onto f es)
    ∙ trees_onto kids (last ∷ events_onto (trees f) es))
trees_onto (ItemThen kids f) es =
    let last : EventView = End end.Item in
    ap (λ (xs : List EventView). Start Item ∷ xs)
    (append_assoc (events_of kids) (last ∷ events_of f) es
    ∙ ap (λ (xs : List EventView). events_of kids ++ last ∷ xs) (trees_onto f es)
    ∙ trees_onto kids (last ∷ events_onto (trees f) es))

-- ---- the walk

flat_after : (f : Trees) (es : List SourcedEvent) → flat_onto f es ≡ flat_onto f [] ++ es
flat_after empty es = refl
flat_after (leaf l f) es = ap (λ (xs : List SourcedEvent). Leaf l ∷ xs) (flat_after f es)
flat_after (node t kids f) es =
    let last : SourcedEvent = End (end_of t) in
    ap (λ (xs : List SourcedEvent). Start t ∷ xs)
    (flat_after kids (last ∷ flat_onto f es)
    ∙ ap (λ (xs : List SourcedEvent). flat_onto kids [] ++ last ∷ xs) (flat_after f es)
    ∙ sym (append_assoc (flat_onto kids []) (last ∷ flat_onto f []) es)
    ∙ ap (λ (xs : List SourcedEvent). xs ++ es) (sym (flat_after kids (last ∷ flat_onto f []))))

same_itself : (k : TagEnd) → same_end k k ≡ true
same_itself k = eq-eqb (end_code k) (end_code k) refl

abbrev followed : {S T : Type 0} → (S → Walk T) → Walk S → Walk T
followed f w = go_on w.texts w.outcome f

-- a tree at the top of a document: a container, or a thematic break
data Top : Type 0 where
  Box : TagView → Trees → Top
  Mark : Top

abbrev top_tree : Top → Trees
top_tree (Box t kids) = node t kids empty
top_tree Mark = leaf rule_leaf empty

-- its first event as it is pending, and the events after that
abbrev first_pending : Top → SourcedEvent
first_pending (Box t kids) = Start t
first_pending Mark = Leaf rule_leaf

abbrev more_pending : Top → List SourcedEvent
more_pending (Box t kids) = flat_onto kids (End (end_of t) ∷ [])
more_pending Mark = []

top_flat : (x : Top) → flat (top_tree x) ≡ first_pending x ∷ more_pending x
top_flat (Box t kids) = refl
top_flat Mark = refl

-- the top tree that a plain block is
abbrev plain_top : PlainBlock → Top
plain_top (PlainParagraph l ms) = Box Paragraph (line_trees l ms)
plain_top (PlainHeading level ts) = Box (tag_of (HeadingKind level)) (text_trees ts)
plain_top PlainRule = Mark
plain_top (PlainCode info ls) = Box (CodeBlock (Fenced info)) (text_trees (line_texts ls))

plain_is : (b : PlainBlock) → plain_tree b empty ≡ top_tree (plain_top b)
plain_is (PlainParagraph l ms) = refl
plain_is (PlainHeading level ts) = refl
plain_is PlainRule = refl
plain_is (PlainCode info ls) = refl

-- the first event of a tree at the top, and of blocks
abbrev first_view : Top → EventView
first_view (Box t kids) = Start t
first_view Mark = Leaf Rule

abbrev next_of : Blocks → Option EventView
next_of Nothing = None
next_of (PlainThen b f) = Some (first_view (plain_top b))
next_of (QuoteThen kids f) = Some (Start (BlockQuote None))
next_of (BulletsThen items f) = Some (Start (ListOf None))
next_of (ItemThen kids f) = Some (Start Item)

narrow_next : (f : Blocks) → and_is (λ e. starts is_indented_code e) (next_of f) ≡ false
narrow_next Nothing = refl
narrow_next (PlainThen (PlainParagraph l ms) f) = refl
narrow_next (PlainThen (PlainHeading level ts) f) = refl
narrow_next (PlainThen PlainRule f) = refl
narrow_next (PlainThen (PlainCode info ls) f) = refl
narrow_next (QuoteThen kids f) = refl
narrow_next (BulletsThen items f) = refl
narrow_next (ItemThen kids f) = refl

module _ (how : Rendering) (source : List ℕ) (kept : Kept) where
  abbrev inside_of : List TagEnd → List SourcedEvent → Standing
  inside_of os p = record (beginning kept) { pending = p; open_tags = os }

  abbrev walked : Standing → List EventView → Walk Standing
  walked s es = walk how source s (map unranged es)

  start_walked : (os : List TagEnd) (p : List SourcedEvent) (k : TagEnd) (t : TagView) (es : List EventView) → walked (inside_of (k ∷ os) p) (Start t ∷ es) ≡ walked (inside_of (end_of t ∷ k ∷ os) (p ++ Start t ∷ [])) es
  unfolding step advance flushed_before joins
  start_walked os p k t es = refl

  leaf_walked : (os : List TagEnd) (p : List SourcedEvent) (k : TagEnd) (l : SourcedLeaf) (es : List EventView) → l.source ≡ None → walked (inside_of (k ∷ os) p) (Leaf l.leaf ∷ es) ≡ walked (inside_of (k ∷ os) (p ++ Leaf l ∷ [])) es
  unfolding step advance flushed_before joins
  leaf_walked os p k l es h = ap (λ (x : Option (List ℕ)). walked (inside_of (k ∷ os) (p ++ Leaf (record { leaf = l.leaf; source = x }) ∷ [])) es) (sym h)

  end_walked : (os : List TagEnd) (p : List SourcedEvent) (k : TagEnd) (es : List EventView) → walked (inside_of (k ∷ os) p) (End k ∷ es) ≡ walked (inside_of os (p ++ End k ∷ [])) es
  unfolding step advance flushed_before joins
  end_walked os p k es =
      ap (λ b. followed (λ t. walked t es) (with_event (inside_of (k ∷ os) p) (End k) (if b then Ok os else Err error.UnexpectedEvent))) (same_itself k)

  inner_walked : (f : Trees) → AreUnsourced f → (os : List TagEnd) (p : List SourcedEvent) (k : TagEnd) (es : List EventView) → walked (inside_of (k ∷ os) p) (events_onto f es) ≡ walked (inside_of (k ∷ os) (p ++ flat_onto f [])) es
  inner_walked empty h os p k es = ap (λ (xs : List SourcedEvent). walked (inside_of (k ∷ os) xs) es) (sym (append-nil p))
  inner_walked (leaf l f) h os p k es =
      leaf_walked os p k l (events_onto f es) (h.0)
      ∙ inner_walked f (h.1) os (p ++ Leaf l ∷ []) k es
      ∙ ap (λ (xs : List SourcedEvent). walked (inside_of (k ∷ os) xs) es) (append_assoc p (Leaf l ∷ []) (flat_onto f []))
  inner_walked (node t kids f) h os p k es =
      let first : List SourcedEvent = Start t ∷ [] in
      let last : List SourcedEvent = End (end_of t) ∷ [] in
      let body : List SourcedEvent = flat_onto kids [] in
      let rest : List SourcedEvent = flat_onto f [] in
      start_walked os p k t (events_onto kids (End (end_of t) ∷ events_onto f es))
      ∙ inner_walked kids (h.0) (k ∷ os) (p ++ first) (end_of t) (End (end_of t) ∷ events_onto f es)
      ∙ end_walked (k ∷ os) ((p ++ first) ++ body) (end_of t) (events_onto f es)
      ∙ inner_walked f (h.1) os (((p ++ first) ++ body) ++ last) k es
      ∙ ap (λ (xs : List SourcedEvent). walked (inside_of (k ∷ os) xs) es)
      (append_assoc ((p ++ first) ++ body) last rest
      ∙ append_assoc (p ++ first) body (last ++ rest)
      ∙ append_assoc p first (body ++ (last ++ rest))
      ∙ ap (λ (xs : List SourcedEvent). p ++ (Start t ∷ xs)) (sym (flat_after kids (last ++ rest))))

  top_started : (t : TagView) (es : List EventView) → walked (beginning kept) (Start t ∷ es) ≡ walked (inside_of (end_of t ∷ []) (Start t ∷ [])) es
  unfolding step advance flushed_before joins
  top_started t es = refl

  mark_walked : (es : List EventView) → walked (beginning kept) (Leaf Rule ∷ es) ≡ walked (inside_of [] (Leaf rule_leaf ∷ [])) es
  unfolding step advance flushed_before joins
  mark_walked es = refl

  -- a tree at the top is pending after its events
  top_walked : (x : Top) → AreUnsourced (top_tree x) → (es : List EventView) → walked (beginning kept) (events_onto (top_tree x) es) ≡ walked (inside_of [] (first_pending x ∷ more_pending x)) es
  top_walked Mark h es = mark_walked es
  top_walked (Box t kids) h es =
      top_started t (events_onto kids (End (end_of t) ∷ es))
      ∙ inner_walked kids (h.0) [] (Start t ∷ []) (end_of t) (End (end_of t) ∷ es)
      ∙ end_walked [] (Start t ∷ flat_onto kids []) (end_of t) es
      ∙ ap (λ (xs : List SourcedEvent). walked (inside_of [] (Start t ∷ xs)) es) (sym (flat_after kids (End (end_of t) ∷ [])))

-- ---- what is handed

-- a text that is handed, unless it is empty, and these
handed_joins : (text : List ℕ) (ts : List (List ℕ)) → concat (handed_text text ++ ts) ≡ text ++ concat ts
handed_joins [] ts = refl
handed_joins (b ∷ bs) ts = refl

handed_alone : (text : List ℕ) → concat (handed_text text) ≡ text
handed_alone [] = refl
handed_alone (b ∷ bs) = append-nil (b ∷ bs)

joined_is : (ls : List (List ℕ)) → joined ls ≡ lines_at [] ls
joined_is [] = refl
joined_is (l ∷ ls) = refl

module _ (o : OptionsView) (reading : List ℕ → ParserOptions → ReadingView) (flags : ParserOptions) (source : List ℕ) (off : o.check_plain_blocks ≡ false) (marks : AreMarks o reading flags) where
  abbrev how : Rendering
  how = rendering o reading

  abbrev s : Setting
  s = setting_of o flags reading None

  abbrev m : Manner
  m = preferred_manner o

  abbrev kept_of : DocumentView → Kept
  kept_of d = record { flags = flags; document = d }

  -- what a unit leaves
  record Now : Type 0 where
    b : Before
    list : Option LastList
    quote : Option (List ℕ)

  abbrev trail_so : ℕ → Now → Trail
  trail_so owed w = record { owed = owed; last = last_of w.b; last_list = w.list; quote_line = w.quote; raw_end = false; open_html = false }

  -- a document that owes so many line feeds
  record IsAt (d : DocumentView) (owed : ℕ) (w : Now) : Type 0 where
    trail : d.trail ≡ trail_so owed w
    feeds : d.feeds ≡ 0
    none : d.references ≡ []

  abbrev unit_page : List ℕ → ℕ → Now → Page
  unit_page text owed w = page_so (within text) owed (last_of w.b) w.list w.quote

  page_is : (d : DocumentView) (owed : ℕ) (w : Now) → IsAt d owed w → page_in d ≡ unit_page [] owed w
  page_is d owed w h =
      ap (λ n. record { sheet = record { text = []; feeds = n }; trail = d.trail; references = []; held = None }) h.feeds
      ∙ ap (λ t. record { sheet = within []; trail = t; references = []; held = None }) h.trail

  -- the document after a unit of this text
  abbrev unit_document : DocumentView → List ℕ → ℕ → Now → DocumentView
  unit_document d text owed w = document_after s d (unit_page text owed w)

  undelimited : (u : Blocks) → is_delimiter_block (trees u) ≡ false
  undelimited u = or_none (some_tag is_delimiter_tag (trees u)) (some_leaf is_math (trees u)) (trees_tags u) (trees_math u)

  placed : (u : Blocks) → NoneLone u → needs_placeholder (trees u) ≡ false
  unfolding needs_placeholder
  placed u h = trees_placed u (whole None) refl h

  -- where the unit is spelled so
  abbrev IsSpelled : DocumentView → Blocks → Option EventView → Page → Type 0
  IsSpelled d u next page = spelling s m (trees u) (whole next) [] (page_in d) ≡ Some (site [] page)

  spelled_is : (d : DocumentView) (u : Blocks) (next : Option EventView) (page : Page) → IsSpelled d u next page → spelled s d (trees u) next m ≡ Some page
  unfolding spelled
  spelled_is d u next page h = ap choice.page_of h

  after_is : (d : DocumentView) (text : List ℕ) (owed : ℕ) (w : Now) → d.references ≡ [] → IsAt (unit_document d text owed w) owed w
  unfolding document_after
  after_is d text owed w none = record { trail = refl; feeds = refl; none = append-nil d.references ∙ none }

  unit_chosen : (d : DocumentView) (u : Blocks) (next : Option EventView) (text : List ℕ) (owed : ℕ) (w : Now) → NoneLone u → IsSpelled d u next (unit_page text owed w) → chosen s d (flat (trees u)) next ≡ Ok (text, unit_document d text owed w)
  unit_chosen d u next text owed w k h =
      chosen-unlabelled s d (trees u) next refl (placed u k)
      ∙ choice-unasked s d (trees u) next (undelimited u) off (ap (λ x. x && has_standard_markers o) (trees_sources u))
      ∙ ap (accepted_if s d) (spelled_is d u next (unit_page text owed w) h)

  -- a unit that is pending: its text, and what is owed after it
  record IsUnit (d : DocumentView) (x : Top) (next : Option EventView) (text : List ℕ) (owed : ℕ) (bullet : Option ℕ) (w : Now) : Type 0 where
    is : chosen s d (first_pending x ∷ more_pending x) next ≡ Ok (text, unit_document d text owed w)
    goes : waits (first_pending x ∷ more_pending x) ≡ false
    after : IsAt (unit_document d text owed w) owed w
    below : IsBelow owed bullet [] owed w.b w.list

  unit_goes : (u : Blocks) (x : Top) → trees u ≡ top_tree x → NoneLone u → waits (first_pending x ∷ more_pending x) ≡ false
  unit_goes u x e k = ap waits (sym (ap flat e ∙ top_flat x)) ∙ waits-flat (trees u) ∙ placed u k

  abbrev narrow : Option EventView → Type 0
  narrow next = and_is (λ e. starts is_indented_code e) next ≡ false

  abbrev bullet_of : How → Blocks → Option ℕ
  bullet_of how u = bullet_after o reading flags no_lists how u

  -- a unit and what it leaves
  record HasUnit (d : DocumentView) (x : Top) (next : Option EventView) (text : List ℕ) (owed : ℕ) (bullet : Option ℕ) : Type 0 where
    now : Now
    unit : IsUnit d x next text owed bullet now

  -- a unit below others
  below_unit : (d : DocumentView) (u : Blocks) (x : Top) (next : Option EventView) (owed : ℕ) (bullet : Option ℕ) (w : Now) → trees u ≡ top_tree x → narrow next → IsAt d owed w → IsBelow owed bullet [] owed w.b w.list → AllStand o reading flags false u → NoneLone u →
      HasUnit d x next (under [] (lines_of o flags no_lists (Below owed bullet) u)) (feeds_after o false owed u) (bullet_of (Below owed bullet) u)
  below_unit d u x next owed bullet w e thin at below h k =
      let text : List ℕ = under [] (lines_of o flags no_lists (Below owed bullet) u) in
      let left : ℕ = feeds_after o false owed u in
      let g : Goes o reading flags [] (spelling s m (trees u) (whole next) [] (unit_page [] owed w)) text left (bullet_of (Below owed bullet) u) true =
      (spells o reading flags marks u).blocks (Below owed bullet) no_lists [] [] owed w.b w.list w.quote (whole next) top_place below (λ k far. refl) thin h
      in
      let v : Now = record { b = g.b; list = g.list; quote = g.quote } in
      record {
        now = v;
        unit = record {
          is =
              ap (λ (es : List SourcedEvent). chosen s d es next) (sym (ap flat e ∙ top_flat x))
              ∙ unit_chosen d u next text left v k (ap (λ p. spelling s m (trees u) (whole next) [] p) (page_is d owed w at) ∙ g.is);
          goes = unit_goes u x e k;
          after = after_is d text left v at.none;
          below = g.below refl;
        };
      }

  -- the first unit
  first_unit : (u : Blocks) (x : Top) (next : Option EventView) → trees u ≡ top_tree x → narrow next → AllStand o reading flags false u → NoneLone u → goes_on Beside u ≡ true →
      HasUnit first_document x next (lines_at [] (document_lines o flags u)) (feeds_after o false 0 u) (bullet_of Beside u)
  first_unit u x next e thin h k ends =
      let text : List ℕ = lines_at [] (document_lines o flags u) in
      let left : ℕ = feeds_after o false 0 u in
      let g : Goes o reading flags [] (spelling s m (trees u) (whole next) [] (page_in first_document)) text left (bullet_of Beside u) (goes_on Beside u) =
      (spells o reading flags marks u).blocks Beside no_lists [] [] 0 Fresh None None (whole next) top_place (refl, refl, refl, refl) (λ k far. refl) thin h
      in
      let v : Now = record { b = g.b; list = g.list; quote = g.quote } in
      record {
        now = v;
        unit = record {
          is = ap (λ (es : List SourcedEvent). chosen s first_document es next) (sym (ap flat e ∙ top_flat x)) ∙ unit_chosen first_document u next text left v k g.is;
          goes = unit_goes u x e k;
          after = after_is first_document text left v refl;
          below = g.below ends;
        };
      }

  -- ---- the walk

  abbrev at_end : Walk Standing → Walk Done
  at_end w = followed (λ t. ended how t) w

  abbrev handed_then : {S : Type 0} → List ℕ → Walk S → Walk S
  handed_then text w = record { texts = handed_text text ++ w.texts; outcome = w.outcome }

  then_join : (text rest : List ℕ) (w : Walk Standing) → JoinTo (at_end w) rest → JoinTo (at_end (handed_then text w)) (text ++ rest)
  then_join text rest w h = by_outcome w.outcome h
    where
      by_outcome : (r : Result Standing Error) → JoinTo (at_end (record { texts = w.texts; outcome = r })) rest → JoinTo (at_end (record { texts = handed_text text ++ w.texts; outcome = r })) (text ++ rest)
      by_outcome (Ok t) h = record {
        ends_well = h.ends_well;
        is =
            ap concat (append_assoc (handed_text text) w.texts (ended how t).texts)
            ∙ handed_joins text (w.texts ++ (ended how t).texts)
            ∙ ap (λ (x : List ℕ). text ++ x) h.is;
      }
      by_outcome (Err e) h = record { ends_well = h.ends_well; is = handed_joins text w.texts ∙ ap (λ (x : List ℕ). text ++ x) h.is }

  abbrev pending_at : DocumentView → Top → Standing
  pending_at d x = inside_of how source (kept_of d) [] (first_pending x ∷ more_pending x)

  flush_joins : (text : List ℕ) (d : DocumentView) (e : SourcedEvent) (es : List EventView) → followed (λ t. walked how source (kept_of d) t es) (followed (λ t. joins e t) (hand_walk text (beginning (kept_of d)))) ≡ handed_then text (followed (λ t. walked how source (kept_of d) t es) (joins e (beginning (kept_of d))))
  unfolding joins
  flush_joins [] d (Start t) es = refl
  flush_joins [] d (Leaf l) es = refl
  flush_joins [] d (End k) es = refl
  flush_joins (b ∷ bs) d (Start t) es = refl
  flush_joins (b ∷ bs) d (Leaf l) es = refl
  flush_joins (b ∷ bs) d (End k) es = refl

  flushed_is : (d : DocumentView) (x : Top) (next : EventView) (text : List ℕ) (document : DocumentView) → waits (first_pending x ∷ more_pending x) ≡ false → chosen s d (first_pending x ∷ more_pending x) (Some next) ≡ Ok (text, document) → flushed_before how next (pending_at d x) ≡ hand_walk text (beginning (kept_of document))
  unfolding flushed_before flushed
  flushed_is d x next text document goes is =
      ap (λ b. flushed_or_deferred how b next (pending_at d x)) goes ∙ ap (λ r. flush_of (pending_at d x) (keeping flags r)) is

  -- a unit is written before the next tree
  then_flushed : (d : DocumentView) (x y : Top) (es : List EventView) (text : List ℕ) (new : DocumentView) → waits (first_pending x ∷ more_pending x) ≡ false → chosen s d (first_pending x ∷ more_pending x) (Some (first_view y)) ≡ Ok (text, new) →
      walked how source (kept_of d) (pending_at d x) (events_onto (top_tree y) es) ≡ handed_then text (walked how source (kept_of new) (beginning (kept_of new)) (events_onto (top_tree y) es))
  unfolding step advance flushed_before joins
  then_flushed d x (Box t kids) es text new goes is =
      let rest : List EventView = events_onto kids (End (end_of t) ∷ es) in
      ap (λ w. followed (λ t. walked how source (kept_of new) t rest) (followed (λ u. joins (Start t) u) w)) (flushed_is d x (Start t) text new goes is)
      ∙ flush_joins text new (Start t) rest
  then_flushed d x Mark es text new goes is =
      ap (λ w. followed (λ t. walked how source (kept_of new) t es) (followed (λ u. joins (Leaf rule_leaf) u) w)) (flushed_is d x (Leaf Rule) text new goes is)
      ∙ flush_joins text new (Leaf rule_leaf) es

  no_definitions : (d : DocumentView) → d.references ≡ [] → definitions_text d.references d.feeds ≡ []
  unfolding definitions_text
  no_definitions d e = ap (λ refs. definitions_text refs d.feeds) e

  -- the last unit is written at the end
  last_joins : (d : DocumentView) (x : Top) (text : List ℕ) (owed : ℕ) (bullet : Option ℕ) (w : Now) → IsUnit d x None text owed bullet w → JoinTo (at_end (stay (pending_at d x))) text
  unfolding ended
  last_joins d x text owed bullet w u =
      let pending : List SourcedEvent = first_pending x ∷ more_pending x in
      let new : DocumentView = unit_document d text owed w in
      subst (λ (w : Walk Done). JoinTo w text)
      (sym (ap (λ r. finished_of how pending (keeping flags r)) u.is ∙ ap (λ defs. (let w : Walk Done = record { texts = last_texts (holds_raw_block pending) defs text; outcome = Ok done } in w)) (no_definitions new u.after.none)))
      (record { ends_well = refl; is = handed_alone text })

  abbrev is_joined : DocumentView → Top → Blocks → List ℕ → Type 0
  is_joined d x f text = JoinTo (at_end (walked how source (kept_of d) (pending_at d x) (events_of f))) text

  -- a unit, and then another tree
  next_joins : (d : DocumentView) (x y : Top) (es : List EventView) (text : List ℕ) (owed : ℕ) (bullet : Option ℕ) (w : Now) (rest : List ℕ) → IsUnit d x (Some (first_view y)) text owed bullet w → AreUnsourced (top_tree y) →
      (let new : DocumentView = unit_document d text owed w in JoinTo (at_end (walked how source (kept_of new) (pending_at new y) es)) rest) →
      JoinTo (at_end (walked how source (kept_of d) (pending_at d x) (events_onto (top_tree y) es))) (text ++ rest)
  next_joins d x y es text owed bullet w rest u bare h =
      let new : DocumentView = unit_document d text owed w in
      subst (λ (w : Walk Standing). JoinTo (at_end w) (text ++ rest))
      (sym (then_flushed d x y es text new u.goes u.is ∙ ap (handed_then text) (top_walked how source (kept_of new) y bare es)))
      (then_join text rest (walked how source (kept_of new) (pending_at new y) es) h)

  plain_bare : (b : PlainBlock) → AreUnsourced (top_tree (plain_top b))
  plain_bare b = subst AreUnsourced (plain_is b) (trees_unsourced (PlainThen b Nothing))

  plain_front : (b : PlainBlock) (es : List EventView) → plain_events b ++ es ≡ events_onto (top_tree (plain_top b)) es
  plain_front b es = plain_onto b empty es ∙ ap (λ (t : Trees). events_onto t es) (plain_is b)

  box_front : (t : TagView) (kids : Blocks) (es : List EventView) → Start t ∷ (events_of kids ++ End (end_of t) ∷ es) ≡ events_onto (node t (trees kids) empty) es
  box_front t kids es = ap (λ (xs : List EventView). Start t ∷ xs) (trees_onto kids (End (end_of t) ∷ es))

  -- one block, and the blocks below it
  rest_joined : (here rest : List (List ℕ)) → under [] (here ++ []) ++ under [] rest ≡ under [] (here ++ rest)
  rest_joined here rest = ap (λ (x : List (List ℕ)). under [] x ++ under [] rest) (append-nil here) ∙ sym (under_append [] here rest)

  abbrev AreJoined : Blocks → Type 0
  AreJoined f =
      (d : DocumentView) (x : Top) (text : List ℕ) (owed : ℕ) (bullet : Option ℕ) (w : Now) → IsUnit d x (next_of f) text owed bullet w → AllStand o reading flags false f → NoneLone f →
      is_joined d x f (text ++ under [] (lines_of o flags no_lists (Below owed bullet) f))

  -- a unit, then one tree, and the blocks below that
  one_joined : (one f : Blocks) (y : Top) → AreJoined f → (d : DocumentView) (x : Top) (text : List ℕ) (owed : ℕ) (bullet : Option ℕ) (w : Now) → IsUnit d x (Some (first_view y)) text owed bullet w → trees one ≡ top_tree y → AreUnsourced (top_tree y) →
      AllStand o reading flags false one → NoneLone one → AllStand o reading flags false f → NoneLone f → (here : List (List ℕ)) → lines_of o flags no_lists (Below owed bullet) one ≡ here ++ [] →
      (es : List EventView) → es ≡ events_onto (top_tree y) (events_of f) →
      JoinTo (at_end (walked how source (kept_of d) (pending_at d x) es)) (text ++ under [] (here ++ lines_of o flags no_lists (Below (feeds_after o false owed one) (bullet_of (Below owed bullet) one)) f))
  one_joined one f y at_rest d x text owed bullet w u e bare h k h' k' here is es front =
      let new : DocumentView = unit_document d text owed w in
      let more : HasUnit new y (next_of f) _ _ _ = below_unit new one y (next_of f) owed bullet w e (narrow_next f) u.after u.below h k in
      let rest : List (List ℕ) = lines_of o flags no_lists (Below (feeds_after o false owed one) (bullet_of (Below owed bullet) one)) f in
      subst (λ (es : List EventView). JoinTo (at_end (walked how source (kept_of d) (pending_at d x) es)) (text ++ under [] (here ++ rest))) (sym front)
      (next_joins d x y (events_of f) text owed bullet w (under [] (here ++ rest)) u bare
      (subst (is_joined new y f) (ap (λ (x : List (List ℕ)). under [] x ++ under [] rest) is ∙ rest_joined here rest)
      (at_rest new y (under [] (lines_of o flags no_lists (Below owed bullet) one)) (feeds_after o false owed one) (bullet_of (Below owed bullet) one) more.now more.unit h' k')))

  pending_joined : (f : Blocks) → AreJoined f
  pending_joined Nothing d x text owed bullet w u h k = subst (JoinTo (at_end (stay (pending_at d x)))) (sym (append-nil text)) (last_joins d x text owed bullet w u)
  pending_joined (PlainThen c f) d x text owed bullet w u h k =
      one_joined (PlainThen c Nothing) f (plain_top c) (pending_joined f) d x text owed bullet w u (plain_is c) (plain_bare c) (h.0, tt) tt (h.1) k
      (plain_gap (Below owed bullet) c ++ plain_lines o flags no_lists (Below owed bullet) c) refl _ (plain_front c (events_of f))
  pending_joined (QuoteThen kids f) d x text owed bullet w u h k =
      one_joined (QuoteThen kids Nothing) f (Box (BlockQuote None) (trees kids)) (pending_joined f) d x text owed bullet w u refl (trees_unsourced kids, tt) (h.0, tt) (k.0, tt) (h.1) (k.1)
      (quote_lines (Below owed bullet) (lines_of o flags no_lists Beside kids) (lines_of o flags no_lists (Below 1 None) kids)) refl _ (box_front (BlockQuote None) kids (events_of f))
  pending_joined (BulletsThen items f) d x text owed bullet w u h k =
      one_joined (BulletsThen items Nothing) f (Box (ListOf None) (trees items)) (pending_joined f) d x text owed bullet w u refl (trees_unsourced items, tt) (h.0, h.1, tt) (k.0, k.1, tt) (h.2) (k.2)
      (list_gap no_lists (Below owed bullet) ++ lines_of o flags (in_bullets (bullet_for o no_lists (Below owed bullet)) no_lists) Beside items) refl _ (box_front (ListOf None) items (events_of f))
  pending_joined (ItemThen kids f) d x text owed bullet w u h k = absurd h

  first_and_rest : (here rest : List (List ℕ)) → 0 < length here → lines_at [] (here ++ []) ++ under [] rest ≡ joined (here ++ rest)
  first_and_rest [] rest h = absurd (omega arith)
  first_and_rest (l ∷ ls) rest h = ap (λ (x : List (List ℕ)). (l ++ under [] x) ++ under [] rest) (append-nil ls) ∙ sym (lines_at_append [] l ls rest)

  -- a document is its first unit and those below it
  first_joined : (one f all : Blocks) (x : Top) → trees one ≡ top_tree x → AreUnsourced (top_tree x) → AllStand o reading flags false one → NoneLone one → AllStand o reading flags false f → NoneLone f → goes_on Beside one ≡ true → events_of all ≡ events_onto (top_tree x) (events_of f) →
      (here : List (List ℕ)) → 0 < length here → document_lines o flags one ≡ here ++ [] → document_lines o flags all ≡ here ++ lines_of o flags no_lists (Below (feeds_after o false 0 one) (bullet_of Beside one)) f →
      JoinTo (script how source (nothing_yet flags) (document all)) (layout o flags all)
  first_joined one f all x e bare h k h' k' ends es here long is all_is =
      let first : HasUnit first_document x (next_of f) _ _ _ = first_unit one x (next_of f) e (narrow_next f) h k ends in
      let rest : List (List ℕ) = lines_of o flags no_lists (Below (feeds_after o false 0 one) (bullet_of Beside one)) f in
      subst (λ (w : Walk Standing). JoinTo (at_end w) (layout o flags all)) (sym (ap (walked how source (kept_of first_document) (nothing_yet flags)) es ∙ top_walked how source (kept_of first_document) x bare (events_of f)))
      (subst (is_joined first_document x f) (ap (λ (x : List (List ℕ)). lines_at [] x ++ under [] rest) is ∙ first_and_rest here rest long ∙ ap joined (sym all_is))
      (pending_joined f first_document x (lines_at [] (document_lines o flags one)) (feeds_after o false 0 one) (bullet_of Beside one) first.now first.unit h' k'))

  none_joined : JoinTo (script how source (nothing_yet flags) []) []
  unfolding ended
  none_joined = subst (λ (t : List ℕ). JoinTo (hand_walk t done) []) (sym (no_definitions first_document refl)) (record { ends_well = refl; is = refl })

  long_list : (items : Blocks) (c : Outside) → begins_item items ≡ true → AllStand o reading flags true items → 0 < length (lines_of o flags c Beside items)
  long_list items c e h = let cons = items_cons o reading flags items c e h in subst (λ (x : List (List ℕ)). 0 < length x) (sym (cons.2)) (let q : 0 < suc (length (cons.1)) = omega arith in q)

  pub document_joined : (f : Blocks) → AllStand o reading flags false f → NoneLone f → JoinTo (script how source (nothing_yet flags) (document f)) (layout o flags f)
  document_joined Nothing h k = none_joined
  document_joined (PlainThen c f) h k =
      first_joined (PlainThen c Nothing) f (PlainThen c f) (plain_top c) (plain_is c) (plain_bare c) (h.0, tt) tt (h.1) k refl (plain_front c (events_of f))
      (plain_gap Beside c ++ plain_lines o flags no_lists Beside c) (plain_long o reading flags Beside no_lists c) refl refl
  document_joined (QuoteThen kids f) h k =
      first_joined (QuoteThen kids Nothing) f (QuoteThen kids f) (Box (BlockQuote None) (trees kids)) refl (trees_unsourced kids, tt) (h.0, tt) (k.0, tt) (h.1) (k.1) refl (box_front (BlockQuote None) kids (events_of f))
      (quote_lines Beside (lines_of o flags no_lists Beside kids) (lines_of o flags no_lists (Below 1 None) kids)) (omega arith) refl refl
  document_joined (BulletsThen items f) h k =
      first_joined (BulletsThen items Nothing) f (BulletsThen items f) (Box (ListOf None) (trees items)) refl (trees_unsourced items, tt) (h.0, h.1, tt) (k.0, k.1, tt) (h.2) (k.2) refl (box_front (ListOf None) items (events_of f))
      (list_gap no_lists Beside ++ lines_of o flags (in_bullets (bullet_for o no_lists Beside) no_lists) Beside items) (long_list items (in_bullets (bullet_for o no_lists Beside) no_lists) (h.0) (h.1)) refl refl
  document_joined (ItemThen kids f) h k = absurd h

all_stand : (o : OptionsView) (reading : List ℕ → ParserOptions → ReadingView) (flags : ParserOptions) (tokens : ArePlainTokens o) (items : Bool) (f : Blocks) → ArePlainIn items f → AllStand o reading flags items f
all_stand o reading flags tokens items Nothing h = tt
all_stand o reading flags tokens true (PlainThen b f) h = absurd h
all_stand o reading flags tokens false (PlainThen b f) h = (may_stand o reading flags tokens.emphasis tokens.code b (h.0), all_stand o reading flags tokens false f (h.1))
all_stand o reading flags tokens true (QuoteThen kids f) h = absurd h
all_stand o reading flags tokens false (QuoteThen kids f) h = (all_stand o reading flags tokens false kids (h.0), all_stand o reading flags tokens false f (h.1))
all_stand o reading flags tokens true (BulletsThen items f) h = absurd h
all_stand o reading flags tokens false (BulletsThen items f) h = (h.0, all_stand o reading flags tokens true items (h.2), all_stand o reading flags tokens false f (h.3))
all_stand o reading flags tokens false (ItemThen kids f) h = absurd h
all_stand o reading flags tokens true (ItemThen kids f) h = (all_stand o reading flags tokens false kids (h.0), all_stand o reading flags tokens true f (h.1))

none_lone : (items : Bool) (f : Blocks) → ArePlainIn items f → NoneLone f
none_lone items Nothing h = tt
none_lone true (PlainThen b f) h = absurd h
none_lone false (PlainThen b f) h = none_lone false f (h.1)
none_lone true (QuoteThen kids f) h = absurd h
none_lone false (QuoteThen kids f) h = (none_lone false kids (h.0), none_lone false f (h.1))
none_lone true (BulletsThen items f) h = absurd h
none_lone false (BulletsThen items f) h = (h.1, none_lone true items (h.2), none_lone false f (h.3))
none_lone false (ItemThen kids f) h = absurd h
none_lone true (ItemThen kids f) h = (none_lone false kids (h.0), none_lone true f (h.1))

-- bullets that Markdown reads

mark_of_42 : IsMark 42
unfolding encode_utf8
mark_of_42 = (omega arith, (refl, (refl, tt)))

mark_of_43 : IsMark 43
unfolding encode_utf8
mark_of_43 = (omega arith, (refl, (refl, tt)))

mark_of_45 : IsMark 45
unfolding encode_utf8
mark_of_45 = (omega arith, (refl, (refl, tt)))

mark_from : (c : ℕ) → char_set_contains (codes "*-+") c ≡ true → IsMark c
mark_from c h = by_test (c == 42) (c == 45) (c == 43) refl refl refl h
  where
    by_test : (x y z : Bool) → (c == 42) ≡ x → (c == 45) ≡ y → (c == 43) ≡ z → char_set_contains (codes "*-+") c ≡ true → IsMark c
    by_test true y z e k l h = subst IsMark (sym (eq_of c 42 e)) mark_of_42
    by_test false true z e k l h = subst IsMark (sym (eq_of c 45 k)) mark_of_45
    by_test false false true e k l h = subst IsMark (sym (eq_of c 43 l)) mark_of_43
    by_test false false false e k l h = absurd (true≢false (sym h ∙ none_of (codes "*-+") c (e, (k, (l, tt)))))

-- the law
pub documents_laid_out : (options : OptionsView) (reading : List ℕ → ParserOptions → ReadingView) (flags : ParserOptions) (source : List ℕ) (f : Blocks) →
    options.check_plain_blocks ≡ false → ArePlainTokens options → char_set_contains (codes "*-+") options.list_token ≡ true → ArePlain f →
    JoinTo (script (rendering options reading) source (nothing_yet flags) (document f)) (layout options flags f)
documents_laid_out options reading flags source f off tokens bullet h =
    let marks : AreMarks options reading flags = record { own = mark_from options.list_token bullet; asterisk = mark_of_42; hyphen = mark_of_45 } in
    document_joined options reading flags source off marks f (all_stand options reading flags tokens false f h) (none_lone false f h)
