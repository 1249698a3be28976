-- What trees of quotes and bullet lists round plain blocks are spelled as: their layout, in any containers.
use Rattle.std.proofs.Common.{◌≡◌, ◌≢◌, ℕ, zero, suc, ◌+◌, ◌-◌, ◌<◌, ◌≤◌, max, Bool, true, false, not, ◌==◌, ◌&&◌, ◌||◌, if◌then◌else◌, nat_lt, List, [], ◌∷◌, ◌++◌, length, length-append, min, replicate, map, chars, codes, flat_map, refl, ap, sym, subst, ◌∙◌, arith, append_assoc, append-nil, eq-eqb, is_none, is_some, unwrap_or, true≢false, Option, Some, None, inl, inr}
use Rattle.std.proofs.lemmas.Bool.Decides.{nat_tests}
use Rattle.std.proofs.lemmas.List.{length-replicate}
use Rattle.std.proofs.lemmas.Str.{chars-nil}
use Rattle.std.specs.Char.{encode_utf8}
use Rattle.std.specs.List.{AllByRecursion, concat, list_any}
use Rattle.tocmark_event.specs.Forest.{empty, leaf, node}
use Rattle.tocmark_event.specs.Options.{OptionsView}
use Rattle.tocmark_event.specs.Reading.{ReadingView}
use Rattle.tocmark_event.specs.View.{EventView, Start, Leaf, Rule, Paragraph, BlockQuote, CodeBlock, Fenced, Item, ListOf, TagView, end_of}
use Rattle.tocmark_event.specs.declared.event.HeadingLevel.{HeadingLevel}
use Rattle.tocmark_event.specs.declared.event.TagEnd.TheVariants as end
use Rattle.tocmark_event.specs.declared.event.flags.ParserOptions.{ParserOptions}
use Rattle.tocmark_write_renderer.specs.WriterOf.{HasNoFeed}
use Rattle.tocmark_write_texts.specs.Leaves.{longest_run}
use Rattle.tocmark_spelling.specs.Body.{Trees, has_inline, has_lone_paragraph, has_tag, is_tight, some_child}
use Rattle.tocmark_spelling.specs.Closing.{closing}
use Rattle.tocmark_spelling.specs.Gap.{gap, close_up, is_item_opening, forget_quote, raised_before, raised_for_block, raised_for_list, raised_for_title, resumed, separated}
use Rattle.tocmark_spelling.specs.Kinds.{and_is, is_indented_code, is_item, is_list, is_paragraph, starts}
use Rattle.tocmark_spelling.specs.Look.{look}
use Rattle.tocmark_spelling.specs.Opening.{opening, changed_token, continues_list, entered, first_token, is_number, item_marker, list_token, nearest_bullet, fence, fence_length, fence_token, info_byte, on_new_line, without_space, quote_mark}
use Rattle.tocmark_spelling.specs.Page.{Sheet, laid, put_byte, lead, prefix_of, following, Level, Listed, Trail, Path, Page, Site, Around, Plain, raised, with_last, with_owed, with_trail, written}
use Rattle.tocmark_spelling.specs.Closing.{item_tail, list_tail}
use Rattle.tocmark_spelling.specs.declared.trail.LastChild.{LastChild}
use Rattle.tocmark_spelling.specs.declared.trail.LastList.{LastList}
use Rattle.tocmark_spelling.specs.declared.list_choice.ListChoice.{ListChoice}
use Rattle.tocmark_spelling.specs.Places.{is_close, is_in, is_item_start, at_item_start}
use Rattle.tocmark_spelling.specs.Plan.{Setting, Manner}
use Rattle.tocmark_spelling.specs.PlanOf.{setting_of}
use Rattle.tocmark_spelling.specs.Runs.{ahead_of, beyond, inside, past}
use Rattle.tocmark_spelling.specs.Words.{same_truth}
use Rattle.tocmark_spelling.specs.Spelling.{spelling}
use Rattle.tocmark_spelling.specs.Stretch.{is_in_hyphen_list, rule_text}
use Rattle.tocmark_spelling.specs.declared.trail.Last.{Last}
use Rattle.tocmark_spelling.specs.declared.trail.Last.TheVariants.{Other, BlockEnd, ItemStart, ItemEnd, ListEnd}
use Rattle.tocmark_choose.specs.Candidates.{preferred_manner}
use Rattle.tocmark_laws.specs.Documents.{PlainBlock, PlainHeading, PlainParagraph, PlainRule, PlainCode, heading_block}
use Rattle.tocmark_laws.specs.TextBlocks.{Kind, ParagraphKind, HeadingKind, HasText, block_text, feeds_behind, mark_of, place_in, tag_of}
use Rattle.tocmark_laws.proofs.BlockEscapes.{IsFilled, escaped_filled}
use Rattle.tocmark_laws.proofs.BlockSpelling.{text_trees, page_of}
use Rattle.tocmark_laws.proofs.DocumentCode.{IsToken, IsInfo}
use Rattle.tocmark_laws.proofs.DocumentCodeSpelling.{fence_rest}
use Rattle.tocmark_laws.proofs.DocumentRows.{AreCode, IsCode}
use Rattle.tocmark_laws.proofs.DocumentSpelling.{rule_leaf}
use Rattle.tocmark_laws.proofs.DocumentWalks.{StandsIn}
use Rattle.tocmark_laws.proofs.PlainSpelling.{line_trees}
use Rattle.tocmark_document_laws.specs.Blocks.{Blocks, Nothing, PlainThen, QuoteThen, BulletsThen, ItemThen, begins_item}
use Rattle.tocmark_document_laws.specs.DocumentLines.{block_lines, bullet_for, code_text, document_lines, feeds_after, feeds_below, feeds_below_item, feeds_below_list, feeds_below_quote, gap_lines, gap_of, hanging, How, Beside, Marked, Below, in_bullets, is_amid_hyphens, is_bullet, item_gap, lines_of, list_gap, marker, new_line, no_lists, other_bullet, Outside, paragraph_gap, paragraph_lines, parted_from, plain_gap, plain_lines, quote_lines, quoted, quoted_beside, rule_line}
use Rattle.tocmark_document_laws.proofs.Spots.{IsSpot, HasCodeLines, printable_feedless, site, node_spelled, end_spelled, paragraph_at, heading_at, rule_at, code_at, par_page, head_page, rule_page, code_page}
use Rattle.tocmark_document_laws.proofs.Under.{under, under_append, under_map, under_first, lines_at, lines_at_append, text_at, within, fed, feeds_fed, below, line_laid, line_texts}

-- a plain block and what is right of it
abbrev pub plain_tree : PlainBlock → Trees → Trees
plain_tree (PlainParagraph l ms) f = node Paragraph (line_trees l ms) f
plain_tree (PlainHeading level ts) f = node (tag_of (HeadingKind level)) (text_trees ts) f
plain_tree PlainRule f = leaf rule_leaf f
plain_tree (PlainCode info ls) f = node (CodeBlock (Fenced info)) (text_trees (line_texts ls)) f

-- blocks as trees
abbrev pub trees : Blocks → Trees
trees Nothing = empty
trees (PlainThen b f) = plain_tree b (trees f)
trees (QuoteThen kids f) = node (BlockQuote None) (trees kids) (trees f)
trees (BulletsThen items f) = node (ListOf None) (trees items) (trees f)
trees (ItemThen kids f) = node Item (trees kids) (trees f)

-- where the right neighbours of a plain block are
abbrev pub plain_past : PlainBlock → Around → Around
plain_past (PlainParagraph l ms) a = beyond Paragraph (line_trees l ms) a
plain_past (PlainHeading level ts) a = beyond (tag_of (HeadingKind level)) (text_trees ts) a
plain_past PlainRule a = past (Leaf rule_leaf) a
plain_past (PlainCode info ls) a = beyond (CodeBlock (Fenced info)) (text_trees (line_texts ls)) a

-- what is before a place: nothing that matters, an item's marker, text, code, a quote, a list in a list, another list, or an item
pub data Before : Type 0 where
  Fresh : Before
  AtMarker : Before
  AfterText : Kind → Before
  AfterCode : Before
  AfterQuote : Before
  AfterInner : LastChild → Before
  AfterOuter : Before

-- what was written last there
abbrev pub last_of : Before → Last
last_of Fresh = Other
last_of AtMarker = ItemStart
last_of (AfterText kind) = BlockEnd (end_of (tag_of kind))
last_of AfterCode = BlockEnd end.CodeBlock
last_of AfterQuote = BlockEnd (end.BlockQuote None)
last_of (AfterInner tail) = ListEnd tail
last_of AfterOuter = BlockEnd (end.List false)

-- whether nothing that matters is before, and whether a marker is
abbrev is_fresh : Before → Bool
is_fresh Fresh = true
is_fresh b = false

abbrev is_marked : Before → Bool
is_marked AtMarker = true
is_marked b = false

-- how many line feeds are owed there, at least
abbrev pub least_of : Before → ℕ
least_of Fresh = 1
least_of AtMarker = 1
least_of (AfterText kind) = 1
least_of AfterCode = 1
least_of AfterQuote = 2
least_of (AfterInner tail) = 1
least_of AfterOuter = 2

-- how many a paragraph asks for there, where so many are owed
abbrev pub paragraph_feeds : ℕ → Before → ℕ
paragraph_feeds owed (AfterInner tail) = max owed 2
paragraph_feeds owed b = owed

-- whether a list ended there
abbrev pub is_list_end : Before → Bool
is_list_end (AfterInner tail) = true
is_list_end AfterOuter = true
is_list_end b = false

-- what a plain block leaves
abbrev pub behind_of : PlainBlock → Before
behind_of (PlainParagraph l ms) = AfterText ParagraphKind
behind_of (PlainHeading level ts) = AfterText (HeadingKind level)
behind_of PlainRule = Fresh
behind_of (PlainCode info ls) = AfterCode

-- a page with what is left by the trees before
abbrev pub page_so : Sheet → ℕ → Last → Option LastList → Option (List ℕ) → Page
page_so sheet owed last list quote = record {
  sheet = sheet;
  trail = record { owed = owed; last = last; last_list = list; quote_line = quote; raw_end = false; open_html = false };
  references = [];
  held = None;
}

-- containers in which no children are close
pub record IsPlace (c : Outside) (path : Path) : Type 0 where
  pub spot : IsSpot path
  pub apart : is_close path ≡ false
  pub listed : is_in is_list path ≡ c.listed
  pub bullet : nearest_bullet path ≡ c.bullet
  pub hyphens : is_in_hyphen_list path ≡ c.hyphens

pub top_place : IsPlace no_lists []
top_place = record { spot = record { raw = refl; heading = refl; table = refl; cells = λ n. refl }; apart = refl; listed = refl; bullet = refl; hyphens = refl }

abbrev pub in_quote : Path → ℕ → Path
in_quote path start = record { tag = BlockQuote None; prefix = codes " > "; start = start; content = Plain } ∷ path

pub quote_place : (c : Outside) (path : Path) (start : ℕ) → IsPlace c path → IsPlace c (in_quote path start)
quote_place c path start h = record {
  spot = record { raw = h.spot.raw; heading = h.spot.heading; table = h.spot.table; cells = λ n. ap (λ (w : Path). in_quote w start) (h.spot.cells n) };
  apart = refl;
  listed = h.listed;
  bullet = h.bullet;
  hyphens = h.hyphens;
}

-- what a bullet list that isn't tight chooses
abbrev pub bullets : ℕ → Bool → ListChoice
bullets token lone = record { number = None; token = token; tight = false; wide = false; labelled = lone }

abbrev pub in_list : Path → ℕ → Bool → ℕ → Path
in_list path token lone start = record { tag = ListOf None; prefix = []; start = start; content = Listed (bullets token lone) } ∷ path

abbrev pub in_item : Path → ℕ → ℕ → Path
in_item path token start = record { tag = Item; prefix = replicate (length (marker token)) 32; start = start; content = Plain } ∷ path

-- a bullet that Markdown reads
abbrev pub IsMark : ℕ → Type 0
IsMark token = (0 < length (marker token)) × HasNoFeed (marker token)

pub list_place : (c : Outside) (path : Path) (token : ℕ) (lone : Bool) (start : ℕ) → IsPlace c path → IsPlace (in_bullets token c) (in_list path token lone start)
list_place c path token lone start h = record {
  spot = record { raw = h.spot.raw; heading = h.spot.heading; table = h.spot.table; cells = λ n. ap (λ (w : Path). in_list w token lone start) (h.spot.cells n) };
  apart = refl;
  listed = refl;
  bullet = refl;
  hyphens = ap (λ b. (token == 45) || b) h.hyphens;
}

pub item_place : (c : Outside) (path : Path) (token : ℕ) (lone : Bool) (start at : ℕ) → IsPlace (in_bullets token c) (in_list path token lone start) → IsPlace (in_bullets token c) (in_item (in_list path token lone start) token at)
item_place c path token lone start at h = record {
  spot = record { raw = h.spot.raw; heading = h.spot.heading; table = h.spot.table; cells = λ n. ap (λ (w : Path). in_item w token at) (h.spot.cells n) };
  apart = refl;
  listed = h.listed;
  bullet = h.bullet;
  hyphens = h.hyphens;
}

-- ---- gaps

-- the gap, where the children are close or not
abbrev gap_if : Bool → EventView → Path → Page → Page
gap_if close e path p =
    let ready : Page = with_trail (raised_for_block e (raised_for_title e (raised_for_list e path (resumed e p.trail)))) p in
    let here : Page = if not ready.trail.open_html && close then close_up e path ready else forget_quote ready in
    separated e path (with_trail (raised_before e path here.trail) here)

gap_apart : (e : EventView) (path : Path) (p : Page) → is_close path ≡ false → gap e path p ≡ gap_if false e path p
gap_apart e path p h = ap (λ c. gap_if c e path p) h

all_left : (n : ℕ) → max n 0 - 0 ≡ n
all_left n = omega arith

all_raised : (n k : ℕ) → max n k - 0 ≡ max n k
all_raised n k = omega arith

all_inner : (n : ℕ) → max (max n 0) 2 - 0 ≡ max n 2
all_inner n = omega arith

all_listed : (n : ℕ) → max (max n 1) 0 - 0 ≡ max n 1
all_listed n = omega arith

module _ (path : Path) (apart : is_close path ≡ false) (t : List ℕ) (owed : ℕ) (list : Option LastList) (quote : Option (List ℕ)) where
  abbrev waiting : Before → Page
  waiting b = page_so (within t) owed (last_of b) list quote

  abbrev ready : ℕ → Before → Page
  ready n b = page_of (laid (prefix_of path) (replicate n 10) (within t)) 0 (last_of b) None

  par_gap : (b : Before) → gap (Start Paragraph) path (waiting b) ≡ ready (paragraph_feeds owed b) b
  par_gap b = gap_apart (Start Paragraph) path (waiting b) apart ∙ by_case b
    where
      by_case : (b : Before) → gap_if false (Start Paragraph) path (waiting b) ≡ ready (paragraph_feeds owed b) b
      by_case Fresh = ap (λ n. ready n Fresh) (all_left owed)
      by_case AtMarker = ap (λ n. ready n AtMarker) (all_left owed)
      by_case (AfterText ParagraphKind) = ap (λ n. ready n (AfterText ParagraphKind)) (all_left owed)
      by_case (AfterText (HeadingKind level)) = ap (λ n. ready n (AfterText (HeadingKind level))) (all_left owed)
      by_case AfterCode = ap (λ n. ready n AfterCode) (all_left owed)
      by_case AfterQuote = ap (λ n. ready n AfterQuote) (all_left owed)
      by_case (AfterInner tail) = ap (λ n. ready n (AfterInner tail)) (all_inner owed)
      by_case AfterOuter = ap (λ n. ready n AfterOuter) (all_left owed)

  heading_gap : (level : HeadingLevel) (b : Before) → gap (Start (tag_of (HeadingKind level))) path (waiting b) ≡ ready owed b
  heading_gap level b = gap_apart (Start (tag_of (HeadingKind level))) path (waiting b) apart ∙ by_case b ∙ ap (λ n. ready n b) (all_left owed)
    where
      by_case : (b : Before) → gap_if false (Start (tag_of (HeadingKind level))) path (waiting b) ≡ ready (max owed 0 - 0) b
      by_case Fresh = refl
      by_case AtMarker = refl
      by_case (AfterText ParagraphKind) = refl
      by_case (AfterText (HeadingKind level)) = refl
      by_case AfterCode = refl
      by_case AfterQuote = refl
      by_case (AfterInner tail) = refl
      by_case AfterOuter = refl

  rule_gap : (b : Before) → gap (Leaf Rule) path (waiting b) ≡ ready owed b
  rule_gap b = gap_apart (Leaf Rule) path (waiting b) apart ∙ by_case b ∙ ap (λ n. ready n b) (all_left owed)
    where
      by_case : (b : Before) → gap_if false (Leaf Rule) path (waiting b) ≡ ready (max owed 0 - 0) b
      by_case Fresh = refl
      by_case AtMarker = refl
      by_case (AfterText ParagraphKind) = refl
      by_case (AfterText (HeadingKind level)) = refl
      by_case AfterCode = refl
      by_case AfterQuote = refl
      by_case (AfterInner tail) = refl
      by_case AfterOuter = refl

  code_gap : (info : List ℕ) (b : Before) → gap (Start (CodeBlock (Fenced info))) path (waiting b) ≡ ready owed b
  code_gap info b = gap_apart (Start (CodeBlock (Fenced info))) path (waiting b) apart ∙ by_case b ∙ ap (λ n. ready n b) (all_left owed)
    where
      by_case : (b : Before) → gap_if false (Start (CodeBlock (Fenced info))) path (waiting b) ≡ ready (max owed 0 - 0) b
      by_case Fresh = refl
      by_case AtMarker = refl
      by_case (AfterText ParagraphKind) = refl
      by_case (AfterText (HeadingKind level)) = refl
      by_case AfterCode = refl
      by_case AfterQuote = refl
      by_case (AfterInner tail) = refl
      by_case AfterOuter = refl

  -- between two quotes is an empty line
  abbrev quote_feeds : Before → ℕ
  quote_feeds AfterQuote = max owed 2
  quote_feeds b = owed

  quote_gap : (b : Before) → gap (Start (BlockQuote None)) path (waiting b) ≡ ready (quote_feeds b) b
  quote_gap b = gap_apart (Start (BlockQuote None)) path (waiting b) apart ∙ by_case b
    where
      by_case : (b : Before) → gap_if false (Start (BlockQuote None)) path (waiting b) ≡ ready (quote_feeds b) b
      by_case Fresh = ap (λ n. ready n Fresh) (all_left owed)
      by_case AtMarker = ap (λ n. ready n AtMarker) (all_left owed)
      by_case (AfterText ParagraphKind) = ap (λ n. ready n (AfterText ParagraphKind)) (all_left owed)
      by_case (AfterText (HeadingKind level)) = ap (λ n. ready n (AfterText (HeadingKind level))) (all_left owed)
      by_case AfterCode = ap (λ n. ready n AfterCode) (all_left owed)
      by_case AfterQuote = ap (λ n. ready n AfterQuote) (all_raised owed 2)
      by_case (AfterInner tail) = ap (λ n. ready n (AfterInner tail)) (all_left owed)
      by_case AfterOuter = ap (λ n. ready n AfterOuter) (all_left owed)

  -- a list in a list is on a new line, but for one right after a marker
  abbrev list_feeds : Bool → Before → ℕ
  list_feeds false b = owed
  list_feeds true AtMarker = owed
  list_feeds true b = max owed 1

  abbrev listed_ready : ℕ → Before → Page
  listed_ready n b = page_so (laid (prefix_of path) (replicate n 10) (within t)) 0 (last_of b) list None

  abbrev list_if : Bool → Before → Page
  list_if listed b =
      let e : EventView = Start (ListOf None) in
      let resumed_ : Trail = resumed e (waiting b).trail in
      let ready_ : Page = with_trail (raised_for_block e (raised_for_title e (if listed && not (is_item_opening resumed_.last) then raised 1 resumed_ else resumed_))) (waiting b) in
      let here : Page = if not ready_.trail.open_html && false then close_up e path ready_ else forget_quote ready_ in
      separated e path (with_trail (raised_before e path here.trail) here)

  bullets_gap : (b : Before) (listed : Bool) → is_in is_list path ≡ listed → gap (Start (ListOf None)) path (waiting b) ≡ listed_ready (list_feeds listed b) b
  bullets_gap b listed h = gap_apart (Start (ListOf None)) path (waiting b) apart ∙ ap (λ l. list_if l b) h ∙ by_case listed b
    where
      by_case : (listed : Bool) (b : Before) → list_if listed b ≡ listed_ready (list_feeds listed b) b
      by_case false Fresh = ap (λ n. listed_ready n Fresh) (all_left owed)
      by_case false AtMarker = ap (λ n. listed_ready n AtMarker) (all_left owed)
      by_case false (AfterText ParagraphKind) = ap (λ n. listed_ready n (AfterText ParagraphKind)) (all_left owed)
      by_case false (AfterText (HeadingKind level)) = ap (λ n. listed_ready n (AfterText (HeadingKind level))) (all_left owed)
      by_case false AfterCode = ap (λ n. listed_ready n AfterCode) (all_left owed)
      by_case false AfterQuote = ap (λ n. listed_ready n AfterQuote) (all_left owed)
      by_case false (AfterInner tail) = ap (λ n. listed_ready n (AfterInner tail)) (all_left owed)
      by_case false AfterOuter = ap (λ n. listed_ready n AfterOuter) (all_left owed)
      by_case true Fresh = ap (λ n. listed_ready n Fresh) (all_listed owed)
      by_case true AtMarker = ap (λ n. listed_ready n AtMarker) (all_left owed)
      by_case true (AfterText ParagraphKind) = ap (λ n. listed_ready n (AfterText ParagraphKind)) (all_listed owed)
      by_case true (AfterText (HeadingKind level)) = ap (λ n. listed_ready n (AfterText (HeadingKind level))) (all_listed owed)
      by_case true AfterCode = ap (λ n. listed_ready n AfterCode) (all_listed owed)
      by_case true AfterQuote = ap (λ n. listed_ready n AfterQuote) (all_listed owed)
      by_case true (AfterInner tail) = ap (λ n. listed_ready n (AfterInner tail)) (all_listed owed)
      by_case true AfterOuter = ap (λ n. listed_ready n AfterOuter) (all_listed owed)

-- ---- texts

-- where lines begin: they go on in the line of the text, or are below it
abbrev pub put : How → List ℕ → List ℕ → List (List ℕ) → List ℕ
put Beside p t ls = t ++ lines_at p ls
put Marked p t ls = t ++ lines_at p ls
put (Below n bullet) p t ls = t ++ under p ls

pub put_none : (how : How) (p t : List ℕ) → put how p t [] ≡ t
put_none Beside p t = append-nil t
put_none Marked p t = append-nil t
put_none (Below n bullet) p t = append-nil t

-- lines and then those below them
pub put_more : (how : How) (p t : List ℕ) (here rest : List (List ℕ)) → 0 < length here → put how p t here ++ under p rest ≡ put how p t (here ++ rest)
put_more Beside p t [] rest h = absurd (omega arith)
put_more Beside p t (l ∷ ls) rest h = append_assoc t (lines_at p (l ∷ ls)) (under p rest) ∙ ap (λ (x : List ℕ). t ++ x) (sym (lines_at_append p l ls rest))
put_more Marked p t [] rest h = absurd (omega arith)
put_more Marked p t (l ∷ ls) rest h = append_assoc t (lines_at p (l ∷ ls)) (under p rest) ∙ ap (λ (x : List ℕ). t ++ x) (sym (lines_at_append p l ls rest))
put_more (Below n bullet) p t here rest h = append_assoc t (under p here) (under p rest) ∙ ap (λ (x : List ℕ). t ++ x) (sym (under_append p here rest))

pub put_longer : (how : How) (p t : List ℕ) (ls : List (List ℕ)) → length t ≤ length (put how p t ls)
put_longer Beside p t ls = omega (arith, length-append t (lines_at p ls))
put_longer Marked p t ls = omega (arith, length-append t (lines_at p ls))
put_longer (Below n bullet) p t ls = omega (arith, length-append t (under p ls))

-- the lines of a gap, after which so many line feeds are
abbrev IsGap : How → ℕ → List (List ℕ) → Type 0
IsGap Beside n gap = (n ≡ 0) × (gap ≡ [])
IsGap Marked n gap = (n ≡ 0) × (gap ≡ [])
IsGap (Below k bullet) n gap = (n ≡ suc (n - 1)) × (gap ≡ gap_lines n)

begun_at : (p t : List ℕ) (n : ℕ) (l : List ℕ) (ls : List (List ℕ)) → n ≡ 0 → text_at p (fed p n t) ++ lines_at p (l ∷ ls) ≡ t ++ lines_at p (l ∷ ls)
begun_at p t n l ls e = ap (λ n. text_at p (fed p n t) ++ lines_at p (l ∷ ls)) e ∙ ap (λ (x : List ℕ). x ++ lines_at p (l ∷ ls)) (append-nil t)

-- lines after their gap
gap_put : (how : How) (p t : List ℕ) (n : ℕ) (gap : List (List ℕ)) (l : List ℕ) (ls : List (List ℕ)) → IsGap how n gap → text_at p (fed p n t) ++ lines_at p (l ∷ ls) ≡ put how p t (gap ++ (l ∷ ls))
gap_put Beside p t n gap l ls h = begun_at p t n l ls (h.0) ∙ ap (λ (g : List (List ℕ)). t ++ lines_at p (g ++ (l ∷ ls))) (sym (h.1))
gap_put Marked p t n gap l ls h = begun_at p t n l ls (h.0) ∙ ap (λ (g : List (List ℕ)). t ++ lines_at p (g ++ (l ∷ ls))) (sym (h.1))
gap_put (Below k bullet) p t n gap l ls h =
    ap (λ n. text_at p (fed p n t) ++ lines_at p (l ∷ ls)) (h.0)
    ∙ below p (n - 1) t l ls
    ∙ ap (λ (g : List (List ℕ)). t ++ under p (g ++ (l ∷ ls))) (sym (h.1))

-- a line feed on a sheet that ends within a line, and lines after that
lined_put : (p t : List ℕ) (l : List ℕ) (ls : List (List ℕ)) → text_at p (put_byte p 10 (within t)) ++ lines_at p (l ∷ ls) ≡ t ++ lines_at p ([] ∷ l ∷ ls)
lined_put p t l ls =
    let rest : List ℕ = lines_at p (l ∷ ls) in
    ap (λ (x : List ℕ). ((x ++ 10 ∷ []) ++ p) ++ rest) (append-nil t)
    ∙ append_assoc (t ++ 10 ∷ []) p rest
    ∙ append_assoc t (10 ∷ []) (p ++ rest)
    ∙ ap (λ (x : List ℕ). t ++ x) (sym (under_first p l ls))

-- what is laid makes a text longer
laid_longer : (p xs : List ℕ) (s : Sheet) → length s.text + length xs ≤ length (laid p xs s).text
laid_longer p [] s = omega arith
laid_longer p (x ∷ xs) s =
    let more = laid_longer p xs (put_byte p x s) in
    let one : length (put_byte p x s).text ≡ length (s.text ++ lead p s.feeds) + 1 = length-append (s.text ++ lead p s.feeds) (x ∷ []) in
    let front = length-append s.text (lead p s.feeds) in
    omega (arith, more, one, front)

pub fed_longer : (p : List ℕ) (n : ℕ) (t : List ℕ) → length t + n ≤ length (fed p n t).text
fed_longer p n t =
    let ten : ℕ = 10 in
    let more = laid_longer p (replicate n ten) (within t) in
    let count : length (replicate n ten) ≡ n = length-replicate n ten in
    omega (arith, more, count)

-- ---- where blocks begin

-- the bullet of the list that is above
abbrev pub parted_below : How → Option ℕ
parted_below (Below n bullet) = bullet
parted_below how = None

-- whether others can be below
abbrev pub goes_on : How → Blocks → Bool
goes_on (Below n bullet) f = true
goes_on how Nothing = false
goes_on how f = true

-- a list that ended so deep or deeper
abbrev pub IsDeep : Option LastList → ℕ → Type 0
IsDeep None depth = Unit {0}
IsDeep (Some l) depth = depth ≤ l.depth

-- below what is before, after a list with this bullet or after none
pub record IsBelow (n : ℕ) (bullet : Option ℕ) (path : Path) (owed : ℕ) (b : Before) (list : Option LastList) : Type 0 where
  pub owes : owed ≡ n
  pub some : n ≡ suc (n - 1)
  pub least : least_of b ≤ n
  pub marker : is_item_opening (last_of b) ≡ false
  pub ends : is_list_end b ≡ is_some bullet
  pub tokens : (token : ℕ) → continues_list list (length path) None token ≡ is_bullet bullet token
  pub deep : IsDeep list (length path)

-- what is before the place where blocks begin
abbrev pub Starts : How → Path → List ℕ → ℕ → Before → Option LastList → Type 0
Starts Beside path t owed b list = (owed ≡ 0) × (b ≡ Fresh) × (list ≡ None) × (is_item_start (length t) path ≡ false)
Starts Marked path t owed b list = (owed ≡ 0) × (b ≡ AtMarker) × (list ≡ None) × (is_item_start (length t) path ≡ true)
Starts (Below n bullet) path t owed b list = IsBelow n bullet path owed b list

simple_gap : (how : How) (path : Path) (t : List ℕ) (owed : ℕ) (b : Before) (list : Option LastList) → Starts how path t owed b list → IsGap how owed (gap_of how)
simple_gap Beside path t owed b list h = (h.0, refl)
simple_gap Marked path t owed b list h = (h.0, refl)
simple_gap (Below n bullet) path t owed b list h = (h.owes ∙ h.some ∙ ap (λ k. suc (k - 1)) (sym h.owes), ap gap_lines (sym h.owes))

feeds_plain : (owed : ℕ) (b : Before) → is_list_end b ≡ false → paragraph_feeds owed b ≡ owed
feeds_plain owed Fresh h = refl
feeds_plain owed AtMarker h = refl
feeds_plain owed (AfterText kind) h = refl
feeds_plain owed AfterCode h = refl
feeds_plain owed AfterQuote h = refl
feeds_plain owed (AfterInner tail) h = absurd (true≢false h)
feeds_plain owed AfterOuter h = absurd (true≢false h)

feeds_ended : (owed : ℕ) (b : Before) → is_list_end b ≡ true → least_of b ≤ owed → paragraph_feeds owed b ≡ max owed 2
feeds_ended owed Fresh h least = absurd (true≢false (sym h))
feeds_ended owed AtMarker h least = absurd (true≢false (sym h))
feeds_ended owed (AfterText kind) h least = absurd (true≢false (sym h))
feeds_ended owed AfterCode h least = absurd (true≢false (sym h))
feeds_ended owed AfterQuote h least = absurd (true≢false (sym h))
feeds_ended owed (AfterInner tail) h least = refl
feeds_ended owed AfterOuter h least = omega (arith, least)

par_is_gap : (how : How) (path : Path) (t : List ℕ) (owed : ℕ) (b : Before) (list : Option LastList) → Starts how path t owed b list → IsGap how (paragraph_feeds owed b) (paragraph_gap how)
par_is_gap Beside path t owed b list h = (ap (paragraph_feeds owed) (h.1) ∙ h.0, refl)
par_is_gap Marked path t owed b list h = (ap (paragraph_feeds owed) (h.1) ∙ h.0, refl)
par_is_gap (Below n None) path t owed b list h =
    let same : paragraph_feeds owed b ≡ n = feeds_plain owed b h.ends ∙ h.owes in
    (same ∙ h.some ∙ ap (λ k. suc (k - 1)) (sym same), ap gap_lines (sym same))
par_is_gap (Below n (Some bullet)) path t owed b list h =
    let same : paragraph_feeds owed b ≡ max n 2 = feeds_ended owed b h.ends (subst (λ k. least_of b ≤ k) (sym h.owes) h.least) ∙ ap (λ k. max k 2) h.owes in
    let some : max n 2 ≡ suc (max n 2 - 1) = omega arith in
    (same ∙ some ∙ ap (λ k. suc (k - 1)) (sym same), ap gap_lines (sym same))

-- fences

token_some : (token n : ℕ) → IsToken token → HasNoFeed (flat_map encode_utf8 (replicate n token)) × (n ≤ length (flat_map encode_utf8 (replicate n token)))
unfolding encode_utf8
token_some token zero is = (tt, omega arith)
token_some token (suc n) (inl e) =
    let rest = token_some 96 n (inl refl) in
    subst (λ t. HasNoFeed (flat_map encode_utf8 (replicate (suc n) t)) × (suc n ≤ length (flat_map encode_utf8 (replicate (suc n) t)))) (sym e) ((refl, rest.0), omega (arith, rest.1))
token_some token (suc n) (inr e) =
    let rest = token_some 126 n (inr refl) in
    subst (λ t. HasNoFeed (flat_map encode_utf8 (replicate (suc n) t)) × (suc n ≤ length (flat_map encode_utf8 (replicate (suc n) t)))) (sym e) ((refl, rest.0), omega (arith, rest.1))

token_chosen : (b : Bool) (token : ℕ) → IsToken token → IsToken (if b then 126 else token)
token_chosen true token is = inr refl
token_chosen false token is = is

info_bytes : (token : ℕ) (info : List ℕ) → AllByRecursion (IsInfo token) info → flat_map info_byte info ≡ info
info_bytes token [] h = refl
info_bytes token (b ∷ bs) h = rw ((h.0).amp, (h.0).back) (ap (λ (xs : List ℕ). b ∷ xs) (info_bytes token bs (h.1)))

code_feedless : (l : List ℕ) → AreCode l → HasNoFeed l
code_feedless [] h = tt
code_feedless (b ∷ bs) h = ((h.0).feed, code_feedless bs (h.1))

codes_feedless : (ls : List (List ℕ)) → AllByRecursion AreCode ls → AllByRecursion HasNoFeed ls
codes_feedless [] h = tt
codes_feedless (l ∷ ls) h = (code_feedless l (h.0), codes_feedless ls (h.1))

module _ (o : OptionsView) (reading : List ℕ → ParserOptions → ReadingView) (flags : ParserOptions) where
  abbrev s : Setting
  s = setting_of o flags reading None

  abbrev m : Manner
  m = preferred_manner o

  code_lines : (info : List ℕ) (ls : List (List ℕ)) (path : Path) (spot : IsSpot path) → StandsIn o reading flags (PlainCode info ls) → HasCodeLines s path spot info ls
  code_lines info ls path spot h =
      let token : ℕ = fence_token o info in
      let is : IsToken token = token_chosen _ o.code_block_token h.token_is in
      let n : ℕ = fence_length o token (code_text ls) in
      let some = token_some token n is in
      let many : 3 ≤ n = omega arith in
      record {
        bytes = info_bytes o.code_block_token info h.info_is;
        info_line = printable_feedless info h.info_printable;
        long = omega (arith, some.1, many);
        fence_line = some.0;
        lines = codes_feedless ls h.lines;
      }

  -- items are directly in lists, and nothing else is
  abbrev pub AllStand : Bool → Blocks → Type 0
  AllStand items Nothing = Unit {0}
  AllStand true (PlainThen b f) = ⊥
  AllStand false (PlainThen b f) = StandsIn o reading flags b × AllStand false f
  AllStand true (QuoteThen kids f) = ⊥
  AllStand false (QuoteThen kids f) = AllStand false kids × AllStand false f
  AllStand true (BulletsThen items f) = ⊥
  AllStand false (BulletsThen items f) = (begins_item items ≡ true) × AllStand true items × AllStand false f
  AllStand false (ItemThen kids f) = ⊥
  AllStand true (ItemThen kids f) = AllStand false kids × AllStand true f

  -- a page after blocks
  abbrev pub left_page : List ℕ → ℕ → Before → Page
  left_page text owed b = page_of (within text) owed (last_of b) None

  paragraph_put : (how : How) (p t : List ℕ) (n : ℕ) (gap : List (List ℕ)) (l : List ℕ) (ms : List (List ℕ)) → IsGap how n gap → text_at p (fed p n t) ++ lines_at p (paragraph_lines o flags l ms) ≡ put how p t (gap ++ paragraph_lines o flags l ms)
  paragraph_put how p t n gap l [] h = gap_put how p t n gap _ [] h
  paragraph_put how p t n gap l (k ∷ ms) h = gap_put how p t n gap _ (paragraph_lines o flags k ms) h

  -- where a line begins, a block is on a line of its own
  on_line : (path : Path) (t : List ℕ) (owed : ℕ) → owed ≡ suc (owed - 1) → on_new_line path (page_of (fed (prefix_of path) owed t) 0 Other None) ≡ page_of (fed (prefix_of path) owed t) 0 Other None
  on_line path t owed some =
      let sheet : Sheet = fed (prefix_of path) owed t in
      let page : Page = page_of sheet 0 Other None in
      let count : sheet.feeds ≡ 0 + owed = feeds_fed (prefix_of path) owed (within t) in
      let none : (sheet.feeds == 0) ≡ false = grind (arith, some, count, nat_tests) in
      ap (λ b. if b && not (at_item_start path page) then written path (codes "\n") page else page) none

  -- the sheet on which a block of lines of its own begins
  record OwnLine (how : How) (path : Path) (t : List ℕ) (owed : ℕ) : Type 0 where
    new : Sheet
    lined : on_new_line path (page_of (fed (prefix_of path) owed t) 0 Other None) ≡ page_of new 0 Other None
    is : (l : List ℕ) (ls : List (List ℕ)) → text_at (prefix_of path) new ++ lines_at (prefix_of path) (l ∷ ls) ≡ put how (prefix_of path) t (new_line how ++ (l ∷ ls))

  own_line : (how : How) (path : Path) (t : List ℕ) (owed : ℕ) (b : Before) (list : Option LastList) → Starts how path t owed b list → OwnLine how path t owed
  own_line Beside path t owed b list h =
      let p : List ℕ = prefix_of path in
      let page : Page = page_of (within t) 0 Other None in
      record {
        new = put_byte p 10 (within t);
        lined = ap (λ n. on_new_line path (page_of (fed p n t) 0 Other None)) (h.0) ∙ ap (λ b. if true && not b then page_of (put_byte p 10 (within t)) 0 Other None else page) (h.3);
        is = λ l ls. lined_put p t l ls;
      }
  own_line Marked path t owed b list h =
      let p : List ℕ = prefix_of path in
      let page : Page = page_of (within t) 0 Other None in
      record {
        new = within t;
        lined = ap (λ n. on_new_line path (page_of (fed p n t) 0 Other None)) (h.0) ∙ ap (λ b. if true && not b then page_of (put_byte p 10 (within t)) 0 Other None else page) (h.3);
        is = λ l ls. ap (λ (x : List ℕ). x ++ lines_at p (l ∷ ls)) (append-nil t);
      }
  own_line (Below n bullet) path t owed b list h =
      let p : List ℕ = prefix_of path in
      let gap = simple_gap (Below n bullet) path t owed b list h in
      record {
        new = fed p owed t;
        lined = on_line path t owed (gap.0);
        is = λ l ls. gap_put (Below n bullet) p t owed (gap_lines n) l ls gap;
      }

  -- a thematic break's mark
  rule_is : (c : Outside) (how : How) (path : Path) (t : List ℕ) (owed : ℕ) (b : Before) (list : Option LastList) → IsPlace c path → Starts how path t owed b list → rule_text (last_of b) path ≡ rule_line (is_amid_hyphens c how)
  rule_is c Beside path t owed b list place h = ap (λ b. rule_text (last_of b) path) (h.1)
  rule_is c Marked path t owed b list place h = ap (λ b. rule_text (last_of b) path) (h.1) ∙ ap rule_line place.hyphens
  rule_is c (Below n bullet) path t owed b list place h = by_case b h.marker
    where
      by_case : (b : Before) → is_item_opening (last_of b) ≡ false → rule_text (last_of b) path ≡ codes "---"
      by_case Fresh h = refl
      by_case AtMarker h = absurd (true≢false h)
      by_case (AfterText ParagraphKind) h = refl
      by_case (AfterText (HeadingKind level)) h = refl
      by_case AfterCode h = refl
      by_case AfterQuote h = refl
      by_case (AfterInner tail) h = refl
      by_case AfterOuter h = refl

  rule_long : (b : Bool) → (0 < length (rule_line b)) × HasNoFeed (rule_line b)
  rule_long true = (omega arith, (refl, (refl, (refl, tt))))
  rule_long false = (omega arith, (refl, (refl, (refl, tt))))

  plain_at : (b : PlainBlock) (how : How) (c : Outside) (path : Path) (place : IsPlace c path) (t : List ℕ) (owed : ℕ) (before : Before) (list : Option LastList) (quote : Option (List ℕ)) (f : Trees) (a : Around) → Starts how path t owed before list → StandsIn o reading flags b →
      spelling s m (plain_tree b f) a path (page_so (within t) owed (last_of before) list quote) ≡ spelling s m f (plain_past b a) path (left_page (put how (prefix_of path) t (plain_gap how b ++ plain_lines o flags c how b)) (feeds_below o b) (behind_of b))
  plain_at (PlainParagraph l ms) how c path place t owed before list quote f a start h =
      let p : List ℕ = prefix_of path in
      paragraph_at s path place.spot l ms f a (page_so (within t) owed (last_of before) list quote) (fed p (paragraph_feeds owed before) t) (last_of before) (par_gap path place.apart t owed list quote before) h
      ∙ ap (λ (x : List ℕ). spelling s m f (beyond Paragraph (line_trees l ms) a) path (left_page x (feeds_below o (PlainParagraph l ms)) (AfterText ParagraphKind))) (paragraph_put how p t (paragraph_feeds owed before) (paragraph_gap how) l ms (par_is_gap how path t owed before list start))
  plain_at (PlainHeading level []) how c path place t owed before list quote f a start h = absurd (h chars-nil)
  plain_at (PlainHeading level (u ∷ us)) how c path place t owed before list quote f a start h =
      let p : List ℕ = prefix_of path in
      let line : List ℕ = block_text o flags (heading_block level (u ∷ us)) in
      heading_at s path place.spot level u us f a (page_so (within t) owed (last_of before) list quote) (fed p owed t) (last_of before) (heading_gap path place.apart t owed list quote level before) (escaped_filled o flags (HeadingKind level) (concat (u ∷ us)) h)
      ∙ ap (λ (x : List ℕ). spelling s m f (beyond (tag_of (HeadingKind level)) (text_trees (u ∷ us)) a) path (left_page x (feeds_below o (PlainHeading level (u ∷ us))) (AfterText (HeadingKind level))))
      (ap (λ (x : List ℕ). text_at p (fed p owed t) ++ x) (sym (append-nil line)) ∙ gap_put how p t owed (gap_of how) line [] (simple_gap how path t owed before list start))
  plain_at PlainRule how c path place t owed before list quote f a start h =
      let p : List ℕ = prefix_of path in
      let mark : List ℕ = rule_line (is_amid_hyphens c how) in
      let long = rule_long (is_amid_hyphens c how) in
      rule_at s path place.spot mark f a (page_so (within t) owed (last_of before) list quote) (fed p owed t) (last_of before) (rule_gap path place.apart t owed list quote before) (rule_is c how path t owed before list place start) (long.0) (long.1)
      ∙ ap (λ (x : List ℕ). spelling s m f (past (Leaf rule_leaf) a) path (left_page x (feeds_below o PlainRule) Fresh))
      (ap (λ (x : List ℕ). text_at p (fed p owed t) ++ x) (sym (append-nil mark)) ∙ gap_put how p t owed (gap_of how) mark [] (simple_gap how path t owed before list start))
  plain_at (PlainCode info ls) how c path place t owed before list quote f a start h =
      let p : List ℕ = prefix_of path in
      let fenced : List ℕ = fence o info (code_text ls) in
      let own : OwnLine how path t owed = own_line how path t owed before list start in
      code_at s path place.spot info ls f a (page_so (within t) owed (last_of before) list quote) (fed p owed t) own.new (last_of before) (code_gap path place.apart t owed list quote info before) own.lined (code_lines info ls path place.spot h)
      ∙ ap (λ (x : List ℕ). spelling s m f (beyond (CodeBlock (Fenced info)) (text_trees (line_texts ls)) a) path (left_page x (feeds_below o (PlainCode info ls)) AfterCode)) (own.is (fenced ++ info) (ls ++ fenced ∷ []))

  -- ---- quotes

  abbrev quote_open : Path → Bool → Page → Option Site
  quote_open path at_item shown =
      let here : Page = with_owed (if at_item && true then 0 else 1) (written path (without_space at_item (quote_mark None)) shown) in
      Some (site (in_quote path (length here.sheet.text)) here)

  quote_opened : (kids : Trees) (a : Around) (path : Path) (sheet new : Sheet) (last : Last) (at_item : Bool) → is_item_start (length sheet.text) path ≡ at_item → on_new_line path (page_of sheet 0 Other None) ≡ page_of new 0 Other None →
      opening s m (BlockQuote None) (look s m (BlockQuote None) kids a) path (page_of sheet 0 last None) ≡ quote_open path at_item (page_of new 0 Other None)
  unfolding opening
  quote_opened kids a path sheet new last at_item is lined =
      ap (λ b. quote_open path b (on_new_line path (page_of sheet 0 Other None))) is ∙ ap (quote_open path at_item) lined

  quote_apart : (path : Path) (new : Sheet) → quote_open path false (page_of new 0 Other None) ≡ Some (site (in_quote path (length (text_at (prefix_of path) new ++ codes " > "))) (page_of (within (text_at (prefix_of path) new ++ codes " > ")) 1 Other None))
  quote_apart path new = ap (λ (x : Sheet). Some (site (in_quote path (length x.text)) (page_of x 1 Other None))) (line_laid (prefix_of path) (codes " > ") new (omega arith) (refl, (refl, (refl, tt))))

  quote_beside : (path : Path) (new : Sheet) → quote_open path true (page_of new 0 Other None) ≡ Some (site (in_quote path (length (text_at (prefix_of path) new ++ codes "> "))) (page_of (within (text_at (prefix_of path) new ++ codes "> ")) 0 Other None))
  quote_beside path new = ap (λ (x : Sheet). Some (site (in_quote path (length x.text)) (page_of x 0 Other None))) (line_laid (prefix_of path) (codes "> ") new (omega arith) (refl, (refl, tt)))

  -- what is in a quote is quoted
  quoted_text : (p begun : List ℕ) (ls : List (List ℕ)) → (begun ++ codes " > ") ++ under (p ++ codes " > ") ls ≡ begun ++ lines_at p (map quoted ([] ∷ ls))
  quoted_text p begun ls =
      append_assoc begun (codes " > ") (under (p ++ codes " > ") ls)
      ∙ ap (λ (x : List ℕ). begun ++ (codes " > " ++ x)) (sym (under_map p (codes " > ") ls))

  -- and so it is right after a marker
  beside_text : (p t : List ℕ) (ls : List (List ℕ)) → (t ++ codes "> ") ++ lines_at (p ++ codes " > ") ls ≡ t ++ lines_at p (quoted_beside ls)
  beside_text p t [] = append-nil (t ++ codes "> ")
  beside_text p t (l ∷ ls) =
      append_assoc t (codes "> ") (l ++ under (p ++ codes " > ") ls)
      ∙ ap (λ (x : List ℕ). t ++ (codes "> " ++ (l ++ x))) (sym (under_map p (codes " > ") ls))

  -- what blocks leave: their text, and how many line feeds are owed
  pub record Leaves (path : Path) (out : Option Site) (text : List ℕ) (owed : ℕ) : Type 0 where
    pub last : Last
    pub list : Option LastList
    pub quote : Option (List ℕ)
    pub is : out ≡ Some (site path (page_so (within text) owed last list quote))
    pub deep : IsDeep list (length path)

  -- what a quote leaves
  abbrev quote_line_of : Path → Bool → Option (List ℕ) → Option (List ℕ)
  quote_line_of path true quote = Some (prefix_of path ++ codes " >")
  quote_line_of path false quote = quote

  quote_closed : (path : Path) (start : ℕ) (text : List ℕ) (owed : ℕ) (last : Last) (list : Option LastList) (quote : Option (List ℕ)) →
      closing o (in_quote path start) (page_so (within text) owed last list quote) ≡ Some (site path (page_so (within text) (feeds_below_quote o) (last_of AfterQuote) list (quote_line_of path (is_in is_item path) quote)))
  unfolding closing
  quote_closed path start text owed last list quote = by_item (is_in is_item path)
    where
      shut : Bool → Page
      shut b =
          let page : Page = page_so (within text) owed last list quote in
          let here : Page = if b then with_trail (record page.trail { quote_line = Some (prefix_of path ++ codes " >") }) page else page in
          record here { trail = record here.trail { owed = feeds_below_quote o; last = BlockEnd (end.BlockQuote None) } }

      by_item : (b : Bool) → Some (site path (shut b)) ≡ Some (site path (page_so (within text) (feeds_below_quote o) (last_of AfterQuote) list (quote_line_of path b quote)))
      by_item true = refl
      by_item false = refl

  -- a list that ended in a container is no list that ended beside it
  deeper : (list : Option LastList) (depth : ℕ) → IsDeep list (suc depth) → ((token : ℕ) → continues_list list depth None token ≡ false) × IsDeep list depth
  deeper None depth h = (λ token. refl, tt)
  deeper (Some l) depth h =
      let other : (l.depth == depth) ≡ false = grind (arith, h, nat_tests) in
      (λ token. ap (λ b. b && same_truth l.ordered false && (l.token == token)) other, omega (arith, h))

  -- ---- lists

  -- the following event starts no indented code, after which a list's markers would be wide
  abbrev pub IsNarrow : Around → Type 0
  IsNarrow a = and_is (λ e. starts is_indented_code e) (following a) ≡ false

  narrow_plain : (b : PlainBlock) (f : Trees) (a : Around) → IsNarrow (ahead_of (plain_tree b f) a)
  narrow_plain (PlainParagraph l ms) f a = refl
  narrow_plain (PlainHeading level ts) f a = refl
  narrow_plain PlainRule f a = refl
  narrow_plain (PlainCode info ls) f a = refl

  narrow_ahead : (f : Blocks) (a : Around) → IsNarrow a → IsNarrow (ahead_of (trees f) a)
  narrow_ahead Nothing a h = h
  narrow_ahead (PlainThen b f) a h = narrow_plain b (trees f) a
  narrow_ahead (QuoteThen kids f) a h = refl
  narrow_ahead (BulletsThen items f) a h = refl
  narrow_ahead (ItemThen kids f) a h = refl

  narrow_past : (b : PlainBlock) (a : Around) → IsNarrow a → IsNarrow (plain_past b a)
  narrow_past (PlainParagraph l ms) a h = h
  narrow_past (PlainHeading level ts) a h = h
  narrow_past PlainRule a h = h
  narrow_past (PlainCode info ls) a h = h

  -- nothing inline is directly in items
  no_inline : (items : Bool) (f : Blocks) → AllStand items f → has_inline (trees f) ≡ false
  no_inline items Nothing h = refl
  no_inline true (PlainThen b f) h = absurd h
  no_inline false (PlainThen (PlainParagraph l ms) f) h = no_inline false f (h.1)
  no_inline false (PlainThen (PlainHeading level ts) f) h = no_inline false f (h.1)
  no_inline false (PlainThen PlainRule f) h = no_inline false f (h.1)
  no_inline false (PlainThen (PlainCode info ls) f) h = no_inline false f (h.1)
  no_inline true (QuoteThen kids f) h = absurd h
  no_inline false (QuoteThen kids f) h = no_inline false f (h.1)
  no_inline true (BulletsThen items f) h = absurd h
  no_inline false (BulletsThen items f) h = no_inline false f (h.2)
  no_inline false (ItemThen kids f) h = absurd h
  no_inline true (ItemThen kids f) h = no_inline true f (h.1)

  neither : (a b : Bool) → a ≡ false → b ≡ false → (a || b) ≡ false
  neither true b h k = h
  neither false b h k = k

  no_child : (f : Blocks) → AllStand true f → some_child has_inline (trees f) ≡ false
  no_child Nothing h = refl
  no_child (PlainThen b f) h = absurd h
  no_child (QuoteThen kids f) h = absurd h
  no_child (BulletsThen items f) h = absurd h
  no_child (ItemThen kids f) h = neither (has_inline (trees kids)) (some_child has_inline (trees f)) (no_inline false kids (h.0)) (no_child f (h.1))

  loose : (items : Blocks) → AllStand true items → is_tight (trees items) ≡ false
  loose items h = ap (λ b. b && not (some_child (has_tag is_paragraph) (trees items))) (no_child items h)

  -- the token of a list
  abbrev token_if : Bool → Bool → ℕ
  token_if parted continues =
      let first : ℕ = if parted then changed_token None o.list_token else o.list_token in
      if continues then changed_token None first else first

  abbrev list_so : Path → ℕ → Bool → Bool → Bool → Page → Option Site
  list_so path token tight wide lone page =
      Some (site (record { tag = ListOf None; prefix = []; start = length page.sheet.text; content = Listed (record { number = None; token = token; tight = tight; wide = wide; labelled = lone }) } ∷ path) page)

  list_opened : (items : Blocks) (a : Around) (path : Path) (sheet : Sheet) (last : Last) (list : Option LastList) (token : ℕ) → AllStand true items → IsNarrow a → list_token o None path (page_so sheet 0 Other list None) ≡ token →
      opening s m (ListOf None) (look s m (ListOf None) (trees items) a) path (page_so sheet 0 last list None) ≡ Some (site (in_list path token (has_lone_paragraph (trees items)) (length sheet.text)) (page_so sheet 0 Other list None))
  unfolding opening
  list_opened items a path sheet last list token h narrow is =
      let page : Page = page_so sheet 0 Other list None in
      let lone : Bool = has_lone_paragraph (trees items) in
      ap (λ k. list_so path k (is_tight (trees items)) (and_is (λ e. starts is_indented_code e) (following a)) lone page) is
      ∙ ap (λ b. list_so path token b (and_is (λ e. starts is_indented_code e) (following a)) lone page) (loose items h)
      ∙ ap (λ b. list_so path token false b lone page) narrow

  abbrev list_end : Path → Bool → Last → Before
  list_end path true last = AfterInner (list_tail last)
  list_end path false last = AfterOuter

  list_closed : (path : Path) (token : ℕ) (lone listed : Bool) (start : ℕ) (text : List ℕ) (owed : ℕ) (last : Last) (list : Option LastList) (quote : Option (List ℕ)) → is_in is_list path ≡ listed →
      closing o (in_list path token lone start) (page_so (within text) owed last list quote)
      ≡ Some (site path (page_so (within text) (max owed (if listed then 0 else max o.newlines_after_list 2)) (last_of (list_end path listed last)) (Some (record { depth = length path; ordered = false; token = token })) quote))
  unfolding closing
  list_closed path token lone listed start text owed last list quote h = ap (λ b. Some (site path (shut b))) h ∙ by_listed listed
    where
      shut : Bool → Page
      shut b =
          let page : Page = page_so (within text) owed last (Some (record { depth = length path; ordered = false; token = token })) quote in
          if b then with_last (ListEnd (list_tail last)) page else with_last (BlockEnd (end.List false)) (with_trail (raised (max o.newlines_after_list 2) page.trail) page)

      by_listed : (b : Bool) → Some (site path (shut b)) ≡ Some (site path (page_so (within text) (max owed (if b then 0 else max o.newlines_after_list 2)) (last_of (list_end path b last)) (Some (record { depth = length path; ordered = false; token = token })) quote))
      by_listed true = let same : owed ≡ max owed 0 = omega arith in ap (λ n. Some (site path (page_so (within text) n (ListEnd (list_tail last)) (Some (record { depth = length path; ordered = false; token = token })) quote))) same
      by_listed false = refl

  -- ---- items

  item_first : (path : Path) (token : ℕ) (lone : Bool) (start : ℕ) (sheet : Sheet) (list : Option LastList) → gap (Start Item) (in_list path token lone start) (page_so sheet 0 Other list None) ≡ page_of sheet 0 Other None
  item_first path token lone start sheet list = ap (λ n. page_of (laid (prefix_of path ++ []) (replicate n 10) sheet) 0 Other None) (let q : 0 - sheet.feeds ≡ 0 = omega arith in q)

  item_later : (path : Path) (token : ℕ) (lone : Bool) (start : ℕ) (t : List ℕ) (owed : ℕ) (tail : LastChild) (list : Option LastList) (quote : Option (List ℕ)) → gap (Start Item) (in_list path token lone start) (page_so (within t) owed (ItemEnd tail) list quote) ≡ page_of (fed (prefix_of path ++ []) (max owed 2) t) 0 (ItemEnd tail) None
  item_later path token lone start t owed tail list quote = ap (λ n. page_of (laid (prefix_of path ++ []) (replicate n 10) (within t)) 0 (ItemEnd tail) None) (let q : max (max owed 0) 2 - 0 ≡ max owed 2 = omega arith in q)

  item_opened : (kids : Trees) (a : Around) (path : Path) (token : ℕ) (lone : Bool) (start : ℕ) (sheet : Sheet) (last : Last) → IsMark token →
      (let text : List ℕ = text_at (prefix_of path ++ []) sheet ++ marker token in
      opening s m Item (look s m Item kids a) (in_list path token lone start) (page_of sheet 0 last None) ≡ Some (site (in_item (in_list path token lone start) token (length text)) (page_so (within text) 0 ItemStart None None)))
  unfolding opening
  item_opened kids a path token lone start sheet last h =
      ap (λ (x : Sheet). Some (site (in_item (in_list path token lone start) token (length x.text)) (page_so x 0 ItemStart None None))) (line_laid (prefix_of path ++ []) (marker token) sheet (h.0) (h.1))

  item_closed : (path : Path) (token at : ℕ) (text : List ℕ) (owed : ℕ) (last : Last) (list : Option LastList) (quote : Option (List ℕ)) →
      closing o (in_item path token at) (page_so (within text) owed last list quote) ≡ Some (site path (page_so (within text) (max owed (max o.newlines_after_rest 1)) (ItemEnd (item_tail last)) list (if is_in is_item path then quote else None)))
  unfolding closing
  item_closed path token at text owed last list quote = refl

  -- the lines of an item hang below its marker
  hanging_text : (p begun mark : List ℕ) (ls : List (List ℕ)) → (begun ++ mark) ++ lines_at (p ++ replicate (length mark) 32) ls ≡ begun ++ lines_at p (hanging mark ls)
  hanging_text p begun mark [] = append-nil (begun ++ mark) ∙ ap (λ (x : List ℕ). begun ++ x) (sym (append-nil mark))
  hanging_text p begun mark (l ∷ ls) =
      append_assoc begun mark (l ++ under (p ++ replicate (length mark) 32) ls)
      ∙ ap (λ (x : List ℕ). begun ++ x) (sym (append_assoc mark l (under (p ++ replicate (length mark) 32) ls)))
      ∙ ap (λ (x : List ℕ). begun ++ ((mark ++ l) ++ x)) (sym (under_map p (replicate (length mark) 32) ls))

  -- ---- the recursion

  itself : (n : ℕ) → (n == n) ≡ true
  itself n = eq-eqb n n refl

  leaves_from : (path : Path) (out new : Option Site) (text more : List ℕ) (owed : ℕ) → out ≡ new → more ≡ text → Leaves path new more owed → Leaves path out text owed
  leaves_from path out new text more owed e same h = record {
    last = h.last;
    list = h.list;
    quote = h.quote;
    is = e ∙ h.is ∙ ap (λ (x : List ℕ). Some (site path (page_so (within x) owed h.last h.list h.quote))) same;
    deep = h.deep;
  }

  -- no item begins further on
  abbrev pub IsBound : Path → List ℕ → Type 0
  IsBound path t = (k : ℕ) → length t < k → is_item_start k path ≡ false

  bound_put : (how : How) (path : Path) (t : List ℕ) (ls : List (List ℕ)) → IsBound path t → IsBound path (put how (prefix_of path) t ls)
  bound_put how path t ls h = λ k far. let longer : length t ≤ length (put how (prefix_of path) t ls) = put_longer how (prefix_of path) t ls in h k (omega (arith, longer, far))

  -- the bullet of the list that ends last, if nothing is after it
  abbrev pub bullet_after : Outside → How → Blocks → Option ℕ
  bullet_after c how Nothing = parted_below how
  bullet_after c how (PlainThen b f) = bullet_after c (Below (feeds_below o b) None) f
  bullet_after c how (QuoteThen kids f) = bullet_after c (Below (feeds_below_quote o) None) f
  bullet_after c how (BulletsThen items f) = bullet_after c (Below (feeds_below_list o c.listed items) (Some (bullet_for o c how))) f
  bullet_after c how (ItemThen kids f) = bullet_after c (Below (feeds_below_item o kids) None) f

  -- what blocks leave where others can be below them, which the truth value says
  pub record Goes (path : Path) (out : Option Site) (text : List ℕ) (owed : ℕ) (bullet : Option ℕ) (ends : Bool) : Type 0 where
    pub b : Before
    pub list : Option LastList
    pub quote : Option (List ℕ)
    pub is : out ≡ Some (site path (page_so (within text) owed (last_of b) list quote))
    pub deep : IsDeep list (length path)
    pub below : ends ≡ true → IsBelow owed bullet path owed b list

  leaves_of : (path : Path) (out : Option Site) (text : List ℕ) (owed : ℕ) (bullet : Option ℕ) (ends : Bool) → Goes path out text owed bullet ends → Leaves path out text owed
  leaves_of path out text owed bullet ends h = record { last = last_of h.b; list = h.list; quote = h.quote; is = h.is; deep = h.deep }

  goes_from : (path : Path) (out new : Option Site) (text more : List ℕ) (owed : ℕ) (bullet : Option ℕ) (ends : Bool) → out ≡ new → more ≡ text → Goes path new more owed bullet true → Goes path out text owed bullet ends
  goes_from path out new text more owed bullet ends e same h = record {
    b = h.b;
    list = h.list;
    quote = h.quote;
    is = e ∙ h.is ∙ ap (λ (x : List ℕ). Some (site path (page_so (within x) owed (last_of h.b) h.list h.quote))) same;
    deep = h.deep;
    below = λ k. h.below refl;
  }

  -- what blocks are spelled as, where they begin so
  abbrev pub BlocksAt : Blocks → Type 0
  BlocksAt f =
      (how : How) (c : Outside) (path : Path) (t : List ℕ) (owed : ℕ) (b : Before) (list : Option LastList) (quote : Option (List ℕ)) (a : Around) →
      IsPlace c path → Starts how path t owed b list → IsBound path t → IsNarrow a → AllStand false f →
      Goes path (spelling s m (trees f) a path (page_so (within t) owed (last_of b) list quote)) (put how (prefix_of path) t (lines_of o flags c how f)) (feeds_after o c.listed owed f) (bullet_after c how f) (goes_on how f)

  -- the first item of a list and those after it
  abbrev pub ItemsFirst : Blocks → Type 0
  ItemsFirst f =
      (c : Outside) (path : Path) (token : ℕ) (lone : Bool) (start : ℕ) (sheet : Sheet) (list : Option LastList) (a : Around) →
      IsPlace c path → IsMark token → begins_item f ≡ true → AllStand true f →
      Leaves (in_list path token lone start) (spelling s m (trees f) a (in_list path token lone start) (page_so sheet 0 Other list None))
      (text_at (prefix_of path ++ []) sheet ++ lines_at (prefix_of path ++ []) (lines_of o flags (in_bullets token c) Beside f)) (feeds_after o true 0 f)

  -- items after another one
  abbrev pub ItemsLater : Blocks → Type 0
  ItemsLater f =
      (c : Outside) (path : Path) (token : ℕ) (lone : Bool) (start : ℕ) (t : List ℕ) (owed : ℕ) (tail : LastChild) (list : Option LastList) (quote : Option (List ℕ)) (a : Around) →
      IsPlace c path → IsMark token → IsDeep list (length (in_list path token lone start)) → AllStand true f →
      Leaves (in_list path token lone start) (spelling s m (trees f) a (in_list path token lone start) (page_so (within t) owed (ItemEnd tail) list quote))
      (t ++ under (prefix_of path ++ []) (lines_of o flags (in_bullets token c) (Below owed None) f)) (feeds_after o true owed f)

  pub record Spells (f : Blocks) : Type 0 where
    pub blocks : BlocksAt f
    pub first : ItemsFirst f
    pub later : ItemsLater f

  -- an item

  item_at : (kids f : Blocks) → BlocksAt kids → ItemsLater f → (c : Outside) (path : Path) (token : ℕ) (lone : Bool) (start : ℕ) (page : Page) (sheet : Sheet) (last : Last) (a : Around) (text : List ℕ) →
      IsPlace c path → IsMark token → AllStand false kids → AllStand true f → gap (Start Item) (in_list path token lone start) page ≡ page_of sheet 0 last None →
      (text_at (prefix_of path ++ []) sheet ++ lines_at (prefix_of path ++ []) (hanging (marker token) (lines_of o flags (in_bullets token c) Marked kids)))
      ++ under (prefix_of path ++ []) (lines_of o flags (in_bullets token c) (Below (feeds_below_item o kids) None) f) ≡ text →
      Leaves (in_list path token lone start) (spelling s m (trees (ItemThen kids f)) a (in_list path token lone start) page) text (feeds_after o true (feeds_below_item o kids) f)
  item_at kids f at_kids at_rest c path token lone start page sheet last a text place mark h k gapped is =
      let outer : Path = in_list path token lone start in
      let q : List ℕ = prefix_of path ++ [] in
      let begun : List ℕ = text_at q sheet ++ marker token in
      let at : ℕ = length begun in
      let inner : Path = in_item outer token at in
      let listed : IsPlace (in_bullets token c) outer = list_place c path token lone start place in
      let body : Leaves inner (spelling s m (trees kids) (inside Item (ahead_of (trees f) a)) inner (page_so (within begun) 0 ItemStart None None)) (begun ++ lines_at (q ++ replicate (length (marker token)) 32) (lines_of o flags (in_bullets token c) Marked kids)) (feeds_after o true 0 kids) =
      leaves_of inner _ _ _ _ _ (at_kids Marked (in_bullets token c) inner begun 0 AtMarker None None (inside Item (ahead_of (trees f) a)) (item_place c path token lone start at listed)
      (refl, refl, refl, ap (λ b. b && true) (itself at)) (item_bound outer token begun) refl h)
      in
      let full : List ℕ = begun ++ lines_at (q ++ replicate (length (marker token)) 32) (lines_of o flags (in_bullets token c) Marked kids) in
      let same : full ≡ text_at q sheet ++ lines_at q (hanging (marker token) (lines_of o flags (in_bullets token c) Marked kids)) = hanging_text q (text_at q sheet) (marker token) (lines_of o flags (in_bullets token c) Marked kids) in
      let left : Option (List ℕ) = if is_in is_item outer then body.quote else None in
      let rest : Leaves outer _ _ _ = at_rest c path token lone start full (feeds_below_item o kids) (item_tail body.last) body.list left (beyond Item (trees kids) a) place mark ((deeper body.list (length outer) body.deep).1) k in
      leaves_from outer _ _ text _ (feeds_after o true (feeds_below_item o kids) f)
      (node_spelled s Item (trees kids) (trees f) a outer page (page_of sheet 0 last None) (site inner (page_so (within begun) 0 ItemStart None None)) (site inner (page_so (within full) (feeds_after o true 0 kids) body.last body.list body.quote)) (site outer (page_so (within full) (feeds_below_item o kids) (ItemEnd (item_tail body.last)) body.list left))
      gapped (item_opened (trees kids) (ahead_of (trees f) a) path token lone start sheet last mark) refl body.is (item_closed outer token at full (feeds_after o true 0 kids) body.last body.list body.quote))
      (ap (λ (x : List ℕ). x ++ under q (lines_of o flags (in_bullets token c) (Below (feeds_below_item o kids) None) f)) same ∙ is)
      rest
    where
      item_bound : (outer : Path) (token : ℕ) (begun : List ℕ) → IsBound (in_item outer token (length begun)) begun
      item_bound outer token begun = λ k far. (let other : (length begun == k) ≡ false = grind (arith, far, nat_tests) in ap (λ b. b && true) other)

  hanging_more : (p mark : List ℕ) (ls rest : List (List ℕ)) → lines_at p (hanging mark ls) ++ under p rest ≡ lines_at p (hanging mark ls ++ rest)
  hanging_more p mark [] rest = sym (lines_at_append p mark [] rest)
  hanging_more p mark (l ∷ ls) rest = sym (lines_at_append p (mark ++ l) (map (λ m. replicate (length mark) 32 ++ m) ls) rest)

  hanging_below : (p t mark : List ℕ) (n : ℕ) (ls : List (List ℕ)) → n ≡ suc (n - 1) → text_at p (fed p n t) ++ lines_at p (hanging mark ls) ≡ t ++ under p (gap_lines n ++ hanging mark ls)
  hanging_below p t mark n [] some = gap_put (Below n None) p t n (gap_lines n) mark [] (some, refl)
  hanging_below p t mark n (l ∷ ls) some = gap_put (Below n None) p t n (gap_lines n) (mark ++ l) (map (λ m. replicate (length mark) 32 ++ m) ls) (some, refl)

  item_is_first : (kids f : Blocks) → BlocksAt kids → ItemsLater f → ItemsFirst (ItemThen kids f)
  item_is_first kids f at_kids at_rest c path token lone start sheet list a place mark e h =
      let q : List ℕ = prefix_of path ++ [] in
      let here : List (List ℕ) = hanging (marker token) (lines_of o flags (in_bullets token c) Marked kids) in
      let below_it : List (List ℕ) = lines_of o flags (in_bullets token c) (Below (feeds_below_item o kids) None) f in
      item_at kids f at_kids at_rest c path token lone start (page_so sheet 0 Other list None) sheet Other a _ place mark (h.0) (h.1) (item_first path token lone start sheet list)
      (append_assoc (text_at q sheet) (lines_at q here) (under q below_it) ∙ ap (λ (x : List ℕ). text_at q sheet ++ x) (hanging_more q (marker token) (lines_of o flags (in_bullets token c) Marked kids) below_it))

  item_is_later : (kids f : Blocks) → BlocksAt kids → ItemsLater f → ItemsLater (ItemThen kids f)
  item_is_later kids f at_kids at_rest c path token lone start t owed tail list quote a place mark deep h =
      let q : List ℕ = prefix_of path ++ [] in
      let many : max owed 2 ≡ suc (max owed 2 - 1) = omega arith in
      let lines : List (List ℕ) = lines_of o flags (in_bullets token c) Marked kids in
      let here : List (List ℕ) = hanging (marker token) lines in
      let below_it : List (List ℕ) = lines_of o flags (in_bullets token c) (Below (feeds_below_item o kids) None) f in
      item_at kids f at_kids at_rest c path token lone start (page_so (within t) owed (ItemEnd tail) list quote) (fed q (max owed 2) t) (ItemEnd tail) a _ place mark (h.0) (h.1) (item_later path token lone start t owed tail list quote)
      (ap (λ (x : List ℕ). x ++ under q below_it) (hanging_below q t (marker token) (max owed 2) lines many)
      ∙ append_assoc t (under q (gap_lines (max owed 2) ++ here)) (under q below_it)
      ∙ ap (λ (x : List ℕ). t ++ x) (sym (under_append q (gap_lines (max owed 2) ++ here) below_it)))

  -- ---- quotes and lists among blocks

  not_both : (b : Bool) → (b && false) ≡ false
  not_both true = refl
  not_both false = refl

  quote_bound : (path : Path) (begun : List ℕ) → IsBound (in_quote path (length begun)) begun
  quote_bound path begun = λ k far. (let other : (length begun == k) ≡ false = grind (arith, far, nat_tests) in ap (λ b. b && is_item_start k path) other)

  -- where nothing is owed
  below_one : (path : Path) → IsBelow 1 None path 1 Fresh None
  below_one path = record { owes = refl; some = refl; least = omega arith; marker = refl; ends = refl; tokens = λ token. refl; deep = tt }

  quote_owed : (how : How) (path : Path) (t : List ℕ) (owed : ℕ) (b : Before) (list : Option LastList) (quote : Option (List ℕ)) (apart : is_close path ≡ false) → Starts how path t owed b list → gap (Start (BlockQuote None)) path (page_so (within t) owed (last_of b) list quote) ≡ page_of (fed (prefix_of path) owed t) 0 (last_of b) None
  quote_owed how path t owed b list quote apart h =
      quote_gap path apart t owed list quote b ∙ ap (λ n. page_of (fed (prefix_of path) n t) 0 (last_of b) None) (by_case b (least_at how h))
    where
      least_at : (how : How) → Starts how path t owed b list → b ≡ AfterQuote → 2 ≤ owed
      least_at Beside h e = absurd (true≢false (ap is_fresh (sym (h.1)) ∙ ap is_fresh e))
      least_at Marked h e = absurd (true≢false (ap is_marked (sym (h.1)) ∙ ap is_marked e))
      least_at (Below n bullet) h e = subst (λ k. 2 ≤ k) (sym h.owes) (subst (λ b. least_of b ≤ n) e h.least)

      by_case : (b : Before) → (b ≡ AfterQuote → 2 ≤ owed) → quote_feeds path apart t owed list quote b ≡ owed
      by_case Fresh h = refl
      by_case AtMarker h = refl
      by_case (AfterText kind) h = refl
      by_case AfterCode h = refl
      by_case AfterQuote h = let k : 2 ≤ owed = h refl in omega (arith, k)
      by_case (AfterInner tail) h = refl
      by_case AfterOuter h = refl

  -- no item begins right where blocks begin that aren't right after a marker
  apart_at : (path : Path) (t : List ℕ) (owed : ℕ) → IsBound path t → 1 ≤ owed → is_item_start (length (fed (prefix_of path) owed t).text) path ≡ false
  apart_at path t owed bound some = let longer = fed_longer (prefix_of path) owed t in bound (length (fed (prefix_of path) owed t).text) (omega (arith, longer, some))

  -- what is below a quote
  below_quote : (path : Path) (list : Option LastList) → IsDeep list (suc (length path)) → IsBelow (feeds_below_quote o) None path (feeds_below_quote o) AfterQuote list
  below_quote path list h = record { owes = refl; some = omega arith; least = omega arith; marker = refl; ends = refl; tokens = (deeper list (length path) h).0; deep = (deeper list (length path) h).1 }

  -- a quote, and the blocks below it
  quote_and : (kids f : Blocks) → BlocksAt f → (how : How) (c : Outside) (path : Path) (t : List ℕ) (owed : ℕ) (b : Before) (list : Option LastList) (quote : Option (List ℕ)) (a : Around) → (place : IsPlace c path) → Starts how path t owed b list → IsBound path t → IsNarrow a → AllStand false f →
      (new : Sheet) (at_item : Bool) (begun : List ℕ) (due : ℕ) → is_item_start (length (fed (prefix_of path) owed t).text) path ≡ at_item → on_new_line path (page_of (fed (prefix_of path) owed t) 0 Other None) ≡ page_of new 0 Other None →
      quote_open path at_item (page_of new 0 Other None) ≡ Some (site (in_quote path (length begun)) (page_so (within begun) due Other None None)) →
      (full : List ℕ) (left : ℕ) → Leaves (in_quote path (length begun)) (spelling s m (trees kids) (inside (BlockQuote None) (ahead_of (trees f) a)) (in_quote path (length begun)) (page_so (within begun) due Other None None)) full left →
      (here : List (List ℕ)) → 0 < length here → full ≡ put how (prefix_of path) t here →
      Goes path (spelling s m (trees (QuoteThen kids f)) a path (page_so (within t) owed (last_of b) list quote)) (put how (prefix_of path) t (here ++ lines_of o flags c (Below (feeds_below_quote o) None) f)) (feeds_after o c.listed (feeds_below_quote o) f) (bullet_after c (Below (feeds_below_quote o) None) f) true
  quote_and kids f at_rest how c path t owed b list quote a place start bound narrow h new at_item begun due at lined opened full left body here long is =
      let p : List ℕ = prefix_of path in
      let line : Option (List ℕ) = quote_line_of path (is_in is_item path) body.quote in
      let text : List ℕ = put how p t here in
      let rest : Goes path _ _ _ _ _ = at_rest (Below (feeds_below_quote o) None) c path text (feeds_below_quote o) AfterQuote body.list line (beyond (BlockQuote None) (trees kids) a) place (below_quote path body.list body.deep) (bound_put how path t here bound) narrow h in
      goes_from path _ _ _ _ (feeds_after o c.listed (feeds_below_quote o) f) (bullet_after c (Below (feeds_below_quote o) None) f) true
      (node_spelled s (BlockQuote None) (trees kids) (trees f) a path (page_so (within t) owed (last_of b) list quote) (page_of (fed p owed t) 0 (last_of b) None) (site (in_quote path (length begun)) (page_so (within begun) due Other None None)) (site (in_quote path (length begun)) (page_so (within full) left body.last body.list body.quote)) (site path (page_so (within full) (feeds_below_quote o) (last_of AfterQuote) body.list line))
      (quote_owed how path t owed b list quote place.apart start) (quote_opened (trees kids) (ahead_of (trees f) a) path (fed p owed t) new (last_of b) at_item at lined ∙ opened) refl body.is (quote_closed path (length begun) full left body.last body.list body.quote)
      ∙ ap (λ (x : List ℕ). spelling s m (trees f) (beyond (BlockQuote None) (trees kids) a) path (page_so (within x) (feeds_below_quote o) (last_of AfterQuote) body.list line)) is)
      (put_more how p t here (lines_of o flags c (Below (feeds_below_quote o) None) f) long)
      rest

  -- a quote that is apart from a marker
  quote_below : (kids f : Blocks) → BlocksAt kids → BlocksAt f → (how : How) (c : Outside) (path : Path) (t : List ℕ) (owed : ℕ) (b : Before) (list : Option LastList) (quote : Option (List ℕ)) (a : Around) → (place : IsPlace c path) → Starts how path t owed b list → IsBound path t → IsNarrow a → AllStand false kids → AllStand false f →
      is_item_start (length (fed (prefix_of path) owed t).text) path ≡ false →
      Goes path (spelling s m (trees (QuoteThen kids f)) a path (page_so (within t) owed (last_of b) list quote)) (put how (prefix_of path) t ((new_line how ++ map quoted ([] ∷ lines_of o flags c (Below 1 None) kids)) ++ lines_of o flags c (Below (feeds_below_quote o) None) f)) (feeds_after o c.listed (feeds_below_quote o) f) (bullet_after c (Below (feeds_below_quote o) None) f) true
  quote_below kids f at_kids at_rest how c path t owed b list quote a place start bound narrow k h at =
      let p : List ℕ = prefix_of path in
      let own : OwnLine how path t owed = own_line how path t owed b list start in
      let begun : List ℕ = text_at p own.new ++ codes " > " in
      let inner : Path = in_quote path (length begun) in
      let lines : List (List ℕ) = lines_of o flags c (Below 1 None) kids in
      quote_and kids f at_rest how c path t owed b list quote a place start bound narrow h own.new false begun 1 at own.lined (quote_apart path own.new)
      (begun ++ under (p ++ codes " > ") lines) (feeds_after o c.listed 1 kids)
      (leaves_of inner _ _ _ _ _ (at_kids (Below 1 None) c inner begun 1 Fresh None None (inside (BlockQuote None) (ahead_of (trees f) a)) (quote_place c path (length begun) place) (below_one inner) (quote_bound path begun) refl k))
      (new_line how ++ map quoted ([] ∷ lines)) (long_quote (new_line how) (map quoted lines)) (quoted_text p (text_at p own.new) lines ∙ own.is (codes " > ") (map quoted lines))
    where
      long_quote : (front rest : List (List ℕ)) → 0 < length (front ++ (codes " > " ∷ rest))
      long_quote front rest = omega (arith, length-append front (codes " > " ∷ rest))

  quote_spelled : (kids f : Blocks) → BlocksAt kids → BlocksAt f → BlocksAt (QuoteThen kids f)
  quote_spelled kids f at_kids at_rest Beside c path t owed b list quote a place start bound narrow h =
      quote_below kids f at_kids at_rest Beside c path t owed b list quote a place start bound narrow (h.0) (h.1)
      (ap (λ n. is_item_start (length (fed (prefix_of path) n t).text) path) (start.0) ∙ start.3)
  quote_spelled kids f at_kids at_rest (Below n bullet) c path t owed b list quote a place start bound narrow h =
      let owes : owed ≡ n = start.owes in
      let some : n ≡ suc (n - 1) = start.some in
      quote_below kids f at_kids at_rest (Below n bullet) c path t owed b list quote a place start bound narrow (h.0) (h.1) (apart_at path t owed bound (omega (arith, owes, some)))
  quote_spelled kids f at_kids at_rest Marked c path t owed b list quote a place start bound narrow h =
      let p : List ℕ = prefix_of path in
      let page : Page = page_of (within t) 0 Other None in
      let lined : on_new_line path (page_of (fed p owed t) 0 Other None) ≡ page = ap (λ n. on_new_line path (page_of (fed p n t) 0 Other None)) (start.0) ∙ ap (λ b. if true && not b then page_of (put_byte p 10 (within t)) 0 Other None else page) (start.3) in
      let begun : List ℕ = text_at p (within t) ++ codes "> " in
      let inner : Path = in_quote path (length begun) in
      let lines : List (List ℕ) = lines_of o flags c Beside kids in
      let longer : length begun ≡ length t + 2 = length-append (t ++ []) (codes "> ") ∙ ap (λ (x : List ℕ). length x + 2) (append-nil t) in
      let outer : is_item_start (length begun) path ≡ false = bound (length begun) (omega (arith, longer)) in
      quote_and kids f at_rest Marked c path t owed b list quote a place start bound narrow (h.1) (within t) true begun 0
      (ap (λ n. is_item_start (length (fed p n t).text) path) (start.0) ∙ start.3) lined (quote_beside path (within t))
      (begun ++ lines_at (p ++ codes " > ") lines) (feeds_after o c.listed 0 kids)
      (leaves_of inner _ _ _ _ _ (at_kids Beside c inner begun 0 Fresh None None (inside (BlockQuote None) (ahead_of (trees f) a)) (quote_place c path (length begun) place) (refl, refl, refl, ap (λ b. (length begun == length begun) && b) outer ∙ not_both (length begun == length begun)) (quote_bound path begun) refl (h.0)))
      (quoted_beside lines) (long_beside lines) (beside_text p (t ++ []) lines ∙ ap (λ (x : List ℕ). x ++ lines_at p (quoted_beside lines)) (append-nil t))
    where
      long_beside : (ls : List (List ℕ)) → 0 < length (quoted_beside ls)
      long_beside [] = omega arith
      long_beside (l ∷ ls) = omega arith

  -- ---- plain blocks among blocks

  pub plain_long : (how : How) (c : Outside) (b : PlainBlock) → 0 < length (plain_gap how b ++ plain_lines o flags c how b)
  plain_long how c (PlainParagraph l []) = let q = length-append (plain_gap how (PlainParagraph l [])) (plain_lines o flags c how (PlainParagraph l [])) in omega (arith, q)
  plain_long how c (PlainParagraph l (k ∷ ms)) = let q = length-append (plain_gap how (PlainParagraph l (k ∷ ms))) (plain_lines o flags c how (PlainParagraph l (k ∷ ms))) in omega (arith, q)
  plain_long how c (PlainHeading level ts) = let q = length-append (plain_gap how (PlainHeading level ts)) (plain_lines o flags c how (PlainHeading level ts)) in omega (arith, q)
  plain_long how c PlainRule = let q = length-append (plain_gap how PlainRule) (plain_lines o flags c how PlainRule) in omega (arith, q)
  plain_long how c (PlainCode info ls) = let q = length-append (plain_gap how (PlainCode info ls)) (plain_lines o flags c how (PlainCode info ls)) in omega (arith, q)

  below_plain : (b : PlainBlock) (path : Path) → IsBelow (feeds_below o b) None path (feeds_below o b) (behind_of b) None
  below_plain (PlainParagraph l ms) path = record { owes = refl; some = omega arith; least = omega arith; marker = refl; ends = refl; tokens = λ token. refl; deep = tt }
  below_plain (PlainHeading level ts) path = record { owes = refl; some = omega arith; least = omega arith; marker = refl; ends = refl; tokens = λ token. refl; deep = tt }
  below_plain PlainRule path = record { owes = refl; some = omega arith; least = omega arith; marker = refl; ends = refl; tokens = λ token. refl; deep = tt }
  below_plain (PlainCode info ls) path = record { owes = refl; some = omega arith; least = omega arith; marker = refl; ends = refl; tokens = λ token. refl; deep = tt }

  plain_spelled : (x : PlainBlock) (f : Blocks) → BlocksAt f → BlocksAt (PlainThen x f)
  plain_spelled x f at_rest how c path t owed b list quote a place start bound narrow h =
      let p : List ℕ = prefix_of path in
      let here : List (List ℕ) = plain_gap how x ++ plain_lines o flags c how x in
      let rest : Goes path _ _ _ _ _ = at_rest (Below (feeds_below o x) None) c path (put how p t here) (feeds_below o x) (behind_of x) None None (plain_past x a) place (below_plain x path) (bound_put how path t here bound) (narrow_past x a narrow) (h.1) in
      goes_from path _ _ _ _ (feeds_after o c.listed (feeds_below o x) f) (bullet_after c (Below (feeds_below o x) None) f) (goes_on how (PlainThen x f))
      (plain_at x how c path place t owed b list quote (trees f) a start (h.0))
      (put_more how p t here (lines_of o flags c (Below (feeds_below o x) None) f) (plain_long how c x))
      rest

  -- ---- lists among blocks

  -- the options' bullet and the two that part lists are read as bullets
  pub record AreMarks : Type 0 where
    pub own : IsMark o.list_token
    pub asterisk : IsMark 42
    pub hyphen : IsMark 45

  other_mark : AreMarks → (b : Bool) → IsMark (if b then 45 else 42)
  other_mark marks true = marks.hyphen
  other_mark marks false = marks.asterisk

  bullet_mark : AreMarks → (c : Outside) (how : How) → IsMark (bullet_for o c how)
  bullet_mark marks c how = by_case (is_bullet (parted_from c how) o.list_token)
    where
      by_case : (b : Bool) → IsMark (if b then other_bullet o.list_token else o.list_token)
      by_case true = other_mark marks (o.list_token == 42)
      by_case false = marks.own

  same_bullet : (b : Option ℕ) (token : ℕ) → is_number b token ≡ is_bullet b token
  same_bullet None token = refl
  same_bullet (Some k) token = refl

  -- how many line feeds are before a list
  abbrev feeds_before_list : How → Bool → ℕ → ℕ
  feeds_before_list Beside listed owed = if listed then max owed 1 else owed
  feeds_before_list Marked listed owed = owed
  feeds_before_list (Below n bullet) listed owed = owed

  list_owed : (how : How) (listed : Bool) (path : Path) (t : List ℕ) (owed : ℕ) (b : Before) (list : Option LastList) (quote : Option (List ℕ)) (apart : is_close path ≡ false) → Starts how path t owed b list → list_feeds path apart t owed list quote listed b ≡ feeds_before_list how listed owed
  list_owed Beside true path t owed b list quote apart h = ap (list_feeds path apart t owed list quote true) (h.1)
  list_owed Beside false path t owed b list quote apart h = refl
  list_owed Marked true path t owed b list quote apart h = ap (list_feeds path apart t owed list quote true) (h.1)
  list_owed Marked false path t owed b list quote apart h = refl
  list_owed (Below n bullet) false path t owed b list quote apart h = refl
  list_owed (Below n bullet) true path t owed b list quote apart h = by_case b
    where
      owes : owed ≡ n
      owes = h.owes

      some : n ≡ suc (n - 1)
      some = h.some

      most : max owed 1 ≡ owed
      most = omega (arith, owes, some)

      by_case : (b : Before) → list_feeds path apart t owed list quote true b ≡ owed
      by_case Fresh = most
      by_case AtMarker = refl
      by_case (AfterText kind) = most
      by_case AfterCode = most
      by_case AfterQuote = most
      by_case (AfterInner tail) = most
      by_case AfterOuter = most

  -- the token is the layout's bullet
  abbrev token_of : Bool → Bool → ℕ
  token_of parted continues =
      let first : ℕ = if parted then changed_token None o.list_token else o.list_token in if continues then changed_token None first else first

  list_token_at : (path : Path) (sheet : Sheet) (list : Option LastList) (at continues : Bool) → is_item_start (length sheet.text) path ≡ at → continues_list list (length path) None (if at && is_number (nearest_bullet path) o.list_token then changed_token None o.list_token else o.list_token) ≡ continues →
      list_token o None path (page_so sheet 0 Other list None) ≡ (let first : ℕ = if at && is_number (nearest_bullet path) o.list_token then changed_token None o.list_token else o.list_token in if continues then changed_token None first else first)
  list_token_at path sheet list at continues is goes =
      ap (λ b. (let first : ℕ = if b && is_number (nearest_bullet path) o.list_token then changed_token None o.list_token else o.list_token in if continues_list list (length path) None first then changed_token None first else first)) is
      ∙ ap (λ b. (let first : ℕ = if at && is_number (nearest_bullet path) o.list_token then changed_token None o.list_token else o.list_token in if b then changed_token None first else first)) goes

  token_is : (how : How) (c : Outside) (path : Path) (t : List ℕ) (owed : ℕ) (b : Before) (list : Option LastList) (place : IsPlace c path) → Starts how path t owed b list → IsBound path t →
      list_token o None path (page_so (fed (prefix_of path) (feeds_before_list how c.listed owed) t) 0 Other list None) ≡ bullet_for o c how
  token_is Beside c path t owed b list place h bound =
      list_token_at path (fed (prefix_of path) (feeds_before_list Beside c.listed owed) t) list false false (by_listed c.listed) (ap (λ l. continues_list l (length path) None o.list_token) (h.2))
    where
      by_listed : (listed : Bool) → is_item_start (length (fed (prefix_of path) (feeds_before_list Beside listed owed) t).text) path ≡ false
      by_listed true = apart_at path t (max owed 1) bound (omega arith)
      by_listed false = ap (λ n. is_item_start (length (fed (prefix_of path) n t).text) path) (h.0) ∙ h.3
  token_is Marked c path t owed b list place h bound =
      list_token_at path (fed (prefix_of path) owed t) list true false (ap (λ n. is_item_start (length (fed (prefix_of path) n t).text) path) (h.0) ∙ h.3) (ap (λ l. continues_list l (length path) None (if is_number (nearest_bullet path) o.list_token then changed_token None o.list_token else o.list_token)) (h.2))
      ∙ ap (λ (k : Option ℕ). if is_number k o.list_token then changed_token None o.list_token else o.list_token) place.bullet
      ∙ ap (λ b. if b then other_bullet o.list_token else o.list_token) (same_bullet c.bullet o.list_token)
  token_is (Below n bullet) c path t owed b list place h bound =
      let owes : owed ≡ n = h.owes in
      let some : n ≡ suc (n - 1) = h.some in
      list_token_at path (fed (prefix_of path) owed t) list false (is_bullet bullet o.list_token) (apart_at path t owed bound (omega (arith, owes, some))) (h.tokens o.list_token)

  -- what items owe
  items_owe : (f : Blocks) (n : ℕ) → 1 ≤ n → AllStand true f → 1 ≤ feeds_after o true n f
  items_owe Nothing n some h = some
  items_owe (PlainThen b f) n some h = absurd h
  items_owe (QuoteThen kids f) n some h = absurd h
  items_owe (BulletsThen items f) n some h = absurd h
  items_owe (ItemThen kids f) n some h = items_owe f (feeds_below_item o kids) (omega arith) (h.1)

  first_owes : (f : Blocks) → begins_item f ≡ true → AllStand true f → 1 ≤ feeds_after o true 0 f
  first_owes Nothing e h = absurd (true≢false (sym e))
  first_owes (PlainThen b f) e h = absurd h
  first_owes (QuoteThen kids f) e h = absurd h
  first_owes (BulletsThen items f) e h = absurd h
  first_owes (ItemThen kids f) e h = items_owe f (feeds_below_item o kids) (omega arith) (h.1)

  -- items begin with a line
  pub items_cons : (f : Blocks) (c : Outside) → begins_item f ≡ true → AllStand true f → (l : List ℕ) × (ls : List (List ℕ)) × (lines_of o flags c Beside f ≡ l ∷ ls)
  items_cons Nothing c e h = absurd (true≢false (sym e))
  items_cons (PlainThen b f) c e h = absurd h
  items_cons (QuoteThen kids f) c e h = absurd h
  items_cons (BulletsThen items f) c e h = absurd h
  items_cons (ItemThen kids f) c e h = by_lines (lines_of o flags c Marked kids)
    where
      rest : List (List ℕ)
      rest = lines_of o flags c (Below (feeds_below_item o kids) None) f

      by_lines : (ls : List (List ℕ)) → (k : List ℕ) × (ks : List (List ℕ)) × (hanging (marker (unwrap_or c.bullet 0)) ls ++ rest ≡ k ∷ ks)
      by_lines [] = (_, _, refl)
      by_lines (l ∷ ls) = (_, _, refl)

  abbrev gap_for : Bool → How → List (List ℕ)
  gap_for listed how = if listed then new_line how else gap_of how

  -- a list's lines after its gap
  list_put : (how : How) (listed : Bool) (path : Path) (t : List ℕ) (owed : ℕ) (b : Before) (list : Option LastList) (l : List ℕ) (ls : List (List ℕ)) → Starts how path t owed b list →
      text_at (prefix_of path) (fed (prefix_of path) (feeds_before_list how listed owed) t) ++ lines_at (prefix_of path) (l ∷ ls) ≡ put how (prefix_of path) t (gap_for listed how ++ (l ∷ ls))
  list_put Beside true path t owed b list l ls h =
      let p : List ℕ = prefix_of path in
      let one : max owed 1 ≡ 1 = (let none : owed ≡ 0 = h.0 in omega (arith, none)) in
      ap (λ n. text_at p (fed p n t) ++ lines_at p (l ∷ ls)) one ∙ lined_put p t l ls
  list_put Beside false path t owed b list l ls h = gap_put Beside (prefix_of path) t owed [] l ls (h.0, refl)
  list_put Marked true path t owed b list l ls h = gap_put Marked (prefix_of path) t owed [] l ls (h.0, refl)
  list_put Marked false path t owed b list l ls h = gap_put Marked (prefix_of path) t owed [] l ls (h.0, refl)
  list_put (Below n bullet) true path t owed b list l ls h = gap_put (Below n bullet) (prefix_of path) t owed (gap_lines n) l ls (simple_gap (Below n bullet) path t owed b list h)
  list_put (Below n bullet) false path t owed b list l ls h = gap_put (Below n bullet) (prefix_of path) t owed (gap_lines n) l ls (simple_gap (Below n bullet) path t owed b list h)

  -- what is below a list
  below_list : (path : Path) (token n : ℕ) (listed : Bool) (last : Last) → 1 ≤ n → IsBelow (max n (if listed then 0 else max o.newlines_after_list 2)) (Some token) path (max n (if listed then 0 else max o.newlines_after_list 2)) (list_end path listed last) (Some (record { depth = length path; ordered = false; token = token }))
  below_list path token n true last some = record { owes = refl; some = omega (arith, some); least = omega (arith, some); marker = refl; ends = refl; tokens = λ k. ap (λ b. b && true && (token == k)) (itself (length path)); deep = omega arith }
  below_list path token n false last some = record { owes = refl; some = omega (arith, some); least = omega (arith, some); marker = refl; ends = refl; tokens = λ k. ap (λ b. b && true && (token == k)) (itself (length path)); deep = omega arith }

  list_spelled : AreMarks → (items f : Blocks) → ItemsFirst items → BlocksAt f → BlocksAt (BulletsThen items f)
  list_spelled marks items f at_items at_rest how c path t owed b list quote a place start bound narrow h =
      let p : List ℕ = prefix_of path in
      let token : ℕ = bullet_for o c how in
      let n : ℕ = feeds_before_list how c.listed owed in
      let sheet : Sheet = fed p n t in
      let lone : Bool = has_lone_paragraph (trees items) in
      let from : ℕ = length sheet.text in
      let outer : Path = in_list path token lone from in
      let lines : List (List ℕ) = lines_of o flags (in_bullets token c) Beside items in
      let here : List (List ℕ) = list_gap c how ++ lines in
      let cons = items_cons items (in_bullets token c) (h.0) (h.1) in
      let body : Leaves outer _ _ _ = at_items c path token lone from sheet list (inside (ListOf None) (ahead_of (trees f) a)) place (bullet_mark marks c how) (h.0) (h.1) in
      let full : List ℕ = text_at (p ++ []) sheet ++ lines_at (p ++ []) lines in
      let is : full ≡ put how p t here =
      ap (λ (x : List ℕ). text_at x sheet ++ lines_at x lines) (append-nil p)
      ∙ ap (λ (x : List (List ℕ)). text_at p sheet ++ lines_at p x) (cons.2)
      ∙ list_put how c.listed path t owed b list (cons.0) (cons.1) start
      ∙ ap (λ (x : List (List ℕ)). put how p t (list_gap c how ++ x)) (sym (cons.2))
      in
      let long : 0 < length here = subst (λ (x : List (List ℕ)). 0 < length (list_gap c how ++ x)) (sym (cons.2)) (omega (arith, length-append (list_gap c how) (cons.0 ∷ cons.1))) in
      let left : ℕ = feeds_after o true 0 items in
      let b' : Before = list_end path c.listed body.last in
      let ended : LastList = record { depth = length path; ordered = false; token = token } in
      let rest : Goes path _ _ _ _ _ = at_rest (Below (feeds_below_list o c.listed items) (Some token)) c path (put how p t here) (feeds_below_list o c.listed items) b' (Some ended) body.quote (beyond (ListOf None) (trees items) a) place (below_list path token left c.listed body.last (first_owes items (h.0) (h.1))) (bound_put how path t here bound) narrow (h.2) in
      goes_from path _ _ _ _ (feeds_after o c.listed (feeds_below_list o c.listed items) f) (bullet_after c (Below (feeds_below_list o c.listed items) (Some token)) f) (goes_on how (BulletsThen items f))
      (node_spelled s (ListOf None) (trees items) (trees f) a path (page_so (within t) owed (last_of b) list quote) (page_so sheet 0 (last_of b) list None) (site outer (page_so sheet 0 Other list None)) (site outer (page_so (within full) left body.last body.list body.quote)) (site path (page_so (within full) (feeds_below_list o c.listed items) (last_of b') (Some ended) body.quote))
      (bullets_gap path place.apart t owed list quote b c.listed place.listed ∙ ap (λ k. page_so (fed p k t) 0 (last_of b) list None) (list_owed how c.listed path t owed b list quote place.apart start))
      (list_opened items (ahead_of (trees f) a) path sheet (last_of b) list token (h.1) (narrow_ahead f a narrow) (token_is how c path t owed b list place start bound)) refl body.is
      (list_closed path token lone c.listed from full left body.last body.list body.quote place.listed)
      ∙ ap (λ (x : List ℕ). spelling s m (trees f) (beyond (ListOf None) (trees items) a) path (page_so (within x) (feeds_below_list o c.listed items) (last_of b') (Some ended) body.quote)) is)
      (put_more how p t here (lines_of o flags c (Below (feeds_below_list o c.listed items) (Some token)) f) long)
      rest

  nothing_spelled : BlocksAt Nothing
  nothing_spelled how c path t owed b list quote a place start bound narrow h = record {
    b = b;
    list = list;
    quote = quote;
    is = end_spelled s a path (page_so (within t) owed (last_of b) list quote) ∙ ap (λ (x : List ℕ). Some (site path (page_so (within x) owed (last_of b) list quote))) (sym (put_none how (prefix_of path) t));
    deep = by_how how start;
    below = below_how how start;
  }
    where
      by_how : (how : How) → Starts how path t owed b list → IsDeep list (length path)
      by_how Beside h = subst (λ l. IsDeep l (length path)) (sym (h.2)) tt
      by_how Marked h = subst (λ l. IsDeep l (length path)) (sym (h.2)) tt
      by_how (Below n bullet) h = h.deep

      below_how : (how : How) → Starts how path t owed b list → goes_on how Nothing ≡ true → IsBelow owed (parted_below how) path owed b list
      below_how Beside h e = absurd (true≢false (sym e))
      below_how Marked h e = absurd (true≢false (sym e))
      below_how (Below n bullet) h e = subst (λ k. IsBelow k bullet path owed b list) (sym h.owes) h

  nothing_later : ItemsLater Nothing
  nothing_later c path token lone start t owed tail list quote a place mark deep h = record {
    last = ItemEnd tail;
    list = list;
    quote = quote;
    is = end_spelled s a (in_list path token lone start) (page_so (within t) owed (ItemEnd tail) list quote) ∙ ap (λ (x : List ℕ). Some (site (in_list path token lone start) (page_so (within x) owed (ItemEnd tail) list quote))) (sym (append-nil t));
    deep = deep;
  }

  -- what trees are spelled as
  pub spells : AreMarks → (f : Blocks) → Spells f
  spells marks Nothing = record { blocks = nothing_spelled; first = λ c path token lone start sheet list a place mark e h. absurd (true≢false (sym e)); later = nothing_later }
  spells marks (PlainThen x f) = record {
    blocks = plain_spelled x f (spells marks f).blocks;
    first = λ c path token lone start sheet list a place mark e h. absurd h;
    later = λ c path token lone start t owed tail list quote a place mark deep h. absurd h;
  }
  spells marks (QuoteThen kids f) = record {
    blocks = quote_spelled kids f (spells marks kids).blocks (spells marks f).blocks;
    first = λ c path token lone start sheet list a place mark e h. absurd h;
    later = λ c path token lone start t owed tail list quote a place mark deep h. absurd h;
  }
  spells marks (BulletsThen items f) = record {
    blocks = list_spelled marks items f (spells marks items).first (spells marks f).blocks;
    first = λ c path token lone start sheet list a place mark e h. absurd h;
    later = λ c path token lone start t owed tail list quote a place mark deep h. absurd h;
  }
  spells marks (ItemThen kids f) = record {
    blocks = λ how c path t owed b list quote a place start bound narrow h. absurd h;
    first = item_is_first kids f (spells marks kids).blocks (spells marks f).later;
    later = item_is_later kids f (spells marks kids).blocks (spells marks f).later;
  }
