-- Of a text of lines that begin an item each the reader finds the lists that are declared.
use Rattle.std.proofs.Common.{◌≡◌, ℕ, suc, ◌+◌, ◌-◌, ◌^◌, ◌<◌, ◌≤◌, Bool, true, false, not, ◌==◌, ◌&&◌, ◌||◌, if◌then◌else◌, max, nat_lt, nat_le, List, [], ◌∷◌, ◌++◌, length, map, drop, refl, ap, sym, subst, ◌∙◌, arith, append_assoc, append-nil, length-append, true≢false}
use Rattle.std.specs.Prelude.{Option, Some, None}
use Rattle.std.specs.List.{fold}
use Rattle.std.specs.Option.{option_map_or}
use Rattle.std.proofs.lemmas.Bool.Decides.{nat_tests}
use Rattle.tocmark_event.specs.declared.event.HeadingLevel.{HeadingLevel}
use Rattle.tocmark_read_scan.specs.Basic.{plus, bytes_between}
use Rattle.tocmark_read_scan.specs.declared.syntax.TheConstants.{CORE}
use Rattle.tocmark_read_scan.proofs.PlainTests.{eq_of}
use Rattle.tocmark_read_scan.proofs.Repeats.{repeated_more}
use Rattle.tocmark_read_lines.specs.Cells.{cells_at, cells_of, cell_place, moved, first_cursor}
use Rattle.tocmark_read_lines.specs.Containers.{container_in, going_on, item_goes_on, stopped, passed, matched_from}
use Rattle.tocmark_read_lines.specs.Marks.{tail_of}
use Rattle.tocmark_read_lines.specs.declared.beginnings.Heading.{Heading}
use Rattle.tocmark_read_lines.specs.declared.cell.Cell.{Cell}
use Rattle.tocmark_read_lines.specs.declared.cell.Cursor.{Cursor}
use Rattle.tocmark_read_lines.specs.declared.container.Container.TheVariants as container
use Rattle.tocmark_read_lines.specs.declared.container.Opened.{Opened}
use Rattle.tocmark_read_lines.specs.declared.line.Line.{Line}
use Rattle.tocmark_read_lines.proofs.Columns.{length_kept}
use Rattle.tocmark_read_page.specs.Definitions.{DefinitionView, definitions_from}
use Rattle.tocmark_read_page.specs.Leaves.{is_paragraph}
use Rattle.tocmark_read_page.specs.Pages.{State, ended, leaf_closed, loosened, closed_to, times, one_closed, opened_with, some_place, with_place}
use Rattle.tocmark_read_page.specs.Pieces.{heading_piece}
use Rattle.tocmark_read_page.specs.declared.leaf.Leaf.{Leaf}
use Rattle.tocmark_read_page.specs.declared.leaf.Leaf.TheVariants as leaf
use Rattle.tocmark_read_page.specs.declared.page.Block.{Block as ReadBlock}
use Rattle.tocmark_read_page.specs.declared.page.BlockKind.TheVariants as kind
use Rattle.tocmark_read_page.specs.declared.piece.Piece.{Piece}
use Rattle.tocmark_read_constructs.specs.Metadata.{metadata_in}
use Rattle.tocmark_read_constructs.specs.Quotes.{quote_kind_in, tag_in}
use Rattle.tocmark_read_constructs.specs.Tasks.{task_in}
use Rattle.tocmark_read_blocks.specs.Blocks.{turn_of, touched, passed_in, leaf_started_in, line_taken, started_at, started}
use Rattle.tocmark_read_blocks.specs.Containers.{goes_directly, begun_at, container_once_in, container_once, list_started, item_opened}
use Rattle.tocmark_read_blocks.specs.Leaves.{leaf_turn, metadata_or, task_or, quote_kind_or, tag_or}
use Rattle.tocmark_read_blocks.specs.declared.leaf.LeafStart.{LeafStart}
use Rattle.tocmark_read_blocks.specs.declared.leaf.LeafStart.TheVariants as start
use Rattle.tocmark_commonmark.specs.Lines.{Line as DeclaredLine, Part, Written, is_blank, line_ink, cells}
use Rattle.tocmark_commonmark.specs.Tree.{Blocks, none, more, Rule, Heading as HeadingBlock, Item, defined, tree}
use Rattle.tocmark_commonmark.specs.Beginnings.{Beginning, BlankLine, CodeLine, QuoteLine, HeadingLine, FenceLine, HtmlLine, RuleLine, ItemLine, TextLine, LazyLine, beginning, heading_text}
use Rattle.tocmark_commonmark.specs.Leaves.{definitions, paragraph_left, definitions_found}
use Rattle.tocmark_block_laws.specs.Trees.{told, more_if, list_in, block_as}
use Rattle.tocmark_block_laws.specs.Quotes.{IsPlain, ends_with_feed, is_leaf}
use Rattle.tocmark_block_laws.specs.Lists.{is_one_line}
use Rattle.tocmark_block_laws.proofs.Apart.{after_these, started_after, closed_after, leaf_started_after, lines_after, join_after}
use Rattle.tocmark_block_laws.proofs.Marks.{heading_later}
use Rattle.tocmark_block_laws.proofs.TextLines.{Sound}
use Rattle.tocmark_block_laws.proofs.Feeds.{has_feed}
use Rattle.tocmark_block_laws.proofs.Fronts.{spaces_of, part_at, place_at, cursor_same, blank_same}
use Rattle.tocmark_block_laws.proofs.Codes.{Fed}
use Rattle.tocmark_block_laws.proofs.LinkDefinitions.{reads_same}
use Rattle.tocmark_block_laws.proofs.Starts.{start_as, is_quote_kind, is_blank_kind, left_at, Facts, At}
use Rattle.tocmark_block_laws.proofs.Seen.{at_line, facts_at}
use Rattle.tocmark_block_laws.proofs.Markers.{ItemFacts, item_start, item_of}
use Rattle.tocmark_block_laws.proofs.Pages.{here, block, begin, rule_block, ended_block, same_start, text_start, line_comes, once_same, opens_none, piece_in, has_words, words}
use Rattle.tocmark_block_laws.proofs.Paragraphs.{start_from, first_draft, left_block}
use Rattle.tocmark_block_laws.proofs.ListPages.{is_top_start, leaf_to_top, rule_at_top, heading_at_top, top_text, text_at_top, top_text_ends, list_box, item_box, stack_page, list_block, item_block, leaf_block, top_stays, list_stays, list_begins, list_goes, list_changes, item_begins, list_loosens, list_tight, item_stays, item_leaves, closes_list, empty_item, blank_in_item, rule_in_item, heading_in_item, text_page, text_in_item, text_ends}
use Rattle.tocmark_block_laws.proofs.BlankLines.{BlankRow, is_resting, blank_in_full, blank_in_empty, blank_in_list, blank_at_top}
use Rattle.tocmark_block_laws.proofs.Told.{also, also_none, also_also, Run, Holds, holds_none, holds_if, holds_more, inner_run, IsBox, holds_box, heading_told, left_as, left_told}
use Rattle.tocmark_block_laws.proofs.ReadParagraphs.{told_last, defined_last}
use Rattle.tocmark_block_laws.proofs.Read.{words_told, few_words}
use Rattle.tocmark_block_laws.proofs.DeclaredLists.{Marked, Single, Entry, ItemEntry, LeafEntry, content_blocks, alone, content_alone, is_text_kind, closes_line, has_blanks, list_told, item_told, leaf_told, docs_told, lists_told, entry_defined, all_defined}

-- a line of a text that begins an item, and the blank lines after it
pub record Row (text : List ℕ) : Type 0 where
  pub line : Line
  pub item : Marked
  pub shown : item.part ≡ part_at 0 (bytes_between text line.start line.end)
  pub pauses : List (BlankRow text)
  pub paused : length pauses ≡ length item.blanks
  pub plain : IsPlain text
  pub fits : length text + 3 < 2 ^ 64
  pub sound : Sound text line
  pub feedless : has_feed (bytes_between text line.start line.end) ≡ false
  pub fed : ends_with_feed text ≡ true → Fed text line

abbrev row_bytes : (text : List ℕ) → Row text → List ℕ
row_bytes text v = bytes_between text v.line.start v.line.end

abbrev row_columns : (text : List ℕ) → Row text → List Cell
row_columns text v = cells_at v.line.start [] (row_bytes text v)

abbrev row_place : (text : List ℕ) → Row text → Cursor
row_place text v = place_at 0 (row_bytes text v)

-- what both see of it

one_leaf : (fed : Bool) (k : Beginning) → is_one_line k ≡ true → is_leaf fed k ≡ true
one_leaf fed BlankLine e = refl
one_leaf fed CodeLine e = absurd (true≢false (sym e))
one_leaf fed QuoteLine e = absurd (true≢false (sym e))
one_leaf fed (HeadingLine h) e = refl
one_leaf fed (FenceLine f) e = absurd (true≢false (sym e))
one_leaf fed (HtmlLine k) e = absurd (true≢false (sym e))
one_leaf fed RuleLine e = refl
one_leaf fed (ItemLine m) e = absurd (true≢false (sym e))
one_leaf fed TextLine e = refl
one_leaf fed LazyLine e = absurd (true≢false (sym e))

one_no_quote : (k : Beginning) → is_one_line k ≡ true → is_quote_kind k ≡ false
one_no_quote BlankLine e = refl
one_no_quote CodeLine e = refl
one_no_quote QuoteLine e = absurd (true≢false (sym e))
one_no_quote (HeadingLine h) e = refl
one_no_quote (FenceLine f) e = refl
one_no_quote (HtmlLine k) e = refl
one_no_quote RuleLine e = refl
one_no_quote (ItemLine m) e = refl
one_no_quote TextLine e = refl
one_no_quote LazyLine e = refl

row_at : (text : List ℕ) (v : Row text) (c : ℕ) → c ≤ length (row_bytes text v) → At text v.line c (row_bytes text v) (drop c (row_bytes text v))
row_at text v c inside = at_line text v.line c v.plain v.fits v.sound v.feedless v.fed inside

-- the marker, and the content from a column on
pub record Sight (text : List ℕ) (v : Row text) : Type 0 where
  pub item : ItemFacts v.line 0 (row_bytes text v) (row_bytes text v) v.item.mark
  pub content : Facts text v.line (row_columns text v) (place_at item.to (drop item.to (row_bytes text v))) (drop item.to (row_bytes text v))
  pub begins : beginning (Written v.item.mark.first) ≡ content.kind
  pub one : is_one_line content.kind ≡ true

pub sight : (text : List ℕ) (v : Row text) → Sight text v
sight text v =
    record {
      item = item;
      content = f;
      begins = first ∙ f.begins;
      one = ap is_one_line (sym (first ∙ f.begins)) ∙ v.item.one;
    }
  where
    xs : List ℕ
    xs = row_bytes text v

    item : ItemFacts v.line 0 xs xs v.item.mark
    item = item_of text v.line 0 xs xs v.item.mark (row_at text v 0 (omega arith)) (ap (λ p. beginning (Written p)) (sym v.shown) ∙ v.item.begins)

    to : ℕ
    to = item.to

    first : beginning (Written v.item.mark.first) ≡ beginning (Written (part_at to (drop to xs)))
    first = ap (λ p. beginning (Written p)) item.first

    f : Facts text v.line (row_columns text v) (place_at to (drop to xs)) (drop to xs)
    f = facts_at text v.line to xs (drop to xs) (row_at text v to item.inside) (λ e. one_leaf (ends_with_feed text) (beginning (Written (part_at to (drop to xs)))) (ap is_one_line (sym first) ∙ v.item.one))

-- the place after the marker
abbrev content_place : (text : List ℕ) (v : Row text) → Sight text v → Cursor
content_place text v g = place_at g.item.to (drop g.item.to (row_bytes text v))

-- an item begins in a list

-- where an item's line begins it
abbrev row_start : (text : List ℕ) → Row text → ℕ
row_start text v = cell_place (row_columns text v) (row_place text v).ink v.line.end

-- the page with the content of an item that this line begins in this list
abbrev pub content_page : (text : List ℕ) (v : Row text) → Sight text v → (sort b e n : ℕ) (bs : List ReadBlock) (ps : List Piece) (end number kept : ℕ) → State
content_page text v g sort b e n bs ps end number kept =
    started (start_as (content_place text v g) false false g.content.level g.content.kind) text (row_columns text v) v.line (tail_of (row_columns text v)) (here 2 (content_place text v g))
    (stack_page (empty_item sort b e n v.item.mark.width (length bs) v.line) leaf.Nothing (bs ++ item_block b (row_start text v) ps ∷ []) ps end number kept)

row_once : (text : List ℕ) (v : Row text) (g : Sight text v) (d : ℕ) (s : State) → goes_directly d s ≡ false
    → container_once text (row_columns text v) v.line (tail_of (row_columns text v)) (here d (row_place text v)) s ≡ some_place (item_opened text (row_columns text v) v.line (here d (row_place text v)) (item_start v.item.mark g.item.to) s)
unfolding container_once_in
row_once text v g d s e =
    ap (λ p. begun_at text (row_columns text v) v.line (here d (row_place text v)) s (container_in CORE (row_columns text v) (tail_of (row_columns text v)) (row_place text v) p)) e
    ∙ ap (begun_at text (row_columns text v) v.line (here d (row_place text v)) s) (g.item.opens false)

has_columns : (text : List ℕ) (v : Row text) → Sight text v → 0 < length (row_columns text v)
has_columns text v g = let inked : 0 + spaces_of (row_bytes text v) < length (row_bytes text v) = g.item.inked in omega (arith, length_kept v.line.start [] (row_bytes text v), inked)

-- it begins on pages that end as the same one
row_same : (text : List ℕ) (v : Row text) (g : Sight text v) (d : ℕ) (s t : State) → goes_directly d s ≡ false → goes_directly d t ≡ false → closed_to text d s ≡ closed_to text d t
    → begin text (row_columns text v) v.line d (row_place text v) s ≡ begin text (row_columns text v) v.line d (row_place text v) t
unfolding leaf_started_in item_opened
row_same text v g d s t hs ht h =
    ap (started_at text columns v.line (tail_of columns)) (once_same (container_once text columns v.line (tail_of columns)) (length columns) (here d place) s t (has_columns text v g)
    (row_once text v g d s hs
    ∙ ap (λ u. some_place (with_place (moved columns place g.item.to) (opened_with (container.Item v.item.mark.width) kind.Item (row_start text v) v.line (list_started (item_start v.item.mark g.item.to) (row_start text v) v.line u)))) h
    ∙ sym (row_once text v g d t ht)))
  where
    columns : List Cell
    columns = row_columns text v

    place : Cursor
    place = row_place text v

row_opens : (text : List ℕ) (v : Row text) (g : Sight text v) (d : ℕ) (s : State) (sort b e n : ℕ) (had : Bool) (bs : List ReadBlock) (ps : List Piece) (end number kept : ℕ) (apart : Bool) → goes_directly d s ≡ false
    → list_started (item_start v.item.mark g.item.to) (row_start text v) v.line (closed_to text d s) ≡ stack_page (list_box sort b e n had ∷ []) leaf.Nothing bs ps end number kept → (had && nat_lt (plus n 1) v.line.number) ≡ apart
    → begin text (row_columns text v) v.line d (row_place text v) s ≡ content_page text v g sort b e n (loosened (Some b) apart bs) ps end number kept
unfolding leaf_started_in item_opened metadata_in metadata_or task_in task_or quote_kind_in quote_kind_or tag_in tag_or goes_directly is_paragraph
row_opens text v g d s sort b e n had bs ps end number kept apart none_open h near =
    ap (started_at text columns l (tail_of columns))
    (repeated_more (container_once text columns l (tail_of columns)) (length columns) (here d place) (here 2 next) s page (has_columns text v g) (sym once)
    ∙ opens_none text columns l 2 next (length columns - 1) page (f.opens no_quote))
    ∙ ap (λ k. started k text columns l (tail_of columns) (here 2 next) page) (f.starts no_quote false false)
  where
    l : Line
    l = v.line

    columns : List Cell
    columns = row_columns text v

    place : Cursor
    place = row_place text v

    next : Cursor
    next = content_place text v g

    f : Facts text l columns next (drop g.item.to (row_bytes text v))
    f = g.content

    no_quote : is_quote_kind f.kind ≡ false
    no_quote = one_no_quote f.kind g.one

    page : State
    page = stack_page (empty_item sort b e n v.item.mark.width (length (loosened (Some b) apart bs)) l) leaf.Nothing (loosened (Some b) apart bs ++ item_block b (row_start text v) ps ∷ []) ps end number kept

    opens : opened_with (container.Item v.item.mark.width) kind.Item (row_start text v) l (list_started (item_start v.item.mark g.item.to) (row_start text v) l (closed_to text d s)) ≡ page
    opens = ap (opened_with (container.Item v.item.mark.width) kind.Item (row_start text v) l) h ∙ item_begins v.item.mark.width (row_start text v) l sort b e n had bs ps end number kept apart near

    once : container_once text columns l (tail_of columns) (here d place) s ≡ (page, Some (here 2 next))
    once = row_once text v g d s none_open ∙ ap (λ u. some_place (with_place (moved columns place g.item.to) u)) opens ∙ ap (λ c. some_place (with_place c page)) g.item.moves

-- a line goes on in no item, so it begins in the list

abbrev line_columns : (text : List ℕ) → Line → List Cell
line_columns text l = cells_at l.start [] (bytes_between text l.start l.end)

abbrev line_place : (text : List ℕ) → Line → Cursor
line_place text l = place_at 0 (bytes_between text l.start l.end)

-- a line that isn't blank, by its columns
pub record Lined (text : List ℕ) (l : Line) : Type 0 where
  pub read : cells_of [] l.start (bytes_between text l.start l.end) ≡ line_columns text l
  pub cursor : first_cursor (line_columns text l) ≡ line_place text l
  pub some : 0 + spaces_of (bytes_between text l.start l.end) < length (bytes_between text l.start l.end)

row_lined : (text : List ℕ) (v : Row text) → Sight text v → Lined text v.line
row_lined text v g =
    let f : Facts text v.line (row_columns text v) (content_place text v g) (drop g.item.to (row_bytes text v)) = g.content in
    let a : At text v.line 0 (row_bytes text v) (row_bytes text v) = row_at text v 0 (omega arith) in
    record { read = f.read; cursor = cursor_same v.line.start (row_bytes text v) a.whole a.short; some = g.item.inked }

lined_stops : (text : List ℕ) (l : Line) (g : Lined text l) (sort b e n width ib ie in_line : ℕ) (had some : Bool) → spaces_of (bytes_between text l.start l.end) < width
    → matched_from (line_columns text l) (list_box sort b e n had ∷ item_box width ib ie in_line some ∷ []) [] 0 (line_place text l) (list_box sort b e n had ∷ item_box width ib ie in_line some ∷ []) ≡ (1, line_place text l)
unfolding passed going_on stopped item_goes_on
lined_stops text l g sort b e n width ib ie in_line had some low =
    ap (λ p. option_map_or (λ next. matched_from columns os [] (plus 0 1) next (item ∷ [])) p (stopped columns os [] 0 place, place)) in_list
    ∙ ap (λ p. option_map_or (λ next. matched_from columns os [] (plus (plus 0 1) 1) next []) p (stopped columns os [] (plus 0 1) place, place)) in_item
    ∙ ap (λ k. (k, place)) ends
  where
    columns : List Cell
    columns = line_columns text l

    place : Cursor
    place = line_place text l

    list : Opened
    list = list_box sort b e n had

    item : Opened
    item = item_box width ib ie in_line some

    os : List Opened
    os = list ∷ item ∷ []

    count : length columns ≡ length (bytes_between text l.start l.end)
    count = length_kept l.start [] (bytes_between text l.start l.end)

    ink_low : 0 + spaces_of (bytes_between text l.start l.end) < length (bytes_between text l.start l.end)
    ink_low = g.some

    begun : nat_le (length columns) 0 ≡ false
    begun = grind (arith, count, ink_low, nat_tests)

    inked : nat_le (length columns) (0 + spaces_of (bytes_between text l.start l.end)) ≡ false
    inked = grind (arith, count, ink_low, nat_tests)

    outside : nat_le width (0 + spaces_of (bytes_between text l.start l.end) - 0) ≡ false
    outside = grind (arith, low, nat_tests)

    in_list : passed columns place list ≡ Some place
    in_list = ap (λ k. if k then None else Some place) begun

    in_item : passed columns place item ≡ None
    in_item = rw (begun, inked, outside) refl

    ends : stopped columns os [] (plus 0 1) place ≡ 1
    ends = rw begun (let q : plus 0 1 ≡ 1 = omega arith in q)

lined_comes : (text : List ℕ) (l : Line) (g : Lined text l) (lf : Leaf) (sort b e n width ib ie in_line : ℕ) (had some : Bool) (bs : List ReadBlock) (ps : List Piece) (end number kept : ℕ) → spaces_of (bytes_between text l.start l.end) < width
    → line_taken text (stack_page (list_box sort b e n had ∷ item_box width ib ie in_line some ∷ []) lf bs ps end number kept) l
    ≡ begin text (line_columns text l) l 1 (line_place text l) (stack_page (list_box sort b e n had ∷ item_box width ib ie in_line some ∷ []) lf bs ps end number kept)
unfolding turn_of touched passed_in
lined_comes text l g lf sort b e n width ib ie in_line had some bs ps end number kept low =
    line_comes text (line_columns text l) l 1 (line_place text l) (stack_page os lf bs ps end number kept) g.read
    (ap (λ c. matched_from (line_columns text l) os [] 0 c os) g.cursor ∙ lined_stops text l g sort b e n width ib ie in_line had some low)
  where
    os : List Opened
    os = list_box sort b e n had ∷ item_box width ib ie in_line some ∷ []

alone_comes : (text : List ℕ) (l : Line) (g : Lined text l) (sort b e n : ℕ) (had : Bool) (bs : List ReadBlock) (ps : List Piece) (end number kept : ℕ)
    → line_taken text (stack_page (list_box sort b e n had ∷ []) leaf.Nothing bs ps end number kept) l
    ≡ begin text (line_columns text l) l 1 (line_place text l) (stack_page (list_box sort b e n had ∷ []) leaf.Nothing bs ps end number kept)
unfolding turn_of touched passed_in leaf_turn passed going_on
alone_comes text l g sort b e n had bs ps end number kept =
    line_comes text (line_columns text l) l 1 (line_place text l) (stack_page os leaf.Nothing bs ps end number kept) g.read
    (ap (λ c. matched_from (line_columns text l) os [] 0 c os) g.cursor
    ∙ ap (λ k. option_map_or (λ next. matched_from (line_columns text l) os [] (plus 0 1) next []) (if k then None else Some (line_place text l)) (stopped (line_columns text l) os [] 0 (line_place text l), line_place text l)) begun
    ∙ ap (λ k. (k, line_place text l)) (let q : plus 0 1 ≡ 1 = omega arith in q))
  where
    os : List Opened
    os = list_box sort b e n had ∷ []

    begun : nat_le (length (line_columns text l)) 0 ≡ false
    begun =
        let some : 0 + spaces_of (bytes_between text l.start l.end) < length (bytes_between text l.start l.end) = g.some in
        grind (arith, length_kept l.start [] (bytes_between text l.start l.end), some, nat_tests)

first_comes : (text : List ℕ) (l : Line) (g : Lined text l) (bs : List ReadBlock) (ps : List Piece) (end number kept : ℕ)
    → line_taken text (stack_page [] leaf.Nothing bs ps end number kept) l ≡ begin text (line_columns text l) l 0 (line_place text l) (stack_page [] leaf.Nothing bs ps end number kept)
unfolding turn_of touched passed_in leaf_turn
first_comes text l g bs ps end number kept =
    line_comes text (line_columns text l) l 0 (line_place text l) (stack_page [] leaf.Nothing bs ps end number kept) g.read (ap (λ (c : Cursor). (0, c)) g.cursor)

-- a list that is open, and what was found before it

abbrev pub top : Run
top = record { outer = []; base = []; old = []; count = 0; limit = 0; fits = omega arith }

pub record Listing (text : List ℕ) : Type 0 where
  pub sort : ℕ
  pub number : Option ℕ
  pub tight : Bool
  pub before : List ReadBlock
  pub old : List Piece
  pub block : ReadBlock
  pub found : Blocks
  pub holds : Holds text top before old found
  pub depth : block.depth ≡ 0
  pub kind : block.kind ≡ kind.List number
  pub loose : block.loose ≡ not tight

list_as : (tight : Bool) (n : Option ℕ) (is : Blocks) → list_in (not (not tight)) is n ≡ Some (list_told tight n is)
list_as true None is = refl
list_as true (Some n) is = refl
list_as false None is = refl
list_as false (Some n) is = refl

list_box_told : (text : List ℕ) (g : Listing text) (is : Blocks) → IsBox text g.block is (list_told g.tight g.number is)
list_box_told text g is pieces =
    ap (λ k. block_as text k g.block.loose pieces is) g.kind ∙ ap (λ k. block_as text (kind.List g.number) k pieces is) g.loose ∙ list_as g.tight g.number is

-- a blank line is before an item of it
abbrev loose_block : Bool → ReadBlock → ReadBlock
loose_block true b = record b { loose = true }
loose_block false b = b

loose_now : (apart tight : Bool) (b : ReadBlock) → b.loose ≡ not tight → (loose_block apart b).loose ≡ not (tight && not apart)
loose_now true true b e = refl
loose_now true false b e = refl
loose_now false true b e = e
loose_now false false b e = e

loose_depth : (apart : Bool) (b : ReadBlock) → b.depth ≡ 0 → (loose_block apart b).depth ≡ 0
loose_depth true b e = e
loose_depth false b e = e

loose_kind : (apart : Bool) (b : ReadBlock) (n : Option ℕ) → b.kind ≡ kind.List n → (loose_block apart b).kind ≡ kind.List n
loose_kind true b n e = e
loose_kind false b n e = e

abbrev loosen : (text : List ℕ) → Listing text → Bool → Listing text
loosen text g apart = record {
  sort = g.sort;
  number = g.number;
  tight = g.tight && not apart;
  before = g.before;
  old = g.old;
  block = loose_block apart g.block;
  found = g.found;
  holds = g.holds;
  depth = loose_depth apart g.block g.depth;
  kind = loose_kind apart g.block g.number g.kind;
  loose = loose_now apart g.tight g.block g.loose;
}

abbrev list_run : (text : List ℕ) → Listing text → Run
list_run text g = inner_run top g.before g.old g.block 0 0 (omega arith)

holds_loose : (text : List ℕ) (g : Listing text) (apart : Bool) (bs : List ReadBlock) (ps : List Piece) (is : Blocks) → Holds text (list_run text g) bs ps is → Holds text (list_run text (loosen text g apart)) (loosened (Some (length g.before)) apart bs) ps is
holds_loose text g false bs ps is h = subst (λ cs. Holds text (list_run text g) cs ps is) (sym (list_tight (length g.before) bs)) h
holds_loose text g true bs ps is h = record {
  mine = h.mine;
  is = ap (loosened (Some (length g.before)) true) (h.is ∙ append_assoc g.before (g.block ∷ []) h.mine) ∙ list_loosens g.before h.mine g.block ∙ sym (append_assoc g.before (record g.block { loose = true } ∷ []) h.mine);
  deep = h.deep;
  new = h.new;
  pieces = h.pieces;
  says = h.says;
}

-- the page after the line of an item, and maybe blank lines, when its item ends
pub record Ready (text : List ℕ) (g : Listing text) (s : State) (width number : ℕ) (is : Blocks) (ds : List DefinitionView) : Type 0 where
  pub comes : (l : Line) → Lined text l → spaces_of (bytes_between text l.start l.end) < width → line_taken text s l ≡ begin text (line_columns text l) l 1 (line_place text l) s
  pub indirect : goes_directly 1 s ≡ false
  pub after_end : ℕ
  pub after_line : ℕ
  pub blocks : List ReadBlock
  pub pieces : List Piece
  pub end : ℕ
  pub last : ℕ
  pub kept : ℕ
  pub closes : closed_to text 1 s ≡ after_these ds (stack_page (list_box g.sort (length g.before) after_end after_line true ∷ []) leaf.Nothing blocks pieces end last kept)
  pub deep : 1 ≤ length (leaf_closed text s).opened
  pub near : after_line ≡ number
  pub holds : Holds text (list_run text g) blocks pieces is
  pub few : length pieces ≤ number

-- the page after the line of an item, and what blank lines make of it
pub record Rest (text : List ℕ) (g : Listing text) (s : State) (width number : ℕ) (is : Blocks) (ds : List DefinitionView) : Type 0 where
  pub now : Ready text g s width number is ds
  pub paused : State
  pub pauses : (b : BlankRow text) → line_taken text s b.line ≡ after_these ds paused
  pub stays : (b : BlankRow text) → line_taken text paused b.line ≡ paused
  pub later : Ready text g paused width number is []
  pub calm : is_paragraph paused.leaf ≡ false

-- a page whose leaf ends so
closes_as : (text : List ℕ) (d : ℕ) (os : List Opened) (bs : List ReadBlock) (ps : List Piece) (end number kept : ℕ) (ds : List DefinitionView) (s : State) → leaf_closed text s ≡ after_these ds (stack_page os leaf.Nothing bs ps end number kept)
    → closed_to text d s ≡ after_these ds (closed_to text d (stack_page os leaf.Nothing bs ps end number kept))
unfolding closed_to leaf_closed
closes_as text d os bs ps end number kept ds s h = ap (λ (t : State). times one_closed (length t.opened - d) t) h ∙ closed_after text d ds (stack_page os leaf.Nothing bs ps end number kept)

-- the content of an item

-- an item in a list with these items
pub record Slot (text : List ℕ) : Type 0 where
  pub list : Listing text
  pub row : Row text
  pub seen : Sight text row
  pub list_end : ℕ
  pub list_line : ℕ
  pub blocks : List ReadBlock
  pub pieces : List Piece
  pub is : Blocks
  pub end : ℕ
  pub number : ℕ
  pub kept : ℕ
  pub holds : Holds text (list_run text list) blocks pieces is
  pub few : length pieces < row.line.number
  pub low : list_line ≤ row.line.number
  pub small : row.line.number + 1 < 2 ^ 64

abbrev slot_block : (text : List ℕ) → Slot text → ReadBlock
slot_block text t = item_block (length t.list.before) (row_start text t.row) t.pieces

abbrev slot_blocks : (text : List ℕ) → Slot text → List ReadBlock
slot_blocks text t = t.blocks ++ slot_block text t ∷ []

abbrev slot_run : (text : List ℕ) → Slot text → Run
slot_run text t = inner_run (list_run text t.list) t.blocks t.pieces (slot_block text t) 0 0 (omega arith)

abbrev slot_page : (text : List ℕ) → Slot text → State
slot_page text t = content_page text t.row t.seen t.list.sort (length t.list.before) t.list_end t.list_line t.blocks t.pieces t.end t.number t.kept

abbrev SlotRest : (text : List ℕ) (t : Slot text) → State → Blocks → List DefinitionView → Type 0
SlotRest text t s inside ds = Rest text t.list s t.row.item.mark.width t.row.line.number (also t.is (more (Item inside) none)) ds

slot_holds : (text : List ℕ) (t : Slot text) (bs : List ReadBlock) (ps : List Piece) (inside : Blocks) (end : ℕ) → Holds text (slot_run text t) bs ps inside
    → Holds text (list_run text t.list) (ended bs (length t.blocks) end) ps (also t.is (more (Item inside) none))
slot_holds text t bs ps inside end h =
    holds_box text (list_run text t.list) t.blocks t.pieces t.is (slot_block text t) 0 0 (omega arith) bs ps inside (Item inside) end t.holds refl (λ pieces. refl) h

-- the containers with an item of this list
abbrev slot_stack : (text : List ℕ) → Slot text → ℕ → ℕ → Bool → List Opened
slot_stack text t ie il some = list_box t.list.sort (length t.list.before) t.list_end t.list_line true ∷ item_box t.row.item.mark.width (length t.blocks) ie il some ∷ []

no_directly : (k : Bool) → (k && false) ≡ false
no_directly true = refl
no_directly false = refl

-- a page on which it is open
slot_ready : (text : List ℕ) (t : Slot text) (s : State) (lf : Leaf) (obs : List ReadBlock) (ops : List Piece) (oend onumber okept oie oil : ℕ) (had : Bool) (bs : List ReadBlock) (ps : List Piece) (end number kept ie il : ℕ) (some : Bool) (inside : Blocks) (ds : List DefinitionView)
    → s ≡ stack_page (slot_stack text t oie oil had) lf obs ops oend onumber okept
    → leaf_closed text s ≡ after_these ds (stack_page (slot_stack text t ie il some) leaf.Nothing bs ps end number kept)
    → il ≡ t.row.line.number → length ps ≤ t.row.line.number → Holds text (slot_run text t) bs ps inside → Ready text t.list s t.row.item.mark.width t.row.line.number (also t.is (more (Item inside) none)) ds
unfolding goes_directly
slot_ready text t s lf obs ops oend onumber okept oie oil had bs ps end number kept ie il some inside ds is closed reach few h = record {
  comes = λ l g low.
      ap (λ x. line_taken text x l) is
      ∙ lined_comes text l g lf t.list.sort (length t.list.before) t.list_end t.list_line t.row.item.mark.width (length t.blocks) oie oil true had obs ops oend onumber okept low
      ∙ ap (begin text (line_columns text l) l 1 (line_place text l)) (sym is);
  indirect = ap (goes_directly 1) is ∙ no_directly (is_paragraph lf);
  after_end = max t.list_end ie;
  after_line = max t.list_line il;
  blocks = ended bs (length t.blocks) ie;
  pieces = ps;
  end = end;
  last = number;
  kept = kept;
  closes = closes_as text 1 (slot_stack text t ie il some) bs ps end number kept ds s closed
      ∙ ap (after_these ds) (item_leaves text t.list.sort (length t.list.before) t.list_end t.list_line t.row.item.mark.width (length t.blocks) ie il true some bs ps end number kept);
  deep = let two : length (leaf_closed text s).opened ≡ 2 = ap (λ (u : State). length u.opened) closed in omega (arith, two);
  near = let low : t.list_line ≤ t.row.line.number = t.low in omega (arith, reach, low);
  holds = slot_holds text t bs ps inside ie h;
  few = few;
}

-- with a block in it
slot_full : (text : List ℕ) (t : Slot text) (s : State) (lf : Leaf) (obs : List ReadBlock) (ops : List Piece) (oend onumber okept oie oil : ℕ) (bs : List ReadBlock) (ps : List Piece) (end number kept ie il : ℕ) (inside : Blocks) (ds : List DefinitionView)
    → s ≡ stack_page (slot_stack text t oie oil true) lf obs ops oend onumber okept
    → leaf_closed text s ≡ after_these ds (stack_page (slot_stack text t ie il true) leaf.Nothing bs ps end number kept)
    → is_resting lf ≡ true → il ≡ t.row.line.number → length ps ≤ t.row.line.number → Holds text (slot_run text t) bs ps inside → SlotRest text t s inside ds
unfolding leaf_closed is_paragraph
slot_full text t s lf obs ops oend onumber okept oie oil bs ps end number kept ie il inside ds is closed rest reach few h = record {
  now = slot_ready text t s lf obs ops oend onumber okept oie oil true bs ps end number kept ie il true inside ds is closed reach few h;
  paused = page;
  pauses = λ b.
      ap (λ x. line_taken text x b.line) is
      ∙ blank_in_full text b lf t.list.sort (length t.list.before) t.list_end t.list_line t.row.item.mark.width (length t.blocks) oie oil true obs ops oend onumber okept rest
      ∙ ap (closed_to text 2) (sym is) ∙ closes_as text 2 (slot_stack text t ie il true) bs ps end number kept ds s closed ∙ ap (after_these ds) stays;
  stays = λ b. blank_in_full text b leaf.Nothing t.list.sort (length t.list.before) t.list_end t.list_line t.row.item.mark.width (length t.blocks) ie il true bs ps end number kept refl ∙ stays;
  later = slot_ready text t page leaf.Nothing bs ps end number kept ie il true bs ps end number kept ie il true inside [] refl refl reach few h;
  calm = refl;
}
  where
    page : State
    page = stack_page (slot_stack text t ie il true) leaf.Nothing bs ps end number kept

    stays : closed_to text 2 page ≡ page
    stays = item_stays text (list_box t.list.sort (length t.list.before) t.list_end t.list_line true) (item_box t.row.item.mark.width (length t.blocks) ie il true) bs ps end number kept

-- without one
slot_empty : (text : List ℕ) (t : Slot text) (s : State) (bs : List ReadBlock) (ps : List Piece) (end number kept ie il : ℕ) → s ≡ stack_page (slot_stack text t ie il false) leaf.Nothing bs ps end number kept
    → il ≡ t.row.line.number → length ps ≤ t.row.line.number → Holds text (slot_run text t) bs ps none → SlotRest text t s none []
unfolding leaf_closed goes_directly is_paragraph
slot_empty text t s bs ps end number kept ie il is reach few h = record {
  now = slot_ready text t s leaf.Nothing bs ps end number kept ie il false bs ps end number kept ie il false none [] is (ap (leaf_closed text) is) reach few h;
  paused = page;
  pauses = λ b.
      ap (λ x. line_taken text x b.line) is
      ∙ blank_in_empty text b leaf.Nothing t.list.sort (length t.list.before) t.list_end t.list_line t.row.item.mark.width (length t.blocks) ie il true bs ps end number kept
      ∙ item_leaves text t.list.sort (length t.list.before) t.list_end t.list_line t.row.item.mark.width (length t.blocks) ie il true false bs ps end number kept;
  stays = λ b. blank_in_list text b t.list.sort (length t.list.before) (max t.list_end ie) (max t.list_line il) true left ps end number kept ∙ stays;
  later = record {
    comes = λ l g low. alone_comes text l g t.list.sort (length t.list.before) (max t.list_end ie) (max t.list_line il) true left ps end number kept;
    indirect = refl;
    after_end = max t.list_end ie;
    after_line = max t.list_line il;
    blocks = left;
    pieces = ps;
    end = end;
    last = number;
    kept = kept;
    closes = stays;
    deep = omega arith;
    near = (let low : t.list_line ≤ t.row.line.number = t.low in let q : max t.list_line il ≡ t.row.line.number = omega (arith, reach, low) in q);
    holds = slot_holds text t bs ps none ie h;
    few = few;
  };
  calm = refl;
}
  where
    left : List ReadBlock
    left = ended bs (length t.blocks) ie

    page : State
    page = stack_page (list_box t.list.sort (length t.list.before) (max t.list_end ie) (max t.list_line il) true ∷ []) leaf.Nothing left ps end number kept

    stays : closed_to text 1 page ≡ page
    stays = list_stays text (list_box t.list.sort (length t.list.before) (max t.list_end ie) (max t.list_line il) true) left ps end number kept

-- the content by what its line begins
slot_content : (text : List ℕ) (t : Slot text) → SlotRest text t (slot_page text t) (told (tree (content_blocks t.row.item))) (defined (tree (content_blocks t.row.item)))
unfolding leaf_closed
slot_content text t =
    subst (λ fs. SlotRest text t (slot_page text t) (told (tree fs)) (defined (tree fs))) (sym content_is) (by f.kind refl g.one)
  where
    v : Row text
    v = t.row

    g : Sight text v
    g = t.seen

    l : Line
    l = v.line

    columns : List Cell
    columns = row_columns text v

    next : Cursor
    next = content_place text v g

    ys : List ℕ
    ys = drop g.item.to (row_bytes text v)

    f : Facts text l columns next ys
    f = g.content

    dl : DeclaredLine
    dl = left_at next ys

    b : ℕ
    b = length t.list.before

    at_ink : ℕ
    at_ink = cell_place columns next.ink l.end

    w : ℕ
    w = v.item.mark.width

    few : length t.pieces < l.number
    few = t.few

    small : l.number + 1 < 2 ^ 64
    small = t.small

    content_is : content_blocks v.item ≡ alone dl f.kind
    content_is = content_alone v.item ∙ ap (alone (Written v.item.mark.first)) g.begins ∙ ap (λ p. alone (Written p) f.kind) g.item.first

    page : Beginning → State
    page k = started (start_as next false false f.level k) text columns l (tail_of columns) (here 2 next) (stack_page (empty_item t.list.sort b t.list_end t.list_line w (length t.blocks) l) leaf.Nothing (slot_blocks text t) t.pieces t.end t.number t.kept)

    base : Holds text (slot_run text t) (slot_blocks text t) t.pieces none
    base = holds_none text (slot_run text t)

    blank : SlotRest text t (page BlankLine) none []
    blank =
        let is = blank_in_item text columns l next t.list.sort b t.list_end t.list_line w (length t.blocks) (slot_blocks text t) t.pieces t.end t.number t.kept in
        slot_empty text t (page BlankLine) (slot_blocks text t) t.pieces t.end t.number t.kept l.end l.number is refl (omega (arith, few)) base

    ruled : SlotRest text t (page RuleLine) (more Rule none) []
    ruled =
        let is = rule_in_item text columns l next t.list.sort b t.list_end t.list_line w (length t.blocks) (slot_blocks text t) t.pieces t.end t.number t.kept in
        slot_full text t (page RuleLine) leaf.Nothing (slot_blocks text t ++ x ∷ []) t.pieces l.end l.number (length t.pieces) (max l.end l.end) (max l.number l.number) (slot_blocks text t ++ x ∷ []) t.pieces l.end l.number (length t.pieces) (max l.end l.end) (max l.number l.number) (more Rule none) [] is (ap (leaf_closed text) is) refl (omega arith) (omega (arith, few))
        (subst (λ (qs : List Piece). Holds text (slot_run text t) (slot_blocks text t ++ x ∷ []) qs (more Rule none)) (append-nil t.pieces) (holds_more text (slot_run text t) (slot_blocks text t) t.pieces none x Rule [] base refl (λ later. refl)))
      where
        x : ReadBlock
        x = leaf_block b kind.Rule at_ink l.end (length t.pieces) (length t.pieces)

    headed : (h : Heading) → f.kind ≡ HeadingLine h → SlotRest text t (page (HeadingLine h)) (more (HeadingBlock h.level (heading_text h (line_ink dl) (cells (line_ink dl)))) none) []
    headed h e =
        let is = heading_in_item text columns l next mark t.list.sort b t.list_end t.list_line w (length t.blocks) (slot_blocks text t) t.pieces t.end t.number t.kept in
        slot_full text t (page (HeadingLine h)) leaf.Nothing (slot_blocks text t ++ x ∷ []) (t.pieces ++ new) l.end l.number (length (t.pieces ++ new)) (max l.end l.end) (max l.number l.number) (slot_blocks text t ++ x ∷ []) (t.pieces ++ new) l.end l.number (length (t.pieces ++ new)) (max l.end l.end) (max l.number l.number) (more (HeadingBlock h.level says) none) [] is (ap (leaf_closed text) is) refl (omega arith)
        (let wide : length (t.pieces ++ new) ≡ length t.pieces + length new = length-append t.pieces new in let one : length new ≤ 1 = few_words (has_words columns mark l) (heading_piece columns mark l) in omega (arith, wide, one, few))
        (holds_more text (slot_run text t) (slot_blocks text t) t.pieces none x (HeadingBlock h.level says) new base refl (heading_told text 2 h.level t.pieces new says at_ink l.end (words_told text l columns next.ink h (line_ink dl) (f.heads h e) (has_words columns mark l) refl)))
      where
        mark : Heading
        mark = heading_later next.ink h

        new : List Piece
        new = words columns mark l

        says : List ℕ
        says = heading_text h (line_ink dl) (cells (line_ink dl))

        x : ReadBlock
        x = leaf_block b (kind.Heading h.level None) at_ink l.end (length t.pieces) (length (t.pieces ++ new))

    texted : is_blank_kind f.kind ≡ false → SlotRest text t (page TextLine) (told (tree (alone dl TextLine))) (defined (tree (alone dl TextLine)))
    texted not_blank =
        subst (λ y. SlotRest text t (page TextLine) y (defined (tree (alone dl TextLine)))) (sym (ap (λ fs. told (tree fs)) shape ∙ told_last ds 0 k us))
        (subst (λ es. SlotRest text t (page TextLine) (more_if (left_as us) none) es) (sym (ap (λ fs. defined (tree fs)) shape ∙ defined_last ds 0 k us))
        (slot_full text t (page TextLine) leaf.Paragraph (slot_blocks text t ++ leaf_block b kind.Paragraph at_ink at_ink (length t.pieces) (length t.pieces) ∷ []) (t.pieces ++ p ∷ []) l.end l.number (length (t.pieces ++ p ∷ [])) l.end l.number (slot_blocks text t ++ x ∷ []) (t.pieces ++ p ∷ []) l.end l.number (length (t.pieces ++ p ∷ [])) (max l.end l.end) (max l.number l.number) (more_if (left_as us) none) ds is
        (ap (leaf_closed text) is ∙ text_ends text l t.list.sort b t.list_end t.list_line w (length t.blocks) (slot_blocks text t) t.pieces p at_ink ds k reads (omega (arith, low, few, small)))
        refl (omega arith) (let wide : length (t.pieces ++ p ∷ []) ≡ length t.pieces + 1 = length-append t.pieces (p ∷ []) in omega (arith, wide, few))
        (holds_if text (slot_run text t) (slot_blocks text t) t.pieces none x (left_as us) (p ∷ []) base refl
        (λ later. left_told text 2 t.pieces (p ∷ []) k (start_from (t.pieces ++ p ∷ []) (length t.pieces + k) at_ink) l.end later ∙ ap (λ ts. left_as (drop k (ts ∷ []))) (f.ink not_blank)))))
      where
        p : Piece
        p = piece_in columns next l

        ink : List ℕ
        ink = line_ink dl

        ds : List DefinitionView
        ds = (definitions (ink ∷ [])).0

        k : ℕ
        k = (definitions (ink ∷ [])).1

        us : List (List ℕ)
        us = drop k (ink ∷ [])

        x : ReadBlock
        x = leaf_block b kind.Paragraph (start_from (t.pieces ++ p ∷ []) (length t.pieces + k) at_ink) l.end (length t.pieces + k) (length (t.pieces ++ p ∷ []))

        low : k ≤ 1
        low = subst (λ q. (definitions (line_ink (Written q) ∷ [])).1 ≤ 1) g.item.first v.item.short

        reads : definitions_from text (p ∷ []) [] ≡ (ds, k)
        reads = reads_same text (p ∷ []) f.plain ∙ ap (λ q. definitions (q ∷ [])) (f.ink not_blank)

        is : page TextLine ≡ text_page t.list.sort b t.list_end t.list_line w (length t.blocks) l (slot_blocks text t) t.pieces p at_ink
        is = text_in_item text columns l next t.list.sort b t.list_end t.list_line w (length t.blocks) (slot_blocks text t) t.pieces t.end t.number t.kept (f.some not_blank)

        shape : alone dl TextLine ≡ definitions_found 0 ds k ++ (paragraph_left (0 + k) us ++ [])
        shape = append_assoc (definitions_found 0 ds k) (paragraph_left (0 + k) us) []

    by : (k : Beginning) → f.kind ≡ k → is_one_line k ≡ true → SlotRest text t (page k) (told (tree (alone dl k))) (defined (tree (alone dl k)))
    by BlankLine e o = blank
    by CodeLine e o = absurd (true≢false (sym o))
    by QuoteLine e o = absurd (true≢false (sym o))
    by (HeadingLine h) e o = headed h e
    by (FenceLine y) e o = absurd (true≢false (sym o))
    by (HtmlLine y) e o = absurd (true≢false (sym o))
    by RuleLine e o = ruled
    by (ItemLine m) e o = absurd (true≢false (sym o))
    by TextLine e o = texted (ap is_blank_kind e)
    by LazyLine e o = absurd (true≢false (sym o))

-- a list begins at the top

abbrev listing_of : (text : List ℕ) → Row text → (bs : List ReadBlock) (ps : List Piece) (found : Blocks) → Holds text top bs ps found → Listing text
listing_of text v bs ps found h = record {
  sort = v.item.mark.sort;
  number = v.item.mark.number;
  tight = true;
  before = bs;
  old = ps;
  block = list_block v.item.mark.number (row_start text v) ps;
  found = found;
  holds = h;
  depth = refl;
  kind = refl;
  loose = refl;
}

-- its first item
abbrev first_slot : (text : List ℕ) (v : Row text) → Sight text v → (bs : List ReadBlock) (ps : List Piece) (found : Blocks) → Holds text top bs ps found → (end number kept : ℕ) → length ps < v.line.number → v.line.number + 1 < 2 ^ 64 → Slot text
first_slot text v g bs ps found h end number kept few small = record {
  list = listing_of text v bs ps found h;
  row = v;
  seen = g;
  list_end = v.line.end;
  list_line = v.line.number;
  blocks = bs ++ list_block v.item.mark.number (row_start text v) ps ∷ [];
  pieces = ps;
  is = none;
  end = end;
  number = number;
  kept = kept;
  holds = holds_none text (list_run text (listing_of text v bs ps found h));
  few = few;
  low = omega arith;
  small = small;
}

-- the page with it, if a list begins there
first_content : (text : List ℕ) (v : Row text) (g : Sight text v) (d : ℕ) (s : State) (bs : List ReadBlock) (ps : List Piece) (found : Blocks) (h : Holds text top bs ps found) (end number kept : ℕ) (few : length ps < v.line.number) (small : v.line.number + 1 < 2 ^ 64) → goes_directly d s ≡ false
    → list_started (item_start v.item.mark g.item.to) (row_start text v) v.line (closed_to text d s) ≡ list_started (item_start v.item.mark g.item.to) (row_start text v) v.line (stack_page [] leaf.Nothing bs ps end number kept)
    → begin text (row_columns text v) v.line d (row_place text v) s ≡ slot_page text (first_slot text v g bs ps found h end number kept few small)
first_content text v g d s bs ps found h end number kept few small none_open starts =
    row_opens text v g d s v.item.mark.sort (length bs) v.line.end v.line.number false (bs ++ b ∷ []) ps end number kept false none_open
    (starts ∙ list_begins (item_start v.item.mark g.item.to) (row_start text v) v.line bs ps end number kept) refl
    ∙ ap (λ cs. content_page text v g v.item.mark.sort (length bs) v.line.end v.line.number cs ps end number kept) (list_tight (length bs) (bs ++ b ∷ []))
  where
    b : ReadBlock
    b = list_block v.item.mark.number (row_start text v) ps

first_begins : (text : List ℕ) (v : Row text) (g : Sight text v) (bs : List ReadBlock) (ps : List Piece) (found : Blocks) (h : Holds text top bs ps found) (end number kept : ℕ) (few : length ps < v.line.number) (small : v.line.number + 1 < 2 ^ 64)
    → line_taken text (stack_page [] leaf.Nothing bs ps end number kept) v.line ≡ slot_page text (first_slot text v g bs ps found h end number kept few small)
unfolding goes_directly is_paragraph
first_begins text v g bs ps found h end number kept few small =
    first_comes text v.line (row_lined text v g) bs ps end number kept
    ∙ first_content text v g 0 (stack_page [] leaf.Nothing bs ps end number kept) bs ps found h end number kept few small refl
    (ap (list_started (item_start v.item.mark g.item.to) (row_start text v) v.line) (top_stays text bs ps end number kept))

-- a line after an item

-- the page with the list alone
abbrev rest_page : (text : List ℕ) (g : Listing text) (s : State) (width number : ℕ) (is : Blocks) (ds : List DefinitionView) → Ready text g s width number is ds → State
rest_page text g s width number is ds r = stack_page (list_box g.sort (length g.before) r.after_end r.after_line true ∷ []) leaf.Nothing r.blocks r.pieces r.end r.last r.kept

rest_begins : (text : List ℕ) (g : Listing text) (s : State) (width number : ℕ) (is : Blocks) (ds : List DefinitionView) (r : Ready text g s width number is ds) (v : Row text) → Sight text v → spaces_of (row_bytes text v) < width
    → line_taken text s v.line ≡ after_these ds (begin text (row_columns text v) v.line 1 (row_place text v) (rest_page text g s width number is ds r))
unfolding goes_directly is_paragraph
rest_begins text g s width number is ds r v w low =
    r.comes v.line (row_lined text v w) low
    ∙ row_same text v w 1 s (after_these ds page) r.indirect refl
    (r.closes ∙ sym (closed_after text 1 ds page ∙ ap (after_these ds) (list_stays text (list_box g.sort (length g.before) r.after_end r.after_line true) r.blocks r.pieces r.end r.last r.kept)))
    ∙ leaf_started_after text (row_columns text v) v.line (here 1 (row_place text v)) ds page
  where
    page : State
    page = rest_page text g s width number is ds r

-- an item of the same list, apart from the one above it or not
abbrev next_slot : (text : List ℕ) (g : Listing text) (s : State) (width number : ℕ) (is : Blocks) (ds : List DefinitionView) → Ready text g s width number is ds → (v : Row text) → Sight text v → Bool → number < v.line.number → v.line.number + 1 < 2 ^ 64 → Slot text
next_slot text g s width number is ds r v w apart later small = record {
  list = loosen text g apart;
  row = v;
  seen = w;
  list_end = r.after_end;
  list_line = r.after_line;
  blocks = loosened (Some (length g.before)) apart r.blocks;
  pieces = r.pieces;
  is = is;
  end = r.end;
  number = r.last;
  kept = r.kept;
  holds = holds_loose text g apart r.blocks r.pieces is r.holds;
  few = (let few : length r.pieces ≤ number = r.few in let q : length r.pieces < v.line.number = omega (arith, few, later) in q);
  low = (let near : r.after_line ≡ number = r.near in let q : r.after_line ≤ v.line.number = omega (arith, near, later) in q);
  small = small;
}

next_begins : (text : List ℕ) (g : Listing text) (s : State) (width number : ℕ) (is : Blocks) (ds : List DefinitionView) (r : Ready text g s width number is ds) (v : Row text) (w : Sight text v) (apart : Bool) (later : number < v.line.number) (small : v.line.number + 1 < 2 ^ 64) → nat_lt (number + 1) v.line.number ≡ apart → spaces_of (row_bytes text v) < width → (v.item.mark.sort == g.sort) ≡ true
    → line_taken text s v.line ≡ after_these ds (slot_page text (next_slot text g s width number is ds r v w apart later small))
unfolding goes_directly is_paragraph
next_begins text g s width number is ds r v w apart later small far low same =
    rest_begins text g s width number is ds r v w low
    ∙ ap (after_these ds) (row_opens text v w 1 (rest_page text g s width number is ds r) g.sort (length g.before) r.after_end r.after_line true r.blocks r.pieces r.end r.last r.kept apart refl
    (ap (list_started (item_start v.item.mark w.item.to) (row_start text v) v.line) (list_stays text (list_box g.sort (length g.before) r.after_end r.after_line true) r.blocks r.pieces r.end r.last r.kept)
    ∙ list_goes (item_start v.item.mark w.item.to) (row_start text v) v.line g.sort (length g.before) r.after_end r.after_line true r.blocks r.pieces r.end r.last r.kept (let q : (g.sort == v.item.mark.sort) ≡ true = grind (arith, same, nat_tests) in q))
    (ap (λ n. nat_lt n v.line.number) (let near : r.after_line ≡ number = r.near in let q : plus r.after_line 1 ≡ number + 1 = omega (arith, near, later, small) in q) ∙ far))

-- what was found when a list ends
list_done : (text : List ℕ) (g : Listing text) (s : State) (width number : ℕ) (is : Blocks) (ds : List DefinitionView) (r : Ready text g s width number is ds) → Holds text top (ended r.blocks (length g.before) r.after_end) r.pieces (also g.found (more (list_told g.tight g.number is) none))
list_done text g s width number is ds r =
    holds_box text top g.before g.old g.found g.block 0 0 (omega arith) r.blocks r.pieces is (list_told g.tight g.number is) r.after_end g.holds g.depth (list_box_told text g is) r.holds

-- an item of another list
abbrev other_slot : (text : List ℕ) (g : Listing text) (s : State) (width number : ℕ) (is : Blocks) (ds : List DefinitionView) → Ready text g s width number is ds → (v : Row text) → Sight text v → number < v.line.number → v.line.number + 1 < 2 ^ 64 → Slot text
other_slot text g s width number is ds r v w later small =
    first_slot text v w (ended r.blocks (length g.before) r.after_end) r.pieces (also g.found (more (list_told g.tight g.number is) none)) (list_done text g s width number is ds r) r.end r.last r.kept
    (let few : length r.pieces ≤ number = r.few in let q : length r.pieces < v.line.number = omega (arith, few, later) in q) small

other_begins : (text : List ℕ) (g : Listing text) (s : State) (width number : ℕ) (is : Blocks) (ds : List DefinitionView) (r : Ready text g s width number is ds) (v : Row text) (w : Sight text v) (later : number < v.line.number) (small : v.line.number + 1 < 2 ^ 64) → spaces_of (row_bytes text v) < width → (v.item.mark.sort == g.sort) ≡ false
    → line_taken text s v.line ≡ after_these ds (slot_page text (other_slot text g s width number is ds r v w later small))
unfolding goes_directly is_paragraph
other_begins text g s width number is ds r v w later small low other =
    rest_begins text g s width number is ds r v w low
    ∙ ap (after_these ds) (first_content text v w 1 (rest_page text g s width number is ds r) (ended r.blocks (length g.before) r.after_end) r.pieces (also g.found (more (list_told g.tight g.number is) none)) (list_done text g s width number is ds r) r.end r.last r.kept
    (let few : length r.pieces ≤ number = r.few in let q : length r.pieces < v.line.number = omega (arith, few, later) in q) small refl
    (ap (list_started (item_start v.item.mark w.item.to) (row_start text v) v.line) (list_stays text (list_box g.sort (length g.before) r.after_end r.after_line true) r.blocks r.pieces r.end r.last r.kept)
    ∙ list_changes (item_start v.item.mark w.item.to) (row_start text v) v.line g.sort (length g.before) r.after_end r.after_line true r.blocks r.pieces r.end r.last r.kept (let q : (g.sort == v.item.mark.sort) ≡ false = grind (arith, other, nat_tests) in q)))

-- all lines

-- when all ends, the page has these blocks and definitions
pub record Final (text : List ℕ) (s : State) (found : Blocks) (ds : List DefinitionView) : Type 0 where
  pub blocks : List ReadBlock
  pub pieces : List Piece
  pub end : ℕ
  pub number : ℕ
  pub kept : ℕ
  pub is : closed_to text 0 s ≡ after_these ds (stack_page [] leaf.Nothing blocks pieces end number kept)
  pub holds : Holds text top blocks pieces found

final_after : (text : List ℕ) (ds es : List DefinitionView) (s : State) (ls : List Line) (found : Blocks) → Final text (fold (line_taken text) s ls) found es → Final text (fold (line_taken text) (after_these ds s) ls) found (ds ++ es)
final_after text ds es s ls found k = record {
  blocks = k.blocks;
  pieces = k.pieces;
  end = k.end;
  number = k.number;
  kept = k.kept;
  is = ap (closed_to text 0) (lines_after text ds s ls) ∙ closed_after text 0 ds (fold (line_taken text) s ls) ∙ ap (after_these ds) k.is ∙ join_after ds es (stack_page [] leaf.Nothing k.blocks k.pieces k.end k.number k.kept);
  holds = k.holds;
}

abbrev pub blank_lines_of : (text : List ℕ) → List (BlankRow text) → List Line
blank_lines_of text bl = map (λ (b : BlankRow text). b.line) bl

-- a leaf of one line outside lists

pub record LeafRow (text : List ℕ) : Type 0 where
  pub line : Line
  pub single : Single
  pub shown : single.part ≡ part_at 0 (bytes_between text line.start line.end)
  pub pauses : List (BlankRow text)
  pub paused : length pauses ≡ length single.blanks
  pub plain : IsPlain text
  pub fits : length text + 3 < 2 ^ 64
  pub sound : Sound text line
  pub feedless : has_feed (bytes_between text line.start line.end) ≡ false
  pub fed : ends_with_feed text ≡ true → Fed text line

-- what both see of it
record LeafSight (text : List ℕ) (u : LeafRow text) : Type 0 where
  content : Facts text u.line (line_columns text u.line) (line_place text u.line) (bytes_between text u.line.start u.line.end)
  kind : content.kind ≡ u.single.kind
  lined : Lined text u.line

leaf_sight : (text : List ℕ) (u : LeafRow text) → LeafSight text u
leaf_sight text u =
    record {
      content = f;
      kind = sym f.begins ∙ begins;
      lined = record { read = f.read; cursor = cursor_same u.line.start xs a.whole a.short; some = some };
    }
  where
    xs : List ℕ
    xs = bytes_between text u.line.start u.line.end

    a : At text u.line 0 xs xs
    a = at_line text u.line 0 u.plain u.fits u.sound u.feedless u.fed (omega arith)

    begins : beginning (Written (part_at 0 xs)) ≡ u.single.kind
    begins = ap (λ p. beginning (Written p)) (sym u.shown) ∙ u.single.begins

    f : Facts text u.line (line_columns text u.line) (line_place text u.line) xs
    f = facts_at text u.line 0 xs xs a (λ e. one_leaf (ends_with_feed text) (beginning (Written (part_at 0 xs))) (ap is_one_line begins ∙ u.single.one))

    ink : is_blank xs ≡ false
    ink = ap (λ (p : Part). is_blank p.bytes) (sym u.shown) ∙ u.single.ink

    some : 0 + spaces_of xs < length xs
    some = let q : nat_le (length xs) (spaces_of xs) ≡ false = blank_same xs ∙ ink in grind (arith, q, nat_tests)

-- it begins this
leaf_begins : (text : List ℕ) (u : LeafRow text) (g : LeafSight text u) (d : ℕ) (s : State) (p w : Bool) → is_paragraph s.leaf ≡ p → goes_directly d s ≡ w
    → begin text (line_columns text u.line) u.line d (line_place text u.line) s
    ≡ started (start_as (line_place text u.line) p w g.content.level u.single.kind) text (line_columns text u.line) u.line (tail_of (line_columns text u.line)) (here d (line_place text u.line)) s
unfolding leaf_started_in metadata_in metadata_or task_in task_or quote_kind_in quote_kind_or tag_in tag_or
leaf_begins text u g d s p w e h =
    ap (started_at text columns u.line (tail_of columns)) (opens_none text columns u.line d place (length columns) s (f.opens no_quote))
    ∙ ap (λ k. started k text columns u.line (tail_of columns) (here d place) s) (f.starts no_quote (is_paragraph s.leaf) (goes_directly d s))
    ∙ ap (λ k. started (start_as place k (goes_directly d s) f.level f.kind) text columns u.line (tail_of columns) (here d place) s) e
    ∙ ap (λ k. started (start_as place p k f.level f.kind) text columns u.line (tail_of columns) (here d place) s) h
    ∙ ap (λ k. started (start_as place p w f.level k) text columns u.line (tail_of columns) (here d place) s) g.kind
  where
    columns : List Cell
    columns = line_columns text u.line

    place : Cursor
    place = line_place text u.line

    f : Facts text u.line columns place (bytes_between text u.line.start u.line.end)
    f = g.content

    no_quote : is_quote_kind f.kind ≡ false
    no_quote = one_no_quote f.kind (ap is_one_line g.kind ∙ u.single.one)

-- where no paragraph is open
abbrev leaf_start : (text : List ℕ) (u : LeafRow text) → LeafSight text u → LeafStart
leaf_start text u g = start_as (line_place text u.line) false false g.content.level u.single.kind

top_start : (place : Cursor) (level : Option HeadingLevel) (k : Beginning) → is_one_line k ≡ true → is_blank_kind k ≡ false → is_top_start (start_as place false false level k) ≡ true
top_start place level BlankLine e b = absurd (true≢false b)
top_start place level CodeLine e b = absurd (true≢false (sym e))
top_start place level QuoteLine e b = absurd (true≢false (sym e))
top_start place level (HeadingLine h) e b = refl
top_start place level (FenceLine f) e b = absurd (true≢false (sym e))
top_start place level (HtmlLine k) e b = absurd (true≢false (sym e))
top_start place level RuleLine e b = refl
top_start place level (ItemLine m) e b = absurd (true≢false (sym e))
top_start place level TextLine e b = refl
top_start place level LazyLine e b = absurd (true≢false (sym e))

-- it begins the same on pages that end as the same one
leaf_same : (text : List ℕ) (u : LeafRow text) (g : LeafSight text u) (s t : State) (p : Bool) → is_paragraph s.leaf ≡ p → (is_text_kind u.single.kind ≡ true → p ≡ false) → is_paragraph t.leaf ≡ false → closed_to text 1 s ≡ closed_to text 1 t
    → started (start_as (line_place text u.line) p false g.content.level u.single.kind) text (line_columns text u.line) u.line (tail_of (line_columns text u.line)) (here 1 (line_place text u.line)) s
    ≡ started (leaf_start text u g) text (line_columns text u.line) u.line (tail_of (line_columns text u.line)) (here 1 (line_place text u.line)) t
leaf_same text u g s t p hs quiet ht h = by u.single.kind refl u.single.one quiet
  where
    columns : List Cell
    columns = line_columns text u.line

    place : Cursor
    place = line_place text u.line

    by : (k : Beginning) → u.single.kind ≡ k → is_one_line k ≡ true → (is_text_kind k ≡ true → p ≡ false)
        → started (start_as place p false g.content.level k) text columns u.line (tail_of columns) (here 1 place) s ≡ started (start_as place false false g.content.level k) text columns u.line (tail_of columns) (here 1 place) t
    by BlankLine e o q = absurd (true≢false (ap is_blank_kind (sym e) ∙ u.single.some))
    by CodeLine e o q = absurd (true≢false (sym o))
    by QuoteLine e o q = absurd (true≢false (sym o))
    by (HeadingLine x) e o q = same_start text columns u.line 1 place (start.Heading (heading_later place.ink x)) s t refl h
    by (FenceLine f) e o q = absurd (true≢false (sym o))
    by (HtmlLine k) e o q = absurd (true≢false (sym o))
    by RuleLine e o q = same_start text columns u.line 1 place start.Rule s t refl h
    by (ItemLine m) e o q = absurd (true≢false (sym o))
    by TextLine e o q = text_start text columns u.line 1 place s t (hs ∙ q refl) ht h
    by LazyLine e o q = absurd (true≢false (sym o))

-- where no list is open
leaf_at_top : (text : List ℕ) (u : LeafRow text) (g : LeafSight text u) (bs : List ReadBlock) (ps : List Piece) (end number kept : ℕ)
    → line_taken text (stack_page [] leaf.Nothing bs ps end number kept) u.line
    ≡ started (leaf_start text u g) text (line_columns text u.line) u.line (tail_of (line_columns text u.line)) (here 0 (line_place text u.line)) (stack_page [] leaf.Nothing bs ps end number kept)
unfolding goes_directly is_paragraph
leaf_at_top text u g bs ps end number kept =
    first_comes text u.line g.lined bs ps end number kept ∙ leaf_begins text u g 0 (stack_page [] leaf.Nothing bs ps end number kept) false false refl refl

-- after a list it does the same as there
leaf_leaves : (text : List ℕ) (g : Listing text) (s : State) (width number : ℕ) (is : Blocks) (ds : List DefinitionView) (r : Ready text g s width number is ds) (u : LeafRow text) (w : LeafSight text u) → spaces_of (bytes_between text u.line.start u.line.end) < width → (is_text_kind u.single.kind ≡ true → is_paragraph s.leaf ≡ false)
    → line_taken text s u.line ≡ after_these ds (line_taken text (stack_page [] leaf.Nothing (ended r.blocks (length g.before) r.after_end) r.pieces r.end r.last r.kept) u.line)
unfolding is_paragraph
leaf_leaves text g s width number is ds r u w low quiet =
    r.comes u.line w.lined low
    ∙ leaf_begins text u w 1 s (is_paragraph s.leaf) false refl r.indirect
    ∙ leaf_same text u w s (after_these ds page) (is_paragraph s.leaf) refl quiet refl
    (r.closes ∙ sym (closed_after text 1 ds page ∙ ap (after_these ds) (list_stays text (list_box g.sort (length g.before) r.after_end r.after_line true) r.blocks r.pieces r.end r.last r.kept)))
    ∙ started_after (leaf_start text u w) text columns u.line (tail_of columns) (here 1 place) ds page
    ∙ ap (after_these ds) (leaf_to_top text columns u.line place (leaf_start text u w) g.sort (length g.before) r.after_end r.after_line true r.blocks r.pieces r.end r.last r.kept (top_start place w.content.level u.single.kind u.single.one (u.single.some))
    ∙ sym (leaf_at_top text u w (ended r.blocks (length g.before) r.after_end) r.pieces r.end r.last r.kept))
  where
    columns : List Cell
    columns = line_columns text u.line

    place : Cursor
    place = line_place text u.line

    page : State
    page = rest_page text g s width number is ds r

-- the page after it

pub record TopRest (text : List ℕ) (u : LeafRow text) (s : State) (found : Blocks) (ds : List DefinitionView) : Type 0 where
  pub blocks : List ReadBlock
  pub pieces : List Piece
  pub end : ℕ
  pub number : ℕ
  pub kept : ℕ
  pub closes : closed_to text 0 s ≡ after_these ds (stack_page [] leaf.Nothing blocks pieces end number kept)
  pub pauses : (b : BlankRow text) → line_taken text s b.line ≡ after_these ds (stack_page [] leaf.Nothing blocks pieces end number kept)
  pub done : is_text_kind u.single.kind ≡ false → (s ≡ stack_page [] leaf.Nothing blocks pieces end number kept) × (ds ≡ [])
  pub holds : Holds text top blocks pieces found
  pub few : length pieces ≤ u.line.number

-- a leaf that ends with its line
top_done : (text : List ℕ) (u : LeafRow text) (s : State) (found : Blocks) (bs : List ReadBlock) (ps : List Piece) (end number kept : ℕ) → s ≡ stack_page [] leaf.Nothing bs ps end number kept → Holds text top bs ps found → length ps ≤ u.line.number → TopRest text u s found []
top_done text u s found bs ps end number kept is h few = record {
  blocks = bs;
  pieces = ps;
  end = end;
  number = number;
  kept = kept;
  closes = ap (closed_to text 0) is ∙ top_stays text bs ps end number kept;
  pauses = λ b. ap (λ x. line_taken text x b.line) is ∙ blank_at_top text b leaf.Nothing bs ps end number kept refl ∙ top_stays text bs ps end number kept;
  done = λ q. (is, refl);
  holds = h;
  few = few;
}

top_leaf : (text : List ℕ) (u : LeafRow text) (bs : List ReadBlock) (ps : List Piece) (found : Blocks) (end number kept : ℕ) → Holds text top bs ps found → length ps < u.line.number → u.line.number + 1 < 2 ^ 64
    → TopRest text u (line_taken text (stack_page [] leaf.Nothing bs ps end number kept) u.line) (also found (leaf_told u.single)) (entry_defined (LeafEntry u.single))
top_leaf text u bs ps found end number kept h few small =
    subst (λ s. TopRest text u s (also found (leaf_told u.single)) (entry_defined (LeafEntry u.single))) (sym (leaf_at_top text u g bs ps end number kept))
    (subst (λ q. TopRest text u (page u.single.kind) (also found (told (tree (alone (Written q) u.single.kind)))) (defined (tree (alone (Written q) u.single.kind)))) (sym u.shown) (by u.single.kind refl u.single.one))
  where
    g : LeafSight text u
    g = leaf_sight text u

    l : Line
    l = u.line

    columns : List Cell
    columns = line_columns text l

    place : Cursor
    place = line_place text l

    xs : List ℕ
    xs = bytes_between text l.start l.end

    f : Facts text l columns place xs
    f = g.content

    dl : DeclaredLine
    dl = left_at place xs

    at_ink : ℕ
    at_ink = cell_place columns place.ink l.end

    page : Beginning → State
    page k = started (start_as place false false f.level k) text columns l (tail_of columns) (here 0 place) (stack_page [] leaf.Nothing bs ps end number kept)

    not_blank : is_blank_kind f.kind ≡ false
    not_blank = ap is_blank_kind g.kind ∙ u.single.some

    ruled : TopRest text u (page RuleLine) (also found (more Rule none)) []
    ruled =
        top_done text u (page RuleLine) (also found (more Rule none)) (bs ++ x ∷ []) ps l.end l.number (length ps) (rule_at_top text columns l place bs ps end number kept)
        (subst (λ (qs : List Piece). Holds text top (bs ++ x ∷ []) qs (also found (more Rule none))) (append-nil ps) (holds_more text top bs ps found x Rule [] h refl (λ later. refl))) (omega (arith, few))
      where
        x : ReadBlock
        x = rule_block 0 ps at_ink l.end

    headed : (y : Heading) → u.single.kind ≡ HeadingLine y → TopRest text u (page (HeadingLine y)) (also found (more (HeadingBlock y.level (heading_text y (line_ink dl) (cells (line_ink dl)))) none)) []
    headed y e =
        top_done text u (page (HeadingLine y)) (also found (more (HeadingBlock y.level says) none)) (bs ++ x ∷ []) (ps ++ new) l.end l.number (length (ps ++ new)) (heading_at_top text columns l place mark bs ps end number kept)
        (holds_more text top bs ps found x (HeadingBlock y.level says) new h refl (heading_told text 0 y.level ps new says at_ink l.end (words_told text l columns place.ink y (line_ink dl) (f.heads y (g.kind ∙ e)) (has_words columns mark l) refl)))
        (let wide : length (ps ++ new) ≡ length ps + length new = length-append ps new in let one : length new ≤ 1 = few_words (has_words columns mark l) (heading_piece columns mark l) in omega (arith, wide, one, few))
      where
        mark : Heading
        mark = heading_later place.ink y

        new : List Piece
        new = words columns mark l

        says : List ℕ
        says = heading_text y (line_ink dl) (cells (line_ink dl))

        x : ReadBlock
        x = ended_block 0 (kind.Heading y.level None) ps new at_ink l.end

    texted : u.single.kind ≡ TextLine → TopRest text u (page TextLine) (also found (told (tree (alone dl TextLine)))) (defined (tree (alone dl TextLine)))
    texted e =
        subst (λ y. TopRest text u (page TextLine) (also found y) (defined (tree (alone dl TextLine)))) (sym (ap (λ fs. told (tree fs)) shape ∙ told_last ds 0 k us))
        (subst (λ es. TopRest text u (page TextLine) (also found (more_if (left_as us) none)) es) (sym (ap (λ fs. defined (tree fs)) shape ∙ defined_last ds 0 k us))
        (record {
          blocks = bs ++ x ∷ [];
          pieces = ps ++ p ∷ [];
          end = l.end;
          number = l.number;
          kept = length (ps ++ p ∷ []);
          closes = closes;
          pauses = λ b. ap (λ y. line_taken text y b.line) is ∙ blank_at_top text b leaf.Paragraph (bs ++ block 0 kind.Paragraph at_ink at_ink (length ps) (length ps) ∷ []) (ps ++ p ∷ []) l.end l.number (length (ps ++ p ∷ [])) refl ∙ ap (closed_to text 0) (sym is) ∙ closes;
          done = λ q. absurd (true≢false (sym (ap is_text_kind e) ∙ q));
          holds = holds_if text top bs ps found x (left_as us) (p ∷ []) h refl (λ later. left_told text 0 ps (p ∷ []) k (start_from (ps ++ p ∷ []) (length ps + k) at_ink) l.end later ∙ ap (λ ts. left_as (drop k (ts ∷ []))) (f.ink not_blank));
          few = (let wide : length (ps ++ p ∷ []) ≡ length ps + 1 = length-append ps (p ∷ []) in let q : length (ps ++ p ∷ []) ≤ l.number = omega (arith, wide, few) in q);
        }))
      where
        p : Piece
        p = piece_in columns place l

        ink : List ℕ
        ink = line_ink dl

        ds : List DefinitionView
        ds = (definitions (ink ∷ [])).0

        k : ℕ
        k = (definitions (ink ∷ [])).1

        us : List (List ℕ)
        us = drop k (ink ∷ [])

        x : ReadBlock
        x = left_block 0 ps (p ∷ []) k (first_draft ps at_ink l)

        low : k ≤ 1
        low = subst (λ q. (definitions (line_ink (Written q) ∷ [])).1 ≤ 1) u.shown u.single.short

        reads : definitions_from text (p ∷ []) [] ≡ (ds, k)
        reads = reads_same text (p ∷ []) f.plain ∙ ap (λ q. definitions (q ∷ [])) (f.ink not_blank)

        is : page TextLine ≡ top_text l bs ps p at_ink
        is = text_at_top text columns l place bs ps end number kept (f.some not_blank)

        closes : closed_to text 0 (page TextLine) ≡ after_these ds (stack_page [] leaf.Nothing (bs ++ x ∷ []) (ps ++ p ∷ []) l.end l.number (length (ps ++ p ∷ [])))
        closes =
            closes_as text 0 [] (bs ++ x ∷ []) (ps ++ p ∷ []) l.end l.number (length (ps ++ p ∷ [])) ds (page TextLine) (ap (leaf_closed text) is ∙ top_text_ends text l bs ps p at_ink ds k reads (omega (arith, low, few, small)))
            ∙ ap (after_these ds) (top_stays text (bs ++ x ∷ []) (ps ++ p ∷ []) l.end l.number (length (ps ++ p ∷ [])))

        shape : alone dl TextLine ≡ definitions_found 0 ds k ++ (paragraph_left (0 + k) us ++ [])
        shape = append_assoc (definitions_found 0 ds k) (paragraph_left (0 + k) us) []

    by : (k : Beginning) → u.single.kind ≡ k → is_one_line k ≡ true → TopRest text u (page k) (also found (told (tree (alone dl k)))) (defined (tree (alone dl k)))
    by BlankLine e o = absurd (true≢false (ap is_blank_kind (sym e) ∙ u.single.some))
    by CodeLine e o = absurd (true≢false (sym o))
    by QuoteLine e o = absurd (true≢false (sym o))
    by (HeadingLine y) e o = headed y e
    by (FenceLine y) e o = absurd (true≢false (sym o))
    by (HtmlLine y) e o = absurd (true≢false (sym o))
    by RuleLine e o = ruled
    by (ItemLine m) e o = absurd (true≢false (sym o))
    by TextLine e o = texted e
    by LazyLine e o = absurd (true≢false (sym o))

-- all lines

pub data RowEntry (text : List ℕ) : Type 0 where
  ItemRow : Row text → RowEntry text
  SingleRow : LeafRow text → RowEntry text

abbrev pub row_entry : (text : List ℕ) → RowEntry text → Entry
row_entry text (ItemRow v) = ItemEntry v.item
row_entry text (SingleRow u) = LeafEntry u.single

abbrev pub row_pauses : (text : List ℕ) → RowEntry text → List (BlankRow text)
row_pauses text (ItemRow v) = v.pauses
row_pauses text (SingleRow u) = u.pauses

abbrev pub row_line : (text : List ℕ) → RowEntry text → Line
row_line text (ItemRow v) = v.line
row_line text (SingleRow u) = u.line

abbrev pub row_entries : (text : List ℕ) → List (RowEntry text) → List Entry
row_entries text es = map (row_entry text) es

abbrev pub row_lines : (text : List ℕ) → List (RowEntry text) → List Line
row_lines text [] = []
row_lines text (e ∷ es) = row_line text e ∷ (blank_lines_of text (row_pauses text e) ++ row_lines text es)

-- how many these are
abbrev pub row_count : (text : List ℕ) → List (RowEntry text) → ℕ
row_count text [] = 0
row_count text (e ∷ es) = suc (length (row_pauses text e)) + row_count text es

-- each line is outside the item above it, continues no paragraph, and has the next number
abbrev pub Runs : (text : List ℕ) → ℕ → Bool → ℕ → List (RowEntry text) → Type 0
Runs text width quiet number [] = Unit {0}
Runs text width quiet number (ItemRow v ∷ es) = (spaces_of (row_bytes text v) < width) × (v.line.number ≡ suc number) × Runs text v.item.mark.width (has_blanks v.item) (v.line.number + length v.pauses) es
Runs text width quiet number (SingleRow u ∷ es) =
    (spaces_of (bytes_between text u.line.start u.line.end) < width) × (u.line.number ≡ suc number) × ((is_text_kind u.single.kind && not quiet) ≡ false) × (closes_line u.single (row_entries text es) ≡ true) × Runs text 4 true (u.line.number + length u.pauses) es

-- blank lines leave a page as it is
pub fold_stays : (text : List ℕ) (s : State) (bl : List (BlankRow text)) (ls : List Line) → ((b : BlankRow text) → line_taken text s b.line ≡ s) → fold (line_taken text) s (blank_lines_of text bl ++ ls) ≡ fold (line_taken text) s ls
fold_stays text s [] ls h = refl
fold_stays text s (b ∷ bl) ls h = ap (λ x. fold (line_taken text) x (blank_lines_of text bl ++ ls)) (h b) ∙ fold_stays text s bl ls h

-- lines after an item and blank lines
settled_read : (text : List ℕ) (g : Listing text) (s : State) (width number : ℕ) (is : Blocks) (ds es : List DefinitionView) (bl : List (BlankRow text)) (blank : Bool) (ls : List Line) (found : Blocks) → Rest text g s width number is ds → nat_lt 0 (length bl) ≡ blank
    → ((t : State) (fs : List DefinitionView) → Ready text g t width number is fs → (blank ≡ true → is_paragraph t.leaf ≡ false) → Final text (fold (line_taken text) t ls) found (fs ++ es)) → Final text (fold (line_taken text) s (blank_lines_of text bl ++ ls)) found (ds ++ es)
settled_read text g s width number is ds es [] blank ls found r e again = again s ds r.now (λ q. absurd (true≢false (sym (e ∙ q))))
settled_read text g s width number is ds es (b ∷ bl) blank ls found r e again =
    subst (λ x. Final text (fold (line_taken text) x (blank_lines_of text bl ++ ls)) found (ds ++ es)) (sym (r.pauses b))
    (final_after text ds es r.paused (blank_lines_of text bl ++ ls) found
    (subst (λ x. Final text x found es) (sym (fold_stays text r.paused bl ls r.stays)) (again r.paused [] r.later (λ q. r.calm))))

-- lines after a leaf and blank lines
top_settled : (text : List ℕ) (u : LeafRow text) (s : State) (found after : Blocks) (ds xs : List DefinitionView) (bl : List (BlankRow text)) (es : List (RowEntry text)) (r : TopRest text u s found ds) → closes_line u.single (row_entries text es) ≡ true → length bl ≡ length u.single.blanks
    → Final text (fold (line_taken text) (stack_page [] leaf.Nothing r.blocks r.pieces r.end r.number r.kept) (row_lines text es)) after xs → (es ≡ [] → (after ≡ found) × (xs ≡ []))
    → Final text (fold (line_taken text) s (blank_lines_of text bl ++ row_lines text es)) after (ds ++ xs)
top_settled text u s found after ds xs (b ∷ bl) es r closes count later last =
    subst (λ x. Final text (fold (line_taken text) x (blank_lines_of text bl ++ row_lines text es)) after (ds ++ xs)) (sym (r.pauses b))
    (final_after text ds xs page (blank_lines_of text bl ++ row_lines text es) after
    (subst (λ x. Final text x after xs) (sym (fold_stays text page bl (row_lines text es) (λ c. blank_at_top text c leaf.Nothing r.blocks r.pieces r.end r.number r.kept refl ∙ top_stays text r.blocks r.pieces r.end r.number r.kept))) later))
  where
    page : State
    page = stack_page [] leaf.Nothing r.blocks r.pieces r.end r.number r.kept
top_settled text u s found after ds xs [] [] r closes count later last =
    let both = last refl in
    subst (λ y. Final text s y (ds ++ xs)) (sym (both.0))
    (subst (λ ys. Final text s found (ds ++ ys)) (sym (both.1))
    (subst (λ ys. Final text s found ys) (sym (append-nil ds))
    (record { blocks = r.blocks; pieces = r.pieces; end = r.end; number = r.number; kept = r.kept; is = r.closes; holds = r.holds })))
top_settled text u s found after ds xs [] (e ∷ es) r closes count later last = by (is_text_kind u.single.kind) refl
  where
    by : (k : Bool) → is_text_kind u.single.kind ≡ k → Final text (fold (line_taken text) s (row_lines text (e ∷ es))) after (ds ++ xs)
    by true q =
        let none : nat_lt 0 (length u.single.blanks) ≡ false = ap (λ n. nat_lt 0 n) (sym count) in
        absurd (true≢false (sym closes ∙ ap (λ k. not k || nat_lt 0 (length u.single.blanks)) q ∙ none))
    by false q =
        let d = r.done q in
        subst (λ x. Final text (fold (line_taken text) x (row_lines text (e ∷ es))) after (ds ++ xs)) (sym (d.0))
        (subst (λ ys. Final text (fold (line_taken text) (stack_page [] leaf.Nothing r.blocks r.pieces r.end r.number r.kept) (row_lines text (e ∷ es))) after (ys ++ xs)) (sym (d.1)) later)

-- what is read of lines after an item of a list
abbrev RowsRead : (text : List ℕ) → List (RowEntry text) → Type 0
RowsRead text es = (g : Listing text) (s : State) (width number at : ℕ) (blank : Bool) (is : Blocks) (ds : List DefinitionView) → Ready text g s width number is ds → (blank ≡ true → is_paragraph s.leaf ≡ false) → Runs text width blank at es → number ≤ at → nat_lt number at ≡ blank → at + row_count text es + 1 < 2 ^ 64
    → Final text (fold (line_taken text) s (row_lines text es)) (also g.found (lists_told g.number g.sort is g.tight blank (row_entries text es))) (ds ++ all_defined (row_entries text es))

-- and where no list is open
abbrev TopsRead : (text : List ℕ) → List (RowEntry text) → Type 0
TopsRead text es = (bs : List ReadBlock) (ps : List Piece) (found : Blocks) (end number kept width at : ℕ) → Holds text top bs ps found → length ps ≤ at → Runs text width true at es → at + row_count text es + 1 < 2 ^ 64
    → Final text (fold (line_taken text) (stack_page [] leaf.Nothing bs ps end number kept) (row_lines text es)) (also found (docs_told (row_entries text es))) (all_defined (row_entries text es))

list_finishes : (text : List ℕ) (g : Listing text) (s : State) (width number : ℕ) (is : Blocks) (ds : List DefinitionView) (r : Ready text g s width number is ds) → Final text s (also g.found (more (list_told g.tight g.number is) none)) ds
list_finishes text g s width number is ds r = record {
  blocks = ended r.blocks (length g.before) r.after_end;
  pieces = r.pieces;
  end = r.end;
  number = r.last;
  kept = r.kept;
  is = closes_list text g.sort (length g.before) r.after_end r.after_line true r.blocks r.pieces r.end r.last r.kept ds s r.closes r.deep;
  holds = list_done text g s width number is ds r;
}

-- an item comes
item_read : (text : List ℕ) (v : Row text) (es : List (RowEntry text)) → RowsRead text es → RowsRead text (ItemRow v ∷ es)
item_read text v es rows g s width number at blank is ds r calm runs below gap small = by (v.item.mark.sort == g.sort) refl
  where
    w : Sight text v
    w = sight text v

    next : v.line.number ≡ suc at
    next = runs.1

    later : number < v.line.number
    later = omega (arith, next, below)

    now_fits : v.line.number + 1 < 2 ^ 64
    now_fits = omega (arith, next, small)

    apart : nat_lt (number + 1) v.line.number ≡ blank
    apart = (let q : nat_lt (number + 1) v.line.number ≡ nat_lt number at = grind (arith, next, nat_tests) in q) ∙ gap

    fs : List DefinitionView
    fs = defined (tree (content_blocks v.item))

    more_entries : List Entry
    more_entries = row_entries text es

    lines : List Line
    lines = blank_lines_of text v.pauses ++ row_lines text es

    again : (h : Listing text) (o : Blocks) (t : State) (ys : List DefinitionView) → Ready text h t v.item.mark.width v.line.number o ys → (has_blanks v.item ≡ true → is_paragraph t.leaf ≡ false) → Final text (fold (line_taken text) t (row_lines text es)) (also h.found (lists_told h.number h.sort o h.tight (has_blanks v.item) more_entries)) (ys ++ all_defined more_entries)
    again h o t ys q c = rows h t v.item.mark.width v.line.number (v.line.number + length v.pauses) (has_blanks v.item) o ys q c (runs.2) (omega arith) (let paused : length v.pauses ≡ length v.item.blanks = v.paused in grind (arith, paused, nat_tests)) (omega (arith, next, small))

    some_blanks : nat_lt 0 (length v.pauses) ≡ has_blanks v.item
    some_blanks = ap (λ n. nat_lt 0 n) v.paused

    by : (q : Bool) → (v.item.mark.sort == g.sort) ≡ q
        → Final text (fold (line_taken text) (line_taken text s v.line) lines) (also g.found (if q then lists_told g.number v.item.mark.sort (also is (item_told v.item)) (g.tight && not blank) (has_blanks v.item) more_entries else more (list_told g.tight g.number is) (lists_told v.item.mark.number v.item.mark.sort (item_told v.item) true (has_blanks v.item) more_entries))) (ds ++ (fs ++ all_defined more_entries))
    by true e =
        subst (λ x. Final text (fold (line_taken text) x lines) (also g.found (lists_told g.number v.item.mark.sort (also is (item_told v.item)) (g.tight && not blank) (has_blanks v.item) more_entries)) (ds ++ (fs ++ all_defined more_entries))) (sym (next_begins text g s width number is ds r v w blank later now_fits apart (runs.0) e))
        (final_after text ds (fs ++ all_defined more_entries) (slot_page text slot) lines (also g.found (lists_told g.number v.item.mark.sort (also is (item_told v.item)) (g.tight && not blank) (has_blanks v.item) more_entries))
        (subst (λ k. Final text (fold (line_taken text) (slot_page text slot) lines) (also g.found (lists_told g.number k (also is (item_told v.item)) (g.tight && not blank) (has_blanks v.item) more_entries)) (fs ++ all_defined more_entries)) (sym (eq_of v.item.mark.sort g.sort e))
        (settled_read text slot.list (slot_page text slot) v.item.mark.width v.line.number (also is (item_told v.item)) fs (all_defined more_entries) v.pauses (has_blanks v.item) (row_lines text es) (also g.found (lists_told g.number g.sort (also is (item_told v.item)) (g.tight && not blank) (has_blanks v.item) more_entries)) (slot_content text slot) some_blanks
        (λ t ys q c. again slot.list (also is (item_told v.item)) t ys q c))))
      where
        slot : Slot text
        slot = next_slot text g s width number is ds r v w blank later now_fits
    by false e =
        subst (λ x. Final text (fold (line_taken text) x lines) (also g.found (more (list_told g.tight g.number is) others)) (ds ++ (fs ++ all_defined more_entries))) (sym (other_begins text g s width number is ds r v w later now_fits (runs.0) e))
        (final_after text ds (fs ++ all_defined more_entries) (slot_page text slot) lines (also g.found (more (list_told g.tight g.number is) others))
        (subst (λ y. Final text (fold (line_taken text) (slot_page text slot) lines) y (fs ++ all_defined more_entries)) (also_also g.found (more (list_told g.tight g.number is) none) others)
        (settled_read text slot.list (slot_page text slot) v.item.mark.width v.line.number (item_told v.item) fs (all_defined more_entries) v.pauses (has_blanks v.item) (row_lines text es) (also slot.list.found others) (slot_content text slot) some_blanks
        (λ t ys q c. again slot.list (item_told v.item) t ys q c))))
      where
        slot : Slot text
        slot = other_slot text g s width number is ds r v w later now_fits

        others : Blocks
        others = lists_told v.item.mark.number v.item.mark.sort (item_told v.item) true (has_blanks v.item) more_entries

-- a list begins
list_read : (text : List ℕ) (v : Row text) (es : List (RowEntry text)) → RowsRead text es → TopsRead text (ItemRow v ∷ es)
list_read text v es rows bs ps found end number kept width at h few runs small =
    subst (λ x. Final text (fold (line_taken text) x (blank_lines_of text v.pauses ++ row_lines text es)) result (all_defined (row_entries text (ItemRow v ∷ es)))) (sym (first_begins text v w bs ps found h end number kept low fits))
    (settled_read text slot.list (slot_page text slot) v.item.mark.width v.line.number (item_told v.item) (defined (tree (content_blocks v.item))) (all_defined (row_entries text es)) v.pauses (has_blanks v.item) (row_lines text es) result (slot_content text slot) (ap (λ n. nat_lt 0 n) v.paused)
    (λ t ys q c. rows slot.list t v.item.mark.width v.line.number (v.line.number + length v.pauses) (has_blanks v.item) (item_told v.item) ys q c (runs.2) (omega arith) (let paused : length v.pauses ≡ length v.item.blanks = v.paused in grind (arith, paused, nat_tests)) (omega (arith, next, small))))
  where
    w : Sight text v
    w = sight text v

    next : v.line.number ≡ suc at
    next = runs.1

    low : length ps < v.line.number
    low = omega (arith, next, few)

    fits : v.line.number + 1 < 2 ^ 64
    fits = omega (arith, next, small)

    slot : Slot text
    slot = first_slot text v w bs ps found h end number kept low fits

    result : Blocks
    result = also found (lists_told v.item.mark.number v.item.mark.sort (item_told v.item) true (has_blanks v.item) (row_entries text es))

-- a leaf comes where no list is open
leaf_read : (text : List ℕ) (u : LeafRow text) (es : List (RowEntry text)) → TopsRead text es → TopsRead text (SingleRow u ∷ es)
leaf_read text u es tops bs ps found end number kept width at h few runs small =
    top_settled text u (line_taken text (stack_page [] leaf.Nothing bs ps end number kept) u.line) (also found (leaf_told u.single)) (also found (also (leaf_told u.single) (docs_told (row_entries text es)))) (entry_defined (LeafEntry u.single)) (all_defined (row_entries text es)) u.pauses es r (runs.3) u.paused
    (subst (λ y. Final text (fold (line_taken text) (stack_page [] leaf.Nothing r.blocks r.pieces r.end r.number r.kept) (row_lines text es)) y (all_defined (row_entries text es))) (also_also found (leaf_told u.single) (docs_told (row_entries text es)))
    (tops r.blocks r.pieces (also found (leaf_told u.single)) r.end r.number r.kept 4 (u.line.number + length u.pauses) r.holds (let few' : length r.pieces ≤ u.line.number = r.few in omega (arith, few')) (runs.4) (omega (arith, next, small))))
    (λ e. (ap (λ ys. also found (also (leaf_told u.single) (docs_told (row_entries text ys)))) e ∙ ap (also found) (also_none (leaf_told u.single)), ap (λ ys. all_defined (row_entries text ys)) e))
  where
    next : u.line.number ≡ suc at
    next = runs.1

    r : TopRest text u (line_taken text (stack_page [] leaf.Nothing bs ps end number kept) u.line) (also found (leaf_told u.single)) (entry_defined (LeafEntry u.single))
    r = top_leaf text u bs ps found end number kept h (omega (arith, next, few)) (omega (arith, next, small))

text_quiet : (k blank : Bool) → (k && not blank) ≡ false → k ≡ true → blank ≡ true
text_quiet true true e q = refl
text_quiet true false e q = absurd (true≢false e)
text_quiet false blank e q = absurd (true≢false (sym q))

-- a leaf comes after a list
leaf_ends : (text : List ℕ) (u : LeafRow text) (es : List (RowEntry text)) → TopsRead text (SingleRow u ∷ es) → RowsRead text (SingleRow u ∷ es)
leaf_ends text u es tops g s width number at blank is ds r calm runs below gap small =
    subst (λ x. Final text (fold (line_taken text) x lines) (also g.found (more (list_told g.tight g.number is) others)) (ds ++ all_defined (row_entries text (SingleRow u ∷ es)))) (sym (leaf_leaves text g s width number is ds r u (leaf_sight text u) (runs.0) (λ q. calm (text_quiet (is_text_kind u.single.kind) blank (runs.2) q))))
    (final_after text ds (all_defined (row_entries text (SingleRow u ∷ es))) (line_taken text page u.line) lines (also g.found (more (list_told g.tight g.number is) others))
    (subst (λ y. Final text (fold (line_taken text) (line_taken text page u.line) lines) y (all_defined (row_entries text (SingleRow u ∷ es)))) (also_also g.found (more (list_told g.tight g.number is) none) others)
    (tops (ended r.blocks (length g.before) r.after_end) r.pieces (also g.found (more (list_told g.tight g.number is) none)) r.end r.last r.kept width at (list_done text g s width number is ds r) (let few : length r.pieces ≤ number = r.few in omega (arith, few, below)) (runs.0, runs.1, no_text (is_text_kind u.single.kind), runs.3, runs.4) small)))
  where
    lines : List Line
    lines = blank_lines_of text u.pauses ++ row_lines text es

    others : Blocks
    others = docs_told (row_entries text (SingleRow u ∷ es))

    page : State
    page = stack_page [] leaf.Nothing (ended r.blocks (length g.before) r.after_end) r.pieces r.end r.last r.kept

    no_text : (k : Bool) → (k && false) ≡ false
    no_text true = refl
    no_text false = refl

rows_none : (text : List ℕ) → RowsRead text []
rows_none text g s width number at blank is ds r calm runs below gap small =
    subst (λ es. Final text s (also g.found (more (list_told g.tight g.number is) none)) es) (sym (append-nil ds)) (list_finishes text g s width number is ds r)

tops_none : (text : List ℕ) → TopsRead text []
tops_none text bs ps found end number kept width at h few runs small = record {
  blocks = bs;
  pieces = ps;
  end = end;
  number = number;
  kept = kept;
  is = top_stays text bs ps end number kept;
  holds = subst (λ y. Holds text top bs ps y) (sym (also_none found)) h;
}

tops_one : (text : List ℕ) (e : RowEntry text) (es : List (RowEntry text)) → RowsRead text es → TopsRead text es → TopsRead text (e ∷ es)
tops_one text (ItemRow v) es rows tops = list_read text v es rows
tops_one text (SingleRow u) es rows tops = leaf_read text u es tops

rows_one : (text : List ℕ) (e : RowEntry text) (es : List (RowEntry text)) → RowsRead text es → TopsRead text (e ∷ es) → RowsRead text (e ∷ es)
rows_one text (ItemRow v) es rows tops = item_read text v es rows
rows_one text (SingleRow u) es rows tops = leaf_ends text u es tops

all_read : (text : List ℕ) (es : List (RowEntry text)) → RowsRead text es × TopsRead text es
all_read text [] = (rows_none text, tops_none text)
all_read text (e ∷ es) =
    let h : RowsRead text es × TopsRead text es = all_read text es in
    let t : TopsRead text (e ∷ es) = tops_one text e es (h.0) (h.1) in
    (rows_one text e es (h.0) t, t)

-- lines from the front of a text on
pub text_read : (text : List ℕ) (es : List (RowEntry text)) (at : ℕ) → Runs text 4 true at es → at + row_count text es + 1 < 2 ^ 64
    → Final text (fold (line_taken text) (stack_page [] leaf.Nothing [] [] 0 0 0) (row_lines text es)) (docs_told (row_entries text es)) (all_defined (row_entries text es))
text_read text es at runs small = (all_read text es).1 [] [] none 0 0 0 4 at (holds_none text top) (omega arith) runs small
