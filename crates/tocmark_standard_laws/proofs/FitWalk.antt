-- A line leaves a page whose blocks are nested.
use Rattle.std.proofs.Common.{◌≡◌, ℕ, ◌-◌, ◌≤◌, ◌⊎◌, inl, inr, Bool, true, false, if◌then◌else◌, nat_le, nat_lt, List, [], ◌∷◌, ◌++◌, length, refl, ap, sym, ◌∙◌, subst, true≢false}
use Rattle.std.specs.Prelude.{slice_get, slice_set, Option, Some, None, unwrap_or}
use Rattle.std.specs.Option.{option_map, option_map_or}
use Rattle.std.specs.List.{fold, AllByRecursion}
use Rattle.tocmark_event.specs.declared.event.HeadingLevel.{HeadingLevel}
use Rattle.tocmark_read_scan.specs.Basic.{plus, bytes_between}
use Rattle.tocmark_read_scan.specs.declared.syntax.TheConstants.{CORE}
use Rattle.tocmark_read_lines.specs.Cells.{cells_of, cell_place, indent_of, is_blank_at}
use Rattle.tocmark_read_lines.specs.Containers.{matched, container_in}
use Rattle.tocmark_read_lines.specs.Html.{html_ends}
use Rattle.tocmark_read_lines.specs.Lines.{lines_of}
use Rattle.tocmark_read_lines.specs.Marks.{tail_of, is_rule, fence_at, heading_at, underline_at}
use Rattle.tocmark_read_lines.specs.declared.beginnings.Fence.{Fence}
use Rattle.tocmark_read_lines.specs.declared.beginnings.Heading.{Heading}
use Rattle.tocmark_read_lines.specs.declared.beginnings.Tail.{Tail}
use Rattle.tocmark_read_lines.specs.declared.cell.Cell.{Cell}
use Rattle.tocmark_read_lines.specs.declared.cell.Cursor.{Cursor}
use Rattle.tocmark_read_lines.specs.declared.container.Container.{Container}
use Rattle.tocmark_read_lines.specs.declared.container.Container.TheVariants as container
use Rattle.tocmark_read_lines.specs.declared.container.ContainerStart.{ContainerStart}
use Rattle.tocmark_read_lines.specs.declared.container.ContainerStart.TheVariants as begins
use Rattle.tocmark_read_lines.specs.declared.container.ItemStart.{ItemStart}
use Rattle.tocmark_read_lines.specs.declared.container.Opened.{Opened}
use Rattle.tocmark_read_lines.specs.declared.html.HtmlKind.{HtmlKind}
use Rattle.tocmark_read_lines.specs.declared.line.Line.{Line}
use Rattle.tocmark_read_page.specs.Leaves.{is_paragraph}
use Rattle.tocmark_read_page.specs.Pages.{State, first_page, leaf_finished, settled, closed_to, list_left, begun, had_marked, opened_with, leaf_opened, piece_taken, has_text, start_of, is_quote}
use Rattle.tocmark_read_page.specs.Pieces.{code_piece, text_piece, heading_piece, keeps_line}
use Rattle.tocmark_read_page.specs.declared.leaf.Leaf.{Leaf}
use Rattle.tocmark_read_page.specs.declared.leaf.Leaf.TheVariants as leaf
use Rattle.tocmark_read_page.specs.declared.line_start.LineStart.{LineStart}
use Rattle.tocmark_read_page.specs.declared.page.Block.{Block}
use Rattle.tocmark_read_page.specs.declared.page.BlockKind.{BlockKind}
use Rattle.tocmark_read_page.specs.declared.page.BlockKind.TheVariants as kind
use Rattle.tocmark_read_page.specs.declared.piece.Piece.{Piece}
use Rattle.tocmark_read_constructs.specs.Headings.{heading_put, heading_started_in, underlined, underlined_in}
use Rattle.tocmark_read_constructs.specs.Metadata.{known_of, metadata_in}
use Rattle.tocmark_read_constructs.specs.Quotes.{quote_opened}
use Rattle.tocmark_read_blocks.specs.Blocks.{core_known, rule_or_text, underlined_if, underline_taken_in, started_in, started_at_in, leaf_started_in, passed_in, turn_in, leaf_ended, touched, turn_taken_in, taken_at_in, cells_taken_in, line_taken_in, page_in, blocks_in}
use Rattle.tocmark_read_blocks.specs.Codes.{info_of, html_ended_as, html_ended, code_taken, indented_started, fence_started, html_started}
use Rattle.tocmark_read_blocks.specs.Containers.{goes_directly, is_list_of, is_in_list, list_started, item_opened, begun_at, container_once_in, containers_opened_in}
use Rattle.tocmark_read_blocks.specs.Leaves.{html_at, metadata_or, rule_at, leaf_at, mark_at, underline_in}
use Rattle.tocmark_read_blocks.specs.Paragraphs.{text_started, in_paragraph, text_taken, rule_started}
use Rattle.tocmark_read_blocks.specs.declared.leaf.LeafStart.{LeafStart}
use Rattle.tocmark_read_blocks.specs.declared.leaf.LeafStart.TheVariants as start
use Rattle.tocmark_read_blocks.specs.declared.leaf.Turn.{Turn}
use Rattle.tocmark_read_blocks.specs.declared.leaf.Turn.TheVariants as turn
use Rattle.tocmark_block_laws.proofs.NamedBlocks.{names-change-none}
use Rattle.tocmark_text_laws.proofs.Alls.{all_set, all_got, all_weaker, got_last}
use Rattle.tocmark_text_laws.proofs.Shut.{closed_shut, list_left_leaf, opened_with_leaf}
use Rattle.tocmark_text_laws.proofs.Leaves.{is_core}
use Rattle.tocmark_text_laws.proofs.Core.{begins_core, leaf_core, repeated_keeps, settled_leaf, turns_core}
use Rattle.tocmark_text_laws.proofs.Begun.{is_core_start, container_core}
use Rattle.tocmark_text_laws.proofs.Machine.{core_at, core_begun}
use Rattle.tocmark_text_laws.proofs.Turns.{turn_of_core}
use Rattle.tocmark_text_laws.proofs.Kept.{line_core}
use Rattle.tocmark_text_laws.proofs.Walked.{direct_words}
use Rattle.tocmark_standard_laws.specs.Nesting.{Nested, ends_in_list, is_list_sort, sort_of, is_common, BlocksAreNested}
use Rattle.tocmark_standard_laws.proofs.Fitting.{shapes, outers, container_sort, LeafLast, Within, Fits, ends_listed, last_split, finished_fits, settled_fits, closed_fits, list_left_fits, opened_with_fits, leaf_opened_fits, piece_taken_fits, heading_fits, same_set, front_kept, front_touched}

-- the pieces that leaves take of a line are of a set
pub record Gives (P : Piece → Type 0) (cs : List Cell) (line : Line) : Type 0 where
  pub code : (column : ℕ) → P (code_piece cs column line)
  pub text : (cursor : Cursor) → P (text_piece cs cursor line)
  pub heading : (h : Heading) → P (heading_piece cs h line)

html_fits : (P : Piece → Type 0) (rest : List ℕ) (s : State) → Fits P s → Fits P (html_ended rest s)
unfolding html_ended
html_fits P rest s h = by s.leaf
  where
    ends : (b : Bool) → Fits P (if b then leaf_finished s else s)
    ends true = finished_fits P s h
    ends false = h

    by : (k : Leaf) → Fits P (html_ended_as k rest s)
    by leaf.Nothing = h
    by leaf.Paragraph = h
    by leaf.Indented = h
    by (leaf.Fenced f) = h
    by (leaf.Html k) = ends (html_ends k rest)
    by (leaf.Metadata k) = h
    by (leaf.Table t) = h

code_fits : (P : Piece → Type 0) (t : List ℕ) (cs : List Cell) (column : ℕ) (line : Line) (s : State) → Gives P cs line → Fits P s → Fits P (code_taken t cs column line s)
unfolding code_taken
code_fits P t cs column line s g h =
    html_fits P (bytes_between t (code_piece cs column line).start (code_piece cs column line).end) (piece_taken (code_piece cs column line) line (keeps_line cs column s.leaf) s)
    (piece_taken_fits P (code_piece cs column line) line (keeps_line cs column s.leaf) s (g.code column) h)

text_started_fits : (P : Piece → Type 0) (at : ℕ) (s : State) → Fits P s → Fits P (text_started at s)
unfolding text_started
text_started_fits P at s h = by (slice_get s.blocks (length s.blocks - 1)) refl
  where
    started : (b : Block) → slice_get s.blocks (length s.blocks - 1) ≡ Some b → Fits P (record s { blocks = slice_set s.blocks (length s.blocks - 1) (record b { start = at }) })
    started b e = record {
      nest = subst (Nested [] 0) (sym same) h.nest;
      open_ones = front_kept s.opened (shapes s.blocks) (shapes (slice_set s.blocks (length s.blocks - 1) (record b { start = at }))) (sym same) h.open_ones;
      words = λ w. subst LeafLast (sym same) (h.words w);
      lasts = all_set (Within s.kept (length s.pieces)) s.blocks (length s.blocks - 1) (record b { start = at }) h.lasts (all_got (Within s.kept (length s.pieces)) s.blocks (length s.blocks - 1) b h.lasts e);
      pieces = h.pieces;
    }
      where
        same : shapes (slice_set s.blocks (length s.blocks - 1) (record b { start = at })) ≡ shapes s.blocks
        same = same_set s.blocks (length s.blocks - 1) b (record b { start = at }) e refl

    inner : (b : Block) (k : Bool) → slice_get s.blocks (length s.blocks - 1) ≡ Some b → Fits P (if k then record s { blocks = slice_set s.blocks (length s.blocks - 1) (record b { start = at }) } else s)
    inner b true e = started b e
    inner b false e = h

    by : (o : Option Block) → slice_get s.blocks (length s.blocks - 1) ≡ o → Fits P (option_map_or (λ (b : Block). if nat_le (length s.pieces) b.first then record s { blocks = slice_set s.blocks (length s.blocks - 1) (record b { start = at }) } else s) o s)
    by None e = h
    by (Some b) e = inner b (nat_le (length s.pieces) b.first) e

begins_fits : (P : Piece → Type 0) (t : List ℕ) (depth : ℕ) (f : Leaf) (k : BlockKind) (at : ℕ) (line : Line) (s : State) → sort_of k ≡ None → is_common k ≡ true → Fits P s → Fits P (leaf_opened f k at line (closed_to t depth s))
begins_fits P t depth f k at line s e c h = leaf_opened_fits P f k at line (closed_to t depth s) e c (closed_fits P t depth s h)

in_paragraph_fits : (P : Piece → Type 0) (t : List ℕ) (cs : List Cell) (line : Line) (place : LineStart) (s : State) → Fits P s → Fits P (in_paragraph t cs line place s)
in_paragraph_fits P t cs line place s h = by (is_paragraph s.leaf)
  where
    by : (b : Bool) → Fits P (if b then s else leaf_opened leaf.Paragraph kind.Paragraph (text_piece cs place.cursor line).start line (closed_to t place.depth s))
    by true = h
    by false = begins_fits P t place.depth leaf.Paragraph kind.Paragraph (text_piece cs place.cursor line).start line s refl refl h

text_fits : (P : Piece → Type 0) (t : List ℕ) (cs : List Cell) (line : Line) (place : LineStart) (s : State) → Gives P cs line → Fits P s → Fits P (text_taken t cs line place s)
unfolding text_taken
text_fits P t cs line place s g h =
    piece_taken_fits P (text_piece cs place.cursor line) line true (text_started (text_piece cs place.cursor line).start (in_paragraph t cs line place s)) (g.text place.cursor)
    (text_started_fits P (text_piece cs place.cursor line).start (in_paragraph t cs line place s) (in_paragraph_fits P t cs line place s h))

rule_fits : (P : Piece → Type 0) (t : List ℕ) (cs : List Cell) (line : Line) (place : LineStart) (s : State) → Fits P s → Fits P (rule_started t cs line place s)
unfolding rule_started
rule_fits P t cs line place s h = finished_fits P (leaf_opened leaf.Nothing kind.Rule (start_of cs place line) line (closed_to t place.depth s)) (begins_fits P t place.depth leaf.Nothing kind.Rule (start_of cs place line) line s refl refl h)

rule_or_text_fits : (P : Piece → Type 0) (t : List ℕ) (cs : List Cell) (line : Line) (tail : Tail) (place : LineStart) (s : State) → Gives P cs line → Fits P s → Fits P (rule_or_text (rule_at cs tail place.cursor.ink) t cs line place s)
unfolding rule_at
rule_or_text_fits P t cs line tail place s g h = by (is_rule cs tail place.cursor.ink)
  where
    by : (b : Bool) → Fits P (rule_or_text (if b then start.Rule else start.Text) t cs line place s)
    by true = rule_fits P t cs line place s h
    by false = text_fits P t cs line place s g h

underlined_fits : (P : Piece → Type 0) (t : List ℕ) (level : HeadingLevel) (line : Line) (s : State) → is_paragraph s.leaf ≡ true → Fits P s → Fits P (underlined_in core_known t level line s)
unfolding underlined_in underlined
underlined_fits P t level line s w h = finished_fits P _ (heading_fits P level line.end line.number s w h)

underline_fits : (P : Piece → Type 0) (t : List ℕ) (cs : List Cell) (line : Line) (tail : Tail) (place : LineStart) (level : HeadingLevel) (s : State) → Gives P cs line → is_paragraph s.leaf ≡ true → Fits P s → Fits P (underline_taken_in core_known t cs line tail place level s)
unfolding underline_taken_in metadata_in metadata_or
underline_fits P t cs line tail place level s g w h = by (has_text (settled t s))
  where
    by : (b : Bool) → Fits P (underlined_if core_known b (rule_at cs tail place.cursor.ink) t cs line place level (settled t s))
    by true = underlined_fits P t level line (settled t s) (ap is_paragraph (settled_leaf t s) ∙ w) (settled_fits P t s h)
    by false = rule_or_text_fits P t cs line tail place (settled t s) g (settled_fits P t s h)

-- an underline comes only after a paragraph
abbrev Under : Bool → LeafStart → Type 0
Under d (start.Underline level) = d ≡ true
Under d b = Unit {0}

under_at : (cs : List Cell) (rest : List ℕ) (tail : Tail) (cursor : Cursor) (p d : Bool) → Under d (leaf_at cs rest tail cursor p d)
unfolding leaf_at mark_at rule_at underline_in
under_at cs rest tail cursor p d = blank (is_blank_at cs cursor)
  where
    rule : (x : Bool) → Under d (if x then start.Rule else start.Text)
    rule true = tt
    rule false = tt

    under : (x : Bool) (o : Option HeadingLevel) → d ≡ x → Under d (unwrap_or (option_map (λ l. start.Underline l) (if x then o else None)) (rule_at cs tail cursor.ink))
    under true (Some l) e = e
    under true None e = rule (is_rule cs tail cursor.ink)
    under false o e = rule (is_rule cs tail cursor.ink)

    html : (o : Option HtmlKind) → Under d (unwrap_or (option_map (λ k. start.Html k) o) (unwrap_or (option_map (λ l. start.Underline l) (if d then underline_at cs cursor.ink else None)) (rule_at cs tail cursor.ink)))
    html (Some k) = tt
    html None = under d (underline_at cs cursor.ink) refl

    fence : (o : Option Fence) → Under d (unwrap_or (option_map (λ f. start.Fence f) o) (unwrap_or (option_map (λ k. start.Html k) (html_at rest p)) (unwrap_or (option_map (λ l. start.Underline l) (if d then underline_at cs cursor.ink else None)) (rule_at cs tail cursor.ink))))
    fence (Some f) = tt
    fence None = html (html_at rest p)

    mark : (o : Option Heading) → Under d (unwrap_or (option_map (λ h. start.Heading h) o) (unwrap_or (option_map (λ f. start.Fence f) (fence_at cs cursor)) (unwrap_or (option_map (λ k. start.Html k) (html_at rest p)) (unwrap_or (option_map (λ l. start.Underline l) (if d then underline_at cs cursor.ink else None)) (rule_at cs tail cursor.ink)))))
    mark (Some h) = tt
    mark None = fence (fence_at cs cursor)

    text : (q : Bool) → Under d (if q then start.Text else start.Indented (plus cursor.column 4))
    text true = tt
    text false = tt

    indented : (x : Bool) → Under d (if x then mark_at cs rest tail cursor p d else (if p then start.Text else start.Indented (plus cursor.column 4)))
    indented true = mark (heading_at cs cursor.ink)
    indented false = text p

    blank : (x : Bool) → Under d (if x then start.Blank else (if nat_lt (indent_of cursor) 4 then mark_at cs rest tail cursor p d else (if p then start.Text else start.Indented (plus cursor.column 4))))
    blank true = tt
    blank false = indented (nat_lt (indent_of cursor) 4)

started_fits : (P : Piece → Type 0) (t : List ℕ) (cs : List Cell) (line : Line) (tail : Tail) (place : LineStart) (s : State) (b : LeafStart) → Gives P cs line → Fits P s → begins_core b ≡ true → Under (goes_directly place.depth s) b → Fits P (started_in core_known b t cs line tail place s)
unfolding started_in begins_core indented_started fence_started html_started heading_started_in heading_put info_of
started_fits P t cs line tail place s start.Blank g h k u = closed_fits P t place.depth s h
started_fits P t cs line tail place s start.Text g h k u = text_fits P t cs line place s g h
started_fits P t cs line tail place s (start.Indented column) g h k u = code_fits P t cs column line _ g (begins_fits P t place.depth leaf.Indented kind.Indented (cell_place cs column line.end) line s refl refl h)
started_fits P t cs line tail place s (start.Heading x) g h k u = finished_fits P _ (piece_taken_fits P (heading_piece cs x line) line true _ (g.heading x) (begins_fits P t place.depth leaf.Nothing (kind.Heading x.level None) (start_of cs place line) line s refl refl h))
started_fits P t cs line tail place s (start.Fence f) g h k u = begins_fits P t place.depth (leaf.Fenced f) (info_of cs place.cursor f line) (start_of cs place line) line s refl refl h
started_fits P t cs line tail place s (start.Html x) g h k u = code_fits P t cs place.cursor.column line _ g (begins_fits P t place.depth (leaf.Html x) kind.Html (cell_place cs place.cursor.column line.end) line s refl refl h)
started_fits P t cs line tail place s (start.Underline level) g h k u = underline_fits P t cs line tail place level s g (direct_words place.depth s u) h
started_fits P t cs line tail place s start.Rule g h k u = rule_fits P t cs line place s h
started_fits P t cs line tail place s (start.Metadata x) g h k u = absurd cc
started_fits P t cs line tail place s (start.Task d) g h k u = absurd cc
started_fits P t cs line tail place s (start.QuoteKind x) g h k u = absurd cc

-- an item goes into a list

-- the innermost container of a page is a list
abbrev InList : State → Type 0
InList s = ends_in_list (outers s.opened) ≡ true

in_list : (sort : ℕ) (s : State) → is_in_list sort s ≡ true → InList s
unfolding is_in_list
in_list sort s h = by (last_split s.opened)
  where
    listed : (c : Container) → is_list_of sort c ≡ true → is_list_sort (container_sort c) ≡ true
    listed container.Quote k = k
    listed (container.List same) k = refl
    listed (container.Item width) k = k
    listed container.Footnote k = k
    listed container.Definitions k = refl
    listed (container.Definition width) k = k

    by : (s.opened ≡ []) ⊎ ((us : List Opened) × (o : Opened) × (s.opened ≡ us ++ o ∷ [])) → InList s
    by (inl e) = absurd (true≢false (sym h ∙ ap (λ (os : List Opened). option_map_or (λ (o : Opened). is_list_of sort o.container) (slice_get os (length os - 1)) false) e))
    by (inr (us, o, e)) =
        ap (λ (os : List Opened). ends_in_list (outers os)) e ∙ ends_listed us o
        ∙ listed o.container (sym (ap (λ (x : Option Opened). option_map_or (λ (y : Opened). is_list_of sort y.container) x false) (got_last us o)) ∙ sym (ap (λ (os : List Opened). option_map_or (λ (y : Opened). is_list_of sort y.container) (slice_get os (length os - 1)) false) e) ∙ h)

opened_list : (sort : ℕ) (k : BlockKind) (at : ℕ) (line : Line) (s : State) → InList (opened_with (container.List sort) k at line s)
unfolding opened_with begun is_quote
opened_list sort k at line s = ends_listed (had_marked s.opened) (record { container = container.List sort; block = _; end = line.end; line = line.number; had = false })

list_started_fits : (P : Piece → Type 0) (i : ItemStart) (at : ℕ) (line : Line) (s : State) → s.leaf ≡ leaf.Nothing → Fits P s → Fits P (list_started i at line s) × InList (list_started i at line s) × ((list_started i at line s).leaf ≡ leaf.Nothing)
unfolding list_started
list_started_fits P i at line s e h = by (is_in_list i.sort s) refl
  where
    by : (b : Bool) → is_in_list i.sort s ≡ b → Fits P (if b then s else opened_with (container.List i.sort) (kind.List i.number) at line (list_left s)) × InList (if b then s else opened_with (container.List i.sort) (kind.List i.number) at line (list_left s)) × ((if b then s else opened_with (container.List i.sort) (kind.List i.number) at line (list_left s)).leaf ≡ leaf.Nothing)
    by true k = (h, in_list i.sort s k, e)
    by false k = (
      opened_with_fits P (container.List i.sort) (kind.List i.number) at line (list_left s) refl refl tt (list_left_leaf s ∙ e) (list_left_fits P s h),
      opened_list i.sort (kind.List i.number) at line (list_left s),
      opened_with_leaf (container.List i.sort) (kind.List i.number) at line (list_left s) ∙ list_left_leaf s ∙ e,
    )

begun_fits : (P : Piece → Type 0) (t : List ℕ) (cs : List Cell) (line : Line) (place : LineStart) (s : State) (o : Option ContainerStart) → is_core_start o ≡ true → Fits P s → Fits P ((begun_at t cs line place s o).0)
unfolding is_core_start item_opened quote_opened
begun_fits P t cs line place s None k h = h
begun_fits P t cs line place s (Some begins.Quote) k h =
    opened_with_fits P container.Quote (kind.Quote None) (start_of cs place line) line (list_left (closed_to t place.depth s)) refl refl tt (list_left_leaf (closed_to t place.depth s) ∙ closed_shut t place.depth s)
    (list_left_fits P (closed_to t place.depth s) (closed_fits P t place.depth s h))
begun_fits P t cs line place s (Some (begins.Item i)) k h = by (list_started_fits P i (start_of cs place line) line (closed_to t place.depth s) (closed_shut t place.depth s) (closed_fits P t place.depth s h))
  where
    u : State
    u = list_started i (start_of cs place line) line (closed_to t place.depth s)

    by : Fits P u × InList u × (u.leaf ≡ leaf.Nothing) → Fits P (opened_with (container.Item i.width) kind.Item (start_of cs place line) line u)
    by (f, l, e) = opened_with_fits P (container.Item i.width) kind.Item (start_of cs place line) line u refl refl l e f
begun_fits P t cs line place s (Some (begins.Footnote n)) k h = absurd cc
begun_fits P t cs line place s (Some (begins.Definition d)) k h = absurd cc

containers_fit : (P : Piece → Type 0) (t : List ℕ) (cs : List Cell) (line : Line) (tail : Tail) (place : LineStart) (s : State) → Fits P s → Fits P ((containers_opened_in CORE t cs line tail place s).0)
unfolding container_once_in
containers_fit P t cs line tail place s h =
    repeated_keeps (Fits P) (container_once_in CORE t cs line tail)
    (λ next u k. begun_fits P t cs line next u (container_in CORE cs tail next.cursor (goes_directly next.depth u)) (container_core cs tail next.cursor (goes_directly next.depth u)) k)
    (length cs) place s h

leaf_started_fits : (P : Piece → Type 0) (t : List ℕ) (cs : List Cell) (line : Line) (place : LineStart) (s : State) → Gives P cs line → Fits P s → Fits P (leaf_started_in core_known t cs line place s)
unfolding leaf_started_in
leaf_started_fits P t cs line place s g h = by (containers_opened_in CORE t cs line (tail_of cs) place s) (containers_fit P t cs line (tail_of cs) place s h)
  where
    by : (r : State × LineStart) → Fits P (r.0) → Fits P (started_at_in core_known t cs line (tail_of cs) r)
    by (u, next) k = subst (Fits P) (sym (core_begun t cs line (tail_of cs) u next))
        (started_fits P t cs line (tail_of cs) next u (core_at t cs line (tail_of cs) u next) g k (leaf_core cs (bytes_between t (start_of cs next line) line.end) (tail_of cs) next.cursor (is_paragraph u.leaf) (goes_directly next.depth u))
        (under_at cs (bytes_between t (start_of cs next line) line.end) (tail_of cs) next.cursor (is_paragraph u.leaf) (goes_directly next.depth u)))

turned_fits : (P : Piece → Type 0) (t : List ℕ) (cs : List Cell) (line : Line) (place : LineStart) (s : State) (u : Turn) → Gives P cs line → Fits P s → turns_core u s.leaf ≡ true → Fits P (turn_taken_in core_known u t cs line place s)
unfolding passed_in turns_core leaf_ended
turned_fits P t cs line place s turn.Closes g h k = finished_fits P _ (record { nest = h.nest; open_ones = h.open_ones; words = h.words; lasts = h.lasts; pieces = h.pieces })
turned_fits P t cs line place s (turn.Takes column) g h k = code_fits P t cs column line s g h
turned_fits P t cs line place s turn.Passes g h k = leaf_started_fits P t cs line place s g h
turned_fits P t cs line place s (turn.Row x) g h k = absurd cc

-- the columns of a line
abbrev pub cells_in : List ℕ → Line → List Cell
cells_in t line = cells_of [] line.start (bytes_between t line.start line.end)

line_fits : (P : Piece → Type 0) (t : List ℕ) (line : Line) (s : State) → Gives P (cells_in t line) line → is_core s.leaf ≡ true → Fits P s → Fits P (line_taken_in core_known t s line)
unfolding line_taken_in cells_taken_in touched turn_in
line_fits P t line s g c h = by (matched (cells_in t line) s.opened s.quotes)
  where
    by : (found : ℕ × Cursor) → Fits P (taken_at_in core_known t (cells_in t line) line (record { cursor = found.1; depth = found.0 }) (touched line (found.0) s))
    by (depth, cursor) =
        turned_fits P t (cells_in t line) line (record { cursor = cursor; depth = depth }) (touched line depth s) _ g
        (record { nest = h.nest; open_ones = front_touched depth line.end line.number s.quotes s.opened (shapes s.blocks) h.open_ones; words = h.words; lasts = h.lasts; pieces = h.pieces })
        (turn_of_core t (cells_in t line) line (record { cursor = cursor; depth = depth }) (touched line depth s) c)

pub run_fits : (P : Piece → Type 0) (t : List ℕ) (ls : List Line) (s : State) → AllByRecursion (λ (l : Line). Gives P (cells_in t l) l) ls → is_core s.leaf ≡ true → Fits P s → Fits P (fold (line_taken_in core_known t) s ls)
run_fits P t [] s g c h = h
run_fits P t (l ∷ ls) s g c h = run_fits P t ls (line_taken_in core_known t s l) (g.1) (line_core t l s c) (line_fits P t l s (g.0) c h)

-- what is so of the blocks and lines that are found in a text
pub record Found (P : Piece → Type 0) (blocks : List Block) (pieces : List Piece) : Type 0 where
  pub nest : Nested [] 0 (shapes blocks)
  pub lasts : AllByRecursion (λ (b : Block). sort_of b.kind ≡ None → b.last ≤ length pieces) blocks
  pub each : AllByRecursion P pieces

pub found_fits : (P : Piece → Type 0) (t : List ℕ) → AllByRecursion (λ (l : Line). Gives P (cells_in t l) l) (lines_of t) → Found P (blocks_in CORE t).blocks (blocks_in CORE t).pieces
unfolding blocks_in page_in known_of is_core is_paragraph
found_fits P t g = record {
  nest = fits.nest;
  lasts = all_weaker (Within s.kept (length s.pieces)) (λ (b : Block). sort_of b.kind ≡ None → b.last ≤ length s.pieces) s.blocks (λ b w e. (w e).1) fits.lasts;
  each = fits.pieces;
}
  where
    s : State
    s = closed_to t 0 (fold (line_taken_in core_known t) first_page (lines_of t))

    fits : Fits P s
    fits = closed_fits P t 0 (fold (line_taken_in core_known t) first_page (lines_of t)) (run_fits P t (lines_of t) first_page g refl (record { nest = tt; open_ones = tt; words = λ e. absurd (true≢false (sym e)); lasts = tt; pieces = tt }))

-- any piece
abbrev Any : Piece → Type 0
Any p = Unit {0}

pub blocks-nested : BlocksAreNested
blocks-nested names text = subst (λ v. Nested [] 0 (shapes v.blocks)) (sym (names-change-none names text)) (found_fits Any text (all_lines (lines_of text))).nest
  where
    all_lines : (ls : List Line) → AllByRecursion (λ (l : Line). Gives Any (cells_in text l) l) ls
    all_lines [] = tt
    all_lines (l ∷ ls) = (record { code = λ c. tt; text = λ c. tt; heading = λ h. tt }, all_lines ls)
