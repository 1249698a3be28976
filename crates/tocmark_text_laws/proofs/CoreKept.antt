-- A line leaves blocks of CommonMark alone.
use Rattle.std.proofs.Common.{◌≡◌, ℕ, Bool, true, false, if◌then◌else◌, nat_le, List, [], ◌∷◌, length, refl, sym, subst}
use Rattle.std.specs.Prelude.{Option, Some, None}
use Rattle.tocmark_read_scan.specs.Basic.{bytes_between}
use Rattle.tocmark_read_scan.specs.declared.syntax.TheConstants.{CORE}
use Rattle.tocmark_read_lines.specs.Cells.{cells_of, cell_place}
use Rattle.tocmark_read_lines.specs.Containers.{matched, container_in}
use Rattle.tocmark_read_lines.specs.Marks.{tail_of, is_rule}
use Rattle.tocmark_read_lines.specs.declared.beginnings.Tail.{Tail}
use Rattle.tocmark_read_lines.specs.declared.cell.Cell.{Cell}
use Rattle.tocmark_read_lines.specs.declared.cell.Cursor.{Cursor}
use Rattle.tocmark_read_lines.specs.declared.container.ContainerStart.{ContainerStart}
use Rattle.tocmark_read_lines.specs.declared.container.ContainerStart.TheVariants as begins
use Rattle.tocmark_read_lines.specs.declared.line.Line.{Line}
use Rattle.tocmark_event.specs.declared.event.HeadingLevel.{HeadingLevel}
use Rattle.tocmark_read_page.specs.Leaves.{is_paragraph}
use Rattle.tocmark_read_page.specs.Pages.{State, leaf_finished, settled, closed_to, leaf_opened, has_text, start_of}
use Rattle.tocmark_read_page.specs.declared.leaf.Leaf.{Leaf}
use Rattle.tocmark_read_page.specs.declared.leaf.Leaf.TheVariants as leaf
use Rattle.tocmark_read_page.specs.declared.line_start.LineStart.{LineStart}
use Rattle.tocmark_read_constructs.specs.Headings.{heading_put, heading_started_in, underlined, underlined_in}
use Rattle.tocmark_read_constructs.specs.Metadata.{metadata_in}
use Rattle.tocmark_read_constructs.specs.Quotes.{quote_opened}
use Rattle.tocmark_read_blocks.specs.Blocks.{core_known, rule_or_text, underlined_if, underline_taken_in, started_in, started_at_in, leaf_started_in, passed_in, turn_in, leaf_ended, touched, turn_taken_in, taken_at_in, cells_taken_in, line_taken_in}
use Rattle.tocmark_read_blocks.specs.Codes.{indented_started, fence_started, html_started}
use Rattle.tocmark_read_blocks.specs.Containers.{goes_directly, item_opened, begun_at, container_once_in, containers_opened_in}
use Rattle.tocmark_read_blocks.specs.Leaves.{metadata_or, rule_at}
use Rattle.tocmark_read_blocks.specs.Paragraphs.{rule_started}
use Rattle.tocmark_read_blocks.specs.declared.leaf.LeafStart.{LeafStart}
use Rattle.tocmark_read_blocks.specs.declared.leaf.LeafStart.TheVariants as start
use Rattle.tocmark_read_blocks.specs.declared.leaf.Turn.{Turn}
use Rattle.tocmark_read_blocks.specs.declared.leaf.Turn.TheVariants as turn
use Rattle.tocmark_text_laws.proofs.Leaves.{is_core}
use Rattle.tocmark_text_laws.proofs.Core.{begins_core, leaf_core, repeated_keeps, turns_core}
use Rattle.tocmark_text_laws.proofs.Begun.{is_core_start, container_core}
use Rattle.tocmark_text_laws.proofs.Machine.{core_at, core_begun}
use Rattle.tocmark_text_laws.proofs.Turns.{turn_of_core}
use Rattle.std.specs.Prelude.{◌-◌, slice_get, slice_set}
use Rattle.std.specs.Option.{option_map_or}
use Rattle.std.specs.List.{fold}
use Rattle.tocmark_read_lines.specs.Lines.{lines_of}
use Rattle.tocmark_read_lines.specs.Html.{html_ends}
use Rattle.tocmark_read_lines.specs.declared.container.Container.TheVariants as container
use Rattle.tocmark_read_lines.specs.declared.container.ItemStart.{ItemStart}
use Rattle.tocmark_read_page.specs.Pages.{first_page, list_left, opened_with, piece_taken}
use Rattle.tocmark_read_page.specs.Pieces.{code_piece, text_piece, heading_piece, keeps_line}
use Rattle.tocmark_read_page.specs.declared.page.Block.{Block}
use Rattle.tocmark_read_page.specs.declared.page.BlockKind.TheVariants as kind
use Rattle.tocmark_read_page.specs.declared.page.BlockKind.{BlockKind}
use Rattle.tocmark_read_constructs.specs.Metadata.{known_of}
use Rattle.tocmark_read_blocks.specs.Blocks.{page_in, blocks_in}
use Rattle.tocmark_read_blocks.specs.Codes.{info_of, html_ended_as, html_ended, code_taken}
use Rattle.tocmark_read_blocks.specs.Containers.{is_in_list, list_started}
use Rattle.tocmark_read_blocks.specs.Paragraphs.{text_started, in_paragraph, text_taken}
use Rattle.tocmark_text_laws.proofs.Kept.{line_core}
use Rattle.tocmark_text_laws.proofs.Read.{is_core_kind, CoreKinds}
use Rattle.tocmark_text_laws.proofs.CoreBlocks.{Kept, finished_kept, settled_kept, closed_kept, list_left_kept, opened_with_kept, leaf_opened_kept, piece_taken_kept, of_kind_core, changed_core}

html_kept : (rest : List ℕ) (s : State) → Kept s → Kept (html_ended rest s)
unfolding html_ended
html_kept rest s h = by s.leaf
  where
    ends : (b : Bool) → Kept (if b then leaf_finished s else s)
    ends true = finished_kept s h
    ends false = h

    by : (k : Leaf) → Kept (html_ended_as k rest s)
    by leaf.Nothing = h
    by leaf.Paragraph = h
    by leaf.Indented = h
    by (leaf.Fenced f) = h
    by (leaf.Html k) = ends (html_ends k rest)
    by (leaf.Metadata k) = h
    by (leaf.Table t) = h

code_kept : (t : List ℕ) (cs : List Cell) (column : ℕ) (line : Line) (s : State) → Kept s → Kept (code_taken t cs column line s)
unfolding code_taken
code_kept t cs column line s h =
    html_kept (bytes_between t (code_piece cs column line).start (code_piece cs column line).end) (piece_taken (code_piece cs column line) line (keeps_line cs column s.leaf) s)
    (piece_taken_kept (code_piece cs column line) line (keeps_line cs column s.leaf) s h)

text_started_kept : (start : ℕ) (s : State) → Kept s → Kept (text_started start s)
unfolding text_started
text_started_kept start s h = by (slice_get s.blocks (length s.blocks - 1)) refl
  where
    whole : Kept (record s { blocks = option_map_or (λ (b : Block). slice_set s.blocks (length s.blocks - 1) (record b { start = start })) (slice_get s.blocks (length s.blocks - 1)) s.blocks })
    whole = changed_core s.blocks (length s.blocks - 1) (λ (b : Block). record b { start = start }) (λ b k. k) h

    inner : (b : Block) (k : Bool) → CoreKinds (slice_set s.blocks (length s.blocks - 1) (record b { start = start })) → Kept (if k then record s { blocks = slice_set s.blocks (length s.blocks - 1) (record b { start = start }) } else s)
    inner b true w = w
    inner b false w = h

    by : (o : Option Block) → slice_get s.blocks (length s.blocks - 1) ≡ o → Kept (option_map_or (λ (b : Block). if nat_le (length s.pieces) b.first then record s { blocks = slice_set s.blocks (length s.blocks - 1) (record b { start = start }) } else s) o s)
    by None e = h
    by (Some b) e = inner b (nat_le (length s.pieces) b.first) (rw e at whole)

in_paragraph_kept : (t : List ℕ) (cs : List Cell) (line : Line) (place : LineStart) (s : State) → Kept s → Kept (in_paragraph t cs line place s)
unfolding is_core_kind
in_paragraph_kept t cs line place s h = by (is_paragraph s.leaf)
  where
    by : (b : Bool) → Kept (if b then s else leaf_opened leaf.Paragraph kind.Paragraph (text_piece cs place.cursor line).start line (closed_to t place.depth s))
    by true = h
    by false = leaf_opened_kept leaf.Paragraph kind.Paragraph (text_piece cs place.cursor line).start line (closed_to t place.depth s) refl (closed_kept t place.depth s h)

text_kept : (t : List ℕ) (cs : List Cell) (line : Line) (place : LineStart) (s : State) → Kept s → Kept (text_taken t cs line place s)
unfolding text_taken
text_kept t cs line place s h =
    piece_taken_kept (text_piece cs place.cursor line) line true (text_started (text_piece cs place.cursor line).start (in_paragraph t cs line place s))
    (text_started_kept (text_piece cs place.cursor line).start (in_paragraph t cs line place s) (in_paragraph_kept t cs line place s h))

begins_kept : (t : List ℕ) (depth : ℕ) (f : Leaf) (k : BlockKind) (start : ℕ) (line : Line) (s : State) → is_core_kind k ≡ true → Kept s → Kept (leaf_opened f k start line (closed_to t depth s))
begins_kept t depth f k start line s c h = leaf_opened_kept f k start line (closed_to t depth s) c (closed_kept t depth s h)

rule_kept : (t : List ℕ) (cs : List Cell) (line : Line) (place : LineStart) (s : State) → Kept s → Kept (rule_started t cs line place s)
unfolding rule_started is_core_kind
rule_kept t cs line place s h = finished_kept (leaf_opened leaf.Nothing kind.Rule (start_of cs place line) line (closed_to t place.depth s)) (begins_kept t place.depth leaf.Nothing kind.Rule (start_of cs place line) line s refl h)

rule_or_text_kept : (t : List ℕ) (cs : List Cell) (line : Line) (tail : Tail) (place : LineStart) (s : State) → Kept s → Kept (rule_or_text (rule_at cs tail place.cursor.ink) t cs line place s)
unfolding rule_at
rule_or_text_kept t cs line tail place s h = by (is_rule cs tail place.cursor.ink)
  where
    by : (b : Bool) → Kept (rule_or_text (if b then start.Rule else start.Text) t cs line place s)
    by true = rule_kept t cs line place s h
    by false = text_kept t cs line place s h

underlined_kept : (t : List ℕ) (level : HeadingLevel) (line : Line) (s : State) → Kept s → Kept (underlined_in core_known t level line s)
unfolding underlined_in underlined is_core_kind
underlined_kept t level line s h = finished_kept _ (of_kind_core (kind.Heading level None) s.blocks refl h)

underline_kept : (t : List ℕ) (cs : List Cell) (line : Line) (tail : Tail) (place : LineStart) (level : HeadingLevel) (s : State) → Kept s → Kept (underline_taken_in core_known t cs line tail place level s)
unfolding underline_taken_in metadata_in metadata_or
underline_kept t cs line tail place level s h = by (has_text (settled t s))
  where
    by : (b : Bool) → Kept (underlined_if core_known b (rule_at cs tail place.cursor.ink) t cs line place level (settled t s))
    by true = underlined_kept t level line (settled t s) (settled_kept t s h)
    by false = rule_or_text_kept t cs line tail place (settled t s) (settled_kept t s h)

started_kept : (t : List ℕ) (cs : List Cell) (line : Line) (tail : Tail) (place : LineStart) (s : State) (b : LeafStart) → Kept s → begins_core b ≡ true → Kept (started_in core_known b t cs line tail place s)
unfolding started_in begins_core is_core_kind indented_started fence_started html_started heading_started_in heading_put info_of
started_kept t cs line tail place s start.Blank h k = closed_kept t place.depth s h
started_kept t cs line tail place s start.Text h k = text_kept t cs line place s h
started_kept t cs line tail place s (start.Indented column) h k = code_kept t cs column line _ (begins_kept t place.depth leaf.Indented kind.Indented (cell_place cs column line.end) line s refl h)
started_kept t cs line tail place s (start.Heading x) h k = finished_kept _ (piece_taken_kept (heading_piece cs x line) line true _ (begins_kept t place.depth leaf.Nothing (kind.Heading x.level None) (start_of cs place line) line s refl h))
started_kept t cs line tail place s (start.Fence f) h k = begins_kept t place.depth (leaf.Fenced f) (info_of cs place.cursor f line) (start_of cs place line) line s refl h
started_kept t cs line tail place s (start.Html x) h k = code_kept t cs place.cursor.column line _ (begins_kept t place.depth (leaf.Html x) kind.Html (cell_place cs place.cursor.column line.end) line s refl h)
started_kept t cs line tail place s (start.Underline level) h k = underline_kept t cs line tail place level s h
started_kept t cs line tail place s start.Rule h k = rule_kept t cs line place s h
started_kept t cs line tail place s (start.Metadata x) h k = absurd cc
started_kept t cs line tail place s (start.Task d) h k = absurd cc
started_kept t cs line tail place s (start.QuoteKind x) h k = absurd cc

list_kept : (i : ItemStart) (at : ℕ) (line : Line) (s : State) → Kept s → Kept (list_started i at line s)
unfolding list_started is_core_kind
list_kept i at line s h = by (is_in_list i.sort s)
  where
    by : (b : Bool) → Kept (if b then s else opened_with (container.List i.sort) (kind.List i.number) at line (list_left s))
    by true = h
    by false = opened_with_kept (container.List i.sort) (kind.List i.number) at line (list_left s) refl (list_left_kept s h)

begun_kept : (t : List ℕ) (cs : List Cell) (line : Line) (place : LineStart) (s : State) (o : Option ContainerStart) → is_core_start o ≡ true → Kept s → Kept ((begun_at t cs line place s o).0)
unfolding is_core_start item_opened quote_opened is_core_kind
begun_kept t cs line place s None k h = h
begun_kept t cs line place s (Some begins.Quote) k h = opened_with_kept container.Quote (kind.Quote None) (start_of cs place line) line (list_left (closed_to t place.depth s)) refl (list_left_kept (closed_to t place.depth s) (closed_kept t place.depth s h))
begun_kept t cs line place s (Some (begins.Item i)) k h = opened_with_kept (container.Item i.width) kind.Item (start_of cs place line) line (list_started i (start_of cs place line) line (closed_to t place.depth s)) refl (list_kept i (start_of cs place line) line (closed_to t place.depth s) (closed_kept t place.depth s h))
begun_kept t cs line place s (Some (begins.Footnote n)) k h = absurd cc
begun_kept t cs line place s (Some (begins.Definition d)) k h = absurd cc

containers_kept : (t : List ℕ) (cs : List Cell) (line : Line) (tail : Tail) (place : LineStart) (s : State) → Kept s → Kept ((containers_opened_in CORE t cs line tail place s).0)
unfolding container_once_in
containers_kept t cs line tail place s h =
    repeated_keeps Kept (container_once_in CORE t cs line tail)
    (λ next u k. begun_kept t cs line next u (container_in CORE cs tail next.cursor (goes_directly next.depth u)) (container_core cs tail next.cursor (goes_directly next.depth u)) k)
    (length cs) place s h

leaf_started_kept : (t : List ℕ) (cs : List Cell) (line : Line) (place : LineStart) (s : State) → Kept s → Kept (leaf_started_in core_known t cs line place s)
unfolding leaf_started_in
leaf_started_kept t cs line place s h = by (containers_opened_in CORE t cs line (tail_of cs) place s) (containers_kept t cs line (tail_of cs) place s h)
  where
    by : (r : State × LineStart) → Kept (r.0) → Kept (started_at_in core_known t cs line (tail_of cs) r)
    by (u, next) k = subst Kept (sym (core_begun t cs line (tail_of cs) u next))
        (started_kept t cs line (tail_of cs) next u (core_at t cs line (tail_of cs) u next) k (leaf_core cs (bytes_between t (start_of cs next line) line.end) (tail_of cs) next.cursor (is_paragraph u.leaf) (goes_directly next.depth u)))

turned_kept : (t : List ℕ) (cs : List Cell) (line : Line) (place : LineStart) (s : State) (u : Turn) → Kept s → turns_core u s.leaf ≡ true → Kept (turn_taken_in core_known u t cs line place s)
unfolding passed_in turns_core leaf_ended
turned_kept t cs line place s turn.Closes h k = finished_kept _ h
turned_kept t cs line place s (turn.Takes column) h k = code_kept t cs column line s h
turned_kept t cs line place s turn.Passes h k = leaf_started_kept t cs line place s h
turned_kept t cs line place s (turn.Row x) h k = absurd cc

line_kept : (t : List ℕ) (line : Line) (s : State) → is_core s.leaf ≡ true → Kept s → Kept (line_taken_in core_known t s line)
unfolding line_taken_in cells_taken_in touched turn_in
line_kept t line s c h = by (matched cells s.opened s.quotes)
  where
    cells : List Cell
    cells = cells_of [] line.start (bytes_between t line.start line.end)

    by : (found : ℕ × Cursor) → Kept (taken_at_in core_known t cells line (record { cursor = found.1; depth = found.0 }) (touched line (found.0) s))
    by (depth, cursor) = turned_kept t cells line (record { cursor = cursor; depth = depth }) (touched line depth s) _ h (turn_of_core t cells line (record { cursor = cursor; depth = depth }) (touched line depth s) c)

run_kept : (t : List ℕ) (ls : List Line) (s : State) → is_core s.leaf ≡ true → Kept s → Kept (fold (line_taken_in core_known t) s ls)
run_kept t [] s c h = h
run_kept t (l ∷ ls) s c h = run_kept t ls (line_taken_in core_known t s l) (line_core t l s c) (line_kept t l s c h)

pub blocks_core : (t : List ℕ) → CoreKinds (blocks_in CORE t).blocks
unfolding blocks_in page_in known_of is_core
blocks_core t = closed_kept t 0 (fold (line_taken_in core_known t) first_page (lines_of t)) (run_kept t (lines_of t) first_page refl tt)
