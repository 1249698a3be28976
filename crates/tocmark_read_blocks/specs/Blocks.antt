-- How a line changes a page (CommonMark, appendix "A parsing strategy").
use Rattle.std.specs.Prelude.{ℕ, Bool, true, false, ◌==◌, ◌&&◌, ◌||◌, nat_lt, nat_le, if◌then◌else◌, List, [], length, map}
use Rattle.std.specs.List.{fold}
use Rattle.tocmark_event.specs.declared.event.HeadingLevel.{HeadingLevel}
use Rattle.tocmark_read_scan.specs.Basic.{bytes_between}
use Rattle.tocmark_read_scan.specs.declared.syntax.Syntax.{Syntax}
use Rattle.tocmark_read_scan.specs.declared.syntax.TheConstants.{CORE}
use Rattle.tocmark_read_lines.specs.Cells.{cells_of}
use Rattle.tocmark_read_lines.specs.Containers.{matched, touched_from}
use Rattle.tocmark_read_lines.specs.Lines.{lines_of}
use Rattle.tocmark_read_lines.specs.Marks.{tail_of}
use Rattle.tocmark_read_lines.specs.declared.beginnings.Tail.{Tail}
use Rattle.tocmark_read_lines.specs.declared.cell.Cell.{Cell}
use Rattle.tocmark_read_lines.specs.declared.line.Line.{Line}
use Rattle.tocmark_read_page.specs.Definitions.{DefinitionView, definition_view}
use Rattle.tocmark_read_page.specs.Leaves.{is_paragraph}
use Rattle.tocmark_read_page.specs.Pages.{State, first_page, leaf_finished, settled, closed_to, has_text, start_of}
use Rattle.tocmark_read_page.specs.declared.line_start.Known.{Known}
use Rattle.tocmark_read_page.specs.declared.line_start.LineStart.{LineStart}
use Rattle.tocmark_read_page.specs.declared.page.Block.{Block}
use Rattle.tocmark_read_page.specs.declared.piece.Piece.{Piece}
use Rattle.tocmark_read_constructs.specs.Footnotes.{is_ended_by_note}
use Rattle.tocmark_read_constructs.specs.Headings.{heading_started_in, underlined_in}
use Rattle.tocmark_read_constructs.specs.Metadata.{known_of, metadata_started, metadata_in}
use Rattle.tocmark_read_constructs.specs.Quotes.{quote_kind_in, tag_in, quote_kind_started}
use Rattle.tocmark_read_constructs.specs.Tables.{header_of, delimiters_taken, row_taken}
use Rattle.tocmark_read_constructs.specs.Tasks.{task_in, task_started}
use Rattle.tocmark_read_blocks.specs.Codes.{code_taken, indented_started, fence_started, html_started}
use Rattle.tocmark_read_blocks.specs.Containers.{goes_directly, containers_opened_in}
use Rattle.tocmark_read_blocks.specs.Leaves.{leaf_at, leaf_turn, rule_at, metadata_or, task_or, quote_kind_or, tag_or}
use Rattle.tocmark_read_blocks.specs.Paragraphs.{text_taken, rule_started}
use Rattle.tocmark_read_blocks.specs.declared.block.Blocks.{Blocks}
use Rattle.tocmark_read_blocks.specs.declared.leaf.LeafStart.{LeafStart}
use Rattle.tocmark_read_blocks.specs.declared.leaf.LeafStart.TheVariants as start
use Rattle.tocmark_read_blocks.specs.declared.leaf.Turn.{Turn}
use Rattle.tocmark_read_blocks.specs.declared.leaf.Turn.TheVariants as turn

-- some extension has a say in what a line begins
unfoldable pub extends_starts : Syntax → Bool
extends_starts syntax = syntax.task_lists || syntax.yaml_metadata || syntax.pluses_metadata || syntax.quote_kinds

-- what a line begins, in an extension or in CommonMark
abbrev pub start_or : Known → List ℕ → List Cell → Line → LineStart → Bool → State → LeafStart → LeafStart
start_or known text cells line place directly s other =
    quote_kind_or (quote_kind_in known text cells line place s)
    (tag_or (tag_in known text cells line place directly s)
    (task_or (task_in known text cells line place s) (metadata_or (metadata_in known text cells line place directly s) other)))

-- a thematic break or metadata where one is, and text elsewhere
abbrev pub rule_or_text : LeafStart → List ℕ → List Cell → Line → LineStart → State → State
rule_or_text start.Rule text cells line place s = rule_started text cells line place s
rule_or_text start.Blank text cells line place s = text_taken text cells line place s
rule_or_text start.Text text cells line place s = text_taken text cells line place s
rule_or_text (start.Indented c) text cells line place s = text_taken text cells line place s
rule_or_text (start.Heading h) text cells line place s = text_taken text cells line place s
rule_or_text (start.Fence f) text cells line place s = text_taken text cells line place s
rule_or_text (start.Html k) text cells line place s = text_taken text cells line place s
rule_or_text (start.Underline l) text cells line place s = text_taken text cells line place s
rule_or_text (start.Metadata k) text cells line place s = metadata_started text cells line place k s
rule_or_text (start.Task d) text cells line place s = text_taken text cells line place s
rule_or_text (start.QuoteKind k) text cells line place s = text_taken text cells line place s

-- a heading is underlined only if it has text (CommonMark 4.3)
abbrev pub underlined_if : Known → Bool → LeafStart → List ℕ → List Cell → Line → LineStart → HeadingLevel → State → State
underlined_if known true other text cells line place level s = underlined_in known text level line s
underlined_if known false other text cells line place level s = rule_or_text other text cells line place s

-- after definitions alone, an underline is metadata, a thematic break or text
unfoldable pub underline_taken_in : Known → List ℕ → List Cell → Line → Tail → LineStart → HeadingLevel → State → State
underline_taken_in known text cells line tail place level s =
    let t = settled text s in
    underlined_if known (has_text t) (metadata_or (metadata_in known text cells line place false t) (rule_at cells tail place.cursor.ink))
    text cells line place level t

-- what the rest of a line begins comes into the page
unfoldable pub started_in : Known → LeafStart → List ℕ → List Cell → Line → Tail → LineStart → State → State
started_in known start.Blank text cells line tail place s = closed_to text place.depth s
started_in known start.Text text cells line tail place s = text_taken text cells line place s
started_in known (start.Indented column) text cells line tail place s = indented_started text cells line place column s
started_in known (start.Heading heading) text cells line tail place s = heading_started_in known text cells line place heading s
started_in known (start.Fence fence) text cells line tail place s = fence_started text cells line place fence s
started_in known (start.Html k) text cells line tail place s = html_started text cells line place k s
started_in known (start.Underline level) text cells line tail place s = underline_taken_in known text cells line tail place level s
started_in known start.Rule text cells line tail place s = rule_started text cells line place s
started_in known (start.Metadata k) text cells line tail place s = metadata_started text cells line place k s
started_in known (start.Task done) text cells line tail place s = task_started text cells line place done s
started_in known (start.QuoteKind k) text cells line tail place s = quote_kind_started cells line place k s

-- the leaf that begins after the containers that began
abbrev pub started_at_in : Known → List ℕ → List Cell → Line → Tail → State × LineStart → State
started_at_in known text cells line tail found =
    let s = found.0 in
    let place = found.1 in
    let directly = goes_directly place.depth s in
    started_in known
    (start_or known text cells line place directly s
    (leaf_at cells (bytes_between text (start_of cells place line) line.end) tail place.cursor (is_paragraph s.leaf) directly))
    text cells line tail place s

-- first containers begin, then a leaf
unfoldable pub leaf_started_in : Known → List ℕ → List Cell → Line → LineStart → State → State
leaf_started_in known text cells line place s =
    started_at_in known text cells line (tail_of cells)
    (containers_opened_in known.syntax text cells line (tail_of cells) place s)

-- the line was put into a paragraph whose containers don't all go on
abbrev pub is_lazy : LineStart → State → State → Bool
is_lazy place before after = nat_lt place.depth (length before.opened) && (length after.blocks == length before.blocks)

-- what a line may be as a header is noted after it
abbrev pub noted : List Cell → LineStart → State → State → State
noted cells place before after = record after { header = header_of cells place.cursor (is_lazy place before after) }

-- a delimiter row was taken, or something else begins
abbrev pub tabled_as : Known → List ℕ → List Cell → Line → LineStart → State × Bool → State
tabled_as known text cells line place (s, true) = s
tabled_as known text cells line place (s, false) = noted cells place s (leaf_started_in known text cells line place s)

-- the delimiter row of a table is before all else
unfoldable pub tabled_in : Known → List ℕ → List Cell → Line → LineStart → State → State
tabled_in known text cells line place s =
    tabled_as known text cells line place (delimiters_taken text cells line place.cursor (goes_directly place.depth s) s)

-- a line in which the open leaf doesn't go on by itself
unfoldable pub passed_in : Known → List ℕ → List Cell → Line → LineStart → State → State
passed_in known text cells line place s =
    if known.syntax.tables then tabled_in known text cells line place s else leaf_started_in known text cells line place s

-- the open leaf has its turn only where all containers round it go on
unfoldable pub turn_of : List ℕ → List Cell → Line → LineStart → State → Turn
turn_of text cells line place s = if nat_le (length s.opened) place.depth then leaf_turn text cells line place.cursor s.leaf else turn.Passes

-- the turn of the open leaf, where footnotes may be read
unfoldable pub turn_in : Known → List ℕ → List Cell → Line → LineStart → State → Turn
turn_in known text cells line place s =
    if known.syntax.footnotes && is_ended_by_note cells place s then turn.Passes else turn_of text cells line place s

-- the open leaf ends with this line
unfoldable pub leaf_ended : Line → State → State
leaf_ended line s = leaf_finished (record s { end = line.end; line = line.number })

-- the quotes that go on in a line reach to it
unfoldable pub touched : Line → ℕ → State → State
touched line depth s = record s { opened = touched_from depth line.end line.number s.quotes s.opened }

-- the open leaf ends with the line, takes it, or lets something else begin
abbrev pub turn_taken_in : Known → Turn → List ℕ → List Cell → Line → LineStart → State → State
turn_taken_in known turn.Closes text cells line place s = leaf_ended line s
turn_taken_in known (turn.Takes column) text cells line place s = code_taken text cells column line s
turn_taken_in known turn.Passes text cells line place s = passed_in known text cells line place s
turn_taken_in known (turn.Row t) text cells line place s = row_taken text cells line place.cursor t s

-- a line is taken from the place after the containers that go on
abbrev pub taken_at_in : Known → List ℕ → List Cell → Line → LineStart → State → State
taken_at_in known text cells line place s = turn_taken_in known (turn_in known text cells line place s) text cells line place s

-- which containers go on, then what the open leaf does with the line, then what begins
unfoldable pub cells_taken_in : Known → List ℕ → List Cell → Line → State → State
cells_taken_in known text cells line s =
    let found = matched cells s.opened s.quotes in
    taken_at_in known text cells line (record { cursor = found.1; depth = found.0 }) (touched line (found.0) s)

-- a line comes in
unfoldable pub line_taken_in : Known → List ℕ → State → Line → State
line_taken_in known text s line = cells_taken_in known text (cells_of [] line.start (bytes_between text line.start line.end)) line s

-- all lines come in, and then all blocks end
unfoldable pub page_in : Syntax → List ℕ → State
page_in syntax text = closed_to text 0 (fold (line_taken_in (known_of syntax text (lines_of text)) text) first_page (lines_of text))

-- what a text is made of, as plain values
pub record BlocksView : Type 0 where
  pub blocks : List Block
  pub pieces : List Piece
  pub definitions : List DefinitionView

-- blocks, pieces and definitions as lists
abbrev pub blocks_view : Blocks → BlocksView
blocks_view b = record { blocks = b.blocks.items; pieces = b.pieces.items; definitions = map definition_view b.definitions.items }

-- the blocks of a text
unfoldable pub blocks_in : Syntax → List ℕ → BlocksView
blocks_in syntax text =
    let s = page_in syntax text in
    record { blocks = s.blocks; pieces = s.pieces; definitions = s.definitions }

-- what is known of a text where no extension is read
abbrev pub core_known : Known
core_known = record { syntax = CORE; yaml_end = 0; pluses_end = 0 }

-- the same of CommonMark alone
abbrev pub started : LeafStart → List ℕ → List Cell → Line → Tail → LineStart → State → State
started = started_in core_known

abbrev pub started_at : List ℕ → List Cell → Line → Tail → State × LineStart → State
started_at = started_at_in core_known

abbrev pub leaf_started : List ℕ → List Cell → Line → LineStart → State → State
leaf_started = leaf_started_in core_known

abbrev pub cells_taken : List ℕ → List Cell → Line → State → State
cells_taken = cells_taken_in core_known

abbrev pub line_taken : List ℕ → State → Line → State
line_taken = line_taken_in core_known

abbrev pub blocks_of : List ℕ → BlocksView
blocks_of = blocks_in CORE
