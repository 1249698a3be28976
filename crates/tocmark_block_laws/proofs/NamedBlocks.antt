-- Where the reader finds blocks, it asks for no name of a character reference.
use Rattle.std.proofs.Common.{◌≡◌, ℕ, Bool, true, false, List, [], ◌∷◌, refl, ap, ◌∙◌}
use Rattle.std.specs.List.{fold}
use Rattle.tocmark_event.specs.declared.event.HeadingLevel.{HeadingLevel}
use Rattle.tocmark_read_scan.specs.Basic.{bytes_between}
use Rattle.tocmark_read_scan.specs.declared.syntax.Names.{Names}
use Rattle.tocmark_read_scan.specs.declared.syntax.TheConstants.{CORE}
use Rattle.tocmark_read_lines.specs.Cells.{cells_of}
use Rattle.tocmark_read_lines.specs.Containers.{container_in, matched}
use Rattle.tocmark_read_lines.specs.DefinitionLists.{definition_start}
use Rattle.tocmark_read_lines.specs.Lines.{lines_of}
use Rattle.tocmark_read_lines.specs.Marks.{tail_of}
use Rattle.tocmark_read_lines.specs.Footnotes.{note_start}
use Rattle.tocmark_read_lines.specs.declared.beginnings.Tail.{Tail}
use Rattle.tocmark_read_lines.specs.declared.cell.Cell.{Cell}
use Rattle.tocmark_read_lines.specs.declared.cell.Cursor.{Cursor}
use Rattle.tocmark_read_lines.specs.declared.line.Line.{Line}
use Rattle.tocmark_read_page.specs.Leaves.{is_paragraph}
use Rattle.tocmark_read_page.specs.Pages.{State, first_page, settled, closed_to, has_text, start_of}
use Rattle.tocmark_read_page.specs.declared.line_start.Known.{Known}
use Rattle.tocmark_read_page.specs.declared.line_start.LineStart.{LineStart}
use Rattle.tocmark_read_constructs.specs.Headings.{heading_started_in, underlined_in}
use Rattle.tocmark_read_constructs.specs.Metadata.{known_of, metadata_in}
use Rattle.tocmark_read_constructs.specs.Quotes.{quote_kind_in, tag_in}
use Rattle.tocmark_read_constructs.specs.Tasks.{task_in}
use Rattle.tocmark_read_blocks.specs.Blocks.{core_known, underlined_if, underline_taken_in, started_in, started_at_in, leaf_started_in, passed_in, turn_in, turn_of, touched, turn_taken_in, cells_taken_in, line_taken_in, page_in, blocks_in}
use Rattle.tocmark_read_blocks.specs.Containers.{goes_directly, container_once_in, containers_opened_in}
use Rattle.tocmark_read_blocks.specs.Leaves.{leaf_at, rule_at, metadata_or, task_or, quote_kind_or, tag_or}
use Rattle.tocmark_read_blocks.specs.declared.leaf.LeafStart.{LeafStart}
use Rattle.tocmark_read_blocks.specs.declared.leaf.LeafStart.TheVariants as start
use Rattle.tocmark_read_blocks.specs.declared.leaf.Turn.{Turn}
use Rattle.tocmark_read_blocks.specs.declared.leaf.Turn.TheVariants as turn
use Rattle.tocmark_block_laws.specs.Named.{named, NamesChangeNoBlock}

-- what is known where these names are
abbrev known : Names → Known
known n = record { syntax = named n; yaml_end = 0; pluses_end = 0 }

underline_same : (n : Names) (text : List ℕ) (cells : List Cell) (line : Line) (tail : Tail) (place : LineStart) (level : HeadingLevel) (s : State)
    → underline_taken_in (known n) text cells line tail place level s ≡ underline_taken_in core_known text cells line tail place level s
unfolding underline_taken_in metadata_in metadata_or underlined_in
underline_same n text cells line tail place level s = by (has_text (settled text s))
  where
    by : (k : Bool) → underlined_if (known n) k (rule_at cells tail place.cursor.ink) text cells line place level (settled text s) ≡ underlined_if core_known k (rule_at cells tail place.cursor.ink) text cells line place level (settled text s)
    by true = refl
    by false = refl

started_same : (n : Names) (b : LeafStart) (text : List ℕ) (cells : List Cell) (line : Line) (tail : Tail) (place : LineStart) (s : State) → started_in (known n) b text cells line tail place s ≡ started_in core_known b text cells line tail place s
unfolding started_in heading_started_in
started_same n start.Blank text cells line tail place s = refl
started_same n start.Text text cells line tail place s = refl
started_same n (start.Indented c) text cells line tail place s = refl
started_same n (start.Heading h) text cells line tail place s = refl
started_same n (start.Fence f) text cells line tail place s = refl
started_same n (start.Html k) text cells line tail place s = refl
started_same n (start.Underline level) text cells line tail place s = underline_same n text cells line tail place level s
started_same n start.Rule text cells line tail place s = refl
started_same n (start.Metadata k) text cells line tail place s = refl
started_same n (start.Task done) text cells line tail place s = refl
started_same n (start.QuoteKind k) text cells line tail place s = refl

-- containers and the leaf that begins after them
leaf_same : (n : Names) (text : List ℕ) (cells : List Cell) (line : Line) (place : LineStart) (s : State) → leaf_started_in (known n) text cells line place s ≡ leaf_started_in core_known text cells line place s
unfolding leaf_started_in container_once_in container_in definition_start note_start metadata_in metadata_or task_in task_or quote_kind_in quote_kind_or tag_in tag_or
leaf_same n text cells line place s = by (containers_opened_in CORE text cells line (tail_of cells) place s)
  where
    by : (r : State × LineStart) → started_at_in (known n) text cells line (tail_of cells) r ≡ started_at_in core_known text cells line (tail_of cells) r
    by (t, next) = started_same n (leaf_at cells (bytes_between text (start_of cells next line) line.end) (tail_of cells) next.cursor (is_paragraph t.leaf) (goes_directly next.depth t)) text cells line (tail_of cells) next t

turned_same : (n : Names) (u : Turn) (text : List ℕ) (cells : List Cell) (line : Line) (place : LineStart) (s : State) → turn_taken_in (known n) u text cells line place s ≡ turn_taken_in core_known u text cells line place s
unfolding passed_in
turned_same n turn.Closes text cells line place s = refl
turned_same n (turn.Takes column) text cells line place s = refl
turned_same n turn.Passes text cells line place s = leaf_same n text cells line place s
turned_same n (turn.Row t) text cells line place s = refl

line_same : (n : Names) (text : List ℕ) (s : State) (line : Line) → line_taken_in (known n) text s line ≡ line_taken_in core_known text s line
unfolding line_taken_in cells_taken_in turn_in
line_same n text s line =
    let cells : List Cell = cells_of [] line.start (bytes_between text line.start line.end) in
    let found : ℕ × Cursor = matched cells s.opened s.quotes in
    let place : LineStart = record { cursor = found.1; depth = found.0 } in
    turned_same n (turn_of text cells line place (touched line (found.0) s)) text cells line place (touched line (found.0) s)

lines_same : (n : Names) (text : List ℕ) (s : State) (ls : List Line) → fold (line_taken_in (known n) text) s ls ≡ fold (line_taken_in core_known text) s ls
lines_same n text s [] = refl
lines_same n text s (l ∷ ls) = ap (λ (t : State). fold (line_taken_in (known n) text) t ls) (line_same n text s l) ∙ lines_same n text (line_taken_in core_known text s l) ls

pub names-change-none : NamesChangeNoBlock
unfolding blocks_in page_in known_of
names-change-none n text = ap (λ (s : State). (let t : State = closed_to text 0 s in record { blocks = t.blocks; pieces = t.pieces; definitions = t.definitions })) (lines_same n text first_page (lines_of text))
