-- Code and HTML blocks: how they begin, and what they take of a line.
use Rattle.std.specs.Prelude.{ℕ, if◌then◌else◌, List, length}
use Rattle.tocmark_read_scan.specs.Basic.{plus, bytes_between}
use Rattle.tocmark_read_lines.specs.Cells.{cell_place, ink_from, trimmed}
use Rattle.tocmark_read_lines.specs.Html.{html_ends}
use Rattle.tocmark_read_lines.specs.declared.beginnings.Fence.{Fence}
use Rattle.tocmark_read_lines.specs.declared.cell.Cell.{Cell}
use Rattle.tocmark_read_lines.specs.declared.cell.Cursor.{Cursor}
use Rattle.tocmark_read_lines.specs.declared.html.HtmlKind.{HtmlKind}
use Rattle.tocmark_read_lines.specs.declared.line.Line.{Line}
use Rattle.tocmark_read_page.specs.Pages.{State, leaf_finished, closed_to, leaf_opened, piece_taken, start_of}
use Rattle.tocmark_read_page.specs.Pieces.{code_piece, keeps_line}
use Rattle.tocmark_read_page.specs.declared.leaf.Leaf.{Leaf}
use Rattle.tocmark_read_page.specs.declared.leaf.Leaf.TheVariants as leaf
use Rattle.tocmark_read_page.specs.declared.line_start.LineStart.{LineStart}
use Rattle.tocmark_read_page.specs.declared.page.BlockKind.{BlockKind}
use Rattle.tocmark_read_page.specs.declared.page.BlockKind.TheVariants as kind

-- the info string is the rest of the fence's line without spaces around it
unfoldable pub info_of : List Cell → Cursor → Fence → Line → BlockKind
info_of cells cursor fence line =
    let from = ink_from cells (plus cursor.ink fence.count) in
    let to = trimmed cells from (length cells) 32 in
    kind.Fenced (cell_place cells from line.end) (cell_place cells to line.end)

-- an HTML block of these kinds ends with a line that has its end
abbrev pub html_ended_as : Leaf → List ℕ → State → State
html_ended_as leaf.Nothing rest s = s
html_ended_as leaf.Paragraph rest s = s
html_ended_as leaf.Indented rest s = s
html_ended_as (leaf.Fenced f) rest s = s
html_ended_as (leaf.Html k) rest s = if html_ends k rest then leaf_finished s else s
html_ended_as (leaf.Metadata k) rest s = s
html_ended_as (leaf.Table t) rest s = s

-- the open HTML block ends if this line has its end
unfoldable pub html_ended : List ℕ → State → State
html_ended rest s = html_ended_as s.leaf rest s

-- the rest of a line goes into the open code or HTML block
unfoldable pub code_taken : List ℕ → List Cell → ℕ → Line → State → State
code_taken text cells column line s =
    let code = code_piece cells column line in
    html_ended (bytes_between text code.start code.end) (piece_taken code line (keeps_line cells column s.leaf) s)

-- indented code begins (CommonMark 4.4)
unfoldable pub indented_started : List ℕ → List Cell → Line → LineStart → ℕ → State → State
indented_started text cells line place column s =
    code_taken text cells column line
    (leaf_opened leaf.Indented kind.Indented (cell_place cells column line.end) line (closed_to text place.depth s))

-- a fenced code block begins (CommonMark 4.5)
unfoldable pub fence_started : List ℕ → List Cell → Line → LineStart → Fence → State → State
fence_started text cells line place fence s =
    leaf_opened (leaf.Fenced fence) (info_of cells place.cursor fence line) (start_of cells place line) line (closed_to text place.depth s)

-- the indentation of an HTML block belongs to it
unfoldable pub html_started : List ℕ → List Cell → Line → LineStart → HtmlKind → State → State
html_started text cells line place k s =
    code_taken text cells place.cursor.column line
    (leaf_opened (leaf.Html k) kind.Html (cell_place cells place.cursor.column line.end) line (closed_to text place.depth s))
