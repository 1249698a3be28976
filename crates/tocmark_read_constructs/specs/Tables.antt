-- Tables: their lines, how one begins, and how its rows come into a page.
use Rattle.std.specs.Prelude.{ℕ, ◌-◌, ◌%◌, Bool, true, false, not, ◌==◌, ◌&&◌, ◌||◌, nat_lt, nat_le, if◌then◌else◌, List, [], ◌∷◌, ◌++◌, length, drop, reverse, take_while, Option, Some, None, is_some, take, slice_get, slice_set}
use Rattle.std.specs.List.{fold, list_all, list_any}
use Rattle.std.specs.Option.{option_map_or}
use Rattle.tocmark_event.specs.declared.event.Alignment.{Alignment}
use Rattle.tocmark_event.specs.declared.event.Alignment.TheVariants as align
use Rattle.tocmark_read_scan.specs.Basic.{plus, byte_at, bytes_between}
use Rattle.tocmark_read_scan.specs.Repeat.{repeated}
use Rattle.tocmark_read_lines.specs.Cells.{cell_byte, ink_from, cell_place, indent_of, is_blank_at}
use Rattle.tocmark_read_lines.specs.Html.{html_kind}
use Rattle.tocmark_read_lines.specs.Marks.{fence_at, heading_at, is_rule, marker_at, tail_of}
use Rattle.tocmark_read_lines.specs.declared.beginnings.Tail.{Tail}
use Rattle.tocmark_read_lines.specs.declared.cell.Cell.{Cell}
use Rattle.tocmark_read_lines.specs.declared.cell.Cursor.{Cursor}
use Rattle.tocmark_read_lines.specs.declared.html.HtmlKind.{HtmlKind}
use Rattle.tocmark_read_lines.specs.declared.html.HtmlKind.TheVariants as html
use Rattle.tocmark_read_lines.specs.declared.line.Line.{Line}
use Rattle.tocmark_read_page.specs.Pages.{State, leaf_closed, leaf_opened, settled, times, last_piece}
use Rattle.tocmark_read_page.specs.declared.leaf.Leaf.TheVariants as leaf
use Rattle.tocmark_read_page.specs.declared.leaf.Table.{Table}
use Rattle.tocmark_read_page.specs.declared.page.Block.{Block}
use Rattle.tocmark_read_page.specs.declared.page.BlockKind.{BlockKind}
use Rattle.tocmark_read_page.specs.declared.page.BlockKind.TheVariants as kind
use Rattle.tocmark_read_page.specs.declared.page.HeaderLine.{HeaderLine}
use Rattle.tocmark_read_page.specs.declared.page.HeaderLine.TheVariants as header
use Rattle.tocmark_read_page.specs.declared.piece.Piece.{Piece}
use Rattle.tocmark_read_constructs.specs.Blanks.{behind_blanks}
use Rattle.tocmark_read_constructs.specs.declared.table.Column.{Column}

-- a bar, a colon, a dash or a space
unfoldable pub is_delimiter_byte : ℕ → Bool
is_delimiter_byte b = (b == 124) || (b == 58) || (b == 45) || (b == 32)

-- a column before its first byte
abbrev pub no_marks : Column
no_marks = record { left = false; right = false; dash = false }

-- a column without a mark
unfoldable pub is_blank_column : Column → Bool
is_blank_column c = not c.left && not c.dash

-- one more byte of a column: a colon before its other marks says left, one after them right
unfoldable pub column_step : Column → ℕ → Column
column_step c b =
    if b == 45 then record c { dash = true }
    else (if b == 58 then (if is_blank_column c then record c { left = true } else record c { right = true }) else c)

-- how a column is aligned
unfoldable pub alignment_of : Column → Alignment
alignment_of c =
    if c.left && c.right then align.Center
    else (if c.left then align.Left else (if c.right then align.Right else align.None))

-- one more byte of a delimiter row: a bar ends the column
unfoldable pub columns_step : List Alignment × Column → ℕ → List Alignment × Column
columns_step (found, c) b = if b == 124 then (found ++ alignment_of c ∷ [], no_marks) else (found, column_step c b)

-- what is left behind the last bar is a column if it has a mark
unfoldable pub columns_ended : List Alignment × Column → List Alignment
columns_ended (found, c) = if not (is_blank_column c) then found ++ alignment_of c ∷ [] else found

-- a row without the bar in front
unfoldable pub behind_bar : List ℕ → List ℕ
behind_bar row = if byte_at row 0 == 124 then drop 1 row else row

-- the alignments of the columns of a delimiter row
unfoldable pub alignments_of : List ℕ → List Alignment
alignments_of row = columns_ended (fold columns_step ([], no_marks) (behind_bar row))

-- whether the column so far has a dash, and whether one without ended
unfoldable pub bare_step : Bool × Bool → ℕ → Bool × Bool
bare_step (dash, bare) b = if b == 124 then (false, bare || not dash) else (dash || (b == 45), bare)

-- bars, colons, dashes and spaces: a bar, a dash, and a dash in each column that a bar ends
unfoldable pub is_delimiter_row : List ℕ → Bool
is_delimiter_row row =
    list_all is_delimiter_byte row && list_any (λ b. b == 124) row && list_any (λ b. b == 45) row
    && not ((fold bare_step (false, false) (behind_bar row)).1)

-- a bar divides cells if no backslash is just before it
unfoldable pub is_bar : ℕ → ℕ → Bool
is_bar before b = (b == 124) && not (before == 92)

-- the place of the first bar among bytes from a place on, after a byte
abbrev pub next_bar_from : ℕ → ℕ → ℕ → List ℕ → ℕ
next_bar_from end place before [] = end
next_bar_from end place before (b ∷ bs) = if is_bar before b then place else next_bar_from end (plus place 1) b bs

-- the place of the first bar that divides cells, from the front of a cell on
abbrev pub next_bar : List ℕ → ℕ → ℕ → ℕ
next_bar text from end = next_bar_from end from 124 (bytes_between text from end)

-- a bar in front of a row is dropped
unfoldable pub first_cell : List ℕ → ℕ → ℕ
first_cell text start = if byte_at text start == 124 then plus start 1 else start

-- where the cell that begins at a place ends: nothing but blanks after the last bar is none
unfoldable pub cell_end : List ℕ → ℕ → ℕ → Option ℕ
cell_end text end place =
    let bar = next_bar text place end in
    if nat_lt bar end || nat_lt (behind_blanks text place) end then Some bar else None

-- one more cell, and the place after its bar
unfoldable pub count_once : List ℕ → ℕ → ℕ → ℕ → ℕ × Option ℕ
count_once text end place count = option_map_or (λ bar. (plus count 1, Some (plus bar 1))) (cell_end text end place) (count, None)

-- the number of cells of a row
abbrev pub cell_count : List ℕ → ℕ → ℕ → ℕ
cell_count text start end = (repeated (count_once text end) (length text) (first_cell text start) 0).0

-- the backslashes at the end of a row
abbrev pub backslashes : List ℕ → ℕ
backslashes row = length (take_while (λ b. b == 92) (reverse row))

-- the end of a row without its blanks
abbrev pub trimmed_end : List ℕ → ℕ → ℕ → ℕ
trimmed_end text start end = end - length (take_while (λ b. (b == 32) || (b == 9)) (reverse (bytes_between text start end)))

-- the columns of a header row: it has a dividing bar, and no escaping backslash at its end
unfoldable pub header_columns : List ℕ → ℕ → ℕ → ℕ
header_columns text start end =
    let last = trimmed_end text start end in
    if nat_lt (next_bar text start last) last && (backslashes (bytes_between text start last) % 2 == 0)
    then cell_count text start end else 0

-- an HTML block that isn't any tag alone
abbrev pub is_named_html : HtmlKind → Bool
is_named_html html.Raw = true
is_named_html html.Comment = true
is_named_html html.Instruction = true
is_named_html html.Declaration = true
is_named_html html.CharacterData = true
is_named_html html.Named = true
is_named_html html.Alone = false

-- an HTML block that can interrupt a table begins
unfoldable pub begins_named_html : List ℕ → Bool
begins_named_html row = option_map_or is_named_html (html_kind row) false

-- a line that is no row: a quote, a heading, a fence, a rule, an item, HTML, or nothing but a bar
unfoldable pub ends_table : List Cell → Tail → Cursor → List ℕ → Bool
ends_table cells tail cursor row =
    let b = cell_byte cells cursor.ink in
    (b == 62) || is_some (heading_at cells cursor.ink) || is_some (fence_at cells cursor) || is_rule cells tail cursor.ink
    || is_some (marker_at cells cursor.ink) || begins_named_html row
    || ((b == 124) && nat_le (length cells) (ink_from cells (plus cursor.ink 1)))

-- the place of a line's first byte that is no space
abbrev pub ink_of : List Cell → Line → Cursor → ℕ
ink_of cells line cursor = cell_place cells cursor.ink line.end

-- a line without the spaces in front of it
abbrev pub row_of : List ℕ → List Cell → Line → Cursor → List ℕ
row_of text cells line cursor = bytes_between text (ink_of cells line cursor) line.end

-- a line that goes into a paragraph lazily is no header; one with a bar in front may be after other lines
unfoldable pub header_of : List Cell → Cursor → Bool → HeaderLine
header_of cells cursor lazy =
    if lazy then header.Never
    else (if nat_lt (indent_of cursor) 4 && (cell_byte cells cursor.ink == 124) then header.Always else header.Alone)

-- a table with so many more cells that its rows lack
abbrev pub filled_up : Table → ℕ → Table
filled_up t short = record t { filled = plus t.filled short }

-- a table in which a row of so many cells is, if not too many are missing in the text
unfoldable pub lengthened : Table → ℕ → Option Table
lengthened t count = if nat_lt 262144 (filled_up t (t.columns - count)).filled then None else Some (filled_up t (t.columns - count))

-- the table with this line as a row: a blank line ends it, and one that begins another block
unfoldable pub row_turn : List ℕ → List Cell → Line → Cursor → Table → Option Table
row_turn text cells line cursor t =
    if is_blank_at cells cursor || ends_table cells (tail_of cells) cursor (row_of text cells line cursor) then None
    else lengthened t (cell_count text (ink_of cells line cursor) line.end)

-- the last block
abbrev pub last_block : State → Option Block
last_block s = slice_get s.blocks (length s.blocks - 1)

-- a block of a row, so many levels below the containers
abbrev pub row_block : State → ℕ → BlockKind → ℕ → ℕ → Block
row_block s deeper k start end = record {
  depth = plus (length s.opened) deeper;
  kind = k;
  start = start;
  end = end;
  first = length s.pieces;
  last = length s.pieces;
  loose = false;
  list = None;
  task = None;
}

-- one more block of a row
unfoldable pub row_pushed : ℕ → BlockKind → ℕ → ℕ → State → State
row_pushed deeper k start end s = record s { blocks = s.blocks ++ row_block s deeper k start end ∷ [] }

-- one more cell, from bar to bar; where none is left an empty one at the end of the row
unfoldable pub cell_pushed : List ℕ → ℕ → State × ℕ → State × ℕ
cell_pushed text end (s, place) =
    option_map_or (λ bar. (row_pushed 2 kind.TableCell place bar s, plus bar 1)) (cell_end text end place)
    (row_pushed 2 kind.TableCell end end s, plus end 1)

-- a row of a table with so many cells
unfoldable pub row_put : List ℕ → BlockKind → ℕ → ℕ → ℕ → State → State
row_put text k columns start end s =
    (times (cell_pushed text end) columns (row_pushed 1 k start end s, first_cell text start)).0

-- the table that is open reaches to this line
abbrev pub with_table : Table → Line → State → State
with_table t line s = record s { leaf = leaf.Table t; end = line.end; line = line.number; filled = t.filled }

-- a line is one more row of the open table
unfoldable pub row_taken : List ℕ → List Cell → Line → Cursor → Table → State → State
row_taken text cells line cursor t s = row_put text kind.TableRow t.columns (ink_of cells line cursor) line.end (with_table t line s)

-- the last line of a paragraph is its only one
unfoldable pub is_sole_line : State → Bool
is_sole_line s = option_map_or (λ (b : Block). plus b.first 1 == length s.pieces) (last_block s) false

-- the open paragraph has a line after its definitions, and no box
unfoldable pub may_have_header : State → Bool
may_have_header s = option_map_or (λ (b : Block). nat_lt b.first (length s.pieces) && not (is_some b.task)) (last_block s) false

-- the last line of the open paragraph has as many columns as a delimiter row
unfoldable pub fits_columns : List ℕ → ℕ → State → Bool
fits_columns text columns s = option_map_or (λ (p : Piece). header_columns text p.start p.end == columns) (last_piece s.pieces) false

-- a line that can be a delimiter row where it is
unfoldable pub may_delimit : List ℕ → List Cell → Line → Cursor → Bool → State → Bool
may_delimit text cells line cursor directly s =
    directly && not (is_blank_at cells cursor) && nat_lt (indent_of cursor) 4 && may_have_header s
    && is_delimiter_row (row_of text cells line cursor)

-- definitions in front of a header are looked for once in a paragraph
unfoldable pub tried_once : List ℕ → State → State
tried_once text s = if s.tried == length s.blocks then s else record (settled text s) { tried = length s.blocks }

-- a header that may be only where it is the paragraph's one line
abbrev pub alone_if : State → State × Bool
alone_if s = (s, is_sole_line s)

-- whether the last line of the open paragraph can be a header where it is
abbrev pub header_as : HeaderLine → List ℕ → State → State × Bool
header_as header.Never text s = (s, false)
header_as header.Alone text s = alone_if (tried_once text s)
header_as header.Always text s = (s, true)

-- the same of what was noted of that line
unfoldable pub header_settled : List ℕ → State → State × Bool
header_settled text s = header_as s.header text s

-- the paragraph before its last line
abbrev pub without_header : State → State
without_header s = record s { pieces = take (length s.pieces - 1) s.pieces }

-- the paragraph whose only line was the header becomes the table
unfoldable pub paragraph_turned : BlockKind → Piece → State → State
paragraph_turned k p s = record s {
  blocks = option_map_or
      (λ (b : Block). slice_set s.blocks (length s.blocks - 1) (record b { kind = k; start = p.start; first = length s.pieces; last = length s.pieces }))
      (last_block s) s.blocks;
}

-- a paragraph ends two lines before a delimiter row
abbrev pub ended_before : Line → State → State
ended_before line s =
    record s { kept = length s.pieces; end = option_map_or (λ (p : Piece). p.end) (last_piece s.pieces) s.end; line = line.number - 2 }

-- the paragraph before the header ends, and the table begins after it
unfoldable pub table_begun : List ℕ → Line → BlockKind → Piece → State → State
table_begun text line k p s =
    leaf_opened leaf.Nothing k p.start (record { number = line.number - 1; start = p.start; end = p.end; next = p.next })
    (leaf_closed text (ended_before line s))

-- the last line of the open paragraph becomes a header, and its block the table
abbrev pub table_from : List ℕ → Line → BlockKind → ℕ → Piece → State → State
table_from text line k columns p s =
    let t = if is_sole_line s then paragraph_turned k p (without_header s) else table_begun text line k p (without_header s) in
    row_put text kind.TableHead columns p.start p.end
    (with_table (record { block = length t.blocks - 1; columns = columns; filled = t.filled }) line t)

-- a table begins with the last line of the open paragraph, above a delimiter row
unfoldable pub table_started : List ℕ → Line → BlockKind → ℕ → State → State
table_started text line k columns s = option_map_or (λ p. table_from text line k columns p s) (last_piece s.pieces) s

-- the table begins if the header can be where it is
abbrev pub started_if : List ℕ → Line → BlockKind → ℕ → State × Bool → State × Bool
started_if text line k columns (s, true) = (table_started text line k columns s, true)
started_if text line k columns (s, false) = (s, false)

-- a table begins with a delimiter row, if a header is above it
unfoldable pub delimited : List ℕ → Line → ℕ → State → State × Bool
delimited text line start s =
    let columns = length (alignments_of (bytes_between text start line.end)) in
    if fits_columns text columns s then started_if text line (kind.Table start line.end) columns (header_settled text s) else (s, false)

-- a delimiter row is taken, if a line is one
unfoldable pub delimiters_taken : List ℕ → List Cell → Line → Cursor → Bool → State → State × Bool
delimiters_taken text cells line cursor directly s =
    if may_delimit text cells line cursor directly s then delimited text line (ink_of cells line cursor) s else (s, false)
