-- What a leaf keeps of a line.
use Rattle.std.specs.Prelude.{ℕ, ◌-◌, Bool, true, ◌==◌, ◌&&◌, nat_lt, if◌then◌else◌, List, length, drop, take_while}
use Rattle.tocmark_read_scan.specs.Basic.{plus}
use Rattle.tocmark_read_lines.specs.Cells.{cell_place, ink_from}
use Rattle.tocmark_read_lines.specs.declared.beginnings.Heading.{Heading}
use Rattle.tocmark_read_lines.specs.declared.cell.Cell.{Cell}
use Rattle.tocmark_read_lines.specs.declared.cell.Cursor.{Cursor}
use Rattle.tocmark_read_lines.specs.declared.line.Line.{Line}
use Rattle.tocmark_read_page.specs.declared.leaf.Leaf.{Leaf}
use Rattle.tocmark_read_page.specs.declared.leaf.Leaf.TheVariants as leaf
use Rattle.tocmark_read_page.specs.declared.piece.Piece.{Piece}

-- the columns from one on that stand for the byte at a place
abbrev pub same_place : List Cell → ℕ → ℕ → ℕ
same_place cells column at = length (take_while (λ (c : Cell). c.at == at) (drop column cells))

-- a column after the first one of its tab
unfoldable pub is_split : List Cell → ℕ → Bool
is_split cells column =
    nat_lt 0 column && nat_lt column (length cells) && (cell_place cells (column - 1) 0 == cell_place cells column 0)

-- a line of a leaf
abbrev pub piece_of : ℕ → ℕ → ℕ → ℕ → Piece
piece_of spaces start end next = record { spaces = spaces; from = start; start = start; end = end; next = next }

-- the rest of a line: what is left of a partly used tab is spaces
unfoldable pub code_piece : List Cell → ℕ → Line → Piece
code_piece cells column line =
    let at = cell_place cells column line.end in
    if is_split cells column then piece_of (same_place cells column at) (plus at 1) line.end line.next
    else piece_of 0 at line.end line.next

-- the place of a column, or the place after its tab if the tab begins before it
unfoldable pub whole_place : List Cell → ℕ → Line → ℕ
whole_place cells column line =
    let at = cell_place cells column line.end in
    if is_split cells column then plus at 1 else at

-- a line of a paragraph begins with its first byte that is no space
unfoldable pub text_piece : List Cell → Cursor → Line → Piece
text_piece cells cursor line = record {
  spaces = 0;
  from = whole_place cells cursor.column line;
  start = cell_place cells cursor.ink line.end;
  end = line.end;
  next = line.next;
}

-- the text of a heading on one line
unfoldable pub heading_piece : List Cell → Heading → Line → Piece
heading_piece cells heading line =
    let end = cell_place cells heading.to line.end in
    piece_of 0 (cell_place cells heading.from line.end) end end

-- indented code ends before blank lines
unfoldable pub keeps_line : List Cell → ℕ → Leaf → Bool
keeps_line cells column leaf.Indented = nat_lt (ink_from cells column) (length cells)
keeps_line cells column leaf.Nothing = true
keeps_line cells column leaf.Paragraph = true
keeps_line cells column (leaf.Fenced f) = true
keeps_line cells column (leaf.Html k) = true
keeps_line cells column (leaf.Metadata k) = true
keeps_line cells column (leaf.Table t) = true
