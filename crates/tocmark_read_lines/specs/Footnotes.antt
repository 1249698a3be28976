-- The definitions of footnotes.
use Rattle.std.specs.Prelude.{ℕ, not, ◌==◌, ◌&&◌, nat_le, if◌then◌else◌, List, Option, Some, None}
use Rattle.tocmark_read_scan.specs.Basic.{plus}
use Rattle.tocmark_read_scan.specs.declared.syntax.Syntax.{Syntax}
use Rattle.tocmark_read_tokens.specs.Footnotes.{note_label}
use Rattle.tocmark_read_tokens.specs.declared.word.Word.{Word}
use Rattle.tocmark_read_lines.specs.Cells.{bytes_of, cell_byte, indent_of, ink_from, is_blank_at}
use Rattle.tocmark_read_lines.specs.declared.cell.Cell.{Cell}
use Rattle.tocmark_read_lines.specs.declared.cell.Cursor.{Cursor}
use Rattle.tocmark_read_lines.specs.declared.footnote.FootnoteStart.{FootnoteStart}

-- a name is defined where a colon is just after its label
abbrev pub defined_as : List Cell → Option Word → Option FootnoteStart
defined_as cells None = None
defined_as cells (Some w) =
    if cell_byte cells w.next == 58
    then Some (record { from = w.start; to = w.end; next = ink_from cells (plus w.next 1) }) else None

-- the definition of a footnote at a column
unfoldable pub note_at : List Cell → ℕ → Option FootnoteStart
note_at cells column = defined_as cells (note_label (bytes_of cells) column)

-- the definition of a footnote that begins at a cursor, after at most three spaces
unfoldable pub note_start : Syntax → List Cell → Cursor → Option FootnoteStart
note_start syntax cells cursor =
    if syntax.footnotes && (not (is_blank_at cells cursor) && nat_le (indent_of cursor) 3)
    then note_at cells cursor.ink else None
