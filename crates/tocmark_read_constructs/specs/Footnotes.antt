-- The definitions of footnotes.
use Rattle.std.specs.Prelude.{ℕ, Bool, ◌&&◌, List, is_some}
use Rattle.tocmark_read_lines.specs.Cells.{cell_place, moved}
use Rattle.tocmark_read_lines.specs.Footnotes.{note_at}
use Rattle.tocmark_read_lines.specs.declared.cell.Cell.{Cell}
use Rattle.tocmark_read_lines.specs.declared.container.Container.TheVariants as container
use Rattle.tocmark_read_lines.specs.declared.line.Line.{Line}
use Rattle.tocmark_read_lines.specs.declared.footnote.FootnoteStart.{FootnoteStart}
use Rattle.tocmark_read_page.specs.Leaves.{is_table}
use Rattle.tocmark_read_page.specs.Pages.{State, closed_to, list_left, note_left, opened_with, start_of, with_place}
use Rattle.tocmark_read_page.specs.declared.line_start.LineStart.{LineStart}
use Rattle.tocmark_read_page.specs.declared.page.BlockKind.{BlockKind}
use Rattle.tocmark_read_page.specs.declared.page.BlockKind.TheVariants as kind

-- the range of a footnote's name
abbrev pub name_of : List Cell → FootnoteStart → Line → BlockKind
name_of cells note line = kind.Footnote (cell_place cells note.from line.end) (cell_place cells note.to line.end)

-- the definition of a footnote begins, after one in which it would be directly
unfoldable pub note_opened : List ℕ → List Cell → Line → LineStart → FootnoteStart → State → State × LineStart
note_opened text cells line place note s =
    with_place (moved cells place.cursor note.next)
    (opened_with container.Footnote (name_of cells note line) (start_of cells place line) line
    (note_left (list_left (closed_to text place.depth s))))

-- a line with the definition of a footnote is no row of the open table
abbrev pub is_ended_by_note : List Cell → LineStart → State → Bool
is_ended_by_note cells place s = is_table s.leaf && is_some (note_at cells place.cursor.ink)
