-- The definitions of definition lists.
use Rattle.std.specs.Prelude.{◌-◌, min, Bool, not, ◌==◌, ◌&&◌, nat_le, if◌then◌else◌, List, length, Option, Some, None}
use Rattle.tocmark_read_scan.specs.Basic.{plus}
use Rattle.tocmark_read_scan.specs.declared.syntax.Syntax.{Syntax}
use Rattle.tocmark_read_lines.specs.Cells.{cell_byte, indent_of, ink_from, is_blank_at}
use Rattle.tocmark_read_lines.specs.declared.cell.Cell.{Cell}
use Rattle.tocmark_read_lines.specs.declared.cell.Cursor.{Cursor}
use Rattle.tocmark_read_lines.specs.declared.definition_list.DefinitionStart.{DefinitionStart}

-- its lines are indented past the spaces before its colon, the colon, and the spaces after it, of which five or more count as one
unfoldable pub definition_at : List Cell → Cursor → DefinitionStart
definition_at cells cursor =
    let behind = plus cursor.ink 1 in
    let spaces = ink_from cells behind - behind in
    let gap = if nat_le 5 spaces then 1 else spaces in
    record { width = plus (plus (indent_of cursor) 1) gap; next = min (plus behind gap) (length cells) }

-- a colon after at most three spaces
unfoldable pub begins_definition : List Cell → Cursor → Bool
begins_definition cells cursor =
    not (is_blank_at cells cursor) && nat_le (indent_of cursor) 3 && (cell_byte cells cursor.ink == 58)

-- the definition that may begin at a cursor
unfoldable pub definition_start : Syntax → List Cell → Cursor → Option DefinitionStart
definition_start syntax cells cursor =
    if syntax.definition_lists && begins_definition cells cursor then Some (definition_at cells cursor) else None
