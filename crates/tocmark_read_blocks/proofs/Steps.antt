-- A blank line begins nothing.
use Rattle.std.proofs.Common.{◌≡◌, ℕ, zero, suc, List, length, ap, refl, ◌∙◌}
use Rattle.std.specs.Prelude.{Bool, true, false, ◌&&◌}
use Rattle.tocmark_read_scan.specs.Repeat.{repeated}
use Rattle.tocmark_read_lines.specs.Cells.{is_blank_at}
use Rattle.tocmark_read_lines.specs.Containers.{container_at, container_in}
use Rattle.tocmark_read_lines.specs.DefinitionLists.{begins_definition, definition_start}
use Rattle.tocmark_read_lines.specs.Footnotes.{note_start}
use Rattle.tocmark_read_scan.specs.declared.syntax.Syntax.{Syntax}
use Rattle.tocmark_read_blocks.specs.Leaves.{leaf_at}
use Rattle.tocmark_read_lines.specs.Marks.{tail_of}
use Rattle.tocmark_read_lines.specs.declared.cell.Cell.{Cell}
use Rattle.tocmark_read_lines.specs.declared.line.Line.{Line}
use Rattle.tocmark_read_page.specs.declared.line_start.Known.{Known}
use Rattle.tocmark_read_lines.specs.declared.beginnings.Tail.{Tail}
use Rattle.tocmark_read_blocks.specs.Containers.{container_once_in}
use Rattle.tocmark_read_blocks.specs.Blocks.{started_in, started_at_in, leaf_started_in}
use Rattle.tocmark_read_constructs.specs.Metadata.{is_front, metadata_in}
use Rattle.tocmark_read_blocks.specs.Leaves.{metadata_or, task_or, quote_kind_or, tag_or}
use Rattle.tocmark_read_constructs.specs.Tasks.{task_in}
use Rattle.tocmark_read_constructs.specs.Quotes.{quote_kind_in, is_first_line, tag_in}
use Rattle.tocmark_read_page.specs.Pages.{State, closed_to}
use Rattle.tocmark_read_page.specs.declared.line_start.LineStart.{LineStart}

-- no extension begins where a test is false
pub never : (flag : Bool) → flag && false ≡ false
never true = refl
never false = refl

-- a blank line begins nothing
blank_opens : (syntax : Syntax) (text : List ℕ) (cells : List Cell) (line : Line) (tail : Tail) (place : LineStart) (s : State) (n : ℕ) → is_blank_at cells place.cursor ≡ true → repeated (container_once_in syntax text cells line tail) n place s ≡ (s, place)
unfolding repeated container_once_in container_in container_at begins_definition definition_start note_start
blank_opens syntax text cells line tail place s zero h = refl
blank_opens syntax text cells line tail place s (suc n) h = rw (h, never syntax.definition_lists, never syntax.footnotes) refl

pub blank_started : (known : Known) (text : List ℕ) (cells : List Cell) (line : Line) (place : LineStart) (s : State) → is_blank_at cells place.cursor ≡ true → leaf_started_in known text cells line place s ≡ closed_to text place.depth s
unfolding leaf_started_in leaf_at started_in is_front metadata_in metadata_or task_in task_or quote_kind_in quote_kind_or is_first_line tag_in tag_or
blank_started known text cells line place s h =
    ap (started_at_in known text cells line (tail_of cells)) (blank_opens known.syntax text cells line (tail_of cells) place s (length cells) h)
    ∙ rw (h, never known.syntax.quote_kinds, never known.syntax.task_lists, never known.syntax.yaml_metadata, never known.syntax.pluses_metadata) refl
