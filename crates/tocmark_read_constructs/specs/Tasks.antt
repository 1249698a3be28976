-- The boxes of task lists.
use Rattle.std.specs.Prelude.{ℕ, Bool, true, false, ◌==◌, ◌&&◌, ◌||◌, nat_lt, if◌then◌else◌, List, Option, Some, None, ◌-◌, not, nat_le, length, slice_get, slice_set}
use Rattle.std.specs.Option.{option_map_or}
use Rattle.tocmark_read_scan.specs.Basic.{plus, byte_at}
use Rattle.tocmark_read_lines.specs.Cells.{indent_of, is_blank_at}
use Rattle.tocmark_read_lines.specs.Containers.{is_empty_item}
use Rattle.tocmark_read_lines.specs.declared.cell.Cell.{Cell}
use Rattle.tocmark_read_lines.specs.declared.container.Opened.{Opened}
use Rattle.tocmark_read_lines.specs.declared.line.Line.{Line}
use Rattle.tocmark_read_page.specs.Pages.{State, innermost, closed_to, leaf_opened, piece_taken, start_of}
use Rattle.tocmark_read_page.specs.Pieces.{piece_of}
use Rattle.tocmark_read_page.specs.declared.leaf.Leaf.TheVariants as leaf
use Rattle.tocmark_read_page.specs.declared.line_start.Known.{Known}
use Rattle.tocmark_read_page.specs.declared.line_start.LineStart.{LineStart}
use Rattle.tocmark_read_page.specs.declared.page.Block.{Block}
use Rattle.tocmark_read_page.specs.declared.page.BlockKind.TheVariants as kind
use Rattle.tocmark_read_constructs.specs.Blanks.{behind_blanks}

-- a space, tab, vertical tab or form feed
unfoldable pub is_box_space : ℕ → Bool
is_box_space b = (b == 32) || (b == 9) || (b == 11) || (b == 12)

-- what the byte in a box says: checked or not
unfoldable pub box_of : ℕ → Option Bool
box_of b = if (b == 120) || (b == 88) then Some true else (if is_box_space b then Some false else None)

-- a space or the line ending is after a box
unfoldable pub ends_box : List ℕ → Line → ℕ → Bool
ends_box text line place = if nat_lt place line.end then is_box_space (byte_at text place) else nat_lt line.end line.next

-- the box at a place of a line
unfoldable pub box_at : List ℕ → Line → ℕ → Option Bool
box_at text line place =
    if (byte_at text place == 91) && (byte_at text (plus place 2) == 93) && ends_box text line (plus place 3)
    then box_of (byte_at text (plus place 1)) else None

-- the container of this line is an item that began in it
unfoldable pub is_new_item : Line → ℕ → State → Bool
is_new_item line depth s =
    nat_le (length s.opened) depth
    && option_map_or (λ (o : Opened). is_empty_item o && (o.line == line.number)) (innermost s.opened) false

-- the box just after the marker of an item
unfoldable pub task_in : Known → List ℕ → List Cell → Line → LineStart → State → Option Bool
task_in known text cells line place s =
    if known.syntax.task_lists
    && (not (is_blank_at cells place.cursor) && (indent_of place.cursor == 0) && is_new_item line place.depth s)
    then box_at text line (start_of cells place line) else None

-- the last block has a box
unfoldable pub with_task : Bool → ℕ → State → State
with_task done start s =
    record s {
      blocks = option_map_or (λ (b : Block). slice_set s.blocks (length s.blocks - 1) (record b { task = Some (record { done = done; start = start }) }))
          (slice_get s.blocks (length s.blocks - 1)) s.blocks;
    }

-- a paragraph begins with a box, and goes on after it
unfoldable pub boxed_taken : List ℕ → Line → LineStart → Bool → ℕ → ℕ → State → State
boxed_taken text line place done start behind s =
    piece_taken (piece_of 0 behind line.end line.next) line true
    (with_task done start (leaf_opened leaf.Paragraph kind.Paragraph start line (closed_to text place.depth s)))

-- a box that is all of its line is one of its item, and else one of the paragraph after it
unfoldable pub task_started : List ℕ → List Cell → Line → LineStart → Bool → State → State
task_started text cells line place done s =
    let start = start_of cells place line in
    let behind = behind_blanks text (plus start 3) in
    if nat_lt behind line.end then boxed_taken text line place done start behind s else with_task done start s
