-- Paragraphs and thematic breaks.
use Rattle.std.specs.Prelude.{ℕ, ◌-◌, true, nat_le, if◌then◌else◌, List, length, slice_get, slice_set}
use Rattle.std.specs.Option.{option_map_or}
use Rattle.tocmark_read_lines.specs.declared.cell.Cell.{Cell}
use Rattle.tocmark_read_lines.specs.declared.line.Line.{Line}
use Rattle.tocmark_read_page.specs.Leaves.{is_paragraph}
use Rattle.tocmark_read_page.specs.Pages.{State, leaf_finished, closed_to, leaf_opened, piece_taken, start_of}
use Rattle.tocmark_read_page.specs.Pieces.{text_piece}
use Rattle.tocmark_read_page.specs.declared.leaf.Leaf.TheVariants as leaf
use Rattle.tocmark_read_page.specs.declared.line_start.LineStart.{LineStart}
use Rattle.tocmark_read_page.specs.declared.page.Block.{Block}
use Rattle.tocmark_read_page.specs.declared.page.BlockKind.TheVariants as kind

-- where the open paragraph has no line, it begins with this one
unfoldable pub text_started : ℕ → State → State
text_started start s =
    option_map_or
    (λ (b : Block). if nat_le (length s.pieces) b.first then record s { blocks = slice_set s.blocks (length s.blocks - 1) (record b { start = start }) } else s)
    (slice_get s.blocks (length s.blocks - 1)) s

-- a paragraph begins, if none is open
abbrev pub in_paragraph : List ℕ → List Cell → Line → LineStart → State → State
in_paragraph text cells line place s =
    if is_paragraph s.leaf then s
    else leaf_opened leaf.Paragraph kind.Paragraph (text_piece cells place.cursor line).start line (closed_to text place.depth s)

-- the rest of a line goes into the open paragraph, or into a new one (CommonMark 4.8)
unfoldable pub text_taken : List ℕ → List Cell → Line → LineStart → State → State
text_taken text cells line place s =
    let words = text_piece cells place.cursor line in
    piece_taken words line true (text_started words.start (in_paragraph text cells line place s))

-- a thematic break (CommonMark 4.1)
unfoldable pub rule_started : List ℕ → List Cell → Line → LineStart → State → State
rule_started text cells line place s =
    leaf_finished (leaf_opened leaf.Nothing kind.Rule (start_of cells place line) line (closed_to text place.depth s))
