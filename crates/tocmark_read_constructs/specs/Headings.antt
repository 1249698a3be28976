-- Headings, with the attributes after their text.
use Rattle.std.specs.Prelude.{ℕ, ◌-◌, Bool, not, ◌==◌, ◌&&◌, ◌||◌, if◌then◌else◌, List, length, reverse, take_while, Option, Some, None, true, take, slice_set}
use Rattle.std.specs.Option.{option_map_or}
use Rattle.tocmark_event.specs.declared.event.HeadingLevel.{HeadingLevel}
use Rattle.tocmark_read_scan.specs.Basic.{plus, byte_at, bytes_between}
use Rattle.tocmark_read_lines.specs.Cells.{bytes_of, cell_place}
use Rattle.tocmark_read_lines.specs.Marks.{heading_end_before}
use Rattle.tocmark_read_lines.specs.declared.beginnings.Heading.{Heading}
use Rattle.tocmark_read_lines.specs.declared.cell.Cell.{Cell}
use Rattle.tocmark_read_lines.specs.declared.line.Line.{Line}
use Rattle.tocmark_read_page.specs.Pages.{State, leaf_finished, closed_to, leaf_opened, piece_taken, start_of, last_piece, of_kind}
use Rattle.tocmark_read_page.specs.Pieces.{heading_piece}
use Rattle.tocmark_read_page.specs.declared.leaf.Leaf.TheVariants as leaf
use Rattle.tocmark_read_page.specs.declared.line_start.Known.{Known}
use Rattle.tocmark_read_page.specs.declared.line_start.LineStart.{LineStart}
use Rattle.tocmark_read_page.specs.declared.page.BlockKind.TheVariants as kind
use Rattle.tocmark_read_page.specs.declared.page.Braces.{Braces}
use Rattle.tocmark_read_page.specs.declared.piece.Piece.{Piece}
use Rattle.tocmark_read_constructs.specs.Blanks.{trailing_blanks}

-- a brace, an angle bracket or a backslash
unfoldable pub is_no_word : ℕ → Bool
is_no_word b = (b == 123) || (b == 125) || (b == 60) || (b == 62) || (b == 92)

-- the bytes at the end that may be between braces
abbrev pub trailing_words : List ℕ → ℕ
trailing_words bytes = length (take_while (λ b. not (is_no_word b)) (reverse bytes))

-- the braces at the end of a text, with nothing but words between them
unfoldable pub braces_in : List ℕ → Option Braces
braces_in bytes =
    let to = length bytes - trailing_blanks bytes - 1 in
    let from = to - trailing_words (bytes_between bytes 0 to) - 1 in
    if (byte_at bytes to == 125) && (byte_at bytes from == 123) then Some (record { from = from; to = to }) else None

-- the braces after the text of a heading on one line, counted from its first column on
unfoldable pub heading_braces : List Cell → Heading → Option Braces
heading_braces cells heading = braces_in (bytes_between (bytes_of cells) heading.from (length cells))

-- the heading whose text ends before braces
unfoldable pub before_braces : List Cell → Heading → Braces → Heading
before_braces cells heading b = record heading { to = heading_end_before cells heading.from (plus heading.from b.from) }

-- where the braces of a heading are in a text, whose line ends at a place
unfoldable pub placed_braces : List Cell → Heading → ℕ → Braces → Braces
placed_braces cells heading end b =
    record { from = cell_place cells (plus heading.from b.from) end; to = cell_place cells (plus heading.from b.to) end }

-- a heading on one line (CommonMark 4.2), with attributes or without
unfoldable pub heading_put : List ℕ → List Cell → Line → LineStart → Option Braces → Heading → State → State
heading_put text cells line place braces heading s =
    leaf_finished
    (piece_taken (heading_piece cells heading line) line true
    (leaf_opened leaf.Nothing (kind.Heading heading.level braces) (start_of cells place line) line (closed_to text place.depth s)))

-- the text of a heading ends before its braces
abbrev pub heading_ended : List ℕ → List Cell → Line → LineStart → Heading → State → Option Braces → State
heading_ended text cells line place heading s None = heading_put text cells line place None heading s
heading_ended text cells line place heading s (Some b) =
    heading_put text cells line place (Some (placed_braces cells heading line.end b)) (before_braces cells heading b) s

-- a heading on one line, whose attributes may be read
unfoldable pub heading_started_in : Known → List ℕ → List Cell → Line → LineStart → Heading → State → State
heading_started_in known text cells line place heading s =
    if known.syntax.heading_attributes then heading_ended text cells line place heading s (heading_braces cells heading)
    else heading_put text cells line place None heading s

-- the open paragraph is a heading that ends with this line, with attributes or without
unfoldable pub underlined : HeadingLevel → Option Braces → Line → State → State
underlined level braces line s =
    leaf_finished (record s { blocks = of_kind (kind.Heading level braces) s.blocks; end = line.end; line = line.number })

-- the last line of the open paragraph ends before its braces, and goes if it has nothing else
unfoldable pub cut_before : Piece → Braces → State → State
cut_before p b s =
    let last = length s.pieces - 1 in
    record s { pieces = if b.from == 0 then take last s.pieces else slice_set s.pieces last (record p { end = plus p.start b.from }) }

-- where the braces in a line are
abbrev pub braces_from : ℕ → Braces → Braces
braces_from start b = record { from = plus start b.from; to = plus start b.to }

-- a heading whose last line may end with braces
abbrev pub underlined_as : HeadingLevel → Line → State → Piece → Option Braces → State
underlined_as level line s p None = underlined level None line s
underlined_as level line s p (Some b) = underlined level (Some (braces_from p.start b)) line (cut_before p b s)

-- the open paragraph is a heading, whose last line may end with attributes
unfoldable pub underlined_attributed : List ℕ → HeadingLevel → Line → State → State
underlined_attributed text level line s =
    option_map_or (λ (p : Piece). underlined_as level line s p (braces_in (bytes_between text p.start p.end))) (last_piece s.pieces)
    (underlined level None line s)

-- the same where attributes may be read
unfoldable pub underlined_in : Known → List ℕ → HeadingLevel → Line → State → State
underlined_in known text level line s =
    if known.syntax.heading_attributes then underlined_attributed text level line s else underlined level None line s
