-- Block quotes and their kinds.
use Rattle.std.specs.Prelude.{ℕ, List, None, ◌-◌, if◌then◌else◌, length, Option, Some, codes, Bool, true, false, not, ◌&&◌, nat_le, slice_get}
use Rattle.std.specs.Option.{option_map_or}
use Rattle.tocmark_event.specs.declared.event.BlockQuoteKind.{BlockQuoteKind}
use Rattle.tocmark_event.specs.declared.event.BlockQuoteKind.TheVariants as quote
use Rattle.tocmark_read_scan.specs.Basic.{bytes_between}
use Rattle.tocmark_read_lines.specs.Cells.{indent_of, is_blank_at}
use Rattle.tocmark_read_lines.specs.Containers.{after_quote}
use Rattle.tocmark_read_lines.specs.Html.{same_word, html_kind}
use Rattle.tocmark_read_lines.specs.declared.cell.Cell.{Cell}
use Rattle.tocmark_read_lines.specs.declared.container.Container.TheVariants as container
use Rattle.tocmark_read_lines.specs.declared.container.Opened.{Opened}
use Rattle.tocmark_read_lines.specs.declared.html.HtmlKind.{HtmlKind}
use Rattle.tocmark_read_lines.specs.declared.html.HtmlKind.TheVariants as html
use Rattle.tocmark_read_lines.specs.declared.line.Line.{Line}
use Rattle.tocmark_read_page.specs.Pages.{State, closed_to, list_left, opened_with, start_of, with_place, innermost, is_quote, leaf_opened, has_text, of_kind}
use Rattle.tocmark_read_page.specs.Pieces.{code_piece}
use Rattle.tocmark_read_page.specs.declared.leaf.Leaf.TheVariants as leaf
use Rattle.tocmark_read_page.specs.declared.line_start.Known.{Known}
use Rattle.tocmark_read_page.specs.declared.line_start.LineStart.{LineStart}
use Rattle.tocmark_read_page.specs.declared.page.Block.{Block}
use Rattle.tocmark_read_page.specs.declared.page.BlockKind.TheVariants as kind
use Rattle.tocmark_read_constructs.specs.Blanks.{trailing_blanks}

-- a block quote begins (CommonMark 5.1)
unfoldable pub quote_opened : List ℕ → List Cell → Line → LineStart → State → State × LineStart
quote_opened text cells line place s =
    with_place (after_quote cells place.cursor)
    (opened_with container.Quote (kind.Quote None) (start_of cells place line) line (list_left (closed_to text place.depth s)))

-- the kind that a word names, in any case
unfoldable pub kind_named : List ℕ → Option BlockQuoteKind
kind_named word =
    if same_word word (codes "[!note]") then Some quote.Note
    else (if same_word word (codes "[!tip]") then Some quote.Tip
    else (if same_word word (codes "[!important]") then Some quote.Important
    else (if same_word word (codes "[!warning]") then Some quote.Warning
    else (if same_word word (codes "[!caution]") then Some quote.Caution else None))))

-- the kind that a line names with nothing but spaces and tabs after it
unfoldable pub quote_kind_of : List ℕ → Option BlockQuoteKind
quote_kind_of line = kind_named (bytes_between line 0 (length line - trailing_blanks line))

-- a block begins in this line
abbrev pub begins_in : Line → Option Block → Bool
begins_in line found = option_map_or (λ (b : Block). nat_le line.start b.start) found false

-- the innermost container is a quote that began in this line
unfoldable pub is_new_quote : Line → State → Bool
is_new_quote line s =
    option_map_or (λ (o : Opened). is_quote o.container && begins_in line (slice_get s.blocks o.block)) (innermost s.opened) false

-- the kind just after the mark of a quote
unfoldable pub quote_kind_in : Known → List ℕ → List Cell → Line → LineStart → State → Option BlockQuoteKind
quote_kind_in known text cells line place s =
    if known.syntax.quote_kinds && (not (is_blank_at cells place.cursor) && is_new_quote line s)
    then quote_kind_of (bytes_between text (code_piece cells place.cursor.column line).start line.end) else None

-- a tag alone on its line
abbrev pub is_alone : Option HtmlKind → Bool
is_alone None = false
is_alone (Some html.Raw) = false
is_alone (Some html.Comment) = false
is_alone (Some html.Instruction) = false
is_alone (Some html.Declaration) = false
is_alone (Some html.CharacterData) = false
is_alone (Some html.Named) = false
is_alone (Some html.Alone) = true

-- a line directly in an open paragraph that has no line yet
unfoldable pub is_first_line : List Cell → LineStart → Bool → State → Bool
is_first_line cells place directly s =
    not (is_blank_at cells place.cursor) && nat_le (indent_of place.cursor) 3 && directly && not (has_text s)

-- a tag alone on the line after a quote's kind begins HTML, since the paragraph there has no line
unfoldable pub tag_in : Known → List ℕ → List Cell → Line → LineStart → Bool → State → Bool
tag_in known text cells line place directly s =
    if known.syntax.quote_kinds && is_first_line cells place directly s
    then is_alone (html_kind (bytes_between text (start_of cells place line) line.end)) else false

-- the line that began a quote names its kind, and the lines after it go on as those of a paragraph
unfoldable pub quote_kind_started : List Cell → Line → LineStart → BlockQuoteKind → State → State
quote_kind_started cells line place k s =
    leaf_opened leaf.Paragraph kind.Paragraph (start_of cells place line) line (record s { blocks = of_kind (kind.Quote (Some k)) s.blocks })
