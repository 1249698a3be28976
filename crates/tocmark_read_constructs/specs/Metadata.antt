-- Metadata: lines between `---`, or between `+++`.
use Rattle.std.specs.Prelude.{ℕ, Bool, true, false, not, ◌==◌, ◌&&◌, ◌||◌, nat_lt, if◌then◌else◌, List, slice_get, Option, Some, None}
use Rattle.std.specs.List.{fold}
use Rattle.std.specs.Option.{option_map_or}
use Rattle.tocmark_event.specs.declared.event.MetadataBlockKind.{MetadataBlockKind}
use Rattle.tocmark_event.specs.declared.event.MetadataBlockKind.TheVariants as metadata
use Rattle.tocmark_read_scan.specs.Basic.{plus, byte_at}
use Rattle.tocmark_read_scan.specs.declared.syntax.Syntax.{Syntax}
use Rattle.tocmark_read_lines.specs.Cells.{is_blank_at}
use Rattle.tocmark_read_lines.specs.declared.cell.Cell.{Cell}
use Rattle.tocmark_read_lines.specs.declared.container.Opened.{Opened}
use Rattle.tocmark_read_lines.specs.declared.line.Line.{Line}
use Rattle.tocmark_read_page.specs.Leaves.{is_paragraph}
use Rattle.tocmark_read_page.specs.Pages.{State, is_list, closed_to, leaf_opened, start_of}
use Rattle.tocmark_read_page.specs.declared.leaf.Leaf.TheVariants as leaf
use Rattle.tocmark_read_page.specs.declared.line_start.Known.{Known}
use Rattle.tocmark_read_page.specs.declared.line_start.LineStart.{LineStart}
use Rattle.tocmark_read_page.specs.declared.page.BlockKind.TheVariants as kind
use Rattle.tocmark_read_constructs.specs.Blanks.{behind_spaces, behind_blanks}

-- three times the same byte from a place on
unfoldable pub is_triple : List ℕ → ℕ → ℕ → Bool
is_triple text place b = (byte_at text place == b) && (byte_at text (plus place 1) == b) && (byte_at text (plus place 2) == b)

-- a line ends at a place, or the text does
unfoldable pub ends_line : List ℕ → ℕ → Bool
ends_line text place = (byte_at text place == 10) || (byte_at text place == 13)

-- nothing but spaces and tabs is left of a line
unfoldable pub is_blank_line : List ℕ → ℕ → Bool
is_blank_line text place = ends_line text (behind_blanks text place)

-- the byte of the lines round metadata
unfoldable pub mark_of : MetadataBlockKind → ℕ
mark_of metadata.YamlStyle = 45
mark_of metadata.PlusesStyle = 43

-- a kind that may end with three dots
unfoldable pub has_dots : MetadataBlockKind → Bool
has_dots metadata.YamlStyle = true
has_dots metadata.PlusesStyle = false

-- three marks and spaces or tabs, and nothing else
unfoldable pub opens_metadata : MetadataBlockKind → List ℕ → ℕ → Bool
opens_metadata k text place = is_triple text place (mark_of k) && is_blank_line text (plus place 3)

-- three marks or three dots, and spaces, and nothing else
unfoldable pub closes_metadata : MetadataBlockKind → List ℕ → ℕ → Bool
closes_metadata k text place =
    (is_triple text place (mark_of k) || (has_dots k && is_triple text place 46)) && ends_line text (behind_spaces text (plus place 3))

-- the number of the last line so far that closes metadata
unfoldable pub last_step : MetadataBlockKind → List ℕ → ℕ → Line → ℕ
last_step k text last line = if closes_metadata k text line.start then line.number else last

-- the number of the last line that closes metadata; 0 where none does
abbrev pub last_closing : MetadataBlockKind → List ℕ → List Line → ℕ
last_closing k text lines = fold (last_step k text) 0 lines

-- what is known of a text before its lines are read
unfoldable pub known_of : Syntax → List ℕ → List Line → Known
known_of syntax text lines = record {
  syntax = syntax;
  yaml_end = if syntax.yaml_metadata then last_closing metadata.YamlStyle text lines else 0;
  pluses_end = if syntax.pluses_metadata then last_closing metadata.PlusesStyle text lines else 0;
}

-- metadata begins with a line if the next one is neither blank nor its end, and its end is below
unfoldable pub begins_metadata : MetadataBlockKind → ℕ → List ℕ → Line → Bool
begins_metadata k end text line =
    nat_lt line.number end && opens_metadata k text line.start
    && not (is_blank_line text line.next) && not (closes_metadata k text line.next)

-- metadata begins (outside of all containers)
unfoldable pub metadata_started : List ℕ → List Cell → Line → LineStart → MetadataBlockKind → State → State
metadata_started text cells line place k s =
    leaf_opened (leaf.Metadata k) (kind.Metadata k) (start_of cells place line) line (closed_to text 0 s)

-- no container goes on at a depth, but for a list that waits for an item
unfoldable pub is_outside : ℕ → State → Bool
is_outside depth s =
    (depth == 0) || ((depth == 1) && option_map_or (λ (o : Opened). is_list o.container) (slice_get s.opened 0) false)

-- a place at the first byte of a line that is in no container
unfoldable pub is_front : List Cell → LineStart → State → Bool
is_front cells place s = not (is_blank_at cells place.cursor) && (place.cursor.ink == 0) && is_outside place.depth s

-- dashes below a paragraph underline it, and pluses go on with it
unfoldable pub metadata_in : Known → List ℕ → List Cell → Line → LineStart → Bool → State → Option MetadataBlockKind
metadata_in known text cells line place directly s =
    if known.syntax.yaml_metadata && (is_front cells place s && not directly && begins_metadata metadata.YamlStyle known.yaml_end text line)
    then Some metadata.YamlStyle
    else (if known.syntax.pluses_metadata
    && (is_front cells place s && not (is_paragraph s.leaf) && begins_metadata metadata.PlusesStyle known.pluses_end text line)
    then Some metadata.PlusesStyle else None)
