-- Which container begins at a place of a line, and how it opens.
use Rattle.std.specs.Prelude.{ℕ, Bool, false, ◌==◌, ◌&&◌, nat_le, if◌then◌else◌, List, length, Option, Some, None}
use Rattle.std.specs.Option.{option_map_or}
use Rattle.tocmark_read_scan.specs.Repeat.{repeated}
use Rattle.tocmark_read_scan.specs.declared.syntax.Syntax.{Syntax}
use Rattle.tocmark_read_scan.specs.declared.syntax.TheConstants.{CORE}
use Rattle.tocmark_read_lines.specs.Cells.{moved}
use Rattle.tocmark_read_lines.specs.Containers.{container_in}
use Rattle.tocmark_read_lines.specs.declared.beginnings.Tail.{Tail}
use Rattle.tocmark_read_lines.specs.declared.cell.Cell.{Cell}
use Rattle.tocmark_read_lines.specs.declared.container.Container.{Container}
use Rattle.tocmark_read_lines.specs.declared.container.Container.TheVariants as container
use Rattle.tocmark_read_lines.specs.declared.container.ContainerStart.{ContainerStart}
use Rattle.tocmark_read_lines.specs.declared.container.ContainerStart.TheVariants as begins
use Rattle.tocmark_read_lines.specs.declared.container.ItemStart.{ItemStart}
use Rattle.tocmark_read_lines.specs.declared.container.Opened.{Opened}
use Rattle.tocmark_read_lines.specs.declared.line.Line.{Line}
use Rattle.tocmark_read_page.specs.Leaves.{is_paragraph}
use Rattle.tocmark_read_page.specs.Pages.{State, innermost, closed_to, list_left, opened_with, some_place, start_of, with_place}
use Rattle.tocmark_read_page.specs.declared.line_start.LineStart.{LineStart}
use Rattle.tocmark_read_page.specs.declared.page.BlockKind.TheVariants as kind
use Rattle.tocmark_read_constructs.specs.DefinitionLists.{definition_opened}
use Rattle.tocmark_read_constructs.specs.Footnotes.{note_opened}
use Rattle.tocmark_read_constructs.specs.Quotes.{quote_opened}

-- the open paragraph is in the innermost container that goes on
unfoldable pub goes_directly : ℕ → State → Bool
goes_directly depth s = is_paragraph s.leaf && nat_le (length s.opened) depth

-- a list whose markers end with this byte
abbrev pub is_list_of : ℕ → Container → Bool
is_list_of sort container.Quote = false
is_list_of sort (container.List same) = same == sort
is_list_of sort (container.Item width) = false
is_list_of sort container.Footnote = false
is_list_of sort container.Definitions = false
is_list_of sort (container.Definition width) = false

-- the innermost container is a list whose markers end with this byte
unfoldable pub is_in_list : ℕ → State → Bool
is_in_list sort s = option_map_or (λ (o : Opened). is_list_of sort o.container) (innermost s.opened) false

-- an item goes into the open list of its sort, or begins one
unfoldable pub list_started : ItemStart → ℕ → Line → State → State
list_started item start line s =
    if is_in_list item.sort s then s
    else opened_with (container.List item.sort) (kind.List item.number) start line (list_left s)

-- an item begins, in its list (CommonMark 5.2)
unfoldable pub item_opened : List ℕ → List Cell → Line → LineStart → ItemStart → State → State × LineStart
item_opened text cells line place item s =
    with_place (moved cells place.cursor item.next)
    (opened_with (container.Item item.width) kind.Item (start_of cells place line) line
    (list_started item (start_of cells place line) line (closed_to text place.depth s)))

-- the container that was found begins
abbrev pub begun_at : List ℕ → List Cell → Line → LineStart → State → Option ContainerStart → State × Option LineStart
begun_at text cells line place s None = (s, None)
begun_at text cells line place s (Some begins.Quote) = some_place (quote_opened text cells line place s)
begun_at text cells line place s (Some (begins.Item item)) = some_place (item_opened text cells line place item s)
begun_at text cells line place s (Some (begins.Footnote note)) = some_place (note_opened text cells line place note s)
begun_at text cells line place s (Some (begins.Definition d)) = definition_opened text cells line place d s

-- the container that begins at a place opens
unfoldable pub container_once_in : Syntax → List ℕ → List Cell → Line → Tail → LineStart → State → State × Option LineStart
container_once_in syntax text cells line tail place s =
    begun_at text cells line place s (container_in syntax cells tail place.cursor (goes_directly place.depth s))

-- containers begin one after the other, as many as the line has columns at most
abbrev pub containers_opened_in : Syntax → List ℕ → List Cell → Line → Tail → LineStart → State → State × LineStart
containers_opened_in syntax text cells line tail place s =
    repeated (container_once_in syntax text cells line tail) (length cells) place s

-- the same of CommonMark alone
abbrev pub container_once : List ℕ → List Cell → Line → Tail → LineStart → State → State × Option LineStart
container_once = container_once_in CORE

abbrev pub containers_opened : List ℕ → List Cell → Line → Tail → LineStart → State → State × LineStart
containers_opened = containers_opened_in CORE
