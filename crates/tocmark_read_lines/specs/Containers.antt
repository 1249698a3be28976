-- Block quotes, lists and items (CommonMark 5).
use Rattle.std.specs.Prelude.{ℕ, ◌-◌, min, max, Bool, true, false, not, ◌==◌, ◌&&◌, ◌||◌, nat_le, if◌then◌else◌, List, [], ◌∷◌, length, slice_get, slice_set, unwrap_or, Option, Some, None}
use Rattle.std.specs.List.{find}
use Rattle.std.specs.Option.{option_map, option_map_or, option_and_then}
use Rattle.tocmark_read_scan.specs.Basic.{plus}
use Rattle.tocmark_read_lines.specs.Cells.{cell_byte, first_cursor, indent_of, ink_from, is_blank_at, moved}
use Rattle.tocmark_read_lines.specs.Marks.{is_rule, marker_at}
use Rattle.tocmark_read_lines.specs.DefinitionLists.{definition_start}
use Rattle.tocmark_read_lines.specs.Footnotes.{note_start}
use Rattle.tocmark_read_scan.specs.declared.syntax.Syntax.{Syntax}
use Rattle.tocmark_read_lines.specs.declared.cell.Cell.{Cell}
use Rattle.tocmark_read_lines.specs.declared.cell.Cursor.{Cursor}
use Rattle.tocmark_read_lines.specs.declared.beginnings.Marker.{Marker}
use Rattle.tocmark_read_lines.specs.declared.beginnings.Tail.{Tail}
use Rattle.tocmark_read_lines.specs.declared.container.Container.{Container}
use Rattle.tocmark_read_lines.specs.declared.container.Container.TheVariants as container
use Rattle.tocmark_read_lines.specs.declared.container.Opened.{Opened}
use Rattle.tocmark_read_lines.specs.declared.container.ItemStart.{ItemStart}
use Rattle.tocmark_read_lines.specs.declared.definition_list.DefinitionStart.{DefinitionStart}
use Rattle.tocmark_read_lines.specs.declared.footnote.FootnoteStart.{FootnoteStart}
use Rattle.tocmark_read_lines.specs.declared.container.ContainerStart.{ContainerStart}
use Rattle.tocmark_read_lines.specs.declared.container.ContainerStart.TheVariants as start

-- a container that reaches at least to this line
unfoldable pub raised : Opened → ℕ → ℕ → Opened
raised o end line = record o { end = max o.end end; line = max o.line line }

-- the container at a place reaches at least to this line
unfoldable pub raised_at : List Opened → ℕ → ℕ → ℕ → List Opened
raised_at opened place end line = option_map_or (λ o. slice_set opened place (raised o end line)) (slice_get opened place) opened

-- after the `>` and the space after it
unfoldable pub after_quote : List Cell → Cursor → Cursor
after_quote cells cursor =
    let behind = plus cursor.ink 1 in
    if cell_byte cells behind == 32 then moved cells cursor (plus behind 1) else moved cells cursor behind

-- an item goes on in lines that are indented as its text is, and in blank lines once it has a block
unfoldable pub item_goes_on : List Cell → Cursor → ℕ → Bool → Option Cursor
item_goes_on cells cursor width had =
    if is_blank_at cells cursor && not had then None
    else (if nat_le width (indent_of cursor) then Some (moved cells cursor (plus cursor.column width))
    else (if is_blank_at cells cursor then Some (moved cells cursor (length cells)) else None))

-- whether a container of this kind goes on, and where
abbrev pub going_on_as : Container → List Cell → Cursor → Bool → Option Cursor
going_on_as container.Quote cells cursor had =
    if nat_le (indent_of cursor) 3 && (cell_byte cells cursor.ink == 62) then Some (after_quote cells cursor) else None
going_on_as (container.List sort) cells cursor had = Some cursor
going_on_as (container.Item width) cells cursor had = item_goes_on cells cursor width had
going_on_as container.Footnote cells cursor had = item_goes_on cells cursor 4 true
going_on_as container.Definitions cells cursor had = Some cursor
going_on_as (container.Definition width) cells cursor had = item_goes_on cells cursor width had

-- where a line goes on after what it has of a container
unfoldable pub going_on : List Cell → Cursor → Opened → Option Cursor
going_on cells cursor o = going_on_as o.container cells cursor o.had

-- an item in which no block is
abbrev pub is_empty_item_as : Container → Bool → Bool
is_empty_item_as container.Quote had = false
is_empty_item_as (container.List sort) had = false
is_empty_item_as (container.Item width) had = not had
is_empty_item_as container.Footnote had = false
is_empty_item_as container.Definitions had = false
is_empty_item_as (container.Definition width) had = false

-- a container that is an item in which no block is
unfoldable pub is_empty_item : Opened → Bool
is_empty_item o = is_empty_item_as o.container o.had

-- an item or a definition in which no block is
abbrev pub is_empty_as : Container → Bool → Bool
is_empty_as container.Quote had = false
is_empty_as (container.List sort) had = false
is_empty_as (container.Item width) had = not had
is_empty_as container.Footnote had = false
is_empty_as container.Definitions had = false
is_empty_as (container.Definition width) had = not had

-- a container that is an item or a definition in which no block is
unfoldable pub is_empty : Opened → Bool
is_empty o = is_empty_as o.container o.had

-- all but an innermost item or definition that is empty
unfoldable pub blank_depth : List Opened → ℕ
blank_depth opened =
    let last = length opened - 1 in
    if option_map_or is_empty (slice_get opened last) false then last else length opened

-- the first quote from a container on
abbrev pub quote_from : List ℕ → ℕ → Option ℕ
quote_from quotes count = find (λ q. nat_le count q) quotes

-- where nothing is left of the line, the containers up to the next quote go on
unfoldable pub stopped : List Cell → List Opened → List ℕ → ℕ → Cursor → ℕ
stopped cells opened quotes count cursor =
    if nat_le (length cells) cursor.column then unwrap_or (quote_from quotes count) (blank_depth opened) else count

-- a container goes on only if something is left of the line
unfoldable pub passed : List Cell → Cursor → Opened → Option Cursor
passed cells cursor o = if nat_le (length cells) cursor.column then None else going_on cells cursor o

-- how many containers go on in a line, and the cursor after what it has of them
abbrev pub matched_from : List Cell → List Opened → List ℕ → ℕ → Cursor → List Opened → ℕ × Cursor
matched_from cells opened quotes count cursor [] = (count, cursor)
matched_from cells opened quotes count cursor (o ∷ os) =
    option_map_or (λ next. matched_from cells opened quotes (plus count 1) next os) (passed cells cursor o)
    (stopped cells opened quotes count cursor, cursor)

-- the containers that go on, from the front of the line
abbrev pub matched : List Cell → List Opened → List ℕ → ℕ × Cursor
matched cells opened quotes = matched_from cells opened quotes 0 (first_cursor cells) opened

-- the quotes that go on in a line reach at least to it
abbrev pub touched_from : ℕ → ℕ → ℕ → List ℕ → List Opened → List Opened
touched_from count end line [] opened = opened
touched_from count end line (q ∷ qs) opened =
    if nat_le count q then opened else touched_from count end line qs (raised_at opened q end line)

-- one column lies after the marker of an item that is empty or begins with code
unfoldable pub item_gap : Bool → ℕ → ℕ
item_gap empty spaces = if empty || nat_le 5 spaces then 1 else spaces

-- a bullet, or the number 1
abbrev pub is_first : Option ℕ → Bool
is_first None = true
is_first (Some n) = n == 1

-- an item interrupts a paragraph if it is not empty and has a bullet or the number 1
unfoldable pub may_interrupt : Bool → Marker → Bool
may_interrupt empty marker = is_first marker.number && not empty

-- the item that a marker begins
abbrev pub item_from : List Cell → Cursor → Bool → Marker → Option ItemStart
item_from cells cursor in_paragraph marker =
    let behind = plus cursor.ink marker.length in
    let ink = ink_from cells behind in
    let empty = nat_le (length cells) ink in
    let gap = item_gap empty (ink - behind) in
    if in_paragraph && not (may_interrupt empty marker) then None
    else Some (record {
      sort = marker.sort;
      number = marker.number;
      width = plus (indent_of cursor) (plus marker.length gap);
      next = min (plus behind gap) (length cells);
    })

-- the item that begins at a cursor
unfoldable pub item_at : List Cell → Cursor → Bool → Option ItemStart
item_at cells cursor in_paragraph = option_and_then (item_from cells cursor in_paragraph) (marker_at cells cursor.ink)

-- the container that begins at a cursor
unfoldable pub container_at : List Cell → Tail → Cursor → Bool → Option ContainerStart
container_at cells tail cursor in_paragraph =
    if is_blank_at cells cursor || nat_le 4 (indent_of cursor) then None
    else (if cell_byte cells cursor.ink == 62 then Some start.Quote
    else (if is_rule cells tail cursor.ink then None
    else option_map (λ i. start.Item i) (item_at cells cursor in_paragraph)))

-- the definition of a footnote, or what else begins there
abbrev pub note_or : Option FootnoteStart → Option ContainerStart → Option ContainerStart
note_or None other = other
note_or (Some n) other = Some (start.Footnote n)

-- a definition, or what else begins there
abbrev pub definition_or : Option DefinitionStart → Option ContainerStart → Option ContainerStart
definition_or None other = other
definition_or (Some d) other = Some (start.Definition d)

-- the container that begins at a cursor, in an extension or in CommonMark
unfoldable pub container_in : Syntax → List Cell → Tail → Cursor → Bool → Option ContainerStart
container_in syntax cells tail cursor in_paragraph =
    definition_or (definition_start syntax cells cursor)
    (note_or (note_start syntax cells cursor) (container_at cells tail cursor in_paragraph))
