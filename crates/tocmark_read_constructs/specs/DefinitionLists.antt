-- Definition lists: which paragraphs are titles, and where definitions begin.
use Rattle.std.specs.Prelude.{ℕ, ◌-◌, Bool, true, false, ◌==◌, ◌&&◌, nat_lt, nat_le, if◌then◌else◌, List, [], ◌∷◌, ◌++◌, length, reverse, take_while, slice_get, slice_set, Option, Some, None}
use Rattle.std.specs.Option.{option_map_or, option_and_then}
use Rattle.tocmark_read_scan.specs.Basic.{plus}
use Rattle.tocmark_read_lines.specs.Cells.{moved}
use Rattle.tocmark_read_lines.specs.declared.cell.Cell.{Cell}
use Rattle.tocmark_read_lines.specs.declared.container.Container.TheVariants as container
use Rattle.tocmark_read_lines.specs.declared.container.Opened.{Opened}
use Rattle.tocmark_read_lines.specs.declared.definition_list.DefinitionStart.{DefinitionStart}
use Rattle.tocmark_read_lines.specs.declared.line.Line.{Line}
use Rattle.tocmark_read_page.specs.Leaves.{is_paragraph}
use Rattle.tocmark_read_page.specs.Pages.{State, closed_to, has_text, is_definitions, leaf_finished, list_of, opened_with, settled, some_place, start_of, with_place}
use Rattle.tocmark_read_page.specs.declared.line_start.LineStart.{LineStart}
use Rattle.tocmark_read_page.specs.declared.page.Block.{Block}
use Rattle.tocmark_read_page.specs.declared.page.BlockKind.{BlockKind}
use Rattle.tocmark_read_page.specs.declared.page.BlockKind.TheVariants as kind
use Rattle.tocmark_read_page.specs.declared.page.LeftList.{LeftList}

-- a kind that is a paragraph
unfoldable pub is_words : BlockKind → Bool
is_words kind.Paragraph = true
is_words (kind.Heading level braces) = false
is_words (kind.Quote k) = false
is_words (kind.List first) = false
is_words kind.Item = false
is_words kind.Indented = false
is_words (kind.Fenced from to) = false
is_words kind.Html = false
is_words kind.Rule = false
is_words (kind.Metadata k) = false
is_words (kind.Footnote from to) = false
is_words (kind.Table from to) = false
is_words kind.TableHead = false
is_words kind.TableRow = false
is_words kind.TableCell = false
is_words kind.DefinitionList = false
is_words kind.DefinitionListTitle = false
is_words kind.DefinitionListDefinition = false

-- a paragraph that ended, and holds definitions of links alone
unfoldable pub is_spent : Block → Bool
is_spent b = is_words b.kind && nat_le b.last b.first

-- a paragraph that ended, with text, in the innermost of so many containers
unfoldable pub may_be_title : ℕ → Block → Bool
may_be_title depth b = is_words b.kind && nat_lt b.first b.last && (b.depth == depth)

-- a paragraph as a title, one level down
unfoldable pub title_of : Block → Block
title_of b = record b { depth = plus b.depth 1; kind = kind.DefinitionListTitle }

-- a paragraph as the list that begins with it
unfoldable pub list_from : Block → Block
list_from b = record b { kind = kind.DefinitionList; task = None }

-- the place of the last block but for paragraphs that hold definitions of links alone
abbrev pub last_inked : List Block → ℕ
last_inked blocks = length blocks - plus (length (take_while is_spent (reverse blocks))) 1

-- a block at a place, if it may be a title
abbrev pub if_title : ℕ → ℕ → Block → Option (ℕ × Block)
if_title depth place b = if may_be_title depth b then Some (place, b) else None

-- the paragraph before a line, with its place, if it may be a title
unfoldable pub last_title : ℕ → List Block → Option (ℕ × Block)
last_title depth blocks = option_and_then (if_title depth (last_inked blocks)) (slice_get blocks (last_inked blocks))

-- the block at a place is loose or tight
abbrev pub with_looseness : List Block → Bool → ℕ → List Block
with_looseness blocks loose place = option_map_or (λ (b : Block). slice_set blocks place (record b { loose = loose })) (slice_get blocks place) blocks

-- a list is loose or tight
unfoldable pub loose_set : List Block → Option ℕ → Bool → List Block
loose_set blocks list loose = option_map_or (with_looseness blocks loose) list blocks

-- the block at a place is the last one
unfoldable pub is_last : ℕ → State → Bool
is_last place s = length s.blocks == plus place 1

-- the list of definitions that ended with the block at a place, if this is the last one
unfoldable pub list_before : ℕ → State → Option LeftList
list_before place s = option_and_then (λ (l : LeftList). if (l.behind == place) && is_last place s then Some l else None) s.left

-- a list of definitions is open, whose title ends here
abbrev pub definitions_open : ℕ → ℕ → ℕ → State → State
definitions_open list end line s =
    record s { opened = s.opened ++ record { container = container.Definitions; block = list; end = end; line = line; had = true } ∷ [] }

-- a list begins with a paragraph in its place, which is a title after all blocks
unfoldable pub list_begun : ℕ → Block → ℕ → State → State
list_begun place b line s =
    definitions_open place b.end line (record s { blocks = slice_set s.blocks place (list_from b) ++ title_of b ∷ [] })

-- a list goes on with a paragraph as its next title, and the list round both is as loose as it was
unfoldable pub list_resumed : ℕ → Block → ℕ → LeftList → State → State
list_resumed place b line left s =
    definitions_open left.list b.end line
    (record s { blocks = slice_set (loose_set s.blocks (list_of s.opened) left.loose) place (title_of b) })

-- a paragraph is a title of the list that ended before it, or of one that begins with it
abbrev pub title_in : ℕ → Block → ℕ → State → Option LeftList → State
title_in place b line s None = list_begun place b line s
title_in place b line s (Some left) = list_resumed place b line left s

-- the line of the last block; one with others after it is apart from each definition
abbrev pub line_of : ℕ → State → ℕ
line_of place s = if is_last place s then s.line else 0

-- a paragraph is a title
unfoldable pub title_put : ℕ → Block → State → State
title_put place b s = title_in place b (line_of place s) s (list_before place s)

-- a line goes on with a list of definitions, and with none of them
unfoldable pub is_among_definitions : ℕ → State → Bool
is_among_definitions depth s =
    option_map_or (λ (o : Opened). nat_lt 0 depth && is_definitions o.container) (slice_get s.opened (depth - 1)) false

-- a paragraph ends if it has text
abbrev pub ended_if_text : State → State × Bool
ended_if_text s = if has_text s then (leaf_finished s, true) else (s, false)

-- the open paragraph, if there is one, ends if it has text after its definitions of links
unfoldable pub text_ended : List ℕ → State → State × Bool
text_ended text s = if is_paragraph s.leaf then ended_if_text (settled text s) else (s, true)

-- a paragraph that was found is a title
abbrev pub title_found : State → Option (ℕ × Block) → State × Bool
title_found s None = (s, false)
title_found s (Some (place, b)) = (title_put place b s, true)

-- after a paragraph that has no text nothing is a title
abbrev pub title_behind : State × Bool → State × Bool
title_behind (s, false) = (s, false)
title_behind (s, true) = title_found s (last_title (length s.opened) s.blocks)

-- the paragraph before a line is a title
unfoldable pub title_taken : List ℕ → State → State × Bool
title_taken text s = title_behind (text_ended text s)

-- a list of definitions is innermost, if a title or a definition is before a line
unfoldable pub definitions_entered : List ℕ → ℕ → State → State × Bool
definitions_entered text depth s =
    if is_among_definitions depth s then (closed_to text depth s, true)
    else (if nat_lt depth (length s.opened) then (s, false) else title_taken text s)

-- a definition begins in its list, if it has one
abbrev pub definition_begun : List Cell → Line → LineStart → DefinitionStart → State × Bool → State × Option LineStart
definition_begun cells line place d (s, false) = (s, None)
definition_begun cells line place d (s, true) =
    some_place (with_place (moved cells place.cursor d.next)
    (opened_with (container.Definition d.width) kind.DefinitionListDefinition (start_of cells place line) line s))

-- a definition begins, if a title or a definition of its list is before it
unfoldable pub definition_opened : List ℕ → List Cell → Line → LineStart → DefinitionStart → State → State × Option LineStart
definition_opened text cells line place d s = definition_begun cells line place d (definitions_entered text place.depth s)
