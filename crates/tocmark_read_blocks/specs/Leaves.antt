-- What a line is to the open leaf block, and which leaf block it begins (CommonMark 4).
use Rattle.std.specs.Prelude.{ℕ, min, Bool, true, false, not, ◌&&◌, nat_lt, nat_le, if◌then◌else◌, List, Option, Some, None, unwrap_or}
use Rattle.std.specs.Option.{option_map, option_map_or, option_and_then}
use Rattle.tocmark_event.specs.declared.event.BlockQuoteKind.{BlockQuoteKind}
use Rattle.tocmark_event.specs.declared.event.HeadingLevel.{HeadingLevel}
use Rattle.tocmark_event.specs.declared.event.MetadataBlockKind.{MetadataBlockKind}
use Rattle.tocmark_read_scan.specs.Basic.{plus}
use Rattle.tocmark_read_lines.specs.Cells.{indent_of, is_blank_at}
use Rattle.tocmark_read_lines.specs.Html.{html_kind}
use Rattle.tocmark_read_lines.specs.Marks.{closes_fence, fence_at, heading_at, is_rule, underline_at}
use Rattle.tocmark_read_lines.specs.declared.beginnings.Tail.{Tail}
use Rattle.tocmark_read_lines.specs.declared.cell.Cell.{Cell}
use Rattle.tocmark_read_lines.specs.declared.cell.Cursor.{Cursor}
use Rattle.tocmark_read_lines.specs.declared.html.HtmlKind.{HtmlKind}
use Rattle.tocmark_read_lines.specs.declared.html.HtmlKind.TheVariants as html
use Rattle.tocmark_read_lines.specs.declared.line.Line.{Line}
use Rattle.tocmark_read_page.specs.declared.leaf.Leaf.{Leaf}
use Rattle.tocmark_read_page.specs.declared.leaf.Leaf.TheVariants as leaf
use Rattle.tocmark_read_constructs.specs.Metadata.{closes_metadata}
use Rattle.tocmark_read_constructs.specs.Tables.{row_turn}
use Rattle.tocmark_read_blocks.specs.declared.leaf.LeafStart.{LeafStart}
use Rattle.tocmark_read_blocks.specs.declared.leaf.LeafStart.TheVariants as start
use Rattle.tocmark_read_blocks.specs.declared.leaf.Turn.{Turn}
use Rattle.tocmark_read_blocks.specs.declared.leaf.Turn.TheVariants as turn

-- a blank line ends the last two kinds of HTML blocks
unfoldable pub goes_past_blank : HtmlKind → Bool
goes_past_blank html.Raw = true
goes_past_blank html.Comment = true
goes_past_blank html.Instruction = true
goes_past_blank html.Declaration = true
goes_past_blank html.CharacterData = true
goes_past_blank html.Named = false
goes_past_blank html.Alone = false

-- indented code goes on after four columns, and in blank lines
abbrev pub indented_turn : List Cell → Cursor → Turn
indented_turn cells cursor =
    if nat_le 4 (indent_of cursor) then turn.Takes (plus cursor.column 4)
    else (if is_blank_at cells cursor then turn.Takes cursor.ink else turn.Passes)

-- what the open leaf does with a line in which all containers round it go on
unfoldable pub leaf_turn : List ℕ → List Cell → Line → Cursor → Leaf → Turn
leaf_turn text cells line cursor leaf.Nothing = turn.Passes
leaf_turn text cells line cursor leaf.Paragraph = turn.Passes
leaf_turn text cells line cursor leaf.Indented = indented_turn cells cursor
leaf_turn text cells line cursor (leaf.Fenced fence) =
    if closes_fence cells cursor fence then turn.Closes
    else turn.Takes (plus cursor.column (min fence.indent (indent_of cursor)))
leaf_turn text cells line cursor (leaf.Html k) =
    if is_blank_at cells cursor && not (goes_past_blank k) then turn.Passes else turn.Takes cursor.column
leaf_turn text cells line cursor (leaf.Metadata k) =
    if closes_metadata k text line.start then turn.Closes else turn.Takes cursor.column
leaf_turn text cells line cursor (leaf.Table t) = option_map_or (λ longer. turn.Row longer) (row_turn text cells line cursor t) turn.Passes

-- a leaf ends before each blank line, whatever is in it
unfoldable pub ends_at_blank : Leaf → Bool
ends_at_blank leaf.Nothing = true
ends_at_blank leaf.Paragraph = true
ends_at_blank leaf.Indented = false
ends_at_blank (leaf.Fenced f) = false
ends_at_blank (leaf.Html k) = false
ends_at_blank (leaf.Metadata k) = false
ends_at_blank (leaf.Table t) = false

-- a tag alone on its line cannot interrupt a paragraph
abbrev pub interrupting : Bool → HtmlKind → Option HtmlKind
interrupting in_paragraph html.Alone = if in_paragraph then None else Some html.Alone
interrupting in_paragraph k = Some k

-- the HTML block that begins here
unfoldable pub html_at : List ℕ → Bool → Option HtmlKind
html_at rest in_paragraph = option_and_then (interrupting in_paragraph) (html_kind rest)

-- only a paragraph in the innermost container can be underlined
unfoldable pub underline_in : List Cell → ℕ → Bool → Option HeadingLevel
underline_in cells column directly = if directly then underline_at cells column else None

-- a thematic break or text
unfoldable pub rule_at : List Cell → Tail → ℕ → LeafStart
rule_at cells tail column = if is_rule cells tail column then start.Rule else start.Text

-- the first of heading, fence, HTML, underline, rule and text
unfoldable pub mark_at : List Cell → List ℕ → Tail → Cursor → Bool → Bool → LeafStart
mark_at cells rest tail cursor in_paragraph directly =
    unwrap_or (option_map (λ h. start.Heading h) (heading_at cells cursor.ink))
    (unwrap_or (option_map (λ f. start.Fence f) (fence_at cells cursor))
    (unwrap_or (option_map (λ k. start.Html k) (html_at rest in_paragraph))
    (unwrap_or (option_map (λ l. start.Underline l) (underline_in cells cursor.ink directly))
    (rule_at cells tail cursor.ink))))

-- what the rest of a line begins
unfoldable pub leaf_at : List Cell → List ℕ → Tail → Cursor → Bool → Bool → LeafStart
leaf_at cells rest tail cursor in_paragraph directly =
    if is_blank_at cells cursor then start.Blank
    else (if nat_lt (indent_of cursor) 4 then mark_at cells rest tail cursor in_paragraph directly
    else (if in_paragraph then start.Text else start.Indented (plus cursor.column 4)))

-- metadata, or what CommonMark has there
unfoldable pub metadata_or : Option MetadataBlockKind → LeafStart → LeafStart
metadata_or found other = option_map_or (λ k. start.Metadata k) found other

-- a box, or what else is there
unfoldable pub task_or : Option Bool → LeafStart → LeafStart
task_or found other = option_map_or (λ done. start.Task done) found other

-- a kind, or what else is there
unfoldable pub quote_kind_or : Option BlockQuoteKind → LeafStart → LeafStart
quote_kind_or found other = option_map_or (λ k. start.QuoteKind k) found other

-- HTML that is a tag alone on its line, or what else is there
unfoldable pub tag_or : Bool → LeafStart → LeafStart
tag_or found other = if found then start.Html html.Alone else other
