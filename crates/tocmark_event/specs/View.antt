-- Events as plain values: a text is its bytes, whether it is lent or owned.
use Rattle.std.specs.Prelude.{ℕ, Bool, List, map, Option, is_some}
use Rattle.std.specs.Option.{option_map}
use Rattle.tocmark_event.specs.declared.event.HeadingLevel.{HeadingLevel}
use Rattle.tocmark_event.specs.declared.event.BlockQuoteKind.{BlockQuoteKind}
use Rattle.tocmark_event.specs.declared.event.Alignment.{Alignment}
use Rattle.tocmark_event.specs.declared.event.MetadataBlockKind.{MetadataBlockKind}
use Rattle.tocmark_event.specs.declared.event.LinkType.{LinkType}
use Rattle.tocmark_event.specs.declared.event.CodeBlockKindOf.{CodeBlockKindOf}
use Rattle.tocmark_event.specs.declared.event.CodeBlockKindOf.TheVariants as kind
use Rattle.tocmark_event.specs.declared.event.TagOf.{TagOf}
use Rattle.tocmark_event.specs.declared.event.TagOf.TheVariants as tag
use Rattle.tocmark_event.specs.declared.event.TagEnd.{TagEnd}
use Rattle.tocmark_event.specs.declared.event.TagEnd.TheVariants as end
use Rattle.tocmark_event.specs.declared.event.EventOf.{EventOf}
use Rattle.tocmark_event.specs.declared.event.EventOf.TheVariants as event

-- the kind of a code block: indented, or fenced with its info string
pub data CodeView : Type 0 where
  Indented : CodeView
  Fenced : List ℕ → CodeView

-- a container, as its Start names it
pub data TagView : Type 0 where
  Paragraph : TagView
  -- level, id, classes, attributes
  Heading : HeadingLevel → Option (List ℕ) → List (List ℕ) → List (List ℕ × Option (List ℕ)) → TagView
  BlockQuote : Option BlockQuoteKind → TagView
  CodeBlock : CodeView → TagView
  HtmlBlock : TagView
  ListOf : Option ℕ → TagView
  Item : TagView
  FootnoteDefinition : List ℕ → TagView
  DefinitionList : TagView
  DefinitionListTitle : TagView
  DefinitionListDefinition : TagView
  Table : List Alignment → TagView
  TableHead : TagView
  TableRow : TagView
  TableCell : TagView
  Emphasis : TagView
  Strong : TagView
  Strikethrough : TagView
  Superscript : TagView
  Subscript : TagView
  -- type, destination, title, id
  Link : LinkType → List ℕ → List ℕ → List ℕ → TagView
  Image : LinkType → List ℕ → List ℕ → List ℕ → TagView
  MetadataBlock : MetadataBlockKind → TagView

-- an event that opens and ends nothing
pub data LeafView : Type 0 where
  Text : List ℕ → LeafView
  Code : List ℕ → LeafView
  InlineMath : List ℕ → LeafView
  DisplayMath : List ℕ → LeafView
  Html : List ℕ → LeafView
  InlineHtml : List ℕ → LeafView
  FootnoteReference : List ℕ → LeafView
  SoftBreak : LeafView
  HardBreak : LeafView
  Rule : LeafView
  TaskListMarker : Bool → LeafView

-- an event with leaves of type L: a container starts, a container ends, or a leaf
pub data EventWith (L : Type 0) : Type 0 where
  Start : TagView → EventWith L
  End : TagEnd → EventWith L
  Leaf : L → EventWith L

-- an event
abbrev pub EventView : Type 0
EventView = EventWith LeafView

-- a leaf, and for a text its spelling in the source where that is known
pub record SourcedLeaf : Type 0 where
  pub leaf : LeafView
  pub source : Option (List ℕ)

-- an event of a unit that is to be written
abbrev pub SourcedEvent : Type 0
SourcedEvent = EventWith SourcedLeaf

-- the event without its source text
abbrev pub unsourced : SourcedEvent → EventView
unsourced (Start t) = Start t
unsourced (End k) = End k
unsourced (Leaf l) = Leaf l.leaf

-- the kind of a code block, whose info string has these bytes (CommonMark, sections 4.4 and 4.5)
abbrev pub code_view : {T : Type 0} → (T → List ℕ) → CodeBlockKindOf T → CodeView
code_view bytes kind.Indented = Indented
code_view bytes (kind.Fenced info) = Fenced (bytes info)

-- a heading's attribute: its name, and its value if it has one, have these bytes
abbrev pub attribute_view : {T : Type 0} → (T → List ℕ) → T × Option T → List ℕ × Option (List ℕ)
attribute_view bytes a = (bytes a.0, option_map bytes a.1)

-- a tag whose texts have these bytes
abbrev pub tag_view : {T : Type 0} → (T → List ℕ) → TagOf T → TagView
tag_view bytes tag.Paragraph = Paragraph
tag_view bytes (tag.Heading level id classes attrs) =
    Heading level (option_map bytes id) (map bytes classes.items) (map (attribute_view bytes) attrs.items)
tag_view bytes (tag.BlockQuote k) = BlockQuote k
tag_view bytes (tag.CodeBlock k) = CodeBlock (code_view bytes k)
tag_view bytes tag.HtmlBlock = HtmlBlock
tag_view bytes (tag.List start) = ListOf start
tag_view bytes tag.Item = Item
tag_view bytes (tag.FootnoteDefinition label) = FootnoteDefinition (bytes label)
tag_view bytes tag.DefinitionList = DefinitionList
tag_view bytes tag.DefinitionListTitle = DefinitionListTitle
tag_view bytes tag.DefinitionListDefinition = DefinitionListDefinition
tag_view bytes (tag.Table alignments) = Table alignments.items
tag_view bytes tag.TableHead = TableHead
tag_view bytes tag.TableRow = TableRow
tag_view bytes tag.TableCell = TableCell
tag_view bytes tag.Emphasis = Emphasis
tag_view bytes tag.Strong = Strong
tag_view bytes tag.Strikethrough = Strikethrough
tag_view bytes tag.Superscript = Superscript
tag_view bytes tag.Subscript = Subscript
tag_view bytes (tag.Link link_type dest_url title id) = Link link_type (bytes dest_url) (bytes title) (bytes id)
tag_view bytes (tag.Image link_type dest_url title id) = Image link_type (bytes dest_url) (bytes title) (bytes id)
tag_view bytes (tag.MetadataBlock k) = MetadataBlock k

-- an event whose texts have these bytes
abbrev pub event_view : {T : Type 0} → (T → List ℕ) → EventOf T → EventView
event_view bytes (event.Start t) = Start (tag_view bytes t)
event_view bytes (event.End e) = End e
event_view bytes (event.Text s) = Leaf (Text (bytes s))
event_view bytes (event.Code s) = Leaf (Code (bytes s))
event_view bytes (event.InlineMath s) = Leaf (InlineMath (bytes s))
event_view bytes (event.DisplayMath s) = Leaf (DisplayMath (bytes s))
event_view bytes (event.Html s) = Leaf (Html (bytes s))
event_view bytes (event.InlineHtml s) = Leaf (InlineHtml (bytes s))
event_view bytes (event.FootnoteReference s) = Leaf (FootnoteReference (bytes s))
event_view bytes event.SoftBreak = Leaf SoftBreak
event_view bytes event.HardBreak = Leaf HardBreak
event_view bytes event.Rule = Leaf Rule
event_view bytes (event.TaskListMarker b) = Leaf (TaskListMarker b)

-- the end of a container
abbrev pub end_of : TagView → TagEnd
end_of Paragraph = end.Paragraph
end_of (Heading level id classes attrs) = end.Heading level
end_of (BlockQuote k) = end.BlockQuote k
end_of (CodeBlock k) = end.CodeBlock
end_of HtmlBlock = end.HtmlBlock
end_of (ListOf start) = end.List (is_some start)
end_of Item = end.Item
end_of (FootnoteDefinition label) = end.FootnoteDefinition
end_of DefinitionList = end.DefinitionList
end_of DefinitionListTitle = end.DefinitionListTitle
end_of DefinitionListDefinition = end.DefinitionListDefinition
end_of (Table alignments) = end.Table
end_of TableHead = end.TableHead
end_of TableRow = end.TableRow
end_of TableCell = end.TableCell
end_of Emphasis = end.Emphasis
end_of Strong = end.Strong
end_of Strikethrough = end.Strikethrough
end_of Superscript = end.Superscript
end_of Subscript = end.Subscript
end_of (Link k d t i) = end.Link
end_of (Image k d t i) = end.Image
end_of (MetadataBlock k) = end.MetadataBlock k
