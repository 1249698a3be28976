-- What a digest says.
use Rattle.std.specs.Prelude.{◌≡◌, ℕ, ◌-◌, nat_lt, length, true, false, List, [], ◌∷◌, ◌++◌, Option, Some, None, map, option_map, get_or, if◌then◌else◌, ◌==◌}
use Rattle.std.specs.List.{list_any, slice_get}
use Rattle.tocmark_event.specs.Merged.{merged}
use Rattle.tocmark_event.specs.Text.{text_of}
use Rattle.tocmark_event.specs.View.{Indented, Fenced, TagView, Paragraph, Heading, BlockQuote, CodeBlock, HtmlBlock, ListOf, Item, FootnoteDefinition, DefinitionList, DefinitionListTitle, DefinitionListDefinition, TableHead, TableRow, TableCell, Emphasis, Strong, Strikethrough, Superscript, Subscript, Link, Image, MetadataBlock, Table, Text, Code, InlineMath, DisplayMath, Html, InlineHtml, FootnoteReference, SoftBreak, HardBreak, Rule, TaskListMarker, EventView, Start, End, Leaf, event_view}
use Rattle.tocmark_event.specs.declared.event.Alignment.{Alignment}
use Rattle.tocmark_event.specs.declared.event.Alignment.TheVariants as alignment
use Rattle.tocmark_event.specs.declared.event.BlockQuoteKind.TheVariants as quote
use Rattle.tocmark_event.specs.declared.event.HeadingLevel.TheVariants as level
use Rattle.tocmark_event.specs.declared.event.LinkType.{LinkType}
use Rattle.tocmark_event.specs.declared.event.LinkType.TheVariants as link
use Rattle.tocmark_event.specs.declared.event.MetadataBlockKind.TheVariants as metadata
use Rattle.tocmark_event.specs.declared.event.TagEnd.{TagEnd}
use Rattle.tocmark_event.specs.declared.event.TagEnd.TheVariants as end
use Rattle.tocmark_compare.specs.declared.digest.Digest.{Digest}

-- each End, in the order of the numbers by which they are compared
abbrev pub ends : List TagEnd
ends =
    end.Paragraph ∷ end.Heading level.H1 ∷ end.Heading level.H2 ∷ end.Heading level.H3 ∷ end.Heading level.H4
    ∷ end.Heading level.H5 ∷ end.Heading level.H6 ∷ end.BlockQuote None ∷ end.BlockQuote (Some quote.Note)
    ∷ end.BlockQuote (Some quote.Tip) ∷ end.BlockQuote (Some quote.Important) ∷ end.BlockQuote (Some quote.Warning)
    ∷ end.BlockQuote (Some quote.Caution) ∷ end.CodeBlock ∷ end.HtmlBlock ∷ end.List true ∷ end.List false ∷ end.Item
    ∷ end.FootnoteDefinition ∷ end.DefinitionList ∷ end.DefinitionListTitle ∷ end.DefinitionListDefinition ∷ end.Table
    ∷ end.TableHead ∷ end.TableRow ∷ end.TableCell ∷ end.Emphasis ∷ end.Strong ∷ end.Strikethrough ∷ end.Superscript
    ∷ end.Subscript ∷ end.Link ∷ end.Image ∷ end.MetadataBlock metadata.YamlStyle
    ∷ end.MetadataBlock metadata.PlusesStyle ∷ []

-- a container of which its End says all, by that End; a paragraph for the others
abbrev pub plain_start : TagEnd → TagView
plain_start (end.Heading l) = Heading l None [] []
plain_start (end.BlockQuote k) = BlockQuote k
plain_start end.CodeBlock = CodeBlock Indented
plain_start end.HtmlBlock = HtmlBlock
plain_start (end.List b) = ListOf None
plain_start end.Item = Item
plain_start end.DefinitionList = DefinitionList
plain_start end.DefinitionListTitle = DefinitionListTitle
plain_start end.DefinitionListDefinition = DefinitionListDefinition
plain_start end.TableHead = TableHead
plain_start end.TableRow = TableRow
plain_start end.TableCell = TableCell
plain_start end.Emphasis = Emphasis
plain_start end.Strong = Strong
plain_start end.Strikethrough = Strikethrough
plain_start end.Superscript = Superscript
plain_start end.Subscript = Subscript
plain_start (end.MetadataBlock k) = MetadataBlock k
plain_start k = Paragraph

-- the events with marks, each at its mark: the Ends, the containers that begin so, and leaves without a text
abbrev pub marks : List EventView
marks =
    map (λ k. End k) ends ++ map (λ k. Start (plain_start k)) ends
    ++ Leaf SoftBreak ∷ Leaf HardBreak ∷ Leaf Rule ∷ Leaf (TaskListMarker false) ∷ Leaf (TaskListMarker true) ∷ []

-- the event with a mark
abbrev pub marked : ℕ → Option EventView
marked m = slice_get marks m

-- the alignment with a number, by which alignments are compared
abbrev pub alignment_of : ℕ → Alignment
alignment_of n =
    get_or (alignment.None ∷ alignment.Left ∷ alignment.Center ∷ alignment.Right ∷ []) n alignment.None

-- the events with one text, each at its mark less 76; that of an ordered list is its first number as a byte, that of a table
-- the number of each column's alignment
abbrev pub worded : List (List ℕ → EventView)
worded =
    (λ t. Leaf (Code t)) ∷ (λ t. Leaf (InlineMath t)) ∷ (λ t. Leaf (DisplayMath t)) ∷ (λ t. Leaf (Html t))
    ∷ (λ t. Leaf (InlineHtml t)) ∷ (λ t. Leaf (FootnoteReference t)) ∷ (λ t. Start (CodeBlock (Fenced t)))
    ∷ (λ t. Start (FootnoteDefinition t)) ∷ (λ t. Start (ListOf (slice_get t 0)))
    ∷ (λ t. Start (Table (map alignment_of t))) ∷ []

-- the types of links, in the order of the numbers by which they are compared
abbrev pub link_types : List LinkType
link_types =
    link.Inline ∷ link.Reference ∷ link.ReferenceUnknown ∷ link.Collapsed ∷ link.CollapsedUnknown ∷ link.Shortcut
    ∷ link.ShortcutUnknown ∷ link.Autolink ∷ link.Email ∷ link.WikiLink false ∷ link.WikiLink true ∷ []

-- the links and images, which have a destination, a title and a label, each at its mark less 86
abbrev pub linked : List (List ℕ → List ℕ → List ℕ → TagView)
linked = map (λ k. Link k) link_types ++ map (λ k. Image k) link_types

-- the event of a mark from 76 on with these texts, unless more texts belong to it
abbrev pub spelled : ℕ → List (List ℕ) → Option EventView
spelled m (t ∷ []) = if nat_lt 75 m then option_map (λ event. event t) (slice_get worded (m - 76)) else None
spelled m (d ∷ t ∷ i ∷ []) =
    if nat_lt 75 m then option_map (λ tag. Start (tag d t i)) (slice_get linked (m - 86)) else None
spelled m texts = None

-- what is awaited: texts, a mark, or more of the texts after a mark, of which some have ended
pub data Awaited : Type 0 where
  Texts : Awaited
  Mark : Awaited
  Words : ℕ → List (List ℕ) → List ℕ → Awaited

-- one more event in front: that of a mark, or else the next one of those that have none
abbrev pub next_said : Option EventView → (List EventView → List EventView) → List EventView → List EventView
next_said (Some e) rest others = e ∷ rest others
next_said None rest [] = rest []
next_said None rest (o ∷ others) = o ∷ rest others

-- one more event in front, if its texts have ended; else what is said where more of them follow
abbrev pub next_spelled : Option EventView → List EventView → List EventView → List EventView
next_spelled (Some e) rest more = e ∷ rest
next_spelled None rest more = more

-- what bytes say, with the events that have no marks: after 255 is a mark, after a mark from 76 on are its texts,
-- each up to the next 255, and any other byte is one of a text
abbrev pub said : Awaited → List ℕ → List EventView → List EventView
said w [] others = []
said Texts (b ∷ bytes) others = if b == 255 then said Mark bytes others else Leaf (Text (b ∷ [])) ∷ said Texts bytes others
said Mark (m ∷ bytes) others =
    if nat_lt 75 m then said (Words m [] []) bytes others else next_said (marked m) (said Texts bytes) others
said (Words m texts t) (b ∷ bytes) others =
    if b == 255
    then next_spelled (spelled m (texts ++ t ∷ [])) (said Texts bytes others) (said (Words m (texts ++ t ∷ []) []) bytes others)
    else said (Words m texts (t ++ b ∷ [])) bytes others

-- what a digest says, each longest stretch of texts as one
abbrev pub says : Digest → List EventView
says d = merged (said Texts d.bytes.items (map (event_view text_of) d.others.items))

-- a digest says these events, and then what else is put after it
abbrev pub SaysFirst : Digest → List EventView → Type 0
SaysFirst d events =
    (bytes : List ℕ) (others : List EventView)
    → merged (said Texts (d.bytes.items ++ bytes) (map (event_view text_of) d.others.items ++ others))
    ≡ merged (events ++ said Texts bytes others)

-- one digest says what another says, and then an event
abbrev pub Adds : Digest → Digest → EventView → Type 0
Adds old new e = (events : List EventView) → SaysFirst old events → SaysFirst new (events ++ e ∷ [])

-- the bytes of a text that stand for it among those of a digest: there are some, and none is 255
pub record IsTextOf (bytes : List ℕ) (e : EventView) : Type 0 where
  pub text : e ≡ Leaf (Text bytes)
  pub some : (length bytes == 0) ≡ false
  pub plain : list_any (λ b. b == 255) bytes ≡ false

-- the mark of a link or an image, after which are three texts
pub record IsLinkMark (m : ℕ) (tag : List ℕ → List ℕ → List ℕ → TagView) : Type 0 where
  pub more : (d : List ℕ) → spelled m (d ∷ []) ≡ None
  pub all : (d t i : List ℕ) → spelled m (d ∷ t ∷ i ∷ []) ≡ Some (Start (tag d t i))

-- the mark and the texts of a link or an image
pub record IsLinkOf (m : ℕ) (d t i : List ℕ) (e : EventView) : Type 0 where
  pub more : spelled m (d ∷ []) ≡ None
  pub all : spelled m (d ∷ t ∷ i ∷ []) ≡ Some e
