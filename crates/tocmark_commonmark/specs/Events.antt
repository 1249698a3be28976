-- The events of a text: its blocks with the inlines of their contents (CommonMark 0.31.2, 3.1: block structure comes first).
use Rattle.std.specs.Prelude.{ℕ, Bool, true, false, ◌==◌, List, [], ◌∷◌, ◌++◌, Some, None}
use Rattle.tocmark_event.specs.View.{TagView, Paragraph, Heading, BlockQuote, CodeBlock, Indented, Fenced, HtmlBlock, ListOf, Item, Emphasis, Strong, Link, Image, EventView, Start, End, Leaf, Text, Code, Html, InlineHtml, SoftBreak, HardBreak, Rule, end_of}
use Rattle.tocmark_event.specs.Merged.{merged}
use Rattle.tocmark_commonmark.specs.Tree as block
use Rattle.tocmark_commonmark.specs.InlineTree as inline
use Rattle.tocmark_commonmark.specs.Blocks.{blocks_of}
use Rattle.tocmark_commonmark.specs.Tokens.{resolved}
use Rattle.tocmark_commonmark.specs.Links.{Destination, destinations}
use Rattle.tocmark_commonmark.specs.Inlines.{inlines}

-- a container with its events
abbrev pub element : TagView → List EventView → List EventView
element t inside = Start t ∷ inside ++ End (end_of t) ∷ []

-- the events of inlines
abbrev mutual
  pub inline_events : inline.Inlines → List EventView
  inline_events inline.none = []
  inline_events (inline.more i rest) = inline_event i ++ inline_events rest

  pub inline_event : inline.Inline → List EventView
  inline_event (inline.Text t) = Leaf (Text t) ∷ []
  inline_event (inline.Code t) = Leaf (Code t) ∷ []
  inline_event (inline.RawHtml t) = Leaf (InlineHtml t) ∷ []
  inline_event inline.SoftBreak = Leaf SoftBreak ∷ []
  inline_event inline.HardBreak = Leaf HardBreak ∷ []
  inline_event (inline.Emphasis e) = element Emphasis (inline_events e)
  inline_event (inline.Strong e) = element Strong (inline_events e)
  inline_event (inline.Link k d t l e) = element (Link k d t l) (inline_events e)
  inline_event (inline.Image k d t l e) = element (Image k d t l) (inline_events e)

-- 5.3: the paragraphs of a tight list are not wrapped
abbrev pub paragraph_events : Bool → List EventView → List EventView
paragraph_events true inside = inside
paragraph_events false inside = element Paragraph inside

-- the text of code, if there is some
abbrev pub code_events : List ℕ → List EventView
code_events [] = []
code_events (b ∷ bs) = Leaf (Text (b ∷ bs)) ∷ []

-- one more byte of a line
abbrev pub fed : (List ℕ → List EventView) → List ℕ → ℕ → Bool → List EventView
fed next line b true = Leaf (Html (line ++ b ∷ [])) ∷ next []
fed next line b false = next (line ++ b ∷ [])

-- each line of HTML with its line feed
abbrev pub html_events : List ℕ → List ℕ → List EventView
html_events line [] = []
html_events line (b ∷ bs) = fed (λ l. html_events l bs) line b (b == 10)

-- the events of blocks, where labels lead to these; in the items of a tight list or not
abbrev mutual
  pub block_events : List Destination → Bool → block.Blocks → List EventView
  block_events labels tight block.none = []
  block_events labels tight (block.more b rest) = block_event labels tight b ++ block_events labels tight rest

  pub block_event : List Destination → Bool → block.Block → List EventView
  block_event labels tight block.Rule = Leaf Rule ∷ []
  block_event labels tight (block.Heading l t) = element (Heading l None [] []) (inline_events (inlines labels t))
  block_event labels tight (block.IndentedCode t) = element (CodeBlock Indented) (code_events t)
  block_event labels tight (block.FencedCode i t) = element (CodeBlock (Fenced (resolved i))) (code_events t)
  block_event labels tight (block.Html t) = element HtmlBlock (html_events [] t)
  block_event labels tight (block.Definitions d) = []
  block_event labels tight (block.Paragraph t) = paragraph_events tight (inline_events (inlines labels t))
  block_event labels tight (block.Quote q) = element (BlockQuote None) (block_events labels false q)
  block_event labels tight (block.BulletList s t items) = element (ListOf None) (block_events labels t items)
  block_event labels tight (block.OrderedList s n t items) = element (ListOf (Some n)) (block_events labels t items)
  block_event labels tight (block.Item i) = element Item (block_events labels tight i)

-- the events of blocks, whose own definitions are those of labels
abbrev pub document_events : block.Blocks → List EventView
document_events bs = merged (block_events (destinations (block.defined bs)) false bs)

-- The events of a text.
unfoldable pub events_of : List ℕ → List EventView
events_of text = document_events (blocks_of text)
