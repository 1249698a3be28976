-- What kinds of events a unit has.
use Rattle.std.specs.Prelude.{◌≡◌, Bool, true, false, List, is_some}
use Rattle.std.specs.List.{list_any}
use Rattle.tocmark_event.specs.View.{TagView, Heading, CodeBlock, HtmlBlock, ListOf, Item, DefinitionListDefinition, Emphasis, Strong, Strikethrough, Superscript, Subscript, Link, Image, LeafView, InlineMath, DisplayMath, SourcedLeaf, SourcedEvent, Start, End, Leaf, unsourced}
use Rattle.tocmark_spelling.specs.Kinds.{is_emphasis_or_strong, starts}
use Rattle.tocmark_write_blocks.specs.Kinds.{opens}
use Rattle.tocmark_write_unit.specs.declared.census.Census.{Census}

-- emphasis, strong emphasis (CommonMark, section 6.2), strikethrough (GFM, section 6.5), super- or subscript
abbrev pub is_delimiter_tag : TagView → Bool
is_delimiter_tag Emphasis = true
is_delimiter_tag Strong = true
is_delimiter_tag Strikethrough = true
is_delimiter_tag Superscript = true
is_delimiter_tag Subscript = true
is_delimiter_tag t = false

-- mathematics, in a line or by itself
abbrev pub is_math : LeafView → Bool
is_math (InlineMath t) = true
is_math (DisplayMath t) = true
is_math l = false

-- whether a leaf's spelling in the source is known
abbrev pub is_sourced : SourcedLeaf → Bool
is_sourced l = is_some l.source

-- whether an event is written by delimiters
abbrev pub is_delimiter_event : SourcedEvent → Bool
is_delimiter_event (Start t) = is_delimiter_tag t
is_delimiter_event (Leaf l) = is_math l.leaf
is_delimiter_event (End k) = false

-- whether an event has a text whose spelling in the source is known
abbrev pub is_sourced_event : SourcedEvent → Bool
is_sourced_event (Leaf l) = is_sourced l
is_sourced_event e = false

-- the Start of emphasis or of strong emphasis
abbrev pub starts_emphasis : SourcedEvent → Bool
starts_emphasis e = starts is_emphasis_or_strong (unsourced e)

-- whether there is one among these events
abbrev pub has_emphasis : List SourcedEvent → Bool
has_emphasis es = list_any starts_emphasis es

-- a container whose opening asks what its body is like
abbrev pub asks_body : TagView → Bool
asks_body (Heading level id classes attrs) = true
asks_body (ListOf number) = true
asks_body Item = true
asks_body DefinitionListDefinition = true
asks_body t = false

-- a code or HTML block (CommonMark, sections 4.4 to 4.6)
abbrev pub is_raw_block : TagView → Bool
is_raw_block (CodeBlock kind) = true
is_raw_block HtmlBlock = true
is_raw_block t = false

-- a link or an image (CommonMark, sections 6.3 to 6.5)
abbrev pub is_link_or_image : TagView → Bool
is_link_or_image (Link kind dest title id) = true
is_link_or_image (Image kind dest title id) = true
is_link_or_image t = false

-- the census is that of these events
pub record IsCensus (es : List SourcedEvent) (c : Census) : Type 0 where
  pub delimiters : c.delimiters ≡ list_any is_delimiter_event es
  pub emphasis : c.emphasis ≡ has_emphasis es
  pub sourced : c.sourced ≡ list_any is_sourced_event es
  pub bodies : c.bodies ≡ list_any (opens asks_body) es
  pub raw : c.raw ≡ list_any (opens is_raw_block) es
  pub links : c.links ≡ list_any (opens is_link_or_image) es
