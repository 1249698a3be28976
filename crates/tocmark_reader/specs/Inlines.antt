-- From the nodes of inlines to those of events.
use Rattle.std.specs.Prelude.{ℕ, List, encode_utf8, slice_get, unwrap_or}
use Rattle.tocmark_event.specs.View.{LeafView, TagView, Emphasis, Strong, Strikethrough, Link, Image, Subscript, Superscript, Text, Code, InlineHtml, SoftBreak, HardBreak, FootnoteReference, InlineMath, DisplayMath}
use Rattle.tocmark_event.specs.declared.event.LinkType.TheVariants.{Inline}
use Rattle.tocmark_read_spans.specs.Definitions.{stretch_text, no_stretch}
use Rattle.tocmark_read_spans.specs.declared.role.Leaf.{Leaf}
use Rattle.tocmark_read_spans.specs.declared.role.Leaf.TheVariants as leaf
use Rattle.tocmark_read_spans.specs.declared.role.Span.{Span}
use Rattle.tocmark_read_spans.specs.declared.role.Span.TheVariants as span
use Rattle.tocmark_read_spans.specs.declared.role.Target.{Target}
use Rattle.tocmark_read_inlines.specs.declared.write.InlineKind.{InlineKind}
use Rattle.tocmark_read_inlines.specs.declared.write.InlineKind.TheVariants as item
use Rattle.tocmark_read_inlines.specs.declared.write.Node.{Node}
use Rattle.tocmark_reader.specs.Emitted.{ItemView, NodeView, Container, Source, Given}

-- what a link or an image leads to
unfoldable pub target_at : List Target → ℕ → Target
target_at targets place =
    unwrap_or (slice_get targets place) (record { link_type = Inline; destination = no_stretch; title = no_stretch; id = no_stretch })

-- a link with its texts
unfoldable pub link_of : List ℕ → Target → TagView
link_of texts t = Link t.link_type (stretch_text texts t.destination) (stretch_text texts t.title) (stretch_text texts t.id)

-- an image with its texts
unfoldable pub image_of : List ℕ → Target → TagView
image_of texts t = Image t.link_type (stretch_text texts t.destination) (stretch_text texts t.title) (stretch_text texts t.id)

-- the container that a span of inlines is
unfoldable pub span_tag : List ℕ → List Target → Span → TagView
span_tag texts targets span.Emphasis = Emphasis
span_tag texts targets span.Strong = Strong
span_tag texts targets span.Strikethrough = Strikethrough
span_tag texts targets (span.Link place) = link_of texts (target_at targets place)
span_tag texts targets (span.Image place) = image_of texts (target_at targets place)
span_tag texts targets span.Subscript = Subscript
span_tag texts targets span.Superscript = Superscript

-- the leaf that an inline without children is
unfoldable pub leaf_of : List ℕ → Leaf → LeafView
leaf_of texts (leaf.Character c) = Text (encode_utf8 c)
leaf_of texts (leaf.Code s) = Code (stretch_text texts s)
leaf_of texts (leaf.Html s) = InlineHtml (stretch_text texts s)
leaf_of texts leaf.SoftBreak = SoftBreak
leaf_of texts leaf.HardBreak = HardBreak
leaf_of texts (leaf.Text s) = Text (stretch_text texts s)
leaf_of texts (leaf.Footnote name) = FootnoteReference (stretch_text texts name)
leaf_of texts (leaf.InlineMath s) = InlineMath (stretch_text texts s)
leaf_of texts (leaf.DisplayMath s) = DisplayMath (stretch_text texts s)

-- the item that an inline is
unfoldable pub inline_item : List ℕ → List Target → InlineKind → ItemView
inline_item texts targets item.Text = Source
inline_item texts targets (item.Span s) = Container (span_tag texts targets s)
inline_item texts targets (item.Leaf l) = Given (leaf_of texts l)

-- a container of inlines at a node's place
abbrev pub span_node : List ℕ → List Target → Node → Span → NodeView
span_node texts targets n s = record { depth = n.depth; item = Container (span_tag texts targets s); start = n.start; end = n.end }

-- an inline without children at a node's place
abbrev pub leaf_node : List ℕ → Node → Leaf → NodeView
leaf_node texts n l = record { depth = n.depth; item = Given (leaf_of texts l); start = n.start; end = n.end }

-- the node of an inline
unfoldable pub inline_node : List ℕ → List Target → Node → NodeView
inline_node texts targets n = record { depth = n.depth; item = inline_item texts targets n.item; start = n.start; end = n.end }
