-- What a leaf's inlines say, without places: each inline with its depth, from left to right, and a text as its bytes one by one.
use Rattle.std.specs.Prelude.{ℕ, suc, List, [], ◌∷◌, ◌++◌, length, encode_utf8, slice_get, unwrap_or, Option}
use Rattle.std.specs.List.{flat_map}
use Rattle.tocmark_event.specs.View.{TagView, EventView, Start, Leaf, Text, Code, InlineHtml, SoftBreak, HardBreak, FootnoteReference, InlineMath, DisplayMath, Emphasis, Strong, Strikethrough, Subscript, Superscript, Link, Image}
use Rattle.tocmark_event.specs.declared.event.LinkType.TheVariants as link
use Rattle.tocmark_read_scan.specs.Basic.{bytes_between}
use Rattle.tocmark_read_scan.specs.declared.syntax.Syntax.{Syntax}
use Rattle.tocmark_read_scan.specs.declared.syntax.TheConstants.{CORE}
use Rattle.tocmark_read_scan.specs.declared.syntax.Names.TheVariants.{All}
use Rattle.tocmark_read_spans.specs.declared.definitions.Entry.{Entry}
use Rattle.tocmark_read_spans.specs.declared.role.Leaf.{Leaf as LeafRole}
use Rattle.tocmark_read_spans.specs.declared.role.Leaf.TheVariants as leaf
use Rattle.tocmark_read_spans.specs.declared.role.Span.{Span}
use Rattle.tocmark_read_spans.specs.declared.role.Span.TheVariants as span
use Rattle.tocmark_read_spans.specs.declared.role.Stretch.{Stretch}
use Rattle.tocmark_read_spans.specs.declared.role.Target.{Target}
use Rattle.tocmark_read_inlines.specs.Inlines.{scan_start}
use Rattle.tocmark_read_inlines.specs.Scan as scan
use Rattle.tocmark_read_inlines.specs.Write.{written}
use Rattle.tocmark_read_inlines.specs.declared.write.InlineKind.{InlineKind}
use Rattle.tocmark_read_inlines.specs.declared.write.InlineKind.TheVariants as kind
use Rattle.tocmark_read_inlines.specs.declared.write.Node.{Node}
use Rattle.tocmark_commonmark.specs.InlineTree as inline

-- CommonMark without extensions, with all names of character references
abbrev pub commonmark : Syntax
commonmark = record CORE { names = All }

-- an inline without what is in it, and the number of containers that it lies in
abbrev pub Piece : Type 0
Piece = ℕ × EventView

-- the bytes of a text at a depth
abbrev pub letters : ℕ → List ℕ → List Piece
letters depth [] = []
letters depth (b ∷ bs) = (depth, Leaf (Text (b ∷ []))) ∷ letters depth bs

-- the text of a stretch
abbrev pub words : List ℕ → Stretch → List ℕ
words texts s = bytes_between texts s.start s.end

-- the empty stretch
abbrev pub nowhere : Stretch
nowhere = record { start = 0; end = 0 }

-- the target with a number
abbrev pub target_at : List Target → ℕ → Target
target_at targets number =
    unwrap_or (slice_get targets number) (record { link_type = link.Inline; destination = nowhere; title = nowhere; id = nowhere })

-- a link with its texts
abbrev pub link_said : List ℕ → Target → TagView
link_said texts t = Link t.link_type (words texts t.destination) (words texts t.title) (words texts t.id)

-- an image with its texts
abbrev pub image_said : List ℕ → Target → TagView
image_said texts t = Image t.link_type (words texts t.destination) (words texts t.title) (words texts t.id)

-- a container of the reader
abbrev pub tag_said : List ℕ → List Target → Span → TagView
tag_said texts targets span.Emphasis = Emphasis
tag_said texts targets span.Strong = Strong
tag_said texts targets span.Strikethrough = Strikethrough
tag_said texts targets (span.Link number) = link_said texts (target_at targets number)
tag_said texts targets (span.Image number) = image_said texts (target_at targets number)
tag_said texts targets span.Subscript = Subscript
tag_said texts targets span.Superscript = Superscript

-- an inline of the reader that is neither a container nor a text of the content
abbrev pub leaf_said : List ℕ → ℕ → LeafRole → List Piece
leaf_said texts depth (leaf.Character c) = letters depth (encode_utf8 c)
leaf_said texts depth (leaf.Code s) = (depth, Leaf (Code (words texts s))) ∷ []
leaf_said texts depth (leaf.Html s) = (depth, Leaf (InlineHtml (words texts s))) ∷ []
leaf_said texts depth leaf.SoftBreak = (depth, Leaf SoftBreak) ∷ []
leaf_said texts depth leaf.HardBreak = (depth, Leaf HardBreak) ∷ []
leaf_said texts depth (leaf.Text s) = letters depth (words texts s)
leaf_said texts depth (leaf.Footnote s) = (depth, Leaf (FootnoteReference (words texts s))) ∷ []
leaf_said texts depth (leaf.InlineMath s) = (depth, Leaf (InlineMath (words texts s))) ∷ []
leaf_said texts depth (leaf.DisplayMath s) = (depth, Leaf (DisplayMath (words texts s))) ∷ []

-- what is at a node of the reader
abbrev pub kind_said : List ℕ → List ℕ → List Target → ℕ → ℕ → ℕ → InlineKind → List Piece
kind_said bytes texts targets depth start end kind.Text = letters depth (bytes_between bytes start end)
kind_said bytes texts targets depth start end (kind.Span s) = (depth, Start (tag_said texts targets s)) ∷ []
kind_said bytes texts targets depth start end (kind.Leaf l) = leaf_said texts depth l

-- a node of the reader
abbrev pub node_said : List ℕ → List ℕ → List Target → Node → List Piece
node_said bytes texts targets n = kind_said bytes texts targets n.depth n.start n.end n.item

-- what the reader makes of a content, with the texts and the targets beside it
abbrev pub state_said : List ℕ → scan.State → List Piece
state_said bytes s = flat_map (node_said bytes s.texts s.targets) (written s.roles 0)

-- what the reader makes of a content, where labels lead to these entries among the texts, beside these targets and missed labels
abbrev pub said : List ℕ → (List ℕ → Option Entry) → List Target → List ℕ → List Stretch → List Piece
said bytes definitions targets texts missed =
    state_said bytes (scan.scanned_in commonmark bytes definitions (scan_start (length bytes) targets texts missed))

-- inlines that are declared, at a depth
abbrev mutual
  pub declared : ℕ → inline.Inlines → List Piece
  declared depth inline.none = []
  declared depth (inline.more i rest) = declared_one depth i ++ declared depth rest

  pub declared_one : ℕ → inline.Inline → List Piece
  declared_one depth (inline.Text t) = letters depth t
  declared_one depth (inline.Code t) = (depth, Leaf (Code t)) ∷ []
  declared_one depth (inline.RawHtml t) = (depth, Leaf (InlineHtml t)) ∷ []
  declared_one depth inline.SoftBreak = (depth, Leaf SoftBreak) ∷ []
  declared_one depth inline.HardBreak = (depth, Leaf HardBreak) ∷ []
  declared_one depth (inline.Emphasis e) = (depth, Start Emphasis) ∷ declared (suc depth) e
  declared_one depth (inline.Strong e) = (depth, Start Strong) ∷ declared (suc depth) e
  declared_one depth (inline.Link k d t l e) = (depth, Start (Link k d t l)) ∷ declared (suc depth) e
  declared_one depth (inline.Image k d t l e) = (depth, Start (Image k d t l)) ∷ declared (suc depth) e
