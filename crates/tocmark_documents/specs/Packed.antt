-- The packed form: events with their ranges as bytes.
use Rattle.std.specs.Prelude.{ℕ, zero, suc, ◌/◌, ◌%◌, List, [], ◌∷◌, ◌++◌, Bool, true, false, length, Option, None, Some}
use Rattle.std.specs.List.{flat_map}
use Rattle.tocmark_event.specs.View as view
use Rattle.tocmark_event.specs.View.{CodeView, TagView, LeafView, EventView}
use Rattle.tocmark_event.specs.declared.event.HeadingLevel.{HeadingLevel}
use Rattle.tocmark_event.specs.declared.event.HeadingLevel.TheVariants as level
use Rattle.tocmark_event.specs.declared.event.BlockQuoteKind.{BlockQuoteKind}
use Rattle.tocmark_event.specs.declared.event.BlockQuoteKind.TheVariants as quote
use Rattle.tocmark_event.specs.declared.event.Alignment.{Alignment}
use Rattle.tocmark_event.specs.declared.event.Alignment.TheVariants as align
use Rattle.tocmark_event.specs.declared.event.MetadataBlockKind.{MetadataBlockKind}
use Rattle.tocmark_event.specs.declared.event.MetadataBlockKind.TheVariants as meta
use Rattle.tocmark_event.specs.declared.event.LinkType.{LinkType}
use Rattle.tocmark_event.specs.declared.event.LinkType.TheVariants as link
use Rattle.tocmark_event.specs.declared.event.TagEnd.{TagEnd}
use Rattle.tocmark_event.specs.declared.event.TagEnd.TheVariants as end

-- ---- numbers, texts and lists

-- so many digits of a number to the base 256, the lowest first, and what is left as the last one
abbrev pub digits_and_rest : ℕ → ℕ → List ℕ
digits_and_rest zero n = n ∷ []
digits_and_rest (suc k) n = n % 256 ∷ digits_and_rest k (n / 256)

-- a number takes 8 bytes; one that is too large for these has a last digit that is no byte
unfoldable pub packed_number : ℕ → List ℕ
packed_number n = digits_and_rest 7 n

-- a text: its length, and its bytes
unfoldable pub packed_text : List ℕ → List ℕ
packed_text s = packed_number (length s) ++ s

-- a list: its length, and its elements
unfoldable pub packed_list : {A : Type 0} → (A → List ℕ) → List A → List ℕ
packed_list f xs = packed_number (length xs) ++ flat_map f xs

-- what may be missing: 0, or 1 and the value
abbrev pub packed_option : {A : Type 0} → (A → List ℕ) → Option A → List ℕ
packed_option f None = 0 ∷ []
packed_option f (Some a) = 1 ∷ f a

-- ---- what is one byte

abbrev pub truth_byte : Bool → ℕ
truth_byte false = 0
truth_byte true = 1

abbrev pub level_byte : HeadingLevel → ℕ
level_byte level.H1 = 1
level_byte level.H2 = 2
level_byte level.H3 = 3
level_byte level.H4 = 4
level_byte level.H5 = 5
level_byte level.H6 = 6

abbrev pub quote_byte : BlockQuoteKind → ℕ
quote_byte quote.Note = 0
quote_byte quote.Tip = 1
quote_byte quote.Important = 2
quote_byte quote.Warning = 3
quote_byte quote.Caution = 4

abbrev pub alignment_byte : Alignment → ℕ
alignment_byte align.None = 0
alignment_byte align.Left = 1
alignment_byte align.Center = 2
alignment_byte align.Right = 3

abbrev pub metadata_byte : MetadataBlockKind → ℕ
metadata_byte meta.YamlStyle = 0
metadata_byte meta.PlusesStyle = 1

abbrev pub link_byte : LinkType → ℕ
link_byte link.Inline = 0
link_byte link.Reference = 1
link_byte link.ReferenceUnknown = 2
link_byte link.Collapsed = 3
link_byte link.CollapsedUnknown = 4
link_byte link.Shortcut = 5
link_byte link.ShortcutUnknown = 6
link_byte link.Autolink = 7
link_byte link.Email = 8
link_byte (link.WikiLink false) = 9
link_byte (link.WikiLink true) = 10

-- a value that is one byte
abbrev pub packed_byte : {A : Type 0} → (A → ℕ) → A → List ℕ
packed_byte f a = f a ∷ []

-- ---- containers: a byte, the same at the start and at the end, and the parts in their order

abbrev pub packed_code : CodeView → List ℕ
packed_code view.Indented = 0 ∷ []
packed_code (view.Fenced info) = 1 ∷ packed_text info

-- an attribute of a heading: its name, and its value, if it has one
abbrev pub packed_attribute : List ℕ × Option (List ℕ) → List ℕ
packed_attribute a = packed_text a.0 ++ packed_option packed_text a.1

abbrev pub packed_heading : HeadingLevel → Option (List ℕ) → List (List ℕ) → List (List ℕ × Option (List ℕ)) → List ℕ
packed_heading level id classes attrs =
    level_byte level ∷ (packed_option packed_text id ++ (packed_list packed_text classes ++ packed_list packed_attribute attrs))

abbrev pub packed_link : LinkType → List ℕ → List ℕ → List ℕ → List ℕ
packed_link link_type dest_url title id =
    link_byte link_type ∷ (packed_text dest_url ++ (packed_text title ++ packed_text id))

abbrev pub packed_tag : TagView → List ℕ
packed_tag view.Paragraph = 0 ∷ []
packed_tag view.HtmlBlock = 1 ∷ []
packed_tag view.Item = 2 ∷ []
packed_tag view.DefinitionList = 3 ∷ []
packed_tag view.DefinitionListTitle = 4 ∷ []
packed_tag view.DefinitionListDefinition = 5 ∷ []
packed_tag view.TableHead = 6 ∷ []
packed_tag view.TableRow = 7 ∷ []
packed_tag view.TableCell = 8 ∷ []
packed_tag view.Emphasis = 9 ∷ []
packed_tag view.Strong = 10 ∷ []
packed_tag view.Strikethrough = 11 ∷ []
packed_tag view.Superscript = 12 ∷ []
packed_tag view.Subscript = 13 ∷ []
packed_tag (view.CodeBlock kind) = 14 ∷ packed_code kind
packed_tag (view.FootnoteDefinition label) = 15 ∷ packed_text label
packed_tag (view.Table alignments) = 16 ∷ packed_list (packed_byte alignment_byte) alignments
packed_tag (view.Link link_type dest_url title id) = 17 ∷ packed_link link_type dest_url title id
packed_tag (view.Image link_type dest_url title id) = 18 ∷ packed_link link_type dest_url title id
packed_tag (view.Heading level id classes attrs) = 19 ∷ packed_heading level id classes attrs
packed_tag (view.BlockQuote kind) = 20 ∷ packed_option (packed_byte quote_byte) kind
packed_tag (view.ListOf start) = 21 ∷ packed_option packed_number start
packed_tag (view.MetadataBlock kind) = 22 ∷ packed_byte metadata_byte kind

abbrev pub packed_end : TagEnd → List ℕ
packed_end end.Paragraph = 0 ∷ []
packed_end end.HtmlBlock = 1 ∷ []
packed_end end.Item = 2 ∷ []
packed_end end.DefinitionList = 3 ∷ []
packed_end end.DefinitionListTitle = 4 ∷ []
packed_end end.DefinitionListDefinition = 5 ∷ []
packed_end end.TableHead = 6 ∷ []
packed_end end.TableRow = 7 ∷ []
packed_end end.TableCell = 8 ∷ []
packed_end end.Emphasis = 9 ∷ []
packed_end end.Strong = 10 ∷ []
packed_end end.Strikethrough = 11 ∷ []
packed_end end.Superscript = 12 ∷ []
packed_end end.Subscript = 13 ∷ []
packed_end end.CodeBlock = 14 ∷ []
packed_end end.FootnoteDefinition = 15 ∷ []
packed_end end.Table = 16 ∷ []
packed_end end.Link = 17 ∷ []
packed_end end.Image = 18 ∷ []
packed_end (end.Heading level) = 19 ∷ packed_byte level_byte level
packed_end (end.BlockQuote kind) = 20 ∷ packed_option (packed_byte quote_byte) kind
packed_end (end.List ordered) = 21 ∷ packed_byte truth_byte ordered
packed_end (end.MetadataBlock kind) = 22 ∷ packed_byte metadata_byte kind

-- ---- events: a byte, and what the event has

abbrev pub packed_event : EventView → List ℕ
packed_event (view.Start tag) = 0 ∷ packed_tag tag
packed_event (view.End end) = 1 ∷ packed_end end
packed_event (view.Leaf view.SoftBreak) = 2 ∷ []
packed_event (view.Leaf view.HardBreak) = 3 ∷ []
packed_event (view.Leaf view.Rule) = 4 ∷ []
packed_event (view.Leaf (view.TaskListMarker checked)) = 5 ∷ packed_byte truth_byte checked
packed_event (view.Leaf (view.Text s)) = 6 ∷ packed_text s
packed_event (view.Leaf (view.Code s)) = 7 ∷ packed_text s
packed_event (view.Leaf (view.InlineMath s)) = 8 ∷ packed_text s
packed_event (view.Leaf (view.DisplayMath s)) = 9 ∷ packed_text s
packed_event (view.Leaf (view.Html s)) = 10 ∷ packed_text s
packed_event (view.Leaf (view.InlineHtml s)) = 11 ∷ packed_text s
packed_event (view.Leaf (view.FootnoteReference s)) = 12 ∷ packed_text s

-- a range: its first byte, and the one after its last
abbrev pub packed_range : ℕ × ℕ → List ℕ
packed_range r = packed_number r.0 ++ packed_number r.1

-- an event after its range, if it has one
abbrev pub packed_pair : EventView × Option (ℕ × ℕ) → List ℕ
packed_pair p = packed_option packed_range p.1 ++ packed_event p.0

-- events are one after the other
abbrev pub packed_pairs : List (EventView × Option (ℕ × ℕ)) → List ℕ
packed_pairs pairs = flat_map packed_pair pairs
