-- The JSON value of an event, in the form of pulldown-cmark's feature `serde`.
use Rattle.std.specs.Prelude.{◌≡◌, ℕ, List, map, codes, Option, None, Some}
use Rattle.serde_json.specs.Data.{Data, null, boolean, number, unsigned, string, array, object, no_items, item, no_members, member}
use Rattle.serde_json.specs.View.{items_of}
use Rattle.tocmark_event.specs.View as view
use Rattle.tocmark_event.specs.View.{CodeView, TagView, LeafView, EventView}
use Rattle.tocmark_event.specs.declared.event.HeadingLevel.{HeadingLevel}
use Rattle.tocmark_event.specs.declared.event.HeadingLevel.TheVariants as level
use Rattle.tocmark_event.specs.declared.event.BlockQuoteKind.{BlockQuoteKind}
use Rattle.tocmark_event.specs.declared.event.BlockQuoteKind.TheVariants as quote
use Rattle.tocmark_event.specs.declared.event.Alignment.{Alignment}
use Rattle.tocmark_event.specs.declared.event.Alignment.TheVariants as align
use Rattle.tocmark_event.specs.declared.event.MetadataBlockKind.{MetadataBlockKind}
use Rattle.tocmark_event.specs.declared.event.MetadataBlockKind.TheVariants as meta
use Rattle.tocmark_event.specs.declared.event.LinkType.{LinkType}
use Rattle.tocmark_event.specs.declared.event.LinkType.TheVariants as link
use Rattle.tocmark_event.specs.declared.event.EventOf.{EventOf}
use Rattle.tocmark_event.specs.declared.event.TagEnd.{TagEnd}
use Rattle.tocmark_event.specs.declared.event.TagEnd.TheVariants as end
use Rattle.tocmark_json.specs.Destinations.{details_of}
use Rattle.tocmark_json.specs.declared.positions.Details.{Details}
use Rattle.tocmark_json.specs.declared.positions.Span.{Span}

-- a variant that holds something: an object whose one key is the variant's name
abbrev pub tagged : List ℕ → Data → Data
tagged name content = object (member name content no_members)

-- what may be missing: null, or the value itself
abbrev pub optional : {A : Type 0} → (A → Data) → Option A → Data
optional f None = null
optional f (Some a) = f a

-- a list: an array of the values of its elements
abbrev pub listed : {A : Type 0} → (A → Data) → List A → Data
listed f xs = array (items_of (map f xs))

-- two values in an array
abbrev pub both : Data → Data → Data
both a b = array (item a (item b no_items))

abbrev pub size_json : ℕ → Data
size_json n = number (unsigned n)

-- ---- the enumerations: each variant is its name

abbrev pub level_json : HeadingLevel → Data
level_json level.H1 = string (codes "H1")
level_json level.H2 = string (codes "H2")
level_json level.H3 = string (codes "H3")
level_json level.H4 = string (codes "H4")
level_json level.H5 = string (codes "H5")
level_json level.H6 = string (codes "H6")

abbrev pub quote_json : BlockQuoteKind → Data
quote_json quote.Note = string (codes "Note")
quote_json quote.Tip = string (codes "Tip")
quote_json quote.Important = string (codes "Important")
quote_json quote.Warning = string (codes "Warning")
quote_json quote.Caution = string (codes "Caution")

abbrev pub alignment_json : Alignment → Data
alignment_json align.None = string (codes "None")
alignment_json align.Left = string (codes "Left")
alignment_json align.Center = string (codes "Center")
alignment_json align.Right = string (codes "Right")

abbrev pub metadata_json : MetadataBlockKind → Data
metadata_json meta.YamlStyle = string (codes "YamlStyle")
metadata_json meta.PlusesStyle = string (codes "PlusesStyle")

abbrev pub link_type_json : LinkType → Data
link_type_json link.Inline = string (codes "Inline")
link_type_json link.Reference = string (codes "Reference")
link_type_json link.ReferenceUnknown = string (codes "ReferenceUnknown")
link_type_json link.Collapsed = string (codes "Collapsed")
link_type_json link.CollapsedUnknown = string (codes "CollapsedUnknown")
link_type_json link.Shortcut = string (codes "Shortcut")
link_type_json link.ShortcutUnknown = string (codes "ShortcutUnknown")
link_type_json link.Autolink = string (codes "Autolink")
link_type_json link.Email = string (codes "Email")
link_type_json (link.WikiLink has_pothole) =
    tagged (codes "WikiLink") (object (member (codes "has_pothole") (boolean has_pothole) no_members))

-- ---- containers

abbrev pub code_json : CodeView → Data
code_json view.Indented = string (codes "Indented")
code_json (view.Fenced info) = tagged (codes "Fenced") (string info)

-- an attribute of a heading: its name, and its value or null
abbrev pub attribute_json : List ℕ × Option (List ℕ) → Data
attribute_json a = both (string a.0) (optional string a.1)

-- the members of an object are in the order of their keys
abbrev pub heading_json : HeadingLevel → Option (List ℕ) → List (List ℕ) → List (List ℕ × Option (List ℕ)) → Data
heading_json level id classes attrs =
    object (member (codes "attrs") (listed attribute_json attrs)
    (member (codes "classes") (listed string classes)
    (member (codes "id") (optional string id)
    (member (codes "level") (level_json level) no_members))))

abbrev pub link_json : LinkType → List ℕ → List ℕ → List ℕ → Data
link_json link_type dest_url title id =
    object (member (codes "dest_url") (string dest_url)
    (member (codes "id") (string id)
    (member (codes "link_type") (link_type_json link_type)
    (member (codes "title") (string title) no_members))))

-- a link's type, destination, title and id as one value
abbrev pub target_json : LinkType × List ℕ × List ℕ × List ℕ → Data
target_json t = link_json t.0 t.1 t.2 t.3

abbrev pub tag_json : TagView → Data
tag_json view.Paragraph = string (codes "Paragraph")
tag_json (view.Heading level id classes attrs) = tagged (codes "Heading") (heading_json level id classes attrs)
tag_json (view.BlockQuote kind) = tagged (codes "BlockQuote") (optional quote_json kind)
tag_json (view.CodeBlock kind) = tagged (codes "CodeBlock") (code_json kind)
tag_json view.HtmlBlock = string (codes "HtmlBlock")
tag_json (view.ListOf start) = tagged (codes "List") (optional size_json start)
tag_json view.Item = string (codes "Item")
tag_json (view.FootnoteDefinition label) = tagged (codes "FootnoteDefinition") (string label)
tag_json view.DefinitionList = string (codes "DefinitionList")
tag_json view.DefinitionListTitle = string (codes "DefinitionListTitle")
tag_json view.DefinitionListDefinition = string (codes "DefinitionListDefinition")
tag_json (view.Table alignments) = tagged (codes "Table") (listed alignment_json alignments)
tag_json view.TableHead = string (codes "TableHead")
tag_json view.TableRow = string (codes "TableRow")
tag_json view.TableCell = string (codes "TableCell")
tag_json view.Emphasis = string (codes "Emphasis")
tag_json view.Strong = string (codes "Strong")
tag_json view.Strikethrough = string (codes "Strikethrough")
tag_json view.Superscript = string (codes "Superscript")
tag_json view.Subscript = string (codes "Subscript")
tag_json (view.Link link_type dest_url title id) = tagged (codes "Link") (link_json link_type dest_url title id)
tag_json (view.Image link_type dest_url title id) = tagged (codes "Image") (link_json link_type dest_url title id)
tag_json (view.MetadataBlock kind) = tagged (codes "MetadataBlock") (metadata_json kind)

abbrev pub end_json : TagEnd → Data
end_json end.Paragraph = string (codes "Paragraph")
end_json (end.Heading level) = tagged (codes "Heading") (level_json level)
end_json (end.BlockQuote kind) = tagged (codes "BlockQuote") (optional quote_json kind)
end_json end.CodeBlock = string (codes "CodeBlock")
end_json end.HtmlBlock = string (codes "HtmlBlock")
end_json (end.List ordered) = tagged (codes "List") (boolean ordered)
end_json end.Item = string (codes "Item")
end_json end.FootnoteDefinition = string (codes "FootnoteDefinition")
end_json end.DefinitionList = string (codes "DefinitionList")
end_json end.DefinitionListTitle = string (codes "DefinitionListTitle")
end_json end.DefinitionListDefinition = string (codes "DefinitionListDefinition")
end_json end.Table = string (codes "Table")
end_json end.TableHead = string (codes "TableHead")
end_json end.TableRow = string (codes "TableRow")
end_json end.TableCell = string (codes "TableCell")
end_json end.Emphasis = string (codes "Emphasis")
end_json end.Strong = string (codes "Strong")
end_json end.Strikethrough = string (codes "Strikethrough")
end_json end.Superscript = string (codes "Superscript")
end_json end.Subscript = string (codes "Subscript")
end_json end.Link = string (codes "Link")
end_json end.Image = string (codes "Image")
end_json (end.MetadataBlock kind) = tagged (codes "MetadataBlock") (metadata_json kind)

-- ---- events

abbrev pub leaf_json : LeafView → Data
leaf_json (view.Text s) = tagged (codes "Text") (string s)
leaf_json (view.Code s) = tagged (codes "Code") (string s)
leaf_json (view.InlineMath s) = tagged (codes "InlineMath") (string s)
leaf_json (view.DisplayMath s) = tagged (codes "DisplayMath") (string s)
leaf_json (view.Html s) = tagged (codes "Html") (string s)
leaf_json (view.InlineHtml s) = tagged (codes "InlineHtml") (string s)
leaf_json (view.FootnoteReference s) = tagged (codes "FootnoteReference") (string s)
leaf_json view.SoftBreak = string (codes "SoftBreak")
leaf_json view.HardBreak = string (codes "HardBreak")
leaf_json view.Rule = string (codes "Rule")
leaf_json (view.TaskListMarker b) = tagged (codes "TaskListMarker") (boolean b)

abbrev pub event_json : EventView → Data
event_json (view.Start t) = tagged (codes "Start") (tag_json t)
event_json (view.End k) = tagged (codes "End") (end_json k)
event_json (view.Leaf l) = leaf_json l

-- a range of bytes: the first one, and the one after the last
abbrev pub range_json : ℕ × ℕ → Data
range_json r = object (member (codes "end") (size_json r.1) (member (codes "start") (size_json r.0) no_members))

-- a range with the lines and columns of its ends
abbrev pub spanned_json : ℕ × ℕ → Span → Data
spanned_json r s =
    object (member (codes "end") (size_json r.1)
    (member (codes "end_column") (size_json s.end.column)
    (member (codes "end_line") (size_json s.end.line)
    (member (codes "start") (size_json r.0)
    (member (codes "start_column") (size_json s.start.column)
    (member (codes "start_line") (size_json s.start.line) no_members))))))

-- the same of a link, with the bytes of its destination
abbrev pub targeted_json : ℕ × ℕ → Span → ℕ × ℕ → Data
targeted_json r s d =
    object (member (codes "dest_end") (size_json d.1)
    (member (codes "dest_start") (size_json d.0)
    (member (codes "end") (size_json r.1)
    (member (codes "end_column") (size_json s.end.column)
    (member (codes "end_line") (size_json s.end.line)
    (member (codes "start") (size_json r.0)
    (member (codes "start_column") (size_json s.start.column)
    (member (codes "start_line") (size_json s.start.line) no_members))))))))

-- a range with its lines and columns, and the bytes of a destination, if there is one
abbrev pub spanned_or_targeted : ℕ × ℕ → Span → Option (ℕ × ℕ) → Data
spanned_or_targeted r s None = spanned_json r s
spanned_or_targeted r s (Some d) = targeted_json r s d

abbrev pub detailed_json : ℕ × ℕ → Details → Data
detailed_json r d = spanned_or_targeted r d.span d.destination

-- a range, if there is one, with its details or without
abbrev pub location_json : Option (ℕ × ℕ) → Option Details → Data
location_json None d = null
location_json (Some r) None = range_json r
location_json (Some r) (Some d) = detailed_json r d

-- a range with its details as one value
abbrev pub place_json : Option (ℕ × ℕ) × Option Details → Data
place_json p = location_json p.0 p.1

abbrev pub full_place_json : (ℕ × ℕ) × Span → Data
full_place_json p = spanned_json p.0 p.1

abbrev pub target_place_json : (ℕ × ℕ) × (Span × (ℕ × ℕ)) → Data
target_place_json p = targeted_json p.0 p.1.0 p.1.1

-- an event whose texts have these bytes, with its range, if it has one
abbrev pub pair_view : {T : Type 0} → (T → List ℕ) → EventOf T × Option (ℕ × ℕ) → EventView × Option (ℕ × ℕ)
pair_view bytes p = (view.event_view bytes p.0, p.1)

-- an event whose texts have these bytes, with its range
abbrev pub ranged_view : {T : Type 0} → (T → List ℕ) → EventOf T × (ℕ × ℕ) → EventView × Option (ℕ × ℕ)
ranged_view bytes p = (view.event_view bytes p.0, Some p.1)

-- an event and its range, or null where it has none
abbrev pub pair_json : EventView × Option (ℕ × ℕ) → Data
pair_json p = both (event_json p.0) (optional range_json p.1)

-- an event, its range, and the details of that
abbrev pub located_json : (EventView × Option (ℕ × ℕ)) × Option Details → Data
located_json l = both (event_json l.0.0) (location_json l.0.1 l.1)

-- an event of a text that has a range there, with the details of that
abbrev pub located_view : {T : Type 0} → (T → List ℕ) → List ℕ → EventOf T × (ℕ × ℕ) → (EventView × Option (ℕ × ℕ)) × Option Details
located_view bytes text p = (ranged_view bytes p, Some (details_of text (view.event_view bytes p.0) p.1))

-- a list of events, and one of events with their ranges
abbrev pub events_json : List EventView → Data
events_json = listed event_json

abbrev pub pairs_json : List (EventView × Option (ℕ × ℕ)) → Data
pairs_json = listed pair_json

-- a value is that of events with their ranges, each with its details or without
abbrev pub IsPairsJson : Data → List (EventView × Option (ℕ × ℕ)) → Type 0
IsPairsJson value pairs =
    (ls : List ((EventView × Option (ℕ × ℕ)) × Option Details)) × (value ≡ listed located_json ls) × (map (λ l. l.0) ls ≡ pairs)
