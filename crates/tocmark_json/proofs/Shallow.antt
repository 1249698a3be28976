-- Events nest no deeper than JSON is read.
use Rattle.std.proofs.Common.{ℕ, ◌≤◌, List, [], ◌∷◌, Option, Some, None, map, arith}
use Rattle.serde_json.specs.Data.{Data, string, depth, items_depth}
use Rattle.serde_json.specs.Read.{max_depth}
use Rattle.serde_json.specs.View.{items_of}
use Rattle.tocmark_event.specs.View as view
use Rattle.tocmark_event.specs.View.{CodeView, TagView, LeafView, EventView}
use Rattle.tocmark_event.specs.declared.event.HeadingLevel.{HeadingLevel}
use Rattle.tocmark_event.specs.declared.event.HeadingLevel.TheVariants as level
use Rattle.tocmark_event.specs.declared.event.BlockQuoteKind.{BlockQuoteKind}
use Rattle.tocmark_event.specs.declared.event.BlockQuoteKind.TheVariants as quote
use Rattle.tocmark_event.specs.declared.event.Alignment.{Alignment}
use Rattle.tocmark_event.specs.declared.event.Alignment.TheVariants as align
use Rattle.tocmark_event.specs.declared.event.MetadataBlockKind.{MetadataBlockKind}
use Rattle.tocmark_event.specs.declared.event.MetadataBlockKind.TheVariants as meta
use Rattle.tocmark_event.specs.declared.event.LinkType.{LinkType}
use Rattle.tocmark_event.specs.declared.event.LinkType.TheVariants as link
use Rattle.tocmark_event.specs.declared.event.TagEnd.{TagEnd}
use Rattle.tocmark_event.specs.declared.event.TagEnd.TheVariants as end
use Rattle.tocmark_json.specs.declared.positions.Details.{Details}
use Rattle.tocmark_json.specs.declared.positions.Span.{Span}
use Rattle.tocmark_json.specs.Json.{alignment_json, attribute_json, code_json, end_json, event_json, events_json, leaf_json, level_json, link_type_json, listed, located_json, location_json, metadata_json, optional, pair_json, pairs_json, quote_json, range_json, size_json, spanned_or_targeted, tag_json}

-- a list nests one deeper than its elements do
all_shallow : {A : Type 0} (f : A → Data) (n : ℕ) → ((a : A) → depth (f a) ≤ n) → (xs : List A) → items_depth (items_of (map f xs)) ≤ n
all_shallow f n each [] = omega arith
all_shallow f n each (x ∷ xs) = omega (arith, each x, all_shallow f n each xs)

optional_shallow : {A : Type 0} (f : A → Data) (n : ℕ) → ((a : A) → depth (f a) ≤ n) → (o : Option A) → depth (optional f o) ≤ n
optional_shallow f n each None = omega arith
optional_shallow f n each (Some a) = each a

level_flat : (l : HeadingLevel) → depth (level_json l) ≤ 0
level_flat level.H1 = omega arith
level_flat level.H2 = omega arith
level_flat level.H3 = omega arith
level_flat level.H4 = omega arith
level_flat level.H5 = omega arith
level_flat level.H6 = omega arith

quote_flat : (k : BlockQuoteKind) → depth (quote_json k) ≤ 0
quote_flat quote.Note = omega arith
quote_flat quote.Tip = omega arith
quote_flat quote.Important = omega arith
quote_flat quote.Warning = omega arith
quote_flat quote.Caution = omega arith

alignment_flat : (a : Alignment) → depth (alignment_json a) ≤ 0
alignment_flat align.None = omega arith
alignment_flat align.Left = omega arith
alignment_flat align.Center = omega arith
alignment_flat align.Right = omega arith

metadata_flat : (k : MetadataBlockKind) → depth (metadata_json k) ≤ 0
metadata_flat meta.YamlStyle = omega arith
metadata_flat meta.PlusesStyle = omega arith

link_type_shallow : (k : LinkType) → depth (link_type_json k) ≤ 2
link_type_shallow (link.WikiLink b) = omega arith
link_type_shallow link.Inline = omega arith
link_type_shallow link.Reference = omega arith
link_type_shallow link.ReferenceUnknown = omega arith
link_type_shallow link.Collapsed = omega arith
link_type_shallow link.CollapsedUnknown = omega arith
link_type_shallow link.Shortcut = omega arith
link_type_shallow link.ShortcutUnknown = omega arith
link_type_shallow link.Autolink = omega arith
link_type_shallow link.Email = omega arith

code_shallow : (k : CodeView) → depth (code_json k) ≤ 1
code_shallow view.Indented = omega arith
code_shallow (view.Fenced info) = omega arith

text_flat : (s : List ℕ) → depth (string s) ≤ 0
text_flat s = omega arith

size_flat : (n : ℕ) → depth (size_json n) ≤ 0
size_flat n = omega arith

attribute_shallow : (a : List ℕ × Option (List ℕ)) → depth (attribute_json a) ≤ 1
attribute_shallow a = omega (arith, optional_shallow string 0 text_flat a.1)

tag_shallow : (t : TagView) → depth (tag_json t) ≤ 4
tag_shallow (view.Heading l id classes attrs) =
    omega (arith, level_flat l, optional_shallow string 0 text_flat id, all_shallow string 0 text_flat classes, all_shallow attribute_json 1 attribute_shallow attrs)
tag_shallow (view.BlockQuote kind) = omega (arith, optional_shallow quote_json 0 quote_flat kind)
tag_shallow (view.CodeBlock kind) = omega (arith, code_shallow kind)
tag_shallow (view.ListOf start) = omega (arith, optional_shallow size_json 0 size_flat start)
tag_shallow (view.FootnoteDefinition label) = omega arith
tag_shallow (view.Table alignments) = omega (arith, all_shallow alignment_json 0 alignment_flat alignments)
tag_shallow (view.Link k dest title id) = omega (arith, link_type_shallow k)
tag_shallow (view.Image k dest title id) = omega (arith, link_type_shallow k)
tag_shallow (view.MetadataBlock kind) = omega (arith, metadata_flat kind)
tag_shallow view.Paragraph = omega arith
tag_shallow view.HtmlBlock = omega arith
tag_shallow view.Item = omega arith
tag_shallow view.DefinitionList = omega arith
tag_shallow view.DefinitionListTitle = omega arith
tag_shallow view.DefinitionListDefinition = omega arith
tag_shallow view.TableHead = omega arith
tag_shallow view.TableRow = omega arith
tag_shallow view.TableCell = omega arith
tag_shallow view.Emphasis = omega arith
tag_shallow view.Strong = omega arith
tag_shallow view.Strikethrough = omega arith
tag_shallow view.Superscript = omega arith
tag_shallow view.Subscript = omega arith

end_shallow : (k : TagEnd) → depth (end_json k) ≤ 1
end_shallow (end.Heading l) = omega (arith, level_flat l)
end_shallow (end.BlockQuote kind) = omega (arith, optional_shallow quote_json 0 quote_flat kind)
end_shallow (end.List ordered) = omega arith
end_shallow (end.MetadataBlock kind) = omega (arith, metadata_flat kind)
end_shallow end.Paragraph = omega arith
end_shallow end.CodeBlock = omega arith
end_shallow end.HtmlBlock = omega arith
end_shallow end.Item = omega arith
end_shallow end.FootnoteDefinition = omega arith
end_shallow end.DefinitionList = omega arith
end_shallow end.DefinitionListTitle = omega arith
end_shallow end.DefinitionListDefinition = omega arith
end_shallow end.Table = omega arith
end_shallow end.TableHead = omega arith
end_shallow end.TableRow = omega arith
end_shallow end.TableCell = omega arith
end_shallow end.Emphasis = omega arith
end_shallow end.Strong = omega arith
end_shallow end.Strikethrough = omega arith
end_shallow end.Superscript = omega arith
end_shallow end.Subscript = omega arith
end_shallow end.Link = omega arith
end_shallow end.Image = omega arith

leaf_shallow : (l : LeafView) → depth (leaf_json l) ≤ 1
leaf_shallow (view.Text s) = omega arith
leaf_shallow (view.Code s) = omega arith
leaf_shallow (view.InlineMath s) = omega arith
leaf_shallow (view.DisplayMath s) = omega arith
leaf_shallow (view.Html s) = omega arith
leaf_shallow (view.InlineHtml s) = omega arith
leaf_shallow (view.FootnoteReference s) = omega arith
leaf_shallow (view.TaskListMarker b) = omega arith
leaf_shallow view.SoftBreak = omega arith
leaf_shallow view.HardBreak = omega arith
leaf_shallow view.Rule = omega arith

event_shallow : (e : EventView) → depth (event_json e) ≤ 5
event_shallow (view.Start t) = omega (arith, tag_shallow t)
event_shallow (view.End k) = omega (arith, end_shallow k)
event_shallow (view.Leaf l) = omega (arith, leaf_shallow l)

range_shallow : (r : ℕ × ℕ) → depth (range_json r) ≤ 1
range_shallow r = omega arith

pair_shallow : (p : EventView × Option (ℕ × ℕ)) → depth (pair_json p) ≤ 6
pair_shallow p = omega (arith, event_shallow p.0, optional_shallow range_json 1 range_shallow p.1)

detailed_shallow : (r : ℕ × ℕ) (s : Span) (o : Option (ℕ × ℕ)) → depth (spanned_or_targeted r s o) ≤ 1
detailed_shallow r s None = omega arith
detailed_shallow r s (Some place) = omega arith

location_shallow : (r : Option (ℕ × ℕ)) (d : Option Details) → depth (location_json r d) ≤ 1
location_shallow None d = omega arith
location_shallow (Some r) None = omega arith
location_shallow (Some r) (Some d) = detailed_shallow r d.span d.destination

located_shallow : (l : (EventView × Option (ℕ × ℕ)) × Option Details) → depth (located_json l) ≤ 6
located_shallow l = omega (arith, event_shallow l.0.0, location_shallow l.0.1 l.1)

pub events_shallow : (es : List EventView) → depth (events_json es) ≤ max_depth
events_shallow es = omega (arith, all_shallow event_json 5 event_shallow es)

pub pairs_shallow : (ps : List (EventView × Option (ℕ × ℕ))) → depth (pairs_json ps) ≤ max_depth
pairs_shallow ps = omega (arith, all_shallow pair_json 6 pair_shallow ps)

pub all_located_shallow : (ls : List ((EventView × Option (ℕ × ℕ)) × Option Details)) → depth (listed located_json ls) ≤ max_depth
all_located_shallow ls = omega (arith, all_shallow located_json 6 located_shallow ls)
