-- The bytes of which Python's `marshal.loads` makes events with their ranges.
use Rattle.std.specs.Prelude.{◌≡◌, ℕ, zero, suc, ◌+◌, ◌*◌, ◌/◌, ◌%◌, ◌^◌, if◌then◌else◌, List, [], ◌∷◌, ◌++◌, Bool, true, false, bytes_eq, codes, length, map, nat_lt, Option, None, Some}
use Rattle.std.specs.Int.{to_le_bytes, w16, w32}
use Rattle.std.specs.List.{flat_map}
use Rattle.tocmark_event.specs.View as view
use Rattle.tocmark_event.specs.View.{CodeView, TagView, LeafView, EventView}
use Rattle.tocmark_event.specs.declared.event.HeadingLevel.{HeadingLevel}
use Rattle.tocmark_event.specs.declared.event.HeadingLevel.TheVariants as level
use Rattle.tocmark_event.specs.declared.event.BlockQuoteKind.{BlockQuoteKind}
use Rattle.tocmark_event.specs.declared.event.BlockQuoteKind.TheVariants as quote
use Rattle.tocmark_event.specs.declared.event.Alignment.{Alignment}
use Rattle.tocmark_event.specs.declared.event.Alignment.TheVariants as align
use Rattle.tocmark_event.specs.declared.event.MetadataBlockKind.{MetadataBlockKind}
use Rattle.tocmark_event.specs.declared.event.MetadataBlockKind.TheVariants as meta
use Rattle.tocmark_event.specs.declared.event.LinkType.{LinkType}
use Rattle.tocmark_event.specs.declared.event.LinkType.TheVariants as link
use Rattle.tocmark_event.specs.declared.event.EventOf.{EventOf}
use Rattle.tocmark_event.specs.declared.event.TagEnd.{TagEnd}
use Rattle.tocmark_event.specs.declared.event.TagEnd.TheVariants as end
use Rattle.tocmark_json.specs.declared.marshalling.MarshalError.{MarshalError}
use Rattle.tocmark_json.specs.declared.marshalling.MarshalError.TheVariants as error

-- ---- values

-- the lowest four bytes of a number, the lowest first
abbrev pub four : ℕ → List ℕ
four n = to_le_bytes w32 (n % 2 ^ 32)

-- `N`, and `T` or `F`
abbrev pub null_bytes : List ℕ
null_bytes = 78 ∷ []

abbrev pub truth_bytes : Bool → List ℕ
truth_bytes true = 84 ∷ []
truth_bytes false = 70 ∷ []

-- `u`, the length, and the UTF-8
unfoldable pub text_bytes : List ℕ → List ℕ
text_bytes s = (117 ∷ four (length s)) ++ s

-- `[`, how many elements there are, and these
abbrev pub listed : {A : Type 0} → (A → List ℕ) → List A → List ℕ
listed f xs = (91 ∷ four (length xs)) ++ flat_map f xs

abbrev pub optional : {A : Type 0} → (A → List ℕ) → Option A → List ℕ
optional f None = null_bytes
optional f (Some a) = f a

-- a digit of a number to the base 2 ^ 15, by its place
abbrev pub digit : ℕ → ℕ → List ℕ
digit n place = to_le_bytes w16 (n / 32768 ^ place % 32768)

-- the lowest three, four and five digits
unfoldable pub three_digits : ℕ → List ℕ
three_digits n = digit n 0 ++ (digit n 1 ++ digit n 2)

unfoldable pub four_digits : ℕ → List ℕ
four_digits n = three_digits n ++ digit n 3

unfoldable pub five_digits : ℕ → List ℕ
five_digits n = four_digits n ++ digit n 4

-- a number past 31 bits: `l`, how many digits there are, and these
unfoldable pub longer_bytes : ℕ → List ℕ
longer_bytes n = if nat_lt n (2 ^ 60) then (108 ∷ four 4) ++ four_digits n else (108 ∷ four 5) ++ five_digits n

unfoldable pub long_bytes : ℕ → List ℕ
long_bytes n = if nat_lt n (2 ^ 45) then (108 ∷ four 3) ++ three_digits n else longer_bytes n

-- `i` and four bytes, or more
unfoldable pub size_bytes : ℕ → List ℕ
size_bytes n = if nat_lt n (2 ^ 31) then 105 ∷ four n else long_bytes n

-- ---- names

abbrev pub names : List (List ℕ)
names =
    codes "Start" ∷ codes "End" ∷ codes "Text" ∷ codes "Code" ∷ codes "InlineMath" ∷ codes "DisplayMath" ∷
    codes "Html" ∷ codes "InlineHtml" ∷ codes "FootnoteReference" ∷ codes "SoftBreak" ∷ codes "HardBreak" ∷
    codes "Rule" ∷ codes "TaskListMarker" ∷
    codes "Paragraph" ∷ codes "Heading" ∷ codes "BlockQuote" ∷ codes "CodeBlock" ∷ codes "HtmlBlock" ∷ codes "List" ∷
    codes "Item" ∷ codes "FootnoteDefinition" ∷ codes "DefinitionList" ∷ codes "DefinitionListTitle" ∷
    codes "DefinitionListDefinition" ∷ codes "Table" ∷ codes "TableHead" ∷ codes "TableRow" ∷ codes "TableCell" ∷
    codes "Emphasis" ∷ codes "Strong" ∷ codes "Strikethrough" ∷ codes "Superscript" ∷ codes "Subscript" ∷
    codes "Link" ∷ codes "Image" ∷ codes "MetadataBlock" ∷
    codes "attrs" ∷ codes "classes" ∷ codes "id" ∷ codes "level" ∷ codes "dest_url" ∷ codes "link_type" ∷
    codes "title" ∷
    codes "Indented" ∷ codes "Fenced" ∷
    codes "H1" ∷ codes "H2" ∷ codes "H3" ∷ codes "H4" ∷ codes "H5" ∷ codes "H6" ∷
    codes "Note" ∷ codes "Tip" ∷ codes "Important" ∷ codes "Warning" ∷ codes "Caution" ∷
    codes "None" ∷ codes "Left" ∷ codes "Center" ∷ codes "Right" ∷
    codes "YamlStyle" ∷ codes "PlusesStyle" ∷
    codes "Inline" ∷ codes "Reference" ∷ codes "ReferenceUnknown" ∷ codes "Collapsed" ∷ codes "CollapsedUnknown" ∷
    codes "Shortcut" ∷ codes "ShortcutUnknown" ∷ codes "Autolink" ∷ codes "Email" ∷ codes "WikiLink" ∷
    codes "has_pothole" ∷ []

-- where a name is in a list
abbrev pub number_in : List (List ℕ) → List ℕ → ℕ
number_in [] s = 0
number_in (n ∷ ns) s = if bytes_eq n s then 0 else 1 + number_in ns s

-- all names: `)` and how many they are; each one is `Z` with the bit that lets it be referred to, its length, and its letters
abbrev pub named : List ℕ → List ℕ
named s = 218 ∷ length s ∷ s

unfoldable pub all_names : List ℕ
all_names = 41 ∷ length names ∷ flat_map named names

-- `r` and a number refer to the string with this number
unfoldable pub reference : ℕ → List ℕ
reference n = 114 ∷ n ∷ 0 ∷ 0 ∷ 0 ∷ []

abbrev pub name_bytes : List ℕ → List ℕ
name_bytes s = reference (number_in names s)

-- a variant that holds something: `{`, its name, its content, `0`
abbrev pub tagged : List ℕ → List ℕ → List ℕ
tagged s content = (123 ∷ name_bytes s) ++ (content ++ 48 ∷ [])

-- ---- the enumerations: each variant is its name

abbrev pub level_bytes : HeadingLevel → List ℕ
level_bytes level.H1 = name_bytes (codes "H1")
level_bytes level.H2 = name_bytes (codes "H2")
level_bytes level.H3 = name_bytes (codes "H3")
level_bytes level.H4 = name_bytes (codes "H4")
level_bytes level.H5 = name_bytes (codes "H5")
level_bytes level.H6 = name_bytes (codes "H6")

abbrev pub quote_bytes : BlockQuoteKind → List ℕ
quote_bytes quote.Note = name_bytes (codes "Note")
quote_bytes quote.Tip = name_bytes (codes "Tip")
quote_bytes quote.Important = name_bytes (codes "Important")
quote_bytes quote.Warning = name_bytes (codes "Warning")
quote_bytes quote.Caution = name_bytes (codes "Caution")

abbrev pub alignment_bytes : Alignment → List ℕ
alignment_bytes align.None = name_bytes (codes "None")
alignment_bytes align.Left = name_bytes (codes "Left")
alignment_bytes align.Center = name_bytes (codes "Center")
alignment_bytes align.Right = name_bytes (codes "Right")

abbrev pub metadata_bytes : MetadataBlockKind → List ℕ
metadata_bytes meta.YamlStyle = name_bytes (codes "YamlStyle")
metadata_bytes meta.PlusesStyle = name_bytes (codes "PlusesStyle")

abbrev pub link_type_bytes : LinkType → List ℕ
link_type_bytes link.Inline = name_bytes (codes "Inline")
link_type_bytes link.Reference = name_bytes (codes "Reference")
link_type_bytes link.ReferenceUnknown = name_bytes (codes "ReferenceUnknown")
link_type_bytes link.Collapsed = name_bytes (codes "Collapsed")
link_type_bytes link.CollapsedUnknown = name_bytes (codes "CollapsedUnknown")
link_type_bytes link.Shortcut = name_bytes (codes "Shortcut")
link_type_bytes link.ShortcutUnknown = name_bytes (codes "ShortcutUnknown")
link_type_bytes link.Autolink = name_bytes (codes "Autolink")
link_type_bytes link.Email = name_bytes (codes "Email")
link_type_bytes (link.WikiLink has_pothole) =
    tagged (codes "WikiLink") (tagged (codes "has_pothole") (truth_bytes has_pothole))

-- ---- containers

abbrev pub code_bytes : CodeView → List ℕ
code_bytes view.Indented = name_bytes (codes "Indented")
code_bytes (view.Fenced info) = tagged (codes "Fenced") (text_bytes info)

-- an attribute of a heading: a list of its name, and its value or null
abbrev pub attribute_bytes : List ℕ × Option (List ℕ) → List ℕ
attribute_bytes a = (91 ∷ four 2) ++ (text_bytes a.0 ++ optional text_bytes a.1)

-- a key and its value; the members of a dict are in the order of their keys
abbrev pub member : List ℕ → List ℕ → List ℕ
member s content = name_bytes s ++ content

abbrev pub heading_bytes : HeadingLevel → Option (List ℕ) → List (List ℕ) → List (List ℕ × Option (List ℕ)) → List ℕ
heading_bytes level id classes attrs =
    123 ∷ member (codes "attrs") (listed attribute_bytes attrs)
    ++ member (codes "classes") (listed text_bytes classes)
    ++ member (codes "id") (optional text_bytes id)
    ++ member (codes "level") (level_bytes level) ++ 48 ∷ []

abbrev pub link_bytes : LinkType → List ℕ → List ℕ → List ℕ → List ℕ
link_bytes link_type dest_url title id =
    123 ∷ member (codes "dest_url") (text_bytes dest_url)
    ++ member (codes "id") (text_bytes id)
    ++ member (codes "link_type") (link_type_bytes link_type)
    ++ member (codes "title") (text_bytes title) ++ 48 ∷ []

abbrev pub tag_bytes : TagView → List ℕ
tag_bytes view.Paragraph = name_bytes (codes "Paragraph")
tag_bytes (view.Heading level id classes attrs) = tagged (codes "Heading") (heading_bytes level id classes attrs)
tag_bytes (view.BlockQuote kind) = tagged (codes "BlockQuote") (optional quote_bytes kind)
tag_bytes (view.CodeBlock kind) = tagged (codes "CodeBlock") (code_bytes kind)
tag_bytes view.HtmlBlock = name_bytes (codes "HtmlBlock")
tag_bytes (view.ListOf start) = tagged (codes "List") (optional size_bytes start)
tag_bytes view.Item = name_bytes (codes "Item")
tag_bytes (view.FootnoteDefinition label) = tagged (codes "FootnoteDefinition") (text_bytes label)
tag_bytes view.DefinitionList = name_bytes (codes "DefinitionList")
tag_bytes view.DefinitionListTitle = name_bytes (codes "DefinitionListTitle")
tag_bytes view.DefinitionListDefinition = name_bytes (codes "DefinitionListDefinition")
tag_bytes (view.Table alignments) = tagged (codes "Table") (listed alignment_bytes alignments)
tag_bytes view.TableHead = name_bytes (codes "TableHead")
tag_bytes view.TableRow = name_bytes (codes "TableRow")
tag_bytes view.TableCell = name_bytes (codes "TableCell")
tag_bytes view.Emphasis = name_bytes (codes "Emphasis")
tag_bytes view.Strong = name_bytes (codes "Strong")
tag_bytes view.Strikethrough = name_bytes (codes "Strikethrough")
tag_bytes view.Superscript = name_bytes (codes "Superscript")
tag_bytes view.Subscript = name_bytes (codes "Subscript")
tag_bytes (view.Link link_type dest_url title id) = tagged (codes "Link") (link_bytes link_type dest_url title id)
tag_bytes (view.Image link_type dest_url title id) = tagged (codes "Image") (link_bytes link_type dest_url title id)
tag_bytes (view.MetadataBlock kind) = tagged (codes "MetadataBlock") (metadata_bytes kind)

abbrev pub end_bytes : TagEnd → List ℕ
end_bytes end.Paragraph = name_bytes (codes "Paragraph")
end_bytes (end.Heading level) = tagged (codes "Heading") (level_bytes level)
end_bytes (end.BlockQuote kind) = tagged (codes "BlockQuote") (optional quote_bytes kind)
end_bytes end.CodeBlock = name_bytes (codes "CodeBlock")
end_bytes end.HtmlBlock = name_bytes (codes "HtmlBlock")
end_bytes (end.List ordered) = tagged (codes "List") (truth_bytes ordered)
end_bytes end.Item = name_bytes (codes "Item")
end_bytes end.FootnoteDefinition = name_bytes (codes "FootnoteDefinition")
end_bytes end.DefinitionList = name_bytes (codes "DefinitionList")
end_bytes end.DefinitionListTitle = name_bytes (codes "DefinitionListTitle")
end_bytes end.DefinitionListDefinition = name_bytes (codes "DefinitionListDefinition")
end_bytes end.Table = name_bytes (codes "Table")
end_bytes end.TableHead = name_bytes (codes "TableHead")
end_bytes end.TableRow = name_bytes (codes "TableRow")
end_bytes end.TableCell = name_bytes (codes "TableCell")
end_bytes end.Emphasis = name_bytes (codes "Emphasis")
end_bytes end.Strong = name_bytes (codes "Strong")
end_bytes end.Strikethrough = name_bytes (codes "Strikethrough")
end_bytes end.Superscript = name_bytes (codes "Superscript")
end_bytes end.Subscript = name_bytes (codes "Subscript")
end_bytes end.Link = name_bytes (codes "Link")
end_bytes end.Image = name_bytes (codes "Image")
end_bytes (end.MetadataBlock kind) = tagged (codes "MetadataBlock") (metadata_bytes kind)

-- ---- events

abbrev pub leaf_bytes : LeafView → List ℕ
leaf_bytes (view.Text s) = tagged (codes "Text") (text_bytes s)
leaf_bytes (view.Code s) = tagged (codes "Code") (text_bytes s)
leaf_bytes (view.InlineMath s) = tagged (codes "InlineMath") (text_bytes s)
leaf_bytes (view.DisplayMath s) = tagged (codes "DisplayMath") (text_bytes s)
leaf_bytes (view.Html s) = tagged (codes "Html") (text_bytes s)
leaf_bytes (view.InlineHtml s) = tagged (codes "InlineHtml") (text_bytes s)
leaf_bytes (view.FootnoteReference s) = tagged (codes "FootnoteReference") (text_bytes s)
leaf_bytes view.SoftBreak = name_bytes (codes "SoftBreak")
leaf_bytes view.HardBreak = name_bytes (codes "HardBreak")
leaf_bytes view.Rule = name_bytes (codes "Rule")
leaf_bytes (view.TaskListMarker b) = tagged (codes "TaskListMarker") (truth_bytes b)

abbrev pub event_bytes : EventView → List ℕ
event_bytes (view.Start t) = tagged (codes "Start") (tag_bytes t)
event_bytes (view.End k) = tagged (codes "End") (end_bytes k)
event_bytes (view.Leaf l) = leaf_bytes l

-- ---- all of a text

-- an event whose texts have these bytes, with its range
abbrev pub pair_in : {T : Type 0} → (T → List ℕ) → EventOf T × (ℕ × ℕ) → EventView × (ℕ × ℕ)
pair_in bytes p = (view.event_view bytes p.0, p.1)

-- `)` and 4: the names, the events, where their ranges begin, and where they end
unfoldable pub events_bytes : List (EventView × (ℕ × ℕ)) → List ℕ
events_bytes pairs =
    (41 ∷ 4 ∷ []) ++ all_names ++ listed event_bytes (map (λ p. p.0) pairs)
    ++ listed size_bytes (map (λ p. p.1.0) pairs) ++ listed size_bytes (map (λ p. p.1.1) pairs)

-- Python reads lengths below 2 ^ 31, and no length in these bytes is greater than that of all
abbrev pub fits : List ℕ → Bool
fits bytes = nat_lt (length bytes) (2 ^ 31)

-- why there are no bytes; of memory nothing is said
abbrev pub IsTooLong : List ℕ → MarshalError → Type 0
IsTooLong bytes error.TooLong = fits bytes ≡ false
IsTooLong bytes error.OutOfMemory = Unit {0}

-- these bytes are after those that were there
abbrev pub Appends : List ℕ → List ℕ → List ℕ → Type 0
Appends bytes old new = new ≡ old ++ bytes
