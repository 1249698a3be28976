-- What an event's value is the value of: each definition here takes a value of the form back to what it was made of, and
-- anything else to something or other.
use Rattle.std.proofs.Common.{◌≡◌, ℕ, zero, suc, Bool, false, cond, List, [], ◌∷◌, map, Option, Some, None, refl, sym, ap, ◌∙◌, codes, bytes_eq}
use Rattle.serde_json.specs.Data.{Data, null, boolean, number, unsigned, negative, float, string, array, object, Items, no_items, item, Members, no_members, member}
use Rattle.serde_json.specs.View.{items_of}
use Rattle.tocmark_event.specs.View as view
use Rattle.tocmark_event.specs.View.{CodeView, TagView, LeafView, EventView}
use Rattle.tocmark_event.specs.declared.event.HeadingLevel.{HeadingLevel}
use Rattle.tocmark_event.specs.declared.event.HeadingLevel.TheVariants as level
use Rattle.tocmark_event.specs.declared.event.BlockQuoteKind.{BlockQuoteKind}
use Rattle.tocmark_event.specs.declared.event.BlockQuoteKind.TheVariants as quote
use Rattle.tocmark_event.specs.declared.event.Alignment.{Alignment}
use Rattle.tocmark_event.specs.declared.event.Alignment.TheVariants as align
use Rattle.tocmark_event.specs.declared.event.MetadataBlockKind.{MetadataBlockKind}
use Rattle.tocmark_event.specs.declared.event.MetadataBlockKind.TheVariants as meta
use Rattle.tocmark_event.specs.declared.event.LinkType.{LinkType}
use Rattle.tocmark_event.specs.declared.event.LinkType.TheVariants as link
use Rattle.tocmark_event.specs.declared.event.TagEnd.{TagEnd}
use Rattle.tocmark_event.specs.declared.event.TagEnd.TheVariants as end
use Rattle.tocmark_json.specs.Json.{optional, size_json, level_json, quote_json, alignment_json, metadata_json, link_type_json, code_json, attribute_json, heading_json, tag_json, end_json, event_json, range_json, spanned_or_targeted, location_json, located_json, pair_json, events_json, pairs_json, IsPairsJson}
use Rattle.tocmark_json.specs.declared.positions.Details.{Details}
use Rattle.tocmark_json.specs.declared.positions.Span.{Span}

-- ---- parts of a value

-- what a table has for a name, or else the first argument
abbrev pick : {A : Type 0} → A → List (List ℕ × A) → List ℕ → A
pick d [] s = d
pick d (p ∷ ps) s = cond (bytes_eq s p.0) p.1 (pick d ps s)

-- the name of a variant
abbrev name_of : Data → List ℕ
name_of null = []
name_of (boolean b) = []
name_of (number n) = []
name_of (string s) = s
name_of (array ds) = []
name_of (object no_members) = []
name_of (object (member k d ms)) = k

abbrev members_in : Data → Members
members_in null = no_members
members_in (boolean b) = no_members
members_in (number n) = no_members
members_in (string s) = no_members
members_in (array ds) = no_members
members_in (object ms) = ms

abbrev pub items_in : Data → Items
items_in null = no_items
items_in (boolean b) = no_items
items_in (number n) = no_items
items_in (string s) = no_items
items_in (array ds) = ds
items_in (object ms) = no_items

abbrev member_at : ℕ → Members → Data
member_at n no_members = null
member_at zero (member k d ms) = d
member_at (suc n) (member k d ms) = member_at n ms

abbrev pub item_at : ℕ → Items → Data
item_at n no_items = null
item_at zero (item d ds) = d
item_at (suc n) (item d ds) = item_at n ds

abbrev pub content : ℕ → Data → Data
content n d = member_at n (members_in d)

abbrev pub text_of : Data → List ℕ
text_of d = name_of d

abbrev truth_of : Data → Bool
truth_of null = false
truth_of (boolean b) = b
truth_of (number n) = false
truth_of (string s) = false
truth_of (array ds) = false
truth_of (object ms) = false

abbrev size_of : Data → ℕ
size_of null = 0
size_of (boolean b) = 0
size_of (number (unsigned n)) = n
size_of (number (negative z)) = 0
size_of (number (float x)) = 0
size_of (string s) = 0
size_of (array ds) = 0
size_of (object ms) = 0

abbrev pub option_of : {A : Type 0} → (Data → A) → Data → Option A
option_of f null = None
option_of f (boolean b) = Some (f (boolean b))
option_of f (number n) = Some (f (number n))
option_of f (string s) = Some (f (string s))
option_of f (array ds) = Some (f (array ds))
option_of f (object ms) = Some (f (object ms))

abbrev all_of : {A : Type 0} → (Data → A) → Items → List A
all_of f no_items = []
all_of f (item d ds) = f d ∷ all_of f ds

abbrev pub list_of : {A : Type 0} → (Data → A) → Data → List A
list_of f d = all_of f (items_in d)

all-back : {A : Type 0} (json : A → Data) (f : Data → A) → ((a : A) → f (json a) ≡ a) → (xs : List A) → all_of f (items_of (map json xs)) ≡ xs
all-back json f back [] = refl
all-back json f back (x ∷ xs) = ap (λ y. y ∷ all_of f (items_of (map json xs))) (back x) ∙ ap (λ ys. x ∷ ys) (all-back json f back xs)

-- ---- the enumerations

abbrev pub level_of : Data → HeadingLevel
level_of d = pick level.H1 ((codes "H1", level.H1) ∷ (codes "H2", level.H2) ∷ (codes "H3", level.H3) ∷ (codes "H4", level.H4) ∷ (codes "H5", level.H5) ∷ (codes "H6", level.H6) ∷ []) (name_of d)

level-back : (a : HeadingLevel) → level_of (level_json a) ≡ a
level-back level.H1 = refl
level-back level.H2 = refl
level-back level.H3 = refl
level-back level.H4 = refl
level-back level.H5 = refl
level-back level.H6 = refl

abbrev pub quote_of : Data → BlockQuoteKind
quote_of d = pick quote.Note ((codes "Note", quote.Note) ∷ (codes "Tip", quote.Tip) ∷ (codes "Important", quote.Important) ∷ (codes "Warning", quote.Warning) ∷ (codes "Caution", quote.Caution) ∷ []) (name_of d)

quote-back : (a : BlockQuoteKind) → quote_of (quote_json a) ≡ a
quote-back quote.Note = refl
quote-back quote.Tip = refl
quote-back quote.Important = refl
quote-back quote.Warning = refl
quote-back quote.Caution = refl

abbrev alignment_of : Data → Alignment
alignment_of d = pick align.None ((codes "None", align.None) ∷ (codes "Left", align.Left) ∷ (codes "Center", align.Center) ∷ (codes "Right", align.Right) ∷ []) (name_of d)

alignment-back : (a : Alignment) → alignment_of (alignment_json a) ≡ a
alignment-back align.None = refl
alignment-back align.Left = refl
alignment-back align.Center = refl
alignment-back align.Right = refl

abbrev metadata_of : Data → MetadataBlockKind
metadata_of d = pick meta.YamlStyle ((codes "YamlStyle", meta.YamlStyle) ∷ (codes "PlusesStyle", meta.PlusesStyle) ∷ []) (name_of d)

metadata-back : (a : MetadataBlockKind) → metadata_of (metadata_json a) ≡ a
metadata-back meta.YamlStyle = refl
metadata-back meta.PlusesStyle = refl

abbrev pub link_type_of : Data → LinkType
link_type_of d = pick link.Inline ((codes "Inline", link.Inline) ∷ (codes "Reference", link.Reference) ∷ (codes "ReferenceUnknown", link.ReferenceUnknown) ∷ (codes "Collapsed", link.Collapsed) ∷ (codes "CollapsedUnknown", link.CollapsedUnknown) ∷ (codes "Shortcut", link.Shortcut) ∷ (codes "ShortcutUnknown", link.ShortcutUnknown) ∷ (codes "Autolink", link.Autolink) ∷ (codes "Email", link.Email) ∷ (codes "WikiLink", link.WikiLink (truth_of (content 0 (content 0 d)))) ∷ []) (name_of d)

link_type-back : (a : LinkType) → link_type_of (link_type_json a) ≡ a
link_type-back link.Inline = refl
link_type-back link.Reference = refl
link_type-back link.ReferenceUnknown = refl
link_type-back link.Collapsed = refl
link_type-back link.CollapsedUnknown = refl
link_type-back link.Shortcut = refl
link_type-back link.ShortcutUnknown = refl
link_type-back link.Autolink = refl
link_type-back link.Email = refl
link_type-back (link.WikiLink b) = refl

option_text-back : (o : Option (List ℕ)) → option_of text_of (optional string o) ≡ o
option_text-back None = refl
option_text-back (Some s) = refl

option_quote-back : (o : Option BlockQuoteKind) → option_of quote_of (optional quote_json o) ≡ o
option_quote-back None = refl
option_quote-back (Some quote.Note) = refl
option_quote-back (Some quote.Tip) = refl
option_quote-back (Some quote.Important) = refl
option_quote-back (Some quote.Warning) = refl
option_quote-back (Some quote.Caution) = refl

option_size-back : (o : Option ℕ) → option_of size_of (optional size_json o) ≡ o
option_size-back None = refl
option_size-back (Some n) = refl

-- ---- containers

abbrev code_of : Data → CodeView
code_of d = pick view.Indented ((codes "Indented", view.Indented) ∷ (codes "Fenced", view.Fenced (text_of (content 0 d))) ∷ []) (name_of d)

code-back : (k : CodeView) → code_of (code_json k) ≡ k
code-back view.Indented = refl
code-back (view.Fenced s) = refl

abbrev pub attribute_of : Data → List ℕ × Option (List ℕ)
attribute_of d = (text_of (item_at 0 (items_in d)), option_of text_of (item_at 1 (items_in d)))

attribute-back : (a : List ℕ × Option (List ℕ)) → attribute_of (attribute_json a) ≡ a
attribute-back a = ap (λ (v : Option (List ℕ)). (a.0, v)) (option_text-back a.1)

abbrev heading_of : Data → TagView
heading_of d = view.Heading (level_of (content 3 d)) (option_of text_of (content 2 d)) (list_of text_of (content 1 d)) (list_of attribute_of (content 0 d))

heading-back : (l : HeadingLevel) (id : Option (List ℕ)) (cs : List (List ℕ)) (vs : List (List ℕ × Option (List ℕ))) → heading_of (heading_json l id cs vs) ≡ view.Heading l id cs vs
heading-back l id cs vs =
    let classes : all_of text_of (items_of (map string cs)) ≡ cs = all-back string text_of (λ s. refl) cs in
    let attrs : all_of attribute_of (items_of (map attribute_json vs)) ≡ vs = all-back attribute_json attribute_of attribute-back vs in
    ap (λ (x : HeadingLevel). view.Heading x (option_of text_of (optional string id)) (all_of text_of (items_of (map string cs))) (all_of attribute_of (items_of (map attribute_json vs)))) (level-back l)
    ∙ ap (λ (x : Option (List ℕ)). view.Heading l x (all_of text_of (items_of (map string cs))) (all_of attribute_of (items_of (map attribute_json vs)))) (option_text-back id)
    ∙ ap (λ (x : List (List ℕ)). view.Heading l id x (all_of attribute_of (items_of (map attribute_json vs)))) classes
    ∙ ap (λ (x : List (List ℕ × Option (List ℕ))). view.Heading l id cs x) attrs

abbrev pub tag_of : Data → TagView
tag_of d = pick view.Paragraph ((codes "Paragraph", view.Paragraph) ∷ (codes "HtmlBlock", view.HtmlBlock) ∷ (codes "Item", view.Item) ∷ (codes "DefinitionList", view.DefinitionList) ∷ (codes "DefinitionListTitle", view.DefinitionListTitle) ∷ (codes "DefinitionListDefinition", view.DefinitionListDefinition) ∷ (codes "TableHead", view.TableHead) ∷ (codes "TableRow", view.TableRow) ∷ (codes "TableCell", view.TableCell) ∷ (codes "Emphasis", view.Emphasis) ∷ (codes "Strong", view.Strong) ∷ (codes "Strikethrough", view.Strikethrough) ∷ (codes "Superscript", view.Superscript) ∷ (codes "Subscript", view.Subscript) ∷ (codes "Heading", heading_of (content 0 d)) ∷ (codes "BlockQuote", view.BlockQuote (option_of quote_of (content 0 d))) ∷ (codes "CodeBlock", view.CodeBlock (code_of (content 0 d))) ∷ (codes "List", view.ListOf (option_of size_of (content 0 d))) ∷ (codes "FootnoteDefinition", view.FootnoteDefinition (text_of (content 0 d))) ∷ (codes "Table", view.Table (list_of alignment_of (content 0 d))) ∷ (codes "Link", view.Link (link_type_of (content 2 (content 0 d))) (text_of (content 0 (content 0 d))) (text_of (content 3 (content 0 d))) (text_of (content 1 (content 0 d)))) ∷ (codes "Image", view.Image (link_type_of (content 2 (content 0 d))) (text_of (content 0 (content 0 d))) (text_of (content 3 (content 0 d))) (text_of (content 1 (content 0 d)))) ∷ (codes "MetadataBlock", view.MetadataBlock (metadata_of (content 0 d))) ∷ []) (name_of d)

pub tag-back : (t : TagView) → tag_of (tag_json t) ≡ t
tag-back view.Paragraph = refl
tag-back view.HtmlBlock = refl
tag-back view.Item = refl
tag-back view.DefinitionList = refl
tag-back view.DefinitionListTitle = refl
tag-back view.DefinitionListDefinition = refl
tag-back view.TableHead = refl
tag-back view.TableRow = refl
tag-back view.TableCell = refl
tag-back view.Emphasis = refl
tag-back view.Strong = refl
tag-back view.Strikethrough = refl
tag-back view.Superscript = refl
tag-back view.Subscript = refl
tag-back (view.Heading l id cs vs) = heading-back l id cs vs
tag-back (view.BlockQuote k) = ap (λ (x : Option BlockQuoteKind). view.BlockQuote x) (option_quote-back k)
tag-back (view.CodeBlock k) = ap (λ (x : CodeView). view.CodeBlock x) (code-back k)
tag-back (view.ListOf n) = ap (λ (x : Option ℕ). view.ListOf x) (option_size-back n)
tag-back (view.FootnoteDefinition s) = refl
tag-back (view.Table as_) = ap (λ (x : List Alignment). view.Table x) (all-back alignment_json alignment_of alignment-back as_)
tag-back (view.Link k d t i) = ap (λ (x : LinkType). view.Link x d t i) (link_type-back k)
tag-back (view.Image k d t i) = ap (λ (x : LinkType). view.Image x d t i) (link_type-back k)
tag-back (view.MetadataBlock k) = ap (λ (x : MetadataBlockKind). view.MetadataBlock x) (metadata-back k)

abbrev kind_of : Data → TagEnd
kind_of d = pick end.Paragraph ((codes "Paragraph", end.Paragraph) ∷ (codes "CodeBlock", end.CodeBlock) ∷ (codes "HtmlBlock", end.HtmlBlock) ∷ (codes "Item", end.Item) ∷ (codes "FootnoteDefinition", end.FootnoteDefinition) ∷ (codes "DefinitionList", end.DefinitionList) ∷ (codes "DefinitionListTitle", end.DefinitionListTitle) ∷ (codes "DefinitionListDefinition", end.DefinitionListDefinition) ∷ (codes "Table", end.Table) ∷ (codes "TableHead", end.TableHead) ∷ (codes "TableRow", end.TableRow) ∷ (codes "TableCell", end.TableCell) ∷ (codes "Emphasis", end.Emphasis) ∷ (codes "Strong", end.Strong) ∷ (codes "Strikethrough", end.Strikethrough) ∷ (codes "Superscript", end.Superscript) ∷ (codes "Subscript", end.Subscript) ∷ (codes "Link", end.Link) ∷ (codes "Image", end.Image) ∷ (codes "Heading", end.Heading (level_of (content 0 d))) ∷ (codes "BlockQuote", end.BlockQuote (option_of quote_of (content 0 d))) ∷ (codes "List", end.List (truth_of (content 0 d))) ∷ (codes "MetadataBlock", end.MetadataBlock (metadata_of (content 0 d))) ∷ []) (name_of d)

kind-back : (k : TagEnd) → kind_of (end_json k) ≡ k
kind-back end.Paragraph = refl
kind-back end.CodeBlock = refl
kind-back end.HtmlBlock = refl
kind-back end.Item = refl
kind-back end.FootnoteDefinition = refl
kind-back end.DefinitionList = refl
kind-back end.DefinitionListTitle = refl
kind-back end.DefinitionListDefinition = refl
kind-back end.Table = refl
kind-back end.TableHead = refl
kind-back end.TableRow = refl
kind-back end.TableCell = refl
kind-back end.Emphasis = refl
kind-back end.Strong = refl
kind-back end.Strikethrough = refl
kind-back end.Superscript = refl
kind-back end.Subscript = refl
kind-back end.Link = refl
kind-back end.Image = refl
kind-back (end.Heading l) = ap (λ (x : HeadingLevel). end.Heading x) (level-back l)
kind-back (end.BlockQuote k) = ap (λ (x : Option BlockQuoteKind). end.BlockQuote x) (option_quote-back k)
kind-back (end.List b) = refl
kind-back (end.MetadataBlock k) = ap (λ (x : MetadataBlockKind). end.MetadataBlock x) (metadata-back k)

-- ---- events

abbrev event_of : Data → EventView
event_of d = pick (view.Leaf view.Rule) ((codes "Start", view.Start (tag_of (content 0 d))) ∷ (codes "End", view.End (kind_of (content 0 d))) ∷ (codes "SoftBreak", view.Leaf view.SoftBreak) ∷ (codes "HardBreak", view.Leaf view.HardBreak) ∷ (codes "Rule", view.Leaf view.Rule) ∷ (codes "Text", view.Leaf (view.Text (text_of (content 0 d)))) ∷ (codes "Code", view.Leaf (view.Code (text_of (content 0 d)))) ∷ (codes "InlineMath", view.Leaf (view.InlineMath (text_of (content 0 d)))) ∷ (codes "DisplayMath", view.Leaf (view.DisplayMath (text_of (content 0 d)))) ∷ (codes "Html", view.Leaf (view.Html (text_of (content 0 d)))) ∷ (codes "InlineHtml", view.Leaf (view.InlineHtml (text_of (content 0 d)))) ∷ (codes "FootnoteReference", view.Leaf (view.FootnoteReference (text_of (content 0 d)))) ∷ (codes "TaskListMarker", view.Leaf (view.TaskListMarker (truth_of (content 0 d)))) ∷ []) (name_of d)

event-back : (e : EventView) → event_of (event_json e) ≡ e
event-back (view.Start t) = ap (λ (x : TagView). view.Start x) (tag-back t)
event-back (view.End k) = ap (λ (x : TagEnd). view.End x) (kind-back k)
event-back (view.Leaf (view.Text s)) = refl
event-back (view.Leaf (view.Code s)) = refl
event-back (view.Leaf (view.InlineMath s)) = refl
event-back (view.Leaf (view.DisplayMath s)) = refl
event-back (view.Leaf (view.Html s)) = refl
event-back (view.Leaf (view.InlineHtml s)) = refl
event-back (view.Leaf (view.FootnoteReference s)) = refl
event-back (view.Leaf view.SoftBreak) = refl
event-back (view.Leaf view.HardBreak) = refl
event-back (view.Leaf view.Rule) = refl
event-back (view.Leaf (view.TaskListMarker b)) = refl

abbrev key_at : ℕ → Members → List ℕ
key_at n no_members = []
key_at zero (member k d ms) = k
key_at (suc n) (member k d ms) = key_at n ms

-- the place of a destination is before the two numbers of a range, and lines and columns are between them
abbrev has_target : Members → Bool
has_target ms = bytes_eq (key_at 0 ms) (codes "dest_end")

abbrev start_of : Members → Data
start_of ms = cond (has_target ms) (member_at 5 ms) (cond (bytes_eq (key_at 1 ms) (codes "start")) (member_at 1 ms) (member_at 3 ms))

abbrev past_of : Members → Data
past_of ms = cond (has_target ms) (member_at 2 ms) (member_at 0 ms)

abbrev range_of : Data → ℕ × ℕ
range_of d = (size_of (start_of (members_in d)), size_of (past_of (members_in d)))

option_range-back : (o : Option (ℕ × ℕ)) → option_of range_of (optional range_json o) ≡ o
option_range-back None = refl
option_range-back (Some r) = refl

detailed-back : (r : ℕ × ℕ) (s : Span) (o : Option (ℕ × ℕ)) → option_of range_of (spanned_or_targeted r s o) ≡ Some r
detailed-back r s None = refl
detailed-back r s (Some place) = refl

location-back : (o : Option (ℕ × ℕ)) (s : Option Details) → option_of range_of (location_json o s) ≡ o
location-back None s = refl
location-back (Some r) None = refl
location-back (Some r) (Some d) = detailed-back r d.span d.destination

abbrev pair_of : Data → EventView × Option (ℕ × ℕ)
pair_of d = (event_of (item_at 0 (items_in d)), option_of range_of (item_at 1 (items_in d)))

pair-back : (p : EventView × Option (ℕ × ℕ)) → pair_of (pair_json p) ≡ p
pair-back p =
    ap (λ (e : EventView). (e, option_of range_of (optional range_json p.1))) (event-back p.0)
    ∙ ap (λ (r : Option (ℕ × ℕ)). (p.0, r)) (option_range-back p.1)

-- lists with one value are one list
pub events-told-apart : (es fs : List EventView) → events_json es ≡ events_json fs → es ≡ fs
events-told-apart es fs same = sym (all-back event_json event_of event-back es) ∙ ap (list_of event_of) same ∙ all-back event_json event_of event-back fs

pub pairs-told-apart : (ps qs : List (EventView × Option (ℕ × ℕ))) → pairs_json ps ≡ pairs_json qs → ps ≡ qs
pairs-told-apart ps qs same = sym (all-back pair_json pair_of pair-back ps) ∙ ap (list_of pair_of) same ∙ all-back pair_json pair_of pair-back qs

located-back : (l : (EventView × Option (ℕ × ℕ)) × Option Details) → pair_of (located_json l) ≡ l.0
located-back l =
    ap (λ (e : EventView). (e, option_of range_of (location_json l.0.1 l.1))) (event-back l.0.0)
    ∙ ap (λ (r : Option (ℕ × ℕ)). (l.0.0, r)) (location-back l.0.1 l.1)

all-seen : {A B : Type 0} (json : A → Data) (f : Data → B) (seen : A → B) → ((a : A) → f (json a) ≡ seen a) → (xs : List A) → all_of f (items_of (map json xs)) ≡ map seen xs
all-seen json f seen back [] = refl
all-seen json f seen back (x ∷ xs) = ap (λ y. y ∷ all_of f (items_of (map json xs))) (back x) ∙ ap (λ ys. seen x ∷ ys) (all-seen json f seen back xs)

located-pairs : (value : Data) (ps : List (EventView × Option (ℕ × ℕ))) → IsPairsJson value ps → list_of pair_of value ≡ ps
located-pairs value ps (ls, is, seen) =
    ap (list_of pair_of) is ∙ all-seen located_json pair_of (λ (l : (EventView × Option (ℕ × ℕ)) × Option Details). l.0) located-back ls ∙ seen

pub located-told-apart : (value : Data) (ps qs : List (EventView × Option (ℕ × ℕ))) → IsPairsJson value ps → IsPairsJson value qs → ps ≡ qs
located-told-apart value ps qs h k = sym (located-pairs value ps h) ∙ located-pairs value qs k
