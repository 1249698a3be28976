-- When two events are the same: each is written as a list of lists of numbers that tells it from all others.
use Rattle.std.specs.Prelude.{ℕ, ◌+◌, Bool, if◌then◌else◌, Option, Some, None, List, [], ◌∷◌, ◌++◌, length, map, flat_map, bytes_eq}
use Rattle.std.specs.Cmp.Lexicographic.{pointwise}
use Rattle.tocmark_event.specs.Ends.{end_code}
use Rattle.tocmark_event.specs.View.{Indented, Fenced, TagView, Heading, CodeBlock, ListOf, FootnoteDefinition, Table, Link, Image, LeafView, Text, Code, InlineMath, DisplayMath, Html, InlineHtml, FootnoteReference, SoftBreak, HardBreak, Rule, TaskListMarker, EventView, Start, End, Leaf, end_of}
use Rattle.tocmark_event.specs.declared.event.Alignment.{Alignment}
use Rattle.tocmark_event.specs.declared.event.Alignment.TheVariants as alignment
use Rattle.tocmark_event.specs.declared.event.LinkType.{LinkType}
use Rattle.tocmark_event.specs.declared.event.LinkType.TheVariants as link

-- a number as a list
abbrev pub number : ℕ → List ℕ
number n = n ∷ []

-- a text that may be missing; a missing one is told from an empty one
abbrev pub optional : Option (List ℕ) → List ℕ
optional None = 0 ∷ []
optional (Some t) = 1 ∷ t

-- 1 for true, 0 for false
abbrev pub code_of_truth : Bool → ℕ
code_of_truth b = if b then 1 else 0

-- the number that stands for a column's alignment in a table (GFM, section 4.10)
abbrev pub alignment_code : Alignment → ℕ
alignment_code alignment.None = 0
alignment_code alignment.Left = 1
alignment_code alignment.Center = 2
alignment_code alignment.Right = 3

-- the number that stands for a type of link (CommonMark, sections 6.3 and 6.5)
abbrev pub link_code : LinkType → ℕ
link_code link.Inline = 0
link_code link.Reference = 1
link_code link.ReferenceUnknown = 2
link_code link.Collapsed = 3
link_code link.CollapsedUnknown = 4
link_code link.Shortcut = 5
link_code link.ShortcutUnknown = 6
link_code link.Autolink = 7
link_code link.Email = 8
link_code (link.WikiLink has_pothole) = 9 + code_of_truth has_pothole

-- a heading's attribute: its name, and its value if it has one
abbrev pub attribute_key : List ℕ × Option (List ℕ) → List (List ℕ)
attribute_key a = a.0 ∷ optional a.1 ∷ []

-- what a tag's End doesn't say of it
abbrev pub fields_key : TagView → List (List ℕ)
fields_key (Heading level id classes attrs) = optional id ∷ number (length classes) ∷ classes ++ flat_map attribute_key attrs
fields_key (CodeBlock Indented) = []
fields_key (CodeBlock (Fenced info)) = info ∷ []
fields_key (ListOf None) = []
fields_key (ListOf (Some n)) = number n ∷ []
fields_key (FootnoteDefinition label) = label ∷ []
fields_key (Table alignments) = map alignment_code alignments ∷ []
fields_key (Link k dest title id) = number (link_code k) ∷ dest ∷ title ∷ id ∷ []
fields_key (Image k dest title id) = number (link_code k) ∷ dest ∷ title ∷ id ∷ []
fields_key t = []

-- what tells a leaf from all other leaves
abbrev pub leaf_key : LeafView → List (List ℕ)
leaf_key (Text t) = number 0 ∷ t ∷ []
leaf_key (Code t) = number 1 ∷ t ∷ []
leaf_key (InlineMath t) = number 2 ∷ t ∷ []
leaf_key (DisplayMath t) = number 3 ∷ t ∷ []
leaf_key (Html t) = number 4 ∷ t ∷ []
leaf_key (InlineHtml t) = number 5 ∷ t ∷ []
leaf_key (FootnoteReference t) = number 6 ∷ t ∷ []
leaf_key SoftBreak = number 7 ∷ []
leaf_key HardBreak = number 8 ∷ []
leaf_key Rule = number 9 ∷ []
leaf_key (TaskListMarker b) = number 10 ∷ number (code_of_truth b) ∷ []

-- what tells an event from all other events
abbrev pub event_key : EventView → List (List ℕ)
event_key (Start t) = number 0 ∷ number (end_code (end_of t)) ∷ fields_key t
event_key (End k) = number 1 ∷ number (end_code k) ∷ []
event_key (Leaf l) = number 2 ∷ leaf_key l

-- two events are the same
abbrev pub same_event : EventView → EventView → Bool
same_event a b = pointwise bytes_eq (event_key a) (event_key b)

-- two lists of events are the same
abbrev pub same_events : List EventView → List EventView → Bool
same_events = pointwise same_event
