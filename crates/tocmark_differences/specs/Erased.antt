-- Events of which some kinds of things don't count: each of these becomes one fixed value.
use Rattle.std.specs.Prelude.{ℕ, Bool, true, false, ◌-◌, ◌==◌, ◌&&◌, if◌then◌else◌, List, [], ◌∷◌, ◌++◌, length, Option, Some, None}
use Rattle.std.specs.List.{slice_get}
use Rattle.tocmark_event.specs.View.{CodeView, Indented, Fenced, TagView, Heading, CodeBlock, ListOf, Link, Image, MetadataBlock, LeafView, Text, Code, InlineMath, DisplayMath, Html, InlineHtml, SoftBreak, HardBreak, EventView, Start, End, Leaf}
use Rattle.tocmark_event.specs.declared.event.HeadingLevel.TheVariants as level
use Rattle.tocmark_event.specs.declared.event.LinkType.{LinkType}
use Rattle.tocmark_event.specs.declared.event.LinkType.TheVariants as link
use Rattle.tocmark_event.specs.declared.event.TagEnd.{TagEnd}
use Rattle.tocmark_event.specs.declared.event.TagEnd.TheVariants as end
use Rattle.tocmark_differences.specs.declared.allowed.Allowed.{Allowed}
use Rattle.tocmark_differences.specs.declared.erase.Within.{Within}
use Rattle.tocmark_differences.specs.declared.erase.Within.TheVariants as within

-- what the texts of a container are
abbrev pub texts_of : TagView → Within
texts_of (CodeBlock k) = within.Code
texts_of (MetadataBlock k) = within.Metadata
texts_of t = within.Prose

-- what the texts after an event are
abbrev pub after_event : Within → EventView → Within
after_event w (Start t) = texts_of t
after_event w (End k) = within.Prose
after_event w (Leaf l) = w

-- whether such texts may differ
abbrev pub may_differ : Allowed → Within → Bool
may_differ a within.Prose = a.text
may_differ a within.Code = a.code
may_differ a within.Metadata = a.front_matter

-- a text, or none if it may differ
abbrev pub unless : Bool → List ℕ → List ℕ
unless differs t = if differs then [] else t

-- the kind of a code block: fenced, if that may differ
abbrev pub erased_code : Allowed → CodeView → CodeView
erased_code a Indented = if a.fences then Fenced [] else Indented
erased_code a (Fenced i) = Fenced (unless a.info i)

-- a list's first number
abbrev pub erased_number : Allowed → Option ℕ → Option ℕ
erased_number a None = None
erased_number a (Some n) = Some (if a.numbers then 1 else n)

-- "mailto:", which a reader leaves out and a browser needs
abbrev pub mailto : List ℕ
mailto = 109 ∷ 97 ∷ 105 ∷ 108 ∷ 116 ∷ 111 ∷ 58 ∷ []

-- a destination, whatever spells the link
abbrev pub addressed : LinkType → List ℕ → List ℕ
addressed link.Email d = mailto ++ d
addressed k d = d

abbrev pub erased_destination : Allowed → LinkType → List ℕ → List ℕ
erased_destination a k d = unless a.destinations (if a.labels then addressed k d else d)

-- a link or an image
abbrev pub erased_link : Allowed → (LinkType → List ℕ → List ℕ → List ℕ → TagView) → LinkType → List ℕ → List ℕ → List ℕ → TagView
erased_link a tag k d t i =
    tag (if a.labels then link.Inline else k) (erased_destination a k d) (unless a.titles t) (unless a.labels i)

-- a container of blocks, or of inlines without a destination
abbrev pub erased_block : Allowed → TagView → TagView
erased_block a (Heading l i c t) = Heading (if a.levels then level.H1 else l) i c t
erased_block a (CodeBlock k) = CodeBlock (erased_code a k)
erased_block a (ListOf n) = ListOf (erased_number a n)
erased_block a t = t

abbrev pub erased_tag : Allowed → TagView → TagView
erased_tag a (Link k d t i) = erased_link a Link k d t i
erased_tag a (Image k d t i) = erased_link a Image k d t i
erased_tag a t = erased_block a t

abbrev pub erased_end : Allowed → TagEnd → TagEnd
erased_end a (end.Heading l) = end.Heading (if a.levels then level.H1 else l)
erased_end a k = k

abbrev pub erased_leaf : Allowed → Within → LeafView → LeafView
erased_leaf a w (Text t) = Text (unless (may_differ a w) t)
erased_leaf a w (Code t) = Code (unless a.code t)
erased_leaf a w (InlineMath t) = InlineMath (unless a.code t)
erased_leaf a w (DisplayMath t) = DisplayMath (unless a.code t)
erased_leaf a w (Html t) = Html (unless a.html t)
erased_leaf a w (InlineHtml t) = InlineHtml (unless a.html t)
erased_leaf a w SoftBreak = if a.text then Text [] else SoftBreak
erased_leaf a w HardBreak = if a.text then Text [] else HardBreak
erased_leaf a w l = l

abbrev pub erased_event : Allowed → Within → EventView → EventView
erased_event a w (Start t) = Start (erased_tag a t)
erased_event a w (End k) = End (erased_end a k)
erased_event a w (Leaf l) = Leaf (erased_leaf a w l)

-- the line feed that a page adds after a byte
abbrev pub line_end : Option ℕ → List ℕ
line_end None = []
line_end (Some b) = if b == 10 then [] else 10 ∷ []

-- a text with a line feed at its end, unless it is empty
abbrev pub ended : List ℕ → List ℕ
ended t = t ++ line_end (slice_get t (length t - 1))

-- the end of code or HTML
abbrev pub is_lines_end : EventView → Bool
is_lines_end (End end.CodeBlock) = true
is_lines_end (End end.HtmlBlock) = true
is_lines_end e = false

-- code or HTML ends
abbrev pub ends_lines : List EventView → Bool
ends_lines [] = false
ends_lines (e ∷ es) = is_lines_end e

-- the last text of code or HTML, whose last line feed a file may lack
abbrev pub line_ended : Bool → EventView → EventView
line_ended true (Leaf (Text t)) = Leaf (Text (ended t))
line_ended true (Leaf (Html t)) = Leaf (Html (ended t))
line_ended b e = e

-- the events, of which the first has such texts
abbrev pub erased : Allowed → Within → List EventView → List EventView
erased a w [] = []
erased a w (e ∷ es) = line_ended (a.fences && ends_lines es) (erased_event a w e) ∷ erased a (after_event w e) es
