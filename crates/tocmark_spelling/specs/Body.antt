-- What is in the body of a container.
use Rattle.std.specs.Prelude.{ℕ, ◌+◌, Bool, true, false, not, ◌&&◌, ◌||◌, ◌==◌, if◌then◌else◌, Option, Some, None, List, [], ◌∷◌, ◌++◌}
use Rattle.tocmark_event.specs.View.{TagView, LeafView, SourcedLeaf, SourcedEvent, Start, End, Leaf, Text, Html, InlineHtml, SoftBreak, HardBreak, Rule, end_of}
use Rattle.tocmark_event.specs.Forest.{Forest, empty, leaf, node}
use Rattle.tocmark_spelling.specs.Words.{holds, or_else}
use Rattle.tocmark_spelling.specs.Kinds.{is_inline_tag, is_paragraph, is_item}

-- a unit's events as trees
abbrev pub Trees : Type 0
Trees = Forest SourcedLeaf

-- the forest's events, the last one first, and then these
abbrev pub back_onto : Trees → List SourcedEvent → List SourcedEvent
back_onto empty es = es
back_onto (leaf l f) es = back_onto f (Leaf l ∷ es)
back_onto (node t kids f) es = back_onto f (End (end_of t) ∷ back_onto kids (Start t ∷ es))

-- whether there is no tree at all
abbrev pub is_empty : Trees → Bool
is_empty empty = true
is_empty f = false

-- whether some tree has such a tag
abbrev pub has_tag : (TagView → Bool) → Trees → Bool
has_tag test empty = false
has_tag test (leaf l f) = has_tag test f
has_tag test (node t kids f) = test t || has_tag test f

-- how many trees have such a tag
abbrev pub count_tags : (TagView → Bool) → Trees → ℕ
count_tags test empty = 0
count_tags test (leaf l f) = count_tags test f
count_tags test (node t kids f) = (if test t then 1 else 0) + count_tags test f

-- whether the first tree is a Paragraph
abbrev pub begins_paragraph : Trees → Bool
begins_paragraph (node t kids f) = is_paragraph t
begins_paragraph f = false

-- whether a leaf counts as inline: each but a Rule does
abbrev pub is_inline_leaf : LeafView → Bool
is_inline_leaf Rule = false
is_inline_leaf l = true

-- whether some tree is an inline container or a leaf other than a Rule
abbrev pub has_inline : Trees → Bool
has_inline empty = false
has_inline (leaf l f) = is_inline_leaf l.leaf || has_inline f
has_inline (node t kids f) = is_inline_tag t || has_inline f

-- the children of all trees
abbrev pub some_child : (Trees → Bool) → Trees → Bool
some_child test empty = false
some_child test (leaf l f) = some_child test f
some_child test (node t kids f) = test kids || some_child test f

-- how many there are in the children of all trees, by this count
abbrev pub count_children : (Trees → ℕ) → Trees → ℕ
count_children count empty = 0
count_children count (leaf l f) = count_children count f
count_children count (node t kids f) = count kids + count_children count f

-- a list is tight if something inline is directly in its children, and no Paragraph is
abbrev pub is_tight : Trees → Bool
is_tight kids = some_child has_inline kids && not (some_child (has_tag is_paragraph) kids)

-- a list with one Item, in whose children is one block, a Paragraph
abbrev pub has_lone_paragraph : Trees → Bool
has_lone_paragraph kids =
    (count_tags is_item kids == 1) && (count_children (count_tags (λ t. not (is_inline_tag t))) kids == 1)
    && some_child (has_tag is_paragraph) kids

-- whether some leaf, at any depth, passes the test
abbrev pub some_leaf : (LeafView → Bool) → Trees → Bool
some_leaf test empty = false
some_leaf test (leaf l f) = test l.leaf || some_leaf test f
some_leaf test (node t kids f) = some_leaf test kids || some_leaf test f

-- a break, or inline HTML over more than one line
abbrev pub breaks_line : LeafView → Bool
breaks_line SoftBreak = true
breaks_line HardBreak = true
breaks_line (InlineHtml t) = holds t (10 ∷ [])
breaks_line l = false

-- a heading over more than one line is underlined (CommonMark, section 4.3)
abbrev pub is_broken : Trees → Bool
is_broken kids = some_leaf breaks_line kids

-- the text of a Text; empty for any other leaf
abbrev pub text_of_leaf : LeafView → List ℕ
text_of_leaf (Text t) = t
text_of_leaf l = []

-- the text of an Html leaf; empty for any other leaf
abbrev pub html_of_leaf : LeafView → List ℕ
html_of_leaf (Html t) = t
html_of_leaf l = []

-- the texts of the leaves at all depths joined
abbrev pub joined_by : (LeafView → List ℕ) → Trees → List ℕ
joined_by text empty = []
joined_by text (leaf l f) = text l.leaf ++ joined_by text f
joined_by text (node t kids f) = joined_by text kids ++ joined_by text f

-- the text of an Html leaf; none for any other leaf
abbrev pub html_in : LeafView → Option (List ℕ)
html_in (Html t) = Some t
html_in l = None

-- the first HTML at any depth
abbrev pub first_html : Trees → Option (List ℕ)
first_html empty = None
first_html (leaf l f) = or_else (html_in l.leaf) (first_html f)
first_html (node t kids f) = or_else (first_html kids) (first_html f)
