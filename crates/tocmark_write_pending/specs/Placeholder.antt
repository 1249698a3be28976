-- When a list needs a placeholder.
use Rattle.std.specs.Prelude.{Bool, true, false, ◌&&◌, ◌||◌, Option, None, []}
use Rattle.tocmark_event.specs.Forest.{empty, leaf, node}
use Rattle.tocmark_event.specs.View.{TagView, Html, Rule, EventView, Start, End, Leaf}
use Rattle.tocmark_spelling.specs.Kinds.{is_inline_end, is_item, is_list, is_paragraph, and_is}
use Rattle.tocmark_spelling.specs.Body.{Trees, is_empty}
use Rattle.tocmark_spelling.specs.Page.{Around, front}
use Rattle.tocmark_spelling.specs.Runs.{inside, beyond, ahead_of, past}

-- the End of an inline container, or a leaf other than Rule and Html
abbrev pub is_inline_end_or_leaf : EventView → Bool
is_inline_end_or_leaf (Start t) = false
is_inline_end_or_leaf (End k) = is_inline_end k
is_inline_end_or_leaf (Leaf Rule) = false
is_inline_end_or_leaf (Leaf (Html t)) = false
is_inline_end_or_leaf (Leaf l) = true

-- an empty item comes first
abbrev pub begins_with_empty_item : Trees → Bool
begins_with_empty_item (node t kids f) = is_item t && is_empty kids
begins_with_empty_item f = false

-- the only tree is a Paragraph
abbrev pub is_only_paragraph : Trees → Bool
is_only_paragraph (node t kids f) = is_paragraph t && is_empty f
is_only_paragraph f = false

-- the only tree is an item whose only child is a Paragraph
abbrev pub is_only_item : Trees → Bool
is_only_item (node t kids f) = is_item t && is_only_paragraph kids && is_empty f
is_only_item f = false

-- a list that would be read otherwise without a placeholder: its empty first item is after inline content, where it
-- can't begin a list, or its only item would be tight (CommonMark, sections 5.2 and 5.3)
abbrev pub is_ambiguous_list : TagView → Trees → Around → Bool
is_ambiguous_list t kids a =
    is_list t && ((begins_with_empty_item kids && and_is is_inline_end_or_leaf (front a.before)) || is_only_item kids)

-- some list among these trees, at any depth, would be read otherwise without a placeholder
abbrev pub needs_placeholder_at : Trees → Around → Bool
needs_placeholder_at empty a = false
needs_placeholder_at (leaf l f) a = needs_placeholder_at f (past (Leaf l) a)
needs_placeholder_at (node t kids f) a =
    is_ambiguous_list t kids (ahead_of f a) || needs_placeholder_at kids (inside t (ahead_of f a)) || needs_placeholder_at f (beyond t kids a)

-- the whole of a unit
abbrev pub whole : Option EventView → Around
whole next = record { before = []; after = []; next = next }

-- a unit needs a placeholder if some list in it does
unfoldable pub needs_placeholder : Trees → Bool
needs_placeholder f = needs_placeholder_at f (whole None)
