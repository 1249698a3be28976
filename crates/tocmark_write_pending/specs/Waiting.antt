-- Lists that need a placeholder, among events in a row.
use Rattle.std.specs.Prelude.{Bool, true, false, ◌&&◌, ◌||◌, List, [], ◌∷◌, drop}
use Rattle.tocmark_event.specs.View.{SourcedEvent, Start, End, Leaf, unsourced}
use Rattle.tocmark_spelling.specs.Kinds.{is_item, is_list, is_paragraph, starts}
use Rattle.tocmark_spelling.specs.Scans.{span}
use Rattle.tocmark_write_pending.specs.Placeholder.{is_inline_end_or_leaf}

-- an event that ends a container
abbrev pub is_end : SourcedEvent → Bool
is_end (Start t) = false
is_end (End k) = true
is_end (Leaf l) = false

-- an item that ends at once comes
abbrev pub begins_empty_item : List SourcedEvent → Bool
begins_empty_item [] = false
begins_empty_item (e ∷ []) = false
begins_empty_item (e ∷ f ∷ es) = starts is_item (unsourced e) && is_end f

-- three containers end
abbrev pub begins_three_ends : List SourcedEvent → Bool
begins_three_ends [] = false
begins_three_ends (e ∷ []) = false
begins_three_ends (e ∷ f ∷ []) = false
begins_three_ends (e ∷ f ∷ g ∷ es) = is_end e && is_end f && is_end g

-- the events from the End of the container in which these are
abbrev pub from_end : List SourcedEvent → List SourcedEvent
from_end es = drop (span 0 es) es

-- an item comes that begins with a Paragraph, and these events, from the Paragraph's End, end the item and its list too
abbrev pub begins_only_item : List SourcedEvent → List SourcedEvent → Bool
begins_only_item [] behind = false
begins_only_item (e ∷ []) behind = false
begins_only_item (e ∷ f ∷ es) behind = starts is_item (unsourced e) && starts is_paragraph (unsourced f) && begins_three_ends behind

-- a list starts that would be read otherwise without a placeholder, given whether inline content is before it,
-- the events after its Start, and those from the End of the container that the second of them may start
abbrev pub starts_ambiguous_list : Bool → SourcedEvent → List SourcedEvent → List SourcedEvent → Bool
starts_ambiguous_list inline e es behind =
    starts is_list (unsourced e) && ((begins_empty_item es && inline) || begins_only_item es behind)

-- some list among these events would, given whether inline content is before them
abbrev pub has_ambiguous_list : Bool → List SourcedEvent → Bool
has_ambiguous_list inline [] = false
has_ambiguous_list inline (e ∷ es) =
    starts_ambiguous_list inline e es (from_end (drop 2 es)) || has_ambiguous_list (is_inline_end_or_leaf (unsourced e)) es
