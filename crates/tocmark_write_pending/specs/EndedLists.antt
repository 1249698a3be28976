-- The lists that need a placeholder, found as their first items and they themselves end.
use Rattle.std.specs.Prelude.{ℕ, Bool, false, nat_lt, ◌-◌, ◌==◌, ◌&&◌, Option, Some, None, List, [], ◌∷◌}
use Rattle.tocmark_event.specs.View.{SourcedEvent, unsourced}
use Rattle.tocmark_spelling.specs.Kinds.{is_item, is_list, is_paragraph, starts}
use Rattle.tocmark_write_pending.specs.Placeholder.{is_inline_end_or_leaf}
use Rattle.tocmark_write_pending.specs.Waiting.{from_end, is_end}

-- the Starts of a list and of its first item come after inline content
abbrev pub begins_first_item : List SourcedEvent → Bool
begins_first_item [] = false
begins_first_item (x ∷ []) = false
begins_first_item (x ∷ a ∷ []) = false
begins_first_item (x ∷ a ∷ b ∷ es) = starts is_list (unsourced a) && starts is_item (unsourced b) && is_inline_end_or_leaf (unsourced x)

-- whether events end with the Starts of a list and of its first item, after inline content, given whether inline content
-- is before them
abbrev pub ends_in_first_item : Bool → List SourcedEvent → Bool
ends_in_first_item inline [] = false
ends_in_first_item inline (x ∷ []) = false
ends_in_first_item inline (x ∷ a ∷ []) = starts is_list (unsourced x) && starts is_item (unsourced a) && inline
ends_in_first_item inline (x ∷ a ∷ b ∷ es) = ends_in_first_item (is_inline_end_or_leaf (unsourced x)) (a ∷ b ∷ es)

-- two Ends, and nothing else
abbrev pub are_two_ends : List SourcedEvent → Bool
are_two_ends [] = false
are_two_ends (x ∷ []) = false
are_two_ends (x ∷ y ∷ []) = is_end x && is_end y
are_two_ends (x ∷ y ∷ z ∷ es) = false

-- an item that holds a Paragraph alone, and nothing else
abbrev pub is_only_item_body : List SourcedEvent → Bool
is_only_item_body [] = false
is_only_item_body (a ∷ []) = false
is_only_item_body (a ∷ b ∷ es) = starts is_item (unsourced a) && starts is_paragraph (unsourced b) && are_two_ends (from_end es)

-- whether the list that an End would end, whose Start this event is, has such an item alone
abbrev pub ends_only_item : SourcedEvent → List SourcedEvent → Bool
ends_only_item x rest = starts is_list (unsourced x) && is_only_item_body rest

-- the same of the first of some events and those after it
abbrev pub ends_only_item_from : List SourcedEvent → Bool
ends_only_item_from [] = false
ends_only_item_from (x ∷ rest) = ends_only_item x rest

-- the Starts of a list, of its first item and of a Paragraph come
abbrev pub begins_list : List SourcedEvent → Bool
begins_list [] = false
begins_list (x ∷ []) = false
begins_list (x ∷ a ∷ []) = false
begins_list (x ∷ a ∷ b ∷ es) = starts is_list (unsourced x) && starts is_item (unsourced a) && starts is_paragraph (unsourced b)

-- an End comes
abbrev pub begins_end : List SourcedEvent → Bool
begins_end [] = false
begins_end (x ∷ es) = is_end x

-- a container ended with the last event but one of so many
abbrev pub is_last_but_one : Option ℕ → ℕ → Bool
is_last_but_one None n = false
is_last_but_one (Some i) n = nat_lt i n && (n - i == 2)
