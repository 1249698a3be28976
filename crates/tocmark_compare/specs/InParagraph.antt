-- What must be read for a unit: inline events are in a Paragraph.
use Rattle.std.specs.Prelude.{Bool, true, false, not, if◌then◌else◌, List, [], ◌∷◌, ◌++◌}
use Rattle.std.specs.List.{list_any}
use Rattle.tocmark_event.specs.View.{Paragraph, Html, Rule, EventView, Start, End, Leaf}
use Rattle.tocmark_event.specs.declared.event.TagEnd.TheVariants as end
use Rattle.tocmark_spelling.specs.Kinds.{is_inline_tag, is_inline_end}

-- whether an event is of a block: the Start or End of one, Rule or Html
abbrev pub stands_alone : EventView → Bool
stands_alone (Start t) = not (is_inline_tag t)
stands_alone (End k) = not (is_inline_end k)
stands_alone (Leaf Rule) = true
stands_alone (Leaf (Html t)) = true
stands_alone (Leaf l) = false

-- inline events in a Paragraph, as a reader finds them (CommonMark, section 4.8); with a block, as they are
abbrev pub in_paragraph : List EventView → List EventView
in_paragraph [] = []
in_paragraph (e ∷ es) =
    if list_any stands_alone (e ∷ es) then e ∷ es else Start Paragraph ∷ (e ∷ es) ++ End end.Paragraph ∷ []
