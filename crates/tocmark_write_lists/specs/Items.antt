-- What an item asks of the list that it is in, and what follows a list.
use Rattle.std.specs.Prelude.{ℕ, Bool, ◌&&◌, ◌||◌, nat_le, Option, Some, None, List, [], ◌∷◌, length, replicate}
use Rattle.tocmark_write_texts.specs.Characters.{space}
use Rattle.tocmark_event.specs.View.{EventView, Item}
use Rattle.tocmark_spelling.specs.Kinds.{and_is, is_indented_code, is_list, starts}
use Rattle.tocmark_spelling.specs.Opening.{entered, item_marker, with_label}
use Rattle.tocmark_spelling.specs.Page.{OpeningChoice, Plain, Listed, Path, Page, Site, with_last, written}
use Rattle.tocmark_spelling.specs.Places.{depth_in}
use Rattle.tocmark_spelling.specs.declared.list_choice.ListChoice.{ListChoice}
use Rattle.tocmark_spelling.specs.declared.trail.Last.TheVariants.{ItemStart}

-- indented code follows
abbrev pub is_before_code : Option EventView → Bool
is_before_code next = and_is (λ e. starts is_indented_code e) next

-- what a list chose; none for another container
abbrev pub choice_in : OpeningChoice → Option ListChoice
choice_in (Listed c) = Some c
choice_in c = None

-- what the innermost container chose if it is a list
abbrev pub innermost_choice : Path → Option ListChoice
innermost_choice [] = None
innermost_choice (l ∷ path) = choice_in l.content

-- an item with the marker of this choice, in containers whose list has gone on to the next number already;
-- it is said whether it is an empty one in a list inside a list
abbrev pub marked_item : Option (List ℕ) → Bool → ListChoice → Path → Page → Option Site
marked_item label empty_inner c path p =
    let needed = c.labelled || empty_inner in
    entered Item (replicate (length (item_marker c)) space) Plain path
    (with_last ItemStart (with_label label needed empty_inner path (written path (item_marker c) p)))

-- the same of an item that is empty or not
abbrev pub item_under : Option (List ℕ) → Bool → ListChoice → Path → Page → Option Site
item_under label empty c path p = marked_item label (empty && nat_le 2 (depth_in is_list path)) c path p
