-- Lists of events that say different things however their texts are cut.
use Rattle.std.specs.Prelude.{Bool, false, not, ◌&&◌, if◌then◌else◌, List, [], ◌∷◌}
use Rattle.tocmark_event.specs.View.{EventView}
use Rattle.tocmark_spelling.specs.Kinds.{is_text}
use Rattle.tocmark_spelling.specs.SameEvents.{same_event}

-- the first events in which two lists differ are there on both sides, and neither is a text
abbrev pub are_apart : List EventView → List EventView → Bool
are_apart [] ys = false
are_apart (x ∷ xs) [] = false
are_apart (x ∷ xs) (y ∷ ys) = if same_event x y then are_apart xs ys else (not (is_text x) && not (is_text y))
