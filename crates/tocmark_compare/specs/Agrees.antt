-- How what a reader found begins.
use Rattle.std.specs.Prelude.{Bool, false, List, [], ◌∷◌}
use Rattle.tocmark_event.specs.View.{EventView, Paragraph, Start}
use Rattle.tocmark_spelling.specs.SameEvents.{same_event}

-- the start of a paragraph is first
abbrev pub begins_paragraph : List EventView → Bool
begins_paragraph [] = false
begins_paragraph (e ∷ es) = same_event e (Start Paragraph)
