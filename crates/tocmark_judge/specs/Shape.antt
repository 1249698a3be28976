-- The shape of a document: which blocks begin and end in it, without texts and inlines.
use Rattle.std.specs.Prelude.{ℕ, ◌≡◌, if◌then◌else◌, List, [], ◌∷◌, ◌++◌, map, Some}
use Rattle.std.specs.List.{All}
use Rattle.tocmark_event.specs.Reading.{ReadingView}
use Rattle.tocmark_event.specs.View.{EventView, Start, End, Leaf, Rule, end_of}
use Rattle.tocmark_event.specs.declared.event.flags.ParserOptions.{ParserOptions}
use Rattle.tocmark_spelling.specs.Kinds.{is_inline_tag, is_inline_end}
use Rattle.tocmark_compare.specs.Digest.{marked, plain_start}
use Rattle.tocmark_compare.specs.Given.{found_events}
use Rattle.tocmark_judge.specs.declared.shape.Outline.{Outline}

-- what an event says of blocks: one begins, as its End names it, or ends, or it is a rule
abbrev pub outlined : EventView → List EventView
outlined (Start t) = if is_inline_tag t then [] else Start (plain_start (end_of t)) ∷ []
outlined (End k) = if is_inline_end k then [] else End k ∷ []
outlined (Leaf Rule) = Leaf Rule ∷ []
outlined (Leaf l) = []

abbrev pub shape : List EventView → List EventView
shape [] = []
shape (e ∷ es) = outlined e ++ shape es

-- two readings have the same blocks
abbrev pub has_same_shape : ReadingView → ReadingView → Type 0
has_same_shape one other = shape (found_events one) ≡ shape (found_events other)

-- under each of these flags a reader finds the same blocks in two texts
abbrev pub HaveSameShapes : (List ℕ → ParserOptions → ReadingView) → List ParserOptions → List ℕ → List ℕ → Type 0
HaveSameShapes reading also one other = All (λ flags. has_same_shape (reading one flags) (reading other flags)) also

-- an outline has the shape of these events
abbrev pub Outlines : Outline → List EventView → Type 0
Outlines o events = map marked o.marks.items ≡ map Some (shape events)
