-- When two texts are alike.
use Rattle.std.specs.Prelude.{ℕ, Bool, List, ◌≡◌}
use Rattle.tocmark_event.specs.Reading.{ReadingView}
use Rattle.tocmark_event.specs.declared.event.flags.ParserOptions.{ParserOptions}
use Rattle.tocmark_judge.specs.Letters.{letters}
use Rattle.tocmark_judge.specs.LinkDefinitions.{DefinedLink}
use Rattle.tocmark_judge.specs.Marks.{has_mark}
use Rattle.tocmark_judge.specs.Same.{SaySame}
use Rattle.tocmark_judge.specs.Shape.{HaveSameShapes}

-- a reader finds the same in two texts: what they say and how they define links under a document's flags, and the same blocks
-- under other flags; both begin with a byte order mark, or neither; and whatever the reader finds, both have the same letters
abbrev pub AreAlike : Bool → ParserOptions → List ParserOptions → (List ℕ → ParserOptions → ReadingView) → (List ℕ → ParserOptions → List DefinedLink) → List ℕ → List ℕ → Type 0
AreAlike folds flags also reading definitions one other =
    SaySame folds (reading one flags) (reading other flags)
    × (definitions one flags ≡ definitions other flags)
    × HaveSameShapes reading also one other
    × (has_mark one ≡ has_mark other)
    × (letters one ≡ letters other)
