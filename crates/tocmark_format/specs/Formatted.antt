-- What holds of a formatted document.
use Rattle.std.specs.Prelude.{ℕ, Bool, ◌≡◌, IsTrue, List, [], None, Option}
use Rattle.tocmark_event.specs.Reading.{ReadingView}
use Rattle.tocmark_event.specs.declared.event.flags.ParserOptions.{ParserOptions}
use Rattle.tocmark_judge.specs.Letters as judged
use Rattle.tocmark_judge.specs.LinkDefinitions.{DefinedLink}
use Rattle.tocmark_judge.specs.Marks.{after_mark, has_mark}
use Rattle.tocmark_judge.specs.Same.{SaySame}
use Rattle.tocmark_judge.specs.Shape.{HaveSameShapes}
use Rattle.tocmark_printing.specs.Kept.{IsPrinted}
use Rattle.tocmark_printing.specs.declared.ladder.Ladder.{Ladder}
use Rattle.tocmark_format.specs.Plain.{has_plain_ends}
use Rattle.tocmark_format.specs.declared.answer.Left.{Left}
use Rattle.tocmark_format.specs.declared.range.Ends.{Ends}
use Rattle.tocmark_format.specs.declared.range.Lines.{Lines}

-- a reader finds in a text what it found in the old one, under these flags; and the same blocks under others. A byte order mark
-- at the front is no text. Whatever the reader finds, both have a mark or neither, and both have the same letters
pub record SaysAsBefore (folds : Bool) (flags : ParserOptions) (others : List ParserOptions)
    (reading : List ℕ → ParserOptions → ReadingView) (defined : List ℕ → ParserOptions → List DefinedLink)
    (old new : List ℕ) : Type 0 where
  pub mark : has_mark new ≡ has_mark old
  pub letters : judged.letters new ≡ judged.letters old
  pub same : SaySame folds (reading (after_mark new) flags) (reading (after_mark old) flags)
  pub definitions : defined (after_mark new) flags ≡ defined (after_mark old) flags
  pub also : HaveSameShapes reading others (after_mark new) (after_mark old)

-- if all lines were asked for and no block is named, a text is printed with no tree that keeps its lines
abbrev pub Tells : (List ℕ → Ladder → List ℕ → Type 0) → Option Lines → List Left → List ℕ → List ℕ → Type 0
Tells prints lines left old new = lines ≡ None → left ≡ [] → IsPrinted prints old new

-- a text with plain ends is printed so
abbrev pub TellsOfPlain : (List ℕ → Ladder → List ℕ → Type 0) → Option Lines → Ends → List Left → List ℕ → List ℕ → Type 0
TellsOfPlain prints lines ends left old new = IsTrue (has_plain_ends ends old) → Tells prints lines left old new
