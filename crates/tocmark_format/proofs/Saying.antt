-- What clauses of a result say together.
use Rattle.std.proofs.Common.{◌≡◌, ◌∙◌, sym, subst, ℕ, Bool, false, List, Option, Result, Ok, Err, IfOk, string_bytes}
use Rattle.tocmark_event.specs.Reading.{ReadingView}
use Rattle.tocmark_event.specs.declared.event.flags.ParserOptions.{ParserOptions}
use Rattle.tocmark_judge.specs.Alike.{AreAlike}
use Rattle.tocmark_judge.specs.Letters.{letters}
use Rattle.tocmark_judge.specs.LinkDefinitions.{DefinedLink}
use Rattle.tocmark_judge.specs.Marks.{after_mark, has_mark}
use Rattle.tocmark_judge.proofs.Marking.{rest-unmarked}
use Rattle.tocmark_printing.specs.declared.ladder.Ladder.{Ladder}
use Rattle.tocmark_format.specs.Formatted.{SaysAsBefore, TellsOfPlain}
use Rattle.tocmark_format.specs.declared.answer.Formatted.{Formatted}
use Rattle.tocmark_format.specs.declared.answer.Left.{Left}
use Rattle.tocmark_format.specs.declared.range.Ends.{Ends}
use Rattle.tocmark_format.specs.declared.range.Lines.{Lines}

pub as-before : {E : Type 0} (r : Result Formatted E) (folds : Bool) (flags : ParserOptions) (others : List ParserOptions) (reading : List ℕ → ParserOptions → ReadingView) (defined : List ℕ → ParserOptions → List DefinedLink) (old : List ℕ) → IfOk r (λ a. has_mark (string_bytes a.text) ≡ has_mark old) → IfOk r (λ a. letters (string_bytes a.text) ≡ letters old) → IfOk r (λ a. AreAlike folds flags others reading defined (after_mark (string_bytes a.text)) (after_mark old)) → IfOk r (λ a. SaysAsBefore folds flags others reading defined old (string_bytes a.text))
as-before (Ok a) folds flags others reading defined old marks same alike = record {
  mark = marks;
  letters = same;
  same = alike.0;
  definitions = alike.1;
  also = alike.2;
}
as-before (Err e) folds flags others reading defined old marks same alike = tt

-- what is told of a text is told of an equal one
pub told-equal : (prints : List ℕ → Ladder → List ℕ → Type 0) (lines : Option Lines) (ends : Ends) {left : List Left} (old new one : List ℕ) → new ≡ one → TellsOfPlain prints lines ends left old one → TellsOfPlain prints lines ends left old new
told-equal prints lines ends {left} old new one e h = subst (λ t. TellsOfPlain prints lines ends left old t) (sym e) h

-- texts without a mark
pub bare-told : {E : Type 0} (r : Result Formatted E) (prints : List ℕ → Ladder → List ℕ → Type 0) (lines : Option Lines) (ends : Ends) (old : List ℕ) → has_mark old ≡ false → IfOk r (λ a. has_mark (string_bytes a.text) ≡ has_mark old) → IfOk r (λ a. TellsOfPlain prints lines ends a.left.items old (string_bytes a.text)) → IfOk r (λ a. TellsOfPlain prints lines ends a.left.items (after_mark old) (after_mark (string_bytes a.text)))
bare-told (Ok a) prints lines ends old none marks h =
    subst (λ t. TellsOfPlain prints lines ends a.left.items t (after_mark (string_bytes a.text))) (sym (rest-unmarked old none))
    (subst (λ t. TellsOfPlain prints lines ends a.left.items old t) (sym (rest-unmarked (string_bytes a.text) (marks ∙ none))) h)
bare-told (Err e) prints lines ends old none marks h = tt
