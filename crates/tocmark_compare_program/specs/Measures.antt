-- When two texts are the same for a call.
use Rattle.std.specs.Prelude.{ℕ, List}
use Rattle.tocmark_event.specs.Reading.{ReadingView}
use Rattle.tocmark_event.specs.declared.event.flags.ParserOptions.{ParserOptions}
use Rattle.tocmark_judge.specs.LinkDefinitions.{DefinedLink}
use Rattle.tocmark_differences.specs.Said.{HaveSameLetters, SayTheSame}
use Rattle.tocmark_compare_program.specs.declared.arguments.Measure.{Measure}
use Rattle.tocmark_compare_program.specs.declared.arguments.Measure.TheVariants.{Events, EventsAndLetters, Letters}
use Rattle.tocmark_compare_program.specs.declared.arguments.Terms.{Terms}

-- what is compared is the same, from whether the texts say the same and whether they have the same letters
abbrev pub measured : Measure → Type 0 → Type 0 → Type 0
measured Events said lettered = said
measured EventsAndLetters said lettered = said × lettered
measured Letters said lettered = lettered

-- two texts are the same under the terms of a call
abbrev pub AreTheSame : Terms → (List ℕ → ParserOptions → ReadingView) → (List ℕ → ParserOptions → List DefinedLink) → List ℕ → List ℕ → Type 0
AreTheSame terms reading definitions old new =
    measured terms.measure (SayTheSame terms.allowed terms.flags reading definitions old new) (HaveSameLetters old new)
