-- Definition lists of a title and a definition, a line each: their text, and the events that it is read as.
use Rattle.std.specs.Prelude.{◌≡◌, ℕ, ◌^◌, ◌<◌, true, List, [], ◌∷◌, ◌++◌, length}
use Rattle.tocmark_event.specs.View.{EventView, Start, End, Leaf, DefinitionList, DefinitionListTitle, DefinitionListDefinition, Text}
use Rattle.tocmark_event.specs.declared.event.TagEnd.TheVariants as end
use Rattle.tocmark_read_scan.specs.declared.syntax.Syntax.{Syntax}
use Rattle.tocmark_reader.specs.PlainTexts.{IsReadAs}
use Rattle.tocmark_reader.specs.Reading.{reading_of}
use Rattle.tocmark_laws.specs.Extensions.{is_word_line}

-- a title, and on the next line its definition after a colon and a space
abbrev pub defined_words : List ℕ → List ℕ → List ℕ
defined_words title words = title ++ 10 ∷ 58 ∷ 32 ∷ words

-- a list of this title and this definition, without paragraphs
abbrev pub definition_events : List ℕ → List ℕ → List EventView
definition_events title words =
    Start DefinitionList
    ∷ Start DefinitionListTitle
    ∷ Leaf (Text title)
    ∷ End end.DefinitionListTitle
    ∷ Start DefinitionListDefinition
    ∷ Leaf (Text words)
    ∷ End end.DefinitionListDefinition
    ∷ End end.DefinitionList
    ∷ []

-- where a syntax has definition lists, such lines of words are one
abbrev pub DefinitionListsAreRead : Type 0
DefinitionListsAreRead =
    (syntax : Syntax) (title words : List ℕ) →
    syntax.definition_lists ≡ true → is_word_line title ≡ true → is_word_line words ≡ true → length (defined_words title words) < 2 ^ 64 →
    IsReadAs (reading_of syntax (defined_words title words)) (definition_events title words)
