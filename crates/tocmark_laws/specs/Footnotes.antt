-- A paragraph with a reference to a footnote, and the footnote: their text, and the events that it is read as.
use Rattle.std.specs.Prelude.{◌≡◌, ℕ, ◌^◌, ◌<◌, Bool, true, false, not, ◌==◌, ◌&&◌, nat_lt, List, [], ◌∷◌, ◌++◌, length}
use Rattle.std.specs.List.{list_all}
use Rattle.tocmark_event.specs.View.{EventView, Start, End, Leaf, FootnoteDefinition, FootnoteReference, Paragraph, Text}
use Rattle.tocmark_event.specs.declared.event.TagEnd.TheVariants as end
use Rattle.tocmark_read_scan.specs.declared.syntax.Syntax.{Syntax}
use Rattle.tocmark_reader.specs.PlainTexts.{IsReadAs}
use Rattle.tocmark_reader.specs.Reading.{reading_of}
use Rattle.tocmark_laws.specs.Extensions.{is_word_byte, is_word_line}

-- a character that marks up nothing, and no space
abbrev pub is_label_byte : ℕ → Bool
is_label_byte b = is_word_byte b && not (b == 32)

-- 1 to 998 of them: a label has at most 999 characters, and its caret is one
abbrev pub is_label : List ℕ → Bool
is_label [] = false
is_label (b ∷ bs) = list_all is_label_byte (b ∷ bs) && nat_lt (length (b ∷ bs)) 999

-- a label after a caret, in brackets
abbrev pub in_brackets : List ℕ → List ℕ
in_brackets label = 91 ∷ 94 ∷ (label ++ 93 ∷ [])

-- words with a reference after them, a blank line, and the footnote with words
abbrev pub noted_words : List ℕ → List ℕ → List ℕ → List ℕ
noted_words words label note = (words ++ in_brackets label) ++ 10 ∷ 10 ∷ (in_brackets label ++ 58 ∷ 32 ∷ note)

-- a paragraph of the words and the reference, and the footnote with a paragraph
abbrev pub footnote_events : List ℕ → List ℕ → List ℕ → List EventView
footnote_events words label note =
    Start Paragraph
    ∷ Leaf (Text words)
    ∷ Leaf (FootnoteReference label)
    ∷ End end.Paragraph
    ∷ Start (FootnoteDefinition label)
    ∷ Start Paragraph
    ∷ Leaf (Text note)
    ∷ End end.Paragraph
    ∷ End end.FootnoteDefinition
    ∷ []

-- where a syntax has footnotes, such a text is a reference and its footnote
abbrev pub FootnotesAreRead : Type 0
FootnotesAreRead =
    (syntax : Syntax) (words label note : List ℕ) →
    syntax.footnotes ≡ true → is_word_line words ≡ true → is_label label ≡ true → is_word_line note ≡ true → length (noted_words words label note) < 2 ^ 64 →
    IsReadAs (reading_of syntax (noted_words words label note)) (footnote_events words label note)
