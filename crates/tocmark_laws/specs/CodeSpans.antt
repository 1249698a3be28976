-- Paragraphs of a code span: their text, and the events that it is read as.
use Rattle.std.specs.Prelude.{◌≡◌, ℕ, ◌^◌, ◌<◌, Bool, true, false, not, ◌==◌, ◌&&◌, List, [], ◌∷◌, ◌++◌, length}
use Rattle.std.specs.List.{list_all}
use Rattle.tocmark_event.specs.View.{EventView, Start, End, Leaf, Code, Paragraph}
use Rattle.tocmark_event.specs.declared.event.TagEnd.TheVariants as end
use Rattle.tocmark_read_scan.specs.PlainParts.{last_byte}
use Rattle.tocmark_read_scan.specs.declared.syntax.Syntax.{Syntax}
use Rattle.tocmark_reader.specs.PlainTexts.{is_printable, IsReadAs}
use Rattle.tocmark_reader.specs.Reading.{reading_of}

-- a character from U+0020 to U+007E that is no backtick
abbrev pub is_span_byte : ℕ → Bool
is_span_byte b = is_printable b && not (b == 96)

-- some of them, with no space at either end
abbrev pub is_span : List ℕ → Bool
is_span [] = false
is_span (b ∷ bs) = list_all is_span_byte (b ∷ bs) && not (b == 32) && not (last_byte b bs == 32)

-- code between backticks
abbrev pub in_backticks : List ℕ → List ℕ
in_backticks code = 96 ∷ (code ++ 96 ∷ [])

-- a paragraph of a code span
abbrev pub span_paragraph : List ℕ → List EventView
span_paragraph code = Start Paragraph ∷ Leaf (Code code) ∷ End end.Paragraph ∷ []

-- under every syntax, code between backticks is a code span
abbrev pub CodeSpansAreRead : Type 0
CodeSpansAreRead =
    (syntax : Syntax) (code : List ℕ) → is_span code ≡ true → length (in_backticks code) < 2 ^ 64 →
    IsReadAs (reading_of syntax (in_backticks code)) (span_paragraph code)
