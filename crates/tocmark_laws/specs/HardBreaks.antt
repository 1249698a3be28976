-- Paragraphs with hard and soft breaks between their lines: their text, and the events that it is read as.
use Rattle.std.specs.Prelude.{◌≡◌, ℕ, ◌^◌, ◌<◌, true, List, [], ◌∷◌, ◌++◌, codes, length, map, replicate}
use Rattle.std.specs.List.{list_all}
use Rattle.tocmark_event.specs.View.{EventView, Start, End, Leaf, LeafView, Paragraph, SoftBreak, HardBreak, Text}
use Rattle.tocmark_event.specs.declared.event.TagEnd.TheVariants as end
use Rattle.tocmark_read_scan.specs.declared.syntax.Syntax.{Syntax}
use Rattle.tocmark_reader.specs.PlainTexts.{IsReadAs}
use Rattle.tocmark_reader.specs.Reading.{reading_of}
use Rattle.tocmark_laws.specs.Extensions.{is_word_line}

-- how a line ends: by its line feed alone, by a backslash, or by two spaces and so many more
pub data LineEnd : Type 0 where
  Softly : LineEnd
  ByBackslash : LineEnd
  BySpaces : ℕ → LineEnd

-- a line, and how the line before it ends
pub record NextLine : Type 0 where
  pub behind : LineEnd
  pub line : List ℕ

-- what is in front of the line feed
abbrev pub end_bytes : LineEnd → List ℕ
end_bytes Softly = []
end_bytes ByBackslash = codes "\\"
end_bytes (BySpaces more) = 32 ∷ 32 ∷ replicate more 32

-- the break that it is
abbrev pub break_of : LineEnd → LeafView
break_of Softly = SoftBreak
break_of ByBackslash = HardBreak
break_of (BySpaces more) = HardBreak

-- a line and further lines
abbrev pub broken_text : List ℕ → List NextLine → List ℕ
broken_text l [] = l
broken_text l (m ∷ ms) = l ++ (end_bytes m.behind ++ 10 ∷ broken_text m.line ms)

-- a text for each line, and the break between two
abbrev pub broken_lines : List ℕ → List NextLine → List EventView
broken_lines l [] = Leaf (Text l) ∷ []
broken_lines l (m ∷ ms) = Leaf (Text l) ∷ Leaf (break_of m.behind) ∷ broken_lines m.line ms

-- a paragraph of lines with these breaks
abbrev pub broken_paragraph : List ℕ → List NextLine → List EventView
broken_paragraph l ms = Start Paragraph ∷ broken_lines l ms ++ End end.Paragraph ∷ []

-- the lines after the first
abbrev pub lines_behind : List NextLine → List (List ℕ)
lines_behind ms = map (λ m. m.line) ms

-- under every syntax such lines of words are a paragraph with these breaks
abbrev pub BreaksAreRead : Type 0
BreaksAreRead =
    (syntax : Syntax) (l : List ℕ) (ms : List NextLine) → list_all is_word_line (l ∷ lines_behind ms) ≡ true → length (broken_text l ms) < 2 ^ 64 →
    IsReadAs (reading_of syntax (broken_text l ms)) (broken_paragraph l ms)
