-- Block quotes of a paragraph, or of paragraphs of a line each: their text, and the events that it is read as.
use Rattle.std.specs.Prelude.{◌≡◌, ℕ, ◌^◌, ◌<◌, true, None, List, [], ◌∷◌, ◌++◌, length}
use Rattle.std.specs.List.{list_all}
use Rattle.tocmark_event.specs.View.{EventView, Start, End, Leaf, BlockQuote, Paragraph, Text}
use Rattle.tocmark_event.specs.declared.event.TagEnd.TheVariants as end
use Rattle.tocmark_read_scan.specs.declared.syntax.Syntax.{Syntax}
use Rattle.tocmark_reader.specs.PlainTexts.{IsReadAs}
use Rattle.tocmark_reader.specs.Reading.{reading_of}
use Rattle.tocmark_laws.specs.Extensions.{is_word_line}
use Rattle.tocmark_laws.specs.HardBreaks.{NextLine, end_bytes, broken_paragraph, lines_behind}

-- a line and further lines, each after `> `
abbrev pub quoted_text : List ℕ → List NextLine → List ℕ
quoted_text l [] = 62 ∷ 32 ∷ l
quoted_text l (m ∷ ms) = 62 ∷ 32 ∷ (l ++ (end_bytes m.behind ++ 10 ∷ quoted_text m.line ms))

-- a quote, without a kind, of a paragraph of lines with these breaks
abbrev pub quoted_paragraph : List ℕ → List NextLine → List EventView
quoted_paragraph l ms = Start (BlockQuote None) ∷ broken_paragraph l ms ++ End (end.BlockQuote None) ∷ []

-- under every syntax, such lines of words are a quote of a paragraph
abbrev pub QuotesAreRead : Type 0
QuotesAreRead =
    (syntax : Syntax) (l : List ℕ) (ms : List NextLine) → list_all is_word_line (l ∷ lines_behind ms) ≡ true → length (quoted_text l ms) < 2 ^ 64 →
    IsReadAs (reading_of syntax (quoted_text l ms)) (quoted_paragraph l ms)

-- lines after `> `, with `>` alone between two
abbrev pub parted_quote : List ℕ → List (List ℕ) → List ℕ
parted_quote l [] = 62 ∷ 32 ∷ l
parted_quote l (m ∷ ms) = 62 ∷ 32 ∷ (l ++ 10 ∷ 62 ∷ 10 ∷ parted_quote m ms)

-- a paragraph for each line
abbrev pub paragraphs_events : List (List ℕ) → List EventView
paragraphs_events [] = []
paragraphs_events (l ∷ ls) = Start Paragraph ∷ Leaf (Text l) ∷ End end.Paragraph ∷ paragraphs_events ls

-- a quote, without a kind, of these paragraphs
abbrev pub parted_events : List (List ℕ) → List EventView
parted_events ls = Start (BlockQuote None) ∷ paragraphs_events ls ++ End (end.BlockQuote None) ∷ []

-- under every syntax, such lines of words are a quote with a paragraph for each
abbrev pub PartedQuotesAreRead : Type 0
PartedQuotesAreRead =
    (syntax : Syntax) (l : List ℕ) (ms : List (List ℕ)) → list_all is_word_line (l ∷ ms) ≡ true → length (parted_quote l ms) < 2 ^ 64 →
    IsReadAs (reading_of syntax (parted_quote l ms)) (parted_events (l ∷ ms))
