-- Block quotes of a kind: their text, and the events that it is read as.
use Rattle.std.specs.Prelude.{◌≡◌, ℕ, ◌^◌, ◌<◌, true, Some, List, [], ◌∷◌, ◌++◌, codes, length}
use Rattle.tocmark_event.specs.View.{EventView, Start, End, Leaf, BlockQuote, Paragraph, Text}
use Rattle.tocmark_event.specs.declared.event.BlockQuoteKind.{BlockQuoteKind}
use Rattle.tocmark_event.specs.declared.event.BlockQuoteKind.TheVariants.{Note, Tip, Important, Warning, Caution}
use Rattle.tocmark_event.specs.declared.event.TagEnd.TheVariants as end
use Rattle.tocmark_read_scan.specs.declared.syntax.Syntax.{Syntax}
use Rattle.tocmark_reader.specs.PlainTexts.{IsReadAs}
use Rattle.tocmark_reader.specs.Reading.{reading_of}
use Rattle.tocmark_laws.specs.Extensions.{is_word_line}

-- the word for a kind
abbrev pub kind_word : BlockQuoteKind → List ℕ
kind_word Note = codes "NOTE"
kind_word Tip = codes "TIP"
kind_word Important = codes "IMPORTANT"
kind_word Warning = codes "WARNING"
kind_word Caution = codes "CAUTION"

-- a line with the kind, as `> [!NOTE]`
abbrev pub kind_line : BlockQuoteKind → List ℕ
kind_line k = 62 ∷ 32 ∷ 91 ∷ 33 ∷ (kind_word k ++ 93 ∷ [])

-- below it a line of words after `> `
abbrev pub kind_quote : BlockQuoteKind → List ℕ → List ℕ
kind_quote k words = kind_line k ++ 10 ∷ 62 ∷ 32 ∷ words

-- a quote of this kind, with a paragraph
abbrev pub kind_events : BlockQuoteKind → List ℕ → List EventView
kind_events k words =
    Start (BlockQuote (Some k)) ∷ Start Paragraph ∷ Leaf (Text words) ∷ End end.Paragraph ∷ End (end.BlockQuote (Some k)) ∷ []

-- where a syntax has kinds of quotes, such lines are a quote of the kind
abbrev pub QuoteKindsAreRead : Type 0
QuoteKindsAreRead =
    (syntax : Syntax) (k : BlockQuoteKind) (words : List ℕ) → syntax.quote_kinds ≡ true → is_word_line words ≡ true → length (kind_quote k words) < 2 ^ 64 →
    IsReadAs (reading_of syntax (kind_quote k words)) (kind_events k words)
