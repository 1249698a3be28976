-- Documents of one construct, and that what is handed for them is read as them under every syntax.
use Rattle.std.specs.Prelude.{◌≡◌, ℕ, ◌^◌, ◌<◌, ◌≤◌, Bool, true, false, not, ◌==◌, ◌&&◌, Some, List, [], ◌∷◌, ◌++◌, Ok, codes, length, map}
use Rattle.std.specs.Char.{char_set_contains}
use Rattle.std.specs.List.{concat, list_all}
use Rattle.tocmark_event.specs.Options.{OptionsView}
use Rattle.tocmark_event.specs.Reading.{ReadingView}
use Rattle.tocmark_event.specs.View.{EventView, Start, End, ListOf}
use Rattle.tocmark_event.specs.declared.event.TagEnd.TheVariants as end
use Rattle.tocmark_event.specs.declared.event.flags.ParserOptions.{ParserOptions}
use Rattle.tocmark_read_scan.specs.declared.syntax.Syntax.{Syntax}
use Rattle.tocmark_reader.specs.PlainTexts.{IsReadAs}
use Rattle.tocmark_reader.specs.Reading.{reading_of}
use Rattle.tocmark_state.specs.Ranges.{unranged}
use Rattle.tocmark_state.specs.Walk.{Walk, Done, done, nothing_yet, script}
use Rattle.tocmark_state.specs.WorkView.{rendering}
use Rattle.tocmark_laws.specs.CodeSpans.{is_span, span_paragraph}
use Rattle.tocmark_laws.specs.Extensions.{is_word_line, is_phrase, task_events}
use Rattle.tocmark_laws.specs.Footnotes.{footnote_events, is_label}
use Rattle.tocmark_laws.specs.HardBreaks.{NextLine, broken_paragraph, lines_behind}
use Rattle.tocmark_laws.specs.OrderedLists.{is_delimiter}
use Rattle.tocmark_laws.specs.PlainTables.{PlainCell, PlainColumn, is_row, table_events}
use Rattle.tocmark_laws.specs.PlainQuotes.{quoted_paragraph}
use Rattle.tocmark_laws.specs.PlainLists.{is_bullet, bullet_events, items_events}

-- exactly one text is handed, and every syntax reads it as these events, with no labels
pub record IsReadAlike (walk : Walk Done) (events : List EventView) : Type 0 where
  pub ends_well : walk.outcome ≡ Ok done
  pub text : List ℕ
  pub handed : walk.texts ≡ text ∷ []
  pub read : (syntax : Syntax) → length text < 2 ^ 64 → IsReadAs (reading_of syntax text) events

-- so it is of a document of these events, under all flags, over each reader
abbrev pub ReadsBackAlike : OptionsView → List EventView → Type 0
ReadsBackAlike options events =
    (reading : List ℕ → ParserOptions → ReadingView) (flags : ParserOptions) (source : List ℕ) →
    IsReadAlike (script (rendering options reading) source (nothing_yet flags) (map unranged events)) events

-- plain blocks aren't checked, and emphasis has a marker that Markdown reads
pub record ArePlainOptions (options : OptionsView) : Type 0 where
  pub unchecked : options.check_plain_blocks ≡ false
  pub emphasis : char_set_contains (codes "*_") options.emphasis_token ≡ true

-- a line of words without a vertical bar, which has a backslash before it where there are tables
abbrev pub is_barless_line : List ℕ → Bool
is_barless_line l = is_word_line l && list_all (λ b. not (b == 124)) l

-- a paragraph of such lines with breaks between them
abbrev pub BreaksAreReadBack : Type 0
BreaksAreReadBack =
    (options : OptionsView) (l : List ℕ) (ms : List NextLine) → ArePlainOptions options → list_all is_barless_line (l ∷ lines_behind ms) ≡ true →
    ReadsBackAlike options (broken_paragraph l ms)

-- a quote, without a kind, of such a paragraph
abbrev pub QuotesAreReadBack : Type 0
QuotesAreReadBack =
    (options : OptionsView) (l : List ℕ) (ms : List NextLine) → ArePlainOptions options → list_all is_barless_line (l ∷ lines_behind ms) ≡ true →
    ReadsBackAlike options (quoted_paragraph l ms)

-- a paragraph of a code span, with any marker for emphasis
abbrev pub CodeSpansAreReadBack : Type 0
CodeSpansAreReadBack =
    (options : OptionsView) (code : List ℕ) → options.check_plain_blocks ≡ false → is_span code ≡ true → ReadsBackAlike options (span_paragraph code)

-- a tight list of such lines, whose marker Markdown reads
abbrev pub BulletListsAreReadBack : Type 0
BulletListsAreReadBack =
    (options : OptionsView) (l : List ℕ) (ms : List (List ℕ)) → ArePlainOptions options → is_bullet options.list_token ≡ true → list_all is_barless_line (l ∷ ms) ≡ true →
    ReadsBackAlike options (bullet_events (l ∷ ms))

-- a tight list of these items that begins with this number
abbrev pub numbered_events : ℕ → List (List ℕ) → List EventView
numbered_events number ls = Start (ListOf (Some number)) ∷ items_events ls ++ End (end.List true) ∷ []

-- such a list with numbers, of which the first has at most nine digits
abbrev pub OrderedListsAreReadBack : Type 0
OrderedListsAreReadBack =
    (options : OptionsView) (number : ℕ) (l : List ℕ) (ms : List (List ℕ)) →
    ArePlainOptions options → is_delimiter options.ordered_list_token ≡ true → number < 10 ^ 9 → list_all is_barless_line (l ∷ ms) ≡ true →
    ReadsBackAlike options (numbered_events number (l ∷ ms))

-- the texts that are handed join to one that each syntax with a construct reads as these events, with no labels
pub record AreReadWhere (has : Syntax → Bool) (walk : Walk Done) (events : List EventView) : Type 0 where
  pub ends_well : walk.outcome ≡ Ok done
  pub read : (syntax : Syntax) → has syntax ≡ true → length (concat walk.texts) < 2 ^ 64 → IsReadAs (reading_of syntax (concat walk.texts)) events

-- a list of one task, whose line is a phrase too, where a hyphen marks lists
abbrev pub TasksAreReadBack : Type 0
TasksAreReadBack =
    (options : OptionsView) (done : Bool) (phrase : List ℕ) →
    ArePlainOptions options → options.list_token ≡ 45 → is_barless_line phrase ≡ true → is_phrase phrase ≡ true →
    (reading : List ℕ → ParserOptions → ReadingView) (flags : ParserOptions) (source : List ℕ) →
    AreReadWhere (λ syntax. syntax.task_lists) (script (rendering options reading) source (nothing_yet flags) (map unranged (task_events done phrase)))
    (task_events done phrase)

-- a paragraph with a reference to a footnote, and the footnote, with no more than one blank line between the two
abbrev pub FootnotesAreReadBack : Type 0
FootnotesAreReadBack =
    (options : OptionsView) (words label note : List ℕ) →
    ArePlainOptions options → options.newlines_after_paragraph ≤ 2 → is_barless_line words ≡ true → is_label label ≡ true → is_barless_line note ≡ true →
    (reading : List ℕ → ParserOptions → ReadingView) (flags : ParserOptions) (source : List ℕ) →
    AreReadWhere (λ syntax. syntax.footnotes) (script (rendering options reading) source (nothing_yet flags) (map unranged (footnote_events words label note)))
    (footnote_events words label note)

-- a table of phrases without bars, as many in each row as there are columns
abbrev pub TablesAreReadBack : Type 0
TablesAreReadBack =
    (options : OptionsView) (header : List PlainCell) (c : PlainColumn) (cs : List PlainColumn) (rows : List (List PlainCell)) →
    ArePlainOptions options → list_all (is_row (length (c ∷ cs))) (header ∷ rows) ≡ true →
    (reading : List ℕ → ParserOptions → ReadingView) (flags : ParserOptions) (source : List ℕ) →
    AreReadWhere (λ syntax. syntax.tables) (script (rendering options reading) source (nothing_yet flags) (map unranged (table_events header (c ∷ cs) rows)))
    (table_events header (c ∷ cs) rows)
