-- Examples: documents of one construct that are read back under the default options.
use Rattle.std.proofs.Common.{ℕ, Bool, true, false, List, [], ◌∷◌, codes, map, refl, arith, None, Some}
use Rattle.tocmark_event.specs.Options.{OptionsView, default_options}
use Rattle.tocmark_event.specs.Reading.{ReadingView}
use Rattle.tocmark_event.specs.View.{EventView, Start, End, Leaf, BlockQuote, Code, FootnoteDefinition, FootnoteReference, Item, ListOf, Paragraph, Text, SoftBreak, HardBreak, Table, TableHead, TableRow, TableCell, TaskListMarker}
use Rattle.tocmark_event.specs.declared.event.Alignment.TheVariants as align
use Rattle.tocmark_event.specs.declared.event.TagEnd.TheVariants as end
use Rattle.tocmark_event.specs.declared.event.flags.ParserOptions.{ParserOptions}
use Rattle.tocmark_read_scan.specs.declared.syntax.Syntax.{Syntax}
use Rattle.tocmark_state.specs.Ranges.{unranged}
use Rattle.tocmark_state.specs.Walk.{nothing_yet, script}
use Rattle.tocmark_state.specs.WorkView.{rendering}
use Rattle.tocmark_laws.specs.HardBreaks.{Softly, BySpaces}
use Rattle.tocmark_laws.specs.PlainTables.{PlainCell}
use Rattle.tocmark_laws.specs.ReadBack.{ReadsBackAlike, AreReadWhere, ArePlainOptions}
use Rattle.tocmark_laws.proofs.BreaksReadBack.{breaks_read_back}
use Rattle.tocmark_laws.proofs.CodeSpansReadBack.{spans_read_back}
use Rattle.tocmark_laws.proofs.ListsReadBack.{bullets_read_back, numbers_read_back}
use Rattle.tocmark_laws.proofs.NotesReadBack.{footnotes_read_back}
use Rattle.tocmark_laws.proofs.QuotesReadBack.{quotes_read_back}
use Rattle.tocmark_laws.proofs.TablesReadBack.{tables_read_back}
use Rattle.tocmark_laws.proofs.TasksReadBack.{tasks_read_back}

-- they ask for no checks, and their marker of emphasis is `*`
plain : ArePlainOptions default_options
plain = record { unchecked = refl; emphasis = refl }

breaks : ReadsBackAlike default_options (Start Paragraph ∷ Leaf (Text (codes "two")) ∷ Leaf SoftBreak ∷ Leaf (Text (codes "words")) ∷ Leaf HardBreak ∷ Leaf (Text (codes "on lines")) ∷ End end.Paragraph ∷ [])
breaks = breaks_read_back default_options (codes "two") (record { behind = Softly; line = codes "words" } ∷ record { behind = BySpaces 0; line = codes "on lines" } ∷ []) plain refl

quote : ReadsBackAlike default_options (Start (BlockQuote None) ∷ Start Paragraph ∷ Leaf (Text (codes "two")) ∷ Leaf HardBreak ∷ Leaf (Text (codes "words")) ∷ End end.Paragraph ∷ End (end.BlockQuote None) ∷ [])
quote = quotes_read_back default_options (codes "two") (record { behind = BySpaces 0; line = codes "words" } ∷ []) plain refl

span : ReadsBackAlike default_options (Start Paragraph ∷ Leaf (Code (codes "a *b* \\")) ∷ End end.Paragraph ∷ [])
span = spans_read_back default_options (codes "a *b* \\") refl refl

bullets : ReadsBackAlike default_options (Start (ListOf None) ∷ Start Item ∷ Leaf (Text (codes "two words")) ∷ End end.Item ∷ Start Item ∷ Leaf (Text (codes "a - b -")) ∷ End end.Item ∷ End (end.List false) ∷ [])
bullets = bullets_read_back default_options (codes "two words") (codes "a - b -" ∷ []) plain refl refl

numbers : ReadsBackAlike default_options (Start (ListOf (Some 120)) ∷ Start Item ∷ Leaf (Text (codes "two words")) ∷ End end.Item ∷ Start Item ∷ Leaf (Text (codes "a. b")) ∷ End end.Item ∷ End (end.List true) ∷ [])
numbers = numbers_read_back default_options 120 (codes "two words") (codes "a. b" ∷ []) plain refl (omega arith) refl

-- what is handed for events under these options is read as them by each syntax with a construct
abbrev ReadsBack : OptionsView → (Syntax → Bool) → List EventView → Type 0
ReadsBack options has events =
    (reading : List ℕ → ParserOptions → ReadingView) (flags : ParserOptions) (source : List ℕ) →
    AreReadWhere has (script (rendering options reading) source (nothing_yet flags) (map unranged events)) events

note : ReadsBack default_options (λ syntax. syntax.footnotes) (Start Paragraph ∷ Leaf (Text (codes "two words")) ∷ Leaf (FootnoteReference (codes "a1")) ∷ End end.Paragraph ∷ Start (FootnoteDefinition (codes "a1")) ∷ Start Paragraph ∷ Leaf (Text (codes "on lines")) ∷ End end.Paragraph ∷ End end.FootnoteDefinition ∷ [])
note = footnotes_read_back default_options (codes "two words") (codes "a1") (codes "on lines") plain (omega arith) refl refl refl

abbrev cell : List ℕ → PlainCell
cell phrase = record { before = 0; phrase = phrase; behind = 0 }

table : ReadsBack default_options (λ syntax. syntax.tables) (Start (Table (align.None ∷ align.Right ∷ [])) ∷ Start TableHead ∷ Start TableCell ∷ Leaf (Text (codes "two words")) ∷ End end.TableCell ∷ Start TableCell ∷ Leaf (Text (codes "b")) ∷ End end.TableCell ∷ End end.TableHead ∷ Start TableRow ∷ Start TableCell ∷ Leaf (Text (codes "1. c")) ∷ End end.TableCell ∷ Start TableCell ∷ Leaf (Text (codes "2")) ∷ End end.TableCell ∷ End end.TableRow ∷ End end.Table ∷ [])
table =
    tables_read_back default_options (cell (codes "two words") ∷ cell (codes "b") ∷ []) (record { before = 0; alignment = align.None; more = 0; behind = 0 }) (record { before = 0; alignment = align.Right; more = 0; behind = 0 } ∷ [])
    ((cell (codes "1. c") ∷ cell (codes "2") ∷ []) ∷ []) plain refl

task : ReadsBack (record default_options { list_token = 45 }) (λ syntax. syntax.task_lists) (Start (ListOf None) ∷ Start Item ∷ Leaf (TaskListMarker true) ∷ Leaf (Text (codes "two words")) ∷ End end.Item ∷ End (end.List false) ∷ [])
task = tasks_read_back (record default_options { list_token = 45 }) true (codes "two words") (record { unchecked = refl; emphasis = refl }) refl refl refl
