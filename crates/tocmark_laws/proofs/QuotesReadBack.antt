-- What is handed for a quote of a paragraph of words is read as it.
use Rattle.std.proofs.Common.{◌≡◌, ℕ, true, List, [], ◌∷◌, ◌++◌, map, refl, ap, sym, subst, ◌∙◌, arith, append_assoc, None}
use Rattle.std.specs.List.{AllByRecursion, list_all}
use Rattle.tocmark_event.specs.Forest.{empty, node, flat_onto}
use Rattle.tocmark_event.specs.Options.{OptionsView}
use Rattle.tocmark_event.specs.View.{EventView, Start, End, BlockQuote, Paragraph, SourcedEvent}
use Rattle.tocmark_event.specs.declared.event.TagEnd.TheVariants as end
use Rattle.tocmark_read_scan.proofs.PlainTests.{all_from}
use Rattle.tocmark_reader.specs.PlainTexts.{IsReadAs}
use Rattle.tocmark_reader.specs.Reading.{reading_of}
use Rattle.tocmark_state.specs.Walk.{Walk, Done}
use Rattle.tocmark_write_pending.specs.Placeholder.{needs_placeholder}
use Rattle.tocmark_laws.specs.HardBreaks.{NextLine, broken_lines, lines_behind}
use Rattle.tocmark_laws.specs.PlainQuotes.{quoted_paragraph}
use Rattle.tocmark_laws.specs.ReadBack.{ReadsBackAlike, ArePlainOptions, is_barless_line}
use Rattle.tocmark_laws.proofs.AloneHanded.{bare, IsUnasked, tree_handed}
use Rattle.tocmark_laws.proofs.BreaksReadBack.{bare_from, all_words, same_lines, same_events, lines_flat, lines_placed, no_tags, no_formulas, no_sources}
use Rattle.tocmark_laws.proofs.BreakSpelling.{AreBareWords, written_lines, broken_trees}
use Rattle.tocmark_laws.proofs.QuoteReading.{low_quote, low_quotes_read}
use Rattle.tocmark_laws.proofs.QuoteSpelling.{quote_alone}

quote_unasked : (l : List ℕ) (ms : List NextLine) → IsUnasked (node (BlockQuote None) (node Paragraph (broken_trees l ms) empty) empty)
unfolding needs_placeholder
quote_unasked l ms = record {
  placed = rw (lines_placed l ms (record { before = Start Paragraph ∷ Start (BlockQuote None) ∷ []; after = End end.Paragraph ∷ End (end.BlockQuote None) ∷ []; next = None })) refl;
  undelimited = rw (no_tags l ms, no_formulas l ms) refl;
  unsourced = rw (no_sources l ms) refl;
}

quote_flat : (l : List ℕ) (ms : List NextLine) → map bare (quoted_paragraph l ms) ≡ Start (BlockQuote None) ∷ Start Paragraph ∷ flat_onto (broken_trees l ms) (End end.Paragraph ∷ End (end.BlockQuote None) ∷ [])
quote_flat l ms =
    ap (λ (es : List EventView). Start (BlockQuote None) ∷ Start Paragraph ∷ map bare es) (append_assoc (broken_lines l ms) (End end.Paragraph ∷ []) (End (end.BlockQuote None) ∷ []))
    ∙ ap (λ (es : List SourcedEvent). Start (BlockQuote None) ∷ Start Paragraph ∷ es) (lines_flat l ms (End end.Paragraph ∷ End (end.BlockQuote None) ∷ []))

pub quotes_read_back : (options : OptionsView) (l : List ℕ) (ms : List NextLine) → ArePlainOptions options → list_all is_barless_line (l ∷ lines_behind ms) ≡ true → ReadsBackAlike options (quoted_paragraph l ms)
quotes_read_back options l ms plain h reading flags source =
    let lines : List NextLine = written_lines ms in
    let text : List ℕ = low_quote l lines in
    let words : AllByRecursion AreBareWords (l ∷ lines_behind ms) = all_from is_barless_line AreBareWords (l ∷ lines_behind ms) bare_from h in
    let walk = tree_handed options reading flags source plain.unchecked (BlockQuote None) (node Paragraph (broken_trees l ms) empty) (quoted_paragraph l ms) text (quote_flat l ms) (quote_unasked l ms) (omega arith) (quote_alone _ plain.emphasis l ms words) in
    record {
      ends_well = ap (λ (w : Walk Done). w.outcome) walk;
      text = text;
      handed = ap (λ (w : Walk Done). w.texts) walk;
      read = λ syntax fits. subst (λ (es : List EventView). IsReadAs (reading_of syntax text) (Start (BlockQuote None) ∷ (Start Paragraph ∷ es ++ End end.Paragraph ∷ []) ++ End (end.BlockQuote None) ∷ [])) (same_events l ms)
          (low_quotes_read syntax l lines (all_words (l ∷ lines_behind lines) (subst (λ (ls : List (List ℕ)). list_all is_barless_line (l ∷ ls) ≡ true) (sym (same_lines ms)) h)) fits);
    }
