-- What is handed for a paragraph of lines of words with breaks between them is read as it.
use Rattle.std.proofs.Common.{◌≡◌, ℕ, ◌<◌, true, false, not, ◌==◌, List, [], ◌∷◌, ◌++◌, length, map, refl, ap, sym, subst, ◌∙◌, arith, true≢false, None}
use Rattle.std.specs.List.{AllByRecursion, list_all}
use Rattle.tocmark_event.specs.Forest.{empty, node, flat_onto}
use Rattle.tocmark_event.specs.Options.{OptionsView}
use Rattle.tocmark_event.specs.View.{EventView, Start, End, Leaf, Paragraph, Text, SourcedEvent}
use Rattle.tocmark_event.specs.declared.event.TagEnd.TheVariants as end
use Rattle.tocmark_read_scan.proofs.PlainTests.{both_true, is_not, all_from}
use Rattle.tocmark_reader.specs.PlainTexts.{IsReadAs}
use Rattle.tocmark_reader.specs.Reading.{reading_of}
use Rattle.tocmark_spelling.specs.Body.{some_leaf}
use Rattle.tocmark_spelling.specs.Page.{Around}
use Rattle.tocmark_choose.specs.Candidates.{has_source, is_delimiter_tag, is_math, some_tag}
use Rattle.tocmark_state.specs.Walk.{Walk, Done}
use Rattle.tocmark_write_pending.specs.Placeholder.{needs_placeholder, needs_placeholder_at}
use Rattle.tocmark_laws.specs.Extensions.{is_word_line}
use Rattle.tocmark_laws.specs.HardBreaks.{LineEnd, Softly, ByBackslash, BySpaces, NextLine, break_of, broken_text, broken_lines, broken_paragraph, lines_behind}
use Rattle.tocmark_laws.specs.ReadBack.{ReadsBackAlike, ArePlainOptions, is_barless_line}
use Rattle.tocmark_laws.proofs.AloneHanded.{bare, IsUnasked, tree_handed}
use Rattle.tocmark_laws.proofs.BlockSpelling.{text_leaf}
use Rattle.tocmark_laws.proofs.BreakReading.{breaks_read}
use Rattle.tocmark_laws.proofs.BreakSpelling.{AreBareWords, written_lines, same_break, end_leaf, broken_trees, lines_spelled, paragraph_alone}
use Rattle.tocmark_laws.proofs.WordEscapes.{IsBareByte}
use Rattle.tocmark_laws.proofs.WordsReading.{IsWordByte, IsWordLine, words_from}

-- ---- lines of words without a bar

pub without_bars : (bs : List ℕ) → AllByRecursion IsWordByte bs → list_all (λ b. not (b == 124)) bs ≡ true → AllByRecursion IsBareByte bs
without_bars [] h k = tt
without_bars (b ∷ bs) h k =
    let both = both_true (not (b == 124)) (list_all (λ b. not (b == 124)) bs) k in
    (record { word = h.0; bar = is_not (b == 124) (both.0) }, without_bars bs (h.1) (both.1))

pub bare_from : (l : List ℕ) → is_barless_line l ≡ true → AreBareWords l
bare_from [] h = true≢false (sym h)
bare_from (b ∷ bs) h =
    let both = both_true (is_word_line (b ∷ bs)) (list_all (λ b. not (b == 124)) (b ∷ bs)) h in
    let line : IsWordLine b bs = words_from (b ∷ bs) (both.0) in
    record { letter = line.letter; bytes = without_bars (b ∷ bs) line.bytes (both.1) }

pub all_words : (ls : List (List ℕ)) → list_all is_barless_line ls ≡ true → list_all is_word_line ls ≡ true
all_words [] h = refl
all_words (l ∷ ls) h =
    let both = both_true (is_barless_line l) (list_all is_barless_line ls) h in
    let word : is_word_line l ≡ true = (both_true (is_word_line l) (list_all (λ b. not (b == 124)) l) (both.0)).0 in
    rw word (all_words ls (both.1))

-- ---- the paragraph as it is written

pub same_lines : (ms : List NextLine) → lines_behind (written_lines ms) ≡ lines_behind ms
same_lines [] = refl
same_lines (m ∷ ms) = ap (λ ls. m.line ∷ ls) (same_lines ms)

pub same_events : (l : List ℕ) (ms : List NextLine) → broken_lines l (written_lines ms) ≡ broken_lines l ms
same_events l [] = refl
same_events l (m ∷ ms) =
    ap (λ e. Leaf (Text l) ∷ Leaf e ∷ broken_lines m.line (written_lines ms)) (same_break m.behind)
    ∙ ap (λ es. Leaf (Text l) ∷ Leaf (break_of m.behind) ∷ es) (same_events m.line ms)

-- ---- the paragraph as a tree

pub lines_flat : (l : List ℕ) (ms : List NextLine) (es : List EventView) → map bare (broken_lines l ms ++ es) ≡ flat_onto (broken_trees l ms) (map bare es)
lines_flat l [] es = refl
lines_flat l (m ∷ ms) es = ap (λ (xs : List SourcedEvent). Leaf (text_leaf l) ∷ Leaf (end_leaf m.behind) ∷ xs) (lines_flat m.line ms es)

pub lines_placed : (l : List ℕ) (ms : List NextLine) (a : Around) → needs_placeholder_at (broken_trees l ms) a ≡ false
lines_placed l [] a = refl
lines_placed l (m ∷ ms) a = lines_placed m.line ms _

pub no_tags : (l : List ℕ) (ms : List NextLine) → some_tag is_delimiter_tag (broken_trees l ms) ≡ false
no_tags l [] = refl
no_tags l (m ∷ ms) = no_tags m.line ms

no_formula : (e : LineEnd) → is_math (break_of e) ≡ false
no_formula Softly = refl
no_formula ByBackslash = refl
no_formula (BySpaces more) = refl

pub no_formulas : (l : List ℕ) (ms : List NextLine) → some_leaf is_math (broken_trees l ms) ≡ false
no_formulas l [] = refl
no_formulas l (m ∷ ms) = rw (no_formula m.behind) (no_formulas m.line ms)

pub no_sources : (l : List ℕ) (ms : List NextLine) → has_source (broken_trees l ms) ≡ false
no_sources l [] = refl
no_sources l (m ∷ ms) = no_sources m.line ms

paragraph_unasked : (l : List ℕ) (ms : List NextLine) → IsUnasked (node Paragraph (broken_trees l ms) empty)
unfolding needs_placeholder
paragraph_unasked l ms = record {
  placed = rw (lines_placed l ms (record { before = Start Paragraph ∷ []; after = End end.Paragraph ∷ []; next = None })) refl;
  undelimited = rw (no_tags l ms, no_formulas l ms) refl;
  unsourced = rw (no_sources l ms) refl;
}

pub some_text : (l : List ℕ) (ms : List NextLine) → AreBareWords l → 0 < length (broken_text l ms)
some_text [] ms h = absurd h
some_text (b ∷ bs) [] h = omega arith
some_text (b ∷ bs) (m ∷ ms) h = omega arith

-- ---- the law

pub breaks_read_back : (options : OptionsView) (l : List ℕ) (ms : List NextLine) → ArePlainOptions options → list_all is_barless_line (l ∷ lines_behind ms) ≡ true → ReadsBackAlike options (broken_paragraph l ms)
breaks_read_back options l ms plain h reading flags source =
    let lines : List NextLine = written_lines ms in
    let text : List ℕ = broken_text l lines in
    let words : AllByRecursion AreBareWords (l ∷ lines_behind ms) = all_from is_barless_line AreBareWords (l ∷ lines_behind ms) bare_from h in
    let walk = tree_handed options reading flags source plain.unchecked Paragraph (broken_trees l ms) (broken_paragraph l ms) text
    (ap (λ (es : List SourcedEvent). Start Paragraph ∷ es) (lines_flat l ms (End end.Paragraph ∷ []))) (paragraph_unasked l ms) (some_text l lines (words.0))
    (paragraph_alone _ plain.emphasis (broken_trees l ms) text (lines_spelled _ plain.emphasis l ms None words))
    in
    record {
      ends_well = ap (λ (w : Walk Done). w.outcome) walk;
      text = text;
      handed = ap (λ (w : Walk Done). w.texts) walk;
      read = λ syntax fits. subst (λ (es : List EventView). IsReadAs (reading_of syntax text) (Start Paragraph ∷ es ++ End end.Paragraph ∷ [])) (same_events l ms)
          (breaks_read syntax l lines (all_words (l ∷ lines_behind lines) (subst (λ (ls : List (List ℕ)). list_all is_barless_line (l ∷ ls) ≡ true) (sym (same_lines ms)) h)) fits);
    }
