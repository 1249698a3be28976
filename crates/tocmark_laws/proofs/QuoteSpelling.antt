-- What a quote of a paragraph of words is spelled as, at the beginning of a document.
use Rattle.std.proofs.Common.{◌≡◌, ℕ, ◌≤◌, Bool, true, false, ◌==◌, List, [], ◌∷◌, ◌++◌, codes, refl, ap, ◌∙◌, arith, append_assoc, append-nil, Option, Some, None}
use Rattle.std.proofs.lemmas.Bool.Decides.{nat_tests}
use Rattle.std.specs.Char.{char_set_contains}
use Rattle.std.specs.List.{AllByRecursion}
use Rattle.tocmark_event.specs.Forest.{empty, leaf, node}
use Rattle.tocmark_event.specs.View.{EventView, End, Leaf, BlockQuote, Paragraph, SourcedEvent}
use Rattle.tocmark_event.specs.declared.event.TagEnd.TheVariants as end
use Rattle.tocmark_write_texts.specs.Escape.{escaped}
use Rattle.tocmark_spelling.specs.Body.{Trees}
use Rattle.tocmark_spelling.specs.Closing.{closing}
use Rattle.tocmark_spelling.specs.Opening.{opening}
use Rattle.tocmark_spelling.specs.Page.{Sheet, laid, put_byte, Path, Page, Site, Around, Plain}
use Rattle.tocmark_spelling.specs.declared.trail.Last.{Last}
use Rattle.tocmark_spelling.specs.declared.trail.Last.TheVariants.{Inline, Other}
use Rattle.tocmark_spelling.specs.Plan.{Setting, Manner}
use Rattle.tocmark_spelling.specs.Spelling.{spelling, then_site}
use Rattle.tocmark_spelling.specs.Stretch.{leaf_on}
use Rattle.tocmark_spelling.specs.Runs.{ahead_of, past, beyond, inside}
use Rattle.tocmark_reader.proofs.PlainReading.{IsPrintable}
use Rattle.tocmark_choose.specs.Candidates.{preferred_manner}
use Rattle.tocmark_laws.specs.HardBreaks.{LineEnd, Softly, ByBackslash, BySpaces, NextLine, end_bytes, break_of, lines_behind}
use Rattle.tocmark_laws.proofs.AloneHanded.{IsSpelledAlone, nowhere}
use Rattle.tocmark_laws.proofs.BlockSpelling.{text_leaf, page_of, blank}
use Rattle.tocmark_laws.proofs.BreakSpelling.{AreBareWords, as_written, written_lines, end_leaf, broken_trees, letter_or_digit, no_digit, printable_bytes}
use Rattle.tocmark_laws.proofs.ListSpelling.{laid_inside}
use Rattle.tocmark_laws.proofs.PlainSpelling.{around, begun, within, line_place, spelled_leaf, spelled_end}
use Rattle.tocmark_laws.proofs.QuoteReading.{spaced_quote, low_quote}
use Rattle.tocmark_laws.proofs.WordEscapes.{IsWordPlace, words_escaped}

abbrev site : Path → Page → Site
site path page = record { path = path; page = page }

-- what is before each line
abbrev mark : List ℕ
mark = codes " > "

-- what is in front of the lines
abbrev front : List ℕ
front = codes "\n > \n"

-- in the quote, and in its paragraph
abbrev in_quote : Path
in_quote = record { tag = BlockQuote None; prefix = mark; start = 4; content = Plain } ∷ []

abbrev in_quoted : Path
in_quoted = record { tag = Paragraph; prefix = []; start = 5; content = Plain } ∷ in_quote

-- bytes that are laid at the front of a line
laid_front : (x : ℕ) (xs text : List ℕ) → AllByRecursion IsPrintable (x ∷ xs) → laid mark (x ∷ xs) (begun text) ≡ within (text ++ (mark ++ x ∷ xs))
laid_front x xs text h =
    let low : 32 ≤ x = (h.0).low in
    let feed : (x == 10) ≡ false = grind (arith, nat_tests) in
    let put : put_byte mark x (begun text) ≡ within ((text ++ mark) ++ x ∷ []) = rw feed refl in
    ap (laid mark xs) put
    ∙ laid_inside mark xs ((text ++ mark) ++ x ∷ []) (h.1)
    ∙ ap within (append_assoc (text ++ mark) (x ∷ []) xs ∙ append_assoc text mark (x ∷ xs))

feed_laid : (text : List ℕ) → laid mark (10 ∷ []) (within text) ≡ begun (text ++ 10 ∷ [])
feed_laid text = ap (λ (xs : List ℕ). begun (xs ++ 10 ∷ [])) (append-nil text)

spaces_laid : (text : List ℕ) → laid mark (codes "  \n") (within text) ≡ begun (text ++ codes "  \n")
spaces_laid text =
    let space : IsPrintable 32 = record { low = omega arith; high = omega arith } in
    ap (laid mark (10 ∷ [])) (laid_inside mark (32 ∷ 32 ∷ []) text (space, (space, tt)))
    ∙ feed_laid (text ++ 32 ∷ 32 ∷ [])
    ∙ ap begun (append_assoc text (32 ∷ 32 ∷ []) (10 ∷ []))

module _ (s : Setting) (token : char_set_contains (codes "*_") s.options.emphasis_token ≡ true) where
  abbrev m : Manner
  m = preferred_manner s.options

  abbrev written : Sheet → Site
  written sheet = site in_quoted (page_of sheet 0 Inline None)

  place_of_words : (next : EventView) → IsWordPlace (line_place s m next)
  place_of_words next = record { literal = refl; first = refl; last = refl; heading = refl; token = token }

  words_laid : (l text : List ℕ) (next : EventView) → AreBareWords l → laid mark (escaped (line_place s m next) l) (begun text) ≡ within (text ++ (mark ++ l))
  words_laid [] text next h = absurd h
  words_laid (c ∷ cs) text next h =
      ap (λ (xs : List ℕ). laid mark xs (begun text)) (words_escaped (line_place s m next) c cs (place_of_words next) h.bytes (letter_or_digit c h.letter) (no_digit c h.letter))
      ∙ laid_front c cs text (printable_bytes (c ∷ cs) h.bytes)

  -- what was written last before a line: nothing of the paragraph, or a break
  abbrev before_line : Bool → Last
  before_line true = Other
  before_line false = Inline

  line_last : (first : Bool) (text l : List ℕ) (before after : List SourcedEvent) (next : Option EventView) → leaf_on s m (text_leaf l) (around before (End end.Paragraph ∷ after) next) in_quoted (page_of (begun text) 0 (before_line first) None) ≡ written (laid mark (escaped (line_place s m (End end.Paragraph)) l) (begun text))
  unfolding leaf_on
  line_last true text l before after next = refl
  line_last false text l before after next = refl

  line_then : (first : Bool) (text l : List ℕ) (e : LineEnd) (before after : List SourcedEvent) (next : Option EventView) → leaf_on s m (text_leaf l) (around before (Leaf (end_leaf e) ∷ after) next) in_quoted (page_of (begun text) 0 (before_line first) None) ≡ written (laid mark (escaped (line_place s m (Leaf (break_of e))) l) (begun text))
  unfolding leaf_on
  line_then true text l Softly before after next = refl
  line_then true text l ByBackslash before after next = refl
  line_then true text l (BySpaces more) before after next = refl
  line_then false text l Softly before after next = refl
  line_then false text l ByBackslash before after next = refl
  line_then false text l (BySpaces more) before after next = refl

  break_laid : (text : List ℕ) (e : LineEnd) (a : Around) → leaf_on s m (end_leaf e) a in_quoted (page_of (within text) 0 Inline None) ≡ written (begun (text ++ (end_bytes (as_written e) ++ 10 ∷ [])))
  unfolding leaf_on
  break_laid text Softly a = ap written (feed_laid text)
  break_laid text ByBackslash a = ap written (spaces_laid text)
  break_laid text (BySpaces more) a = ap written (spaces_laid text)

  lines_spelled : (first : Bool) (l : List ℕ) (ms : List NextLine) (text : List ℕ) (before after : List SourcedEvent) (next : Option EventView) → AllByRecursion AreBareWords (l ∷ lines_behind ms)
      → spelling s m (broken_trees l ms) (around before (End end.Paragraph ∷ after) next) in_quoted (page_of (begun text) 0 (before_line first) None) ≡ Some (written (within (text ++ spaced_quote l (written_lines ms))))
  lines_spelled first l [] text before after next h =
      let a : Around = around before (End end.Paragraph ∷ after) next in
      let line : List ℕ = text ++ (mark ++ l) in
      spelled_leaf s m (text_leaf l) empty a in_quoted (page_of (begun text) 0 (before_line first) None) (written (within line)) (line_last first text l before after next ∙ ap written (words_laid l text (End end.Paragraph) (h.0)))
      ∙ spelled_end s m (past (Leaf (text_leaf l)) a) (written (within line))
  lines_spelled first l (n ∷ ms) text before after next h =
      let a : Around = around before (End end.Paragraph ∷ after) next in
      let b : Around = around (Leaf (text_leaf l) ∷ before) (End end.Paragraph ∷ after) next in
      let rest : Trees = leaf (end_leaf n.behind) (broken_trees n.line ms) in
      let e : List ℕ = end_bytes (as_written n.behind) in
      let line : List ℕ = text ++ (mark ++ l) in
      let later : List ℕ = spaced_quote n.line (written_lines ms) in
      let joined : (line ++ (e ++ 10 ∷ [])) ++ later ≡ text ++ (mark ++ (l ++ (e ++ 10 ∷ later))) =
      append_assoc line (e ++ 10 ∷ []) later ∙ ap (λ (xs : List ℕ). line ++ xs) (append_assoc e (10 ∷ []) later) ∙ append_assoc text (mark ++ l) (e ++ 10 ∷ later) ∙ ap (λ (xs : List ℕ). text ++ xs) (append_assoc mark l (e ++ 10 ∷ later))
      in
      spelled_leaf s m (text_leaf l) rest a in_quoted (page_of (begun text) 0 (before_line first) None) (written (within line)) (line_then first text l n.behind before _ next ∙ ap written (words_laid l text (Leaf (break_of n.behind)) (h.0)))
      ∙ spelled_leaf s m (end_leaf n.behind) (broken_trees n.line ms) b in_quoted (page_of (within line) 0 Inline None) (written (begun (line ++ (e ++ 10 ∷ [])))) (break_laid line n.behind _)
      ∙ lines_spelled false n.line ms (line ++ (e ++ 10 ∷ [])) (Leaf (end_leaf n.behind) ∷ Leaf (text_leaf l) ∷ before) after next (h.1)
      ∙ ap (λ (xs : List ℕ). Some (written (within xs))) joined

  -- ---- the quote

  abbrev quote_trees : Trees → Trees
  quote_trees kids = node Paragraph kids empty

  -- the rest, once the paragraph's lines are written, once it is open, and once the quote is
  abbrev from_paragraph : Trees → Site → Option Site
  from_paragraph kids full = then_site (closing s.options full.path full.page) (λ here. spelling s m empty (beyond (BlockQuote None) (quote_trees kids) nowhere) here.path here.page)

  abbrev from_lines : Trees → Site → Option Site
  from_lines kids full =
      then_site (closing s.options full.path full.page) (λ here. spelling s m empty (beyond Paragraph kids (inside (BlockQuote None) (ahead_of empty nowhere))) here.path here.page)

  quote_entered : (kids : Trees) → spelling s m (node (BlockQuote None) (quote_trees kids) empty) nowhere [] (page_of blank 0 Other None)
      ≡ then_site (then_site (spelling s m kids (inside Paragraph (ahead_of empty (inside (BlockQuote None) (ahead_of empty nowhere)))) in_quoted (page_of (begun front) 0 Other None)) (λ full. from_lines kids full)) (λ full. from_paragraph kids full)
  unfolding spelling opening
  quote_entered kids = refl

  quote_ended : (kids : Trees) (text : List ℕ) → (p : Page) × (then_site (from_lines kids (written (within text))) (λ full. from_paragraph kids full) ≡ Some (site [] p)) × (p.sheet.text ≡ text) × (p.references ≡ [])
  unfolding spelling closing
  quote_ended kids text = (_, refl, refl, refl)

  -- a quote with which a document begins
  pub quote_alone : (l : List ℕ) (ms : List NextLine) → AllByRecursion AreBareWords (l ∷ lines_behind ms) → IsSpelledAlone s (node (BlockQuote None) (node Paragraph (broken_trees l ms) empty) empty) (low_quote l (written_lines ms))
  quote_alone l ms h =
      let kids : Trees = broken_trees l ms in
      let left = quote_ended kids (front ++ spaced_quote l (written_lines ms)) in
      record {
        path = [];
        page = left.0;
        is =
            quote_entered kids
            ∙ ap (λ (o : Option Site). then_site (then_site o (λ full. from_lines kids full)) (λ full. from_paragraph kids full)) (lines_spelled true l ms front _ _ None h)
            ∙ left.1;
        text_is = left.2;
        none = left.3;
      }
