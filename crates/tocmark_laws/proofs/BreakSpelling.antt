-- What a paragraph of lines of words with breaks between them is spelled as.
use Rattle.std.proofs.Common.{◌≡◌, ℕ, true, false, List, [], ◌∷◌, ◌++◌, codes, map, refl, ap, ◌∙◌, arith, append_assoc, Option, Some, None}
use Rattle.std.proofs.lemmas.Bool.Decides.{nat_tests}
use Rattle.std.specs.Char.{char_set_contains, is_ascii_alphabetic, is_ascii_alphanumeric, is_ascii_digit}
use Rattle.std.specs.List.{AllByRecursion}
use Rattle.tocmark_event.specs.Forest.{empty, leaf, node}
use Rattle.tocmark_event.specs.View.{EventView, Start, End, Leaf, Paragraph, SourcedEvent, SourcedLeaf}
use Rattle.tocmark_event.specs.declared.event.TagEnd.TheVariants as end
use Rattle.tocmark_write_texts.specs.Escape.{escaped}
use Rattle.tocmark_spelling.specs.Body.{Trees}
use Rattle.tocmark_spelling.specs.Closing.{closing}
use Rattle.tocmark_spelling.specs.Opening.{opening}
use Rattle.tocmark_spelling.specs.Page.{Sheet, laid, Path, Page, Site, Around, Plain}
use Rattle.tocmark_spelling.specs.declared.trail.Last.TheVariants.{Inline, Other}
use Rattle.tocmark_spelling.specs.Plan.{Setting, Manner}
use Rattle.tocmark_spelling.specs.Spelling.{spelling, then_site}
use Rattle.tocmark_spelling.specs.Stretch.{leaf_on}
use Rattle.tocmark_spelling.specs.Runs.{past, beyond}
use Rattle.tocmark_laws.specs.HardBreaks.{LineEnd, Softly, ByBackslash, BySpaces, NextLine, end_bytes, break_of, broken_text, lines_behind}
use Rattle.tocmark_reader.proofs.PlainReading.{IsPrintable}
use Rattle.tocmark_laws.proofs.WordEscapes.{IsBareByte, IsWordPlace, words_escaped}
use Rattle.tocmark_laws.proofs.AloneHanded.{IsSpelledAlone, nowhere}
use Rattle.tocmark_laws.proofs.BlockSpelling.{text_leaf, page_of, blank}
use Rattle.tocmark_laws.proofs.DocumentSpelling.{laid_some}
use Rattle.tocmark_laws.proofs.Paragraphs.{laid-plain}
use Rattle.tocmark_laws.proofs.PlainSpelling.{around, begun, within, line_place, spelled_leaf, spelled_end}
use Rattle.tocmark_choose.specs.Candidates.{preferred_manner}

-- a line of words without a bar
pub record IsBareLine (c : ℕ) (cs : List ℕ) : Type 0 where
  pub letter : is_ascii_alphabetic c ≡ true
  pub bytes : AllByRecursion IsBareByte (c ∷ cs)

abbrev pub AreBareWords : List ℕ → Type 0
AreBareWords [] = ⊥
AreBareWords (c ∷ cs) = IsBareLine c cs

-- a line's end as it is written: a hard break as two spaces
abbrev pub as_written : LineEnd → LineEnd
as_written Softly = Softly
as_written ByBackslash = BySpaces 0
as_written (BySpaces more) = BySpaces 0

abbrev pub written_line : NextLine → NextLine
written_line m = record { behind = as_written m.behind; line = m.line }

abbrev pub written_lines : List NextLine → List NextLine
written_lines ms = map written_line ms

-- the breaks stay what they are
pub same_break : (e : LineEnd) → break_of (as_written e) ≡ break_of e
same_break Softly = refl
same_break ByBackslash = refl
same_break (BySpaces more) = refl

-- the lines as leaves, with a break between two
abbrev pub end_leaf : LineEnd → SourcedLeaf
end_leaf e = record { leaf = break_of e; source = None }

abbrev pub broken_trees : List ℕ → List NextLine → Trees
broken_trees l [] = leaf (text_leaf l) empty
broken_trees l (m ∷ ms) = leaf (text_leaf l) (leaf (end_leaf m.behind) (broken_trees m.line ms))

-- inside a paragraph with which a document begins
abbrev pub in_paragraph : Path
in_paragraph = record { tag = Paragraph; prefix = []; start = 0; content = Plain } ∷ []

abbrev site : Path → Page → Site
site path page = record { path = path; page = page }

pub letter_or_digit : (c : ℕ) → is_ascii_alphabetic c ≡ true → is_ascii_alphanumeric c ≡ true
letter_or_digit c h = grind (arith, h, nat_tests)

pub no_digit : (c : ℕ) → is_ascii_alphabetic c ≡ true → is_ascii_digit c ≡ false
no_digit c h = grind (arith, h, nat_tests)

pub printable_bytes : (l : List ℕ) → AllByRecursion IsBareByte l → AllByRecursion IsPrintable l
printable_bytes [] h = tt
printable_bytes (b ∷ bs) h = ((h.0).word.printable, printable_bytes bs (h.1))

module _ (s : Setting) (token : char_set_contains (codes "*_") s.options.emphasis_token ≡ true) where
  abbrev m : Manner
  m = preferred_manner s.options

  abbrev inside : Sheet → Site
  inside sheet = site in_paragraph (page_of sheet 0 Inline None)

  place_of_words : (next : EventView) → IsWordPlace (line_place s m next)
  place_of_words next = record { literal = refl; first = refl; last = refl; heading = refl; token = token }

  -- a line of words is laid as it is
  pub words_laid : (l : List ℕ) (next : EventView) (sheet : Sheet) → AreBareWords l → laid [] (escaped (line_place s m next) l) sheet ≡ within (sheet.text ++ l)
  words_laid [] next sheet h = absurd h
  words_laid (c ∷ cs) next sheet h =
      ap (λ (xs : List ℕ). laid [] xs sheet) (words_escaped (line_place s m next) c cs (place_of_words next) h.bytes (letter_or_digit c h.letter) (no_digit c h.letter))
      ∙ laid_some (c ∷ cs) sheet (omega arith) (printable_bytes (c ∷ cs) h.bytes)

  -- a text, last or not, at the front of the paragraph or of a line
  first_last : (l : List ℕ) (next : Option EventView) → leaf_on s m (text_leaf l) (around (Start Paragraph ∷ []) (End end.Paragraph ∷ []) next) in_paragraph (page_of blank 0 Other None) ≡ inside (laid [] (escaped (line_place s m (End end.Paragraph)) l) blank)
  unfolding leaf_on
  first_last l next = refl

  first_then : (l : List ℕ) (e : LineEnd) (after : List SourcedEvent) (next : Option EventView) → leaf_on s m (text_leaf l) (around (Start Paragraph ∷ []) (Leaf (end_leaf e) ∷ after) next) in_paragraph (page_of blank 0 Other None) ≡ inside (laid [] (escaped (line_place s m (Leaf (break_of e))) l) blank)
  unfolding leaf_on
  first_then l Softly after next = refl
  first_then l ByBackslash after next = refl
  first_then l (BySpaces more) after next = refl

  later_last : (text l : List ℕ) (before : List SourcedEvent) (next : Option EventView) → leaf_on s m (text_leaf l) (around before (End end.Paragraph ∷ []) next) in_paragraph (page_of (begun text) 0 Inline None) ≡ inside (laid [] (escaped (line_place s m (End end.Paragraph)) l) (begun text))
  unfolding leaf_on
  later_last text l before next = refl

  later_then : (text l : List ℕ) (e : LineEnd) (before after : List SourcedEvent) (next : Option EventView) → leaf_on s m (text_leaf l) (around before (Leaf (end_leaf e) ∷ after) next) in_paragraph (page_of (begun text) 0 Inline None) ≡ inside (laid [] (escaped (line_place s m (Leaf (break_of e))) l) (begun text))
  unfolding leaf_on
  later_then text l Softly before after next = refl
  later_then text l ByBackslash before after next = refl
  later_then text l (BySpaces more) before after next = refl

  -- a break ends its line
  break_laid : (text : List ℕ) (e : LineEnd) (a : Around) → leaf_on s m (end_leaf e) a in_paragraph (page_of (within text) 0 Inline None) ≡ inside (begun (text ++ (end_bytes (as_written e) ++ 10 ∷ [])))
  unfolding leaf_on
  break_laid text Softly a = ap (λ (xs : List ℕ). inside (begun xs)) (laid-plain (codes "\n") (within text))
  break_laid text ByBackslash a = ap (λ (xs : List ℕ). inside (begun xs)) (laid-plain (codes "  \n") (within text))
  break_laid text (BySpaces more) a = ap (λ (xs : List ℕ). inside (begun xs)) (laid-plain (codes "  \n") (within text))

  -- what breaks and lines are spelled as after text
  abbrev LinesFollow : List ℕ → List NextLine → Type 0
  LinesFollow l ms = (text : List ℕ) (before : List SourcedEvent) (next : Option EventView) → spelling s m (broken_trees l ms) (around before (End end.Paragraph ∷ []) next) in_paragraph (page_of (begun text) 0 Inline None) ≡ Some (inside (within (text ++ broken_text l (written_lines ms))))

  lines_from : (text l : List ℕ) (n : NextLine) (ms : List NextLine) (before : List SourcedEvent) (next : Option EventView) → LinesFollow n.line ms → spelling s m (leaf (end_leaf n.behind) (broken_trees n.line ms)) (around before (End end.Paragraph ∷ []) next) in_paragraph (page_of (within (text ++ l)) 0 Inline None) ≡ Some (inside (within (text ++ broken_text l (written_lines (n ∷ ms)))))
  lines_from text l n ms before next later =
      let e : List ℕ = end_bytes (as_written n.behind) in
      let rest : List ℕ = broken_text n.line (written_lines ms) in
      let line : List ℕ = (text ++ l) ++ (e ++ 10 ∷ []) in
      let joined : line ++ rest ≡ text ++ (l ++ (e ++ 10 ∷ rest)) =
      append_assoc (text ++ l) (e ++ 10 ∷ []) rest ∙ append_assoc text l ((e ++ 10 ∷ []) ++ rest) ∙ ap (λ (xs : List ℕ). text ++ (l ++ xs)) (append_assoc e (10 ∷ []) rest)
      in
      spelled_leaf s m (end_leaf n.behind) (broken_trees n.line ms) (around before (End end.Paragraph ∷ []) next) in_paragraph (page_of (within (text ++ l)) 0 Inline None) (inside (begun line)) (break_laid (text ++ l) n.behind _)
      ∙ later line (Leaf (end_leaf n.behind) ∷ before) next
      ∙ ap (λ (xs : List ℕ). Some (inside (within xs))) joined

  -- the lines after one that a break ended
  later_lines : (l : List ℕ) (ms : List NextLine) → AllByRecursion AreBareWords (l ∷ lines_behind ms) → LinesFollow l ms
  later_lines l [] h text before next =
      let a : Around = around before (End end.Paragraph ∷ []) next in
      spelled_leaf s m (text_leaf l) empty a in_paragraph (page_of (begun text) 0 Inline None) (inside (within (text ++ l))) (later_last text l before next ∙ ap inside (words_laid l (End end.Paragraph) (begun text) (h.0)))
      ∙ spelled_end s m (past (Leaf (text_leaf l)) a) (inside (within (text ++ l)))
  later_lines l (n ∷ ms) h text before next =
      let a : Around = around before (End end.Paragraph ∷ []) next in
      let rest : Trees = leaf (end_leaf n.behind) (broken_trees n.line ms) in
      spelled_leaf s m (text_leaf l) rest a in_paragraph (page_of (begun text) 0 Inline None) (inside (within (text ++ l))) (later_then text l n.behind before _ next ∙ ap inside (words_laid l (Leaf (break_of n.behind)) (begun text) (h.0)))
      ∙ lines_from text l n ms (Leaf (text_leaf l) ∷ before) next (later_lines n.line ms (h.1))

  -- all lines of the paragraph
  pub lines_spelled : (l : List ℕ) (ms : List NextLine) (next : Option EventView) → AllByRecursion AreBareWords (l ∷ lines_behind ms) → spelling s m (broken_trees l ms) (around (Start Paragraph ∷ []) (End end.Paragraph ∷ []) next) in_paragraph (page_of blank 0 Other None) ≡ Some (inside (within (broken_text l (written_lines ms))))
  lines_spelled l [] next h =
      let a : Around = around (Start Paragraph ∷ []) (End end.Paragraph ∷ []) next in
      spelled_leaf s m (text_leaf l) empty a in_paragraph (page_of blank 0 Other None) (inside (within l)) (first_last l next ∙ ap inside (words_laid l (End end.Paragraph) blank (h.0)))
      ∙ spelled_end s m (past (Leaf (text_leaf l)) a) (inside (within l))
  lines_spelled l (n ∷ ms) next h =
      let a : Around = around (Start Paragraph ∷ []) (End end.Paragraph ∷ []) next in
      let rest : Trees = leaf (end_leaf n.behind) (broken_trees n.line ms) in
      spelled_leaf s m (text_leaf l) rest a in_paragraph (page_of blank 0 Other None) (inside (within l)) (first_then l n.behind _ next ∙ ap inside (words_laid l (Leaf (break_of n.behind)) blank (h.0)))
      ∙ lines_from [] l n ms (Leaf (text_leaf l) ∷ Start Paragraph ∷ []) next (later_lines n.line ms (h.1))

  -- a paragraph with which a document begins, by what its leaves are spelled as
  pub paragraph_alone : (kids : Trees) (text : List ℕ) → spelling s m kids (around (Start Paragraph ∷ []) (End end.Paragraph ∷ []) None) in_paragraph (page_of blank 0 Other None) ≡ Some (inside (within text)) → IsSpelledAlone s (node Paragraph kids empty) text
  unfolding spelling opening closing
  paragraph_alone kids text h = record {
    path = [];
    page = _;
    is = ap (λ o. then_site o (λ full. then_site (closing s.options full.path full.page) (λ here. spelling s m empty (beyond Paragraph kids nowhere) here.path here.page))) h;
    text_is = refl;
    none = refl;
  }
