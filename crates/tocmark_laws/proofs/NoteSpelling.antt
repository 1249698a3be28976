-- What a paragraph with a reference to a footnote is spelled as, and what the footnote after it is.
use Rattle.std.proofs.Common.{◌≡◌, ℕ, ◌-◌, ◌≤◌, max, true, false, List, [], ◌∷◌, ◌++◌, codes, length, replicate, refl, ap, sym, ◌∙◌, arith, append_assoc, Option, Some, None}
use Rattle.std.specs.Char.{char_set_contains}
use Rattle.std.specs.List.{AllByRecursion}
use Rattle.tocmark_event.specs.Forest.{empty, leaf, node}
use Rattle.tocmark_event.specs.View.{EventView, Start, End, Leaf, Paragraph, FootnoteDefinition, FootnoteReference, SourcedLeaf}
use Rattle.tocmark_event.specs.declared.event.TagEnd.TheVariants as end
use Rattle.tocmark_write_texts.specs.Escape.{Surroundings, escaped}
use Rattle.tocmark_spelling.specs.Body.{Trees}
use Rattle.tocmark_spelling.specs.Closing.{closing}
use Rattle.tocmark_spelling.specs.Opening.{opening}
use Rattle.tocmark_spelling.specs.Page.{Sheet, laid, Path, Page, Site, Around, Plain}
use Rattle.tocmark_spelling.specs.declared.trail.Last.TheVariants.{Inline, Other, BlockEnd}
use Rattle.tocmark_spelling.specs.Plan.{Setting, Manner}
use Rattle.tocmark_spelling.specs.Spelling.{spelling, then_site}
use Rattle.tocmark_spelling.specs.Stretch.{leaf_on, place}
use Rattle.tocmark_spelling.specs.Runs.{ahead_of, past, beyond, inside}
use Rattle.tocmark_reader.proofs.PlainReading.{IsPrintable}
use Rattle.tocmark_choose.specs.Candidates.{preferred_manner}
use Rattle.tocmark_laws.specs.Footnotes.{in_brackets}
use Rattle.tocmark_laws.proofs.BlockSpelling.{text_leaf, page_of, blank}
use Rattle.tocmark_laws.proofs.BreakSpelling.{AreBareWords, in_paragraph, letter_or_digit, no_digit, printable_bytes, words_laid}
use Rattle.tocmark_laws.proofs.DocumentSpelling.{laid_some}
use Rattle.tocmark_laws.proofs.ListSpelling.{laid_inside}
use Rattle.tocmark_laws.proofs.PlainSpelling.{around, within, line_place, spelled_leaf, spelled_end}
use Rattle.tocmark_laws.proofs.WordEscapes.{IsWordPlace, words_escaped}

abbrev pub note_leaf : List ℕ → SourcedLeaf
note_leaf label = record { leaf = FootnoteReference label; source = None }

-- the paragraph's leaves, and the footnote's paragraph
abbrev pub noted_trees : List ℕ → List ℕ → Trees
noted_trees words label = leaf (text_leaf words) (leaf (note_leaf label) empty)

abbrev pub note_trees : List ℕ → Trees
note_trees note = node Paragraph (leaf (text_leaf note) empty) empty

abbrev site : Path → Page → Site
site path page = record { path = path; page = page }

brackets_shown : (label : List ℕ) (rest : List ℕ) → AllByRecursion IsPrintable label → AllByRecursion IsPrintable rest → AllByRecursion IsPrintable (91 ∷ 94 ∷ (label ++ rest))
brackets_shown label rest h k = (record { low = omega arith; high = omega arith }, (record { low = omega arith; high = omega arith }, both label h))
  where
    both : (xs : List ℕ) → AllByRecursion IsPrintable xs → AllByRecursion IsPrintable (xs ++ rest)
    both [] h = k
    both (x ∷ xs) h = (h.0, both xs (h.1))

-- bytes after the label
bracket_shown : AllByRecursion IsPrintable (93 ∷ [])
bracket_shown = (record { low = omega arith; high = omega arith }, tt)

colon_shown : AllByRecursion IsPrintable (93 ∷ 58 ∷ 32 ∷ [])
colon_shown = (record { low = omega arith; high = omega arith }, (record { low = omega arith; high = omega arith }, (record { low = omega arith; high = omega arith }, tt)))

-- two line feeds, and the note after its label
abbrev pub note_text : List ℕ → List ℕ → List ℕ
note_text label note = 10 ∷ 10 ∷ (in_brackets label ++ 58 ∷ 32 ∷ note)

module _ (s : Setting) (token : char_set_contains (codes "*_") s.options.emphasis_token ≡ true) where
  abbrev m : Manner
  m = preferred_manner s.options

  -- ---- the paragraph

  abbrev inside_paragraph : Sheet → Site
  inside_paragraph sheet = site in_paragraph (page_of sheet 0 Inline None)

  words_first : (words label : List ℕ) (next : Option EventView) → leaf_on s m (text_leaf words) (around (Start Paragraph ∷ []) (Leaf (note_leaf label) ∷ End end.Paragraph ∷ []) next) in_paragraph (page_of blank 0 Other None) ≡ inside_paragraph (laid [] (escaped (line_place s m (Leaf (FootnoteReference label))) words) blank)
  unfolding leaf_on
  words_first words label next = refl

  reference_on : (text label : List ℕ) (a : Around) → leaf_on s m (note_leaf label) a in_paragraph (page_of (within text) 0 Inline None) ≡ inside_paragraph (laid [] (in_brackets label) (within text))
  unfolding leaf_on
  reference_on text label a = refl

  reference_laid : (text label : List ℕ) (a : Around) → AllByRecursion IsPrintable label → leaf_on s m (note_leaf label) a in_paragraph (page_of (within text) 0 Inline None) ≡ inside_paragraph (within (text ++ in_brackets label))
  reference_laid text label a h = reference_on text label a ∙ ap inside_paragraph (laid_some (in_brackets label) (within text) (omega arith) (brackets_shown label (93 ∷ []) h bracket_shown))

  noted_spelled : (words label : List ℕ) (next : Option EventView) → AreBareWords words → AllByRecursion IsPrintable label → spelling s m (noted_trees words label) (around (Start Paragraph ∷ []) (End end.Paragraph ∷ []) next) in_paragraph (page_of blank 0 Other None) ≡ Some (inside_paragraph (within (words ++ in_brackets label)))
  noted_spelled words label next h k =
      let a : Around = around (Start Paragraph ∷ []) (End end.Paragraph ∷ []) next in
      let b : Around = past (Leaf (text_leaf words)) a in
      spelled_leaf s m (text_leaf words) (leaf (note_leaf label) empty) a in_paragraph (page_of blank 0 Other None) (inside_paragraph (within words)) (words_first words label next ∙ ap inside_paragraph (words_laid s token words (Leaf (FootnoteReference label)) blank h))
      ∙ spelled_leaf s m (note_leaf label) empty b in_paragraph (page_of (within words) 0 Inline None) (inside_paragraph (within (words ++ in_brackets label))) (reference_laid words label (ahead_of empty b) k)
      ∙ spelled_end s m (past (Leaf (note_leaf label)) b) (inside_paragraph (within (words ++ in_brackets label)))

  -- how many line feeds a paragraph leaves
  abbrev pub feeds : ℕ
  feeds = max s.options.newlines_after_paragraph 2

  abbrev pub noted_page : List ℕ → Page
  noted_page text = page_of (within text) feeds (BlockEnd end.Paragraph) None

  paragraph_is : (kids : Trees) (next : Option EventView) (text : List ℕ) → spelling s m kids (around (Start Paragraph ∷ []) (End end.Paragraph ∷ []) next) in_paragraph (page_of blank 0 Other None) ≡ Some (inside_paragraph (within text)) → spelling s m (node Paragraph kids empty) (around [] [] next) [] (page_of blank 0 Other None) ≡ Some (site [] (noted_page text))
  unfolding spelling opening closing
  paragraph_is kids next text h = ap (λ o. then_site o (λ full. then_site (closing s.options full.path full.page) (λ here. spelling s m empty (beyond Paragraph kids (around [] [] next)) here.path here.page))) h

  pub reference_spelled : (words label : List ℕ) (next : Option EventView) → AreBareWords words → AllByRecursion IsPrintable label → spelling s m (node Paragraph (noted_trees words label) empty) (around [] [] next) [] (page_of blank 0 Other None) ≡ Some (site [] (noted_page (words ++ in_brackets label)))
  reference_spelled words label next h k = paragraph_is (noted_trees words label) next (words ++ in_brackets label) (noted_spelled words label next h k)

  -- ---- the footnote

  -- in the footnote, and in its paragraph, where both begin after this text
  abbrev in_note : List ℕ → List ℕ → Path
  in_note label text = record { tag = FootnoteDefinition label; prefix = codes "    "; start = length text; content = Plain } ∷ []

  abbrev in_noted : List ℕ → List ℕ → Path
  in_noted label text = record { tag = Paragraph; prefix = []; start = length text; content = Plain } ∷ in_note label text

  -- what is in front of the note
  abbrev mark_of : List ℕ → List ℕ
  mark_of label = 91 ∷ 94 ∷ (label ++ 93 ∷ 58 ∷ 32 ∷ [])

  abbrev note_place : List ℕ → List ℕ → Surroundings
  note_place label text = place s m false (Some (End end.Paragraph)) (in_noted label text) (page_of (within text) 0 Other None)

  note_on : (label note text : List ℕ) (a : Around) → leaf_on s m (text_leaf note) (ahead_of empty (inside Paragraph a)) (in_noted label text) (page_of (within text) 0 Other None) ≡ site (in_noted label text) (page_of (laid (codes "    ") (escaped (note_place label text) note) (within text)) 0 Inline None)
  unfolding leaf_on
  note_on label note text a = refl

  place_of_words : (label text : List ℕ) → IsWordPlace (note_place label text)
  place_of_words label text = record { literal = refl; first = refl; last = refl; heading = refl; token = token }

  note_laid : (label note text : List ℕ) → AreBareWords note → laid (codes "    ") (escaped (note_place label text) note) (within text) ≡ within (text ++ note)
  note_laid label [] text h = absurd h
  note_laid label (c ∷ cs) text h =
      ap (λ (xs : List ℕ). laid (codes "    ") xs (within text)) (words_escaped (note_place label text) c cs (place_of_words label text) h.bytes (letter_or_digit c h.letter) (no_digit c h.letter))
      ∙ laid_inside (codes "    ") (c ∷ cs) text (printable_bytes (c ∷ cs) h.bytes)

  -- the footnote, once its note is written, once its paragraph is open, and once its mark is written
  abbrev from_note : List ℕ → List ℕ → Around → Site → Option Site
  from_note label note a full =
      then_site (closing s.options full.path full.page) (λ here. spelling s m empty (beyond (FootnoteDefinition label) (note_trees note) a) here.path here.page)

  abbrev from_text : List ℕ → List ℕ → Around → Site → Option Site
  from_text label note a full =
      then_site (then_site (closing s.options full.path full.page) (λ here. spelling s m empty (beyond Paragraph (leaf (text_leaf note) empty) (inside (FootnoteDefinition label) (ahead_of empty a))) here.path here.page)) (λ full. from_note label note a full)

  abbrev from_mark : List ℕ → List ℕ → Around → Sheet → Option Site
  from_mark label note a sheet =
      then_site (spelling s m (note_trees note) (inside (FootnoteDefinition label) (ahead_of empty a)) (record { tag = FootnoteDefinition label; prefix = codes "    "; start = length sheet.text; content = Plain } ∷ []) (page_of sheet 0 Other None)) (λ full. from_note label note a full)

  note_entered : (label note : List ℕ) (a : Around) (owed : ℕ) → spelling s m (node (FootnoteDefinition label) (note_trees note) empty) a [] (page_of blank owed (BlockEnd end.Paragraph) None) ≡ from_mark label note a (laid [] (mark_of label) (laid [] (replicate (max owed 0 - 0) 10) blank))
  unfolding spelling opening
  note_entered label note a owed = refl

  paragraph_entered : (label note text : List ℕ) (a : Around) → from_mark label note a (within text) ≡ then_site (spelling s m (leaf (text_leaf note) empty) (inside Paragraph (ahead_of empty (inside (FootnoteDefinition label) (ahead_of empty a)))) (in_noted label text) (page_of (within text) 0 Other None)) (λ full. from_text label note a full)
  unfolding spelling opening
  paragraph_entered label note text a = refl

  note_ended : (label note text before : List ℕ) (a : Around) → (p : Page) × (from_text label note a (site (in_noted label before) (page_of (within text) 0 Inline None)) ≡ Some (site [] p)) × (p.sheet.text ≡ text) × (p.references ≡ [])
  unfolding spelling closing
  note_ended label note text before a = (_, refl, refl, refl)

  text_joined : (label note : List ℕ) → (10 ∷ 10 ∷ mark_of label) ++ note ≡ note_text label note
  text_joined label note =
      ap (λ (xs : List ℕ). 10 ∷ 10 ∷ 91 ∷ 94 ∷ xs) (append_assoc label (93 ∷ 58 ∷ 32 ∷ []) note ∙ sym (append_assoc label (93 ∷ []) (58 ∷ 32 ∷ note)))

  -- the footnote after the paragraph
  pub record IsNotePage (label note : List ℕ) (a : Around) : Type 0 where
    pub page : Page
    pub is : spelling s m (node (FootnoteDefinition label) (note_trees note) empty) a [] (page_of blank feeds (BlockEnd end.Paragraph) None) ≡ Some (site [] page)
    pub text_is : page.sheet.text ≡ note_text label note
    pub none : page.references ≡ []

  pub note_spelled : (label note : List ℕ) (a : Around) → s.options.newlines_after_paragraph ≤ 2 → AreBareWords note → AllByRecursion IsPrintable label → IsNotePage label note a
  note_spelled label note a few h k =
      let mark : List ℕ = mark_of label in
      let text : List ℕ = 10 ∷ 10 ∷ mark in
      let two : max feeds 0 - 0 ≡ 2 = omega (arith, few) in
      let b : Around = inside Paragraph (ahead_of empty (inside (FootnoteDefinition label) (ahead_of empty a))) in
      let left = note_ended label note (text ++ note) text a in
      record {
        page = left.0;
        is =
            note_entered label note a feeds
            ∙ ap (λ n. from_mark label note a (laid [] mark (laid [] (replicate n 10) blank))) two
            ∙ ap (from_mark label note a) (laid_some mark (laid [] (10 ∷ 10 ∷ []) blank) (omega arith) (brackets_shown label (93 ∷ 58 ∷ 32 ∷ []) k colon_shown))
            ∙ paragraph_entered label note text a
            ∙ ap (λ (o : Option Site). then_site o (λ full. from_text label note a full))
            (spelled_leaf s m (text_leaf note) empty b (in_noted label text) (page_of (within text) 0 Other None) (site (in_noted label text) (page_of (within (text ++ note)) 0 Inline None))
            (note_on label note text _ ∙ ap (λ (sheet : Sheet). site (in_noted label text) (page_of sheet 0 Inline None)) (note_laid label note text h))
            ∙ spelled_end s m (past (Leaf (text_leaf note)) b) (site (in_noted label text) (page_of (within (text ++ note)) 0 Inline None)))
            ∙ left.1;
        text_is = left.2 ∙ text_joined label note;
        none = left.3;
      }
