-- A paragraph of lines at the beginning of a document: the one text that is handed for it is read back.
use Rattle.std.proofs.Common.{◌≡◌, ℕ, ◌<◌, true, false, ◌&&◌, ◌||◌, codes, List, [], ◌∷◌, ◌++◌, length, map, refl, ap, subst, ◌∙◌, arith, append_assoc, Option, Some, None, Result, Ok}
use Rattle.std.specs.Char.{char_set_contains}
use Rattle.std.specs.List.{AllByRecursion, list_all}
use Rattle.tocmark_event.specs.Forest.{empty, node, flat, flat_onto}
use Rattle.tocmark_event.specs.Options.{OptionsView}
use Rattle.tocmark_event.specs.Reading.{ReadingView}
use Rattle.tocmark_event.specs.View.{Start, End, Leaf, SoftBreak, Paragraph, SourcedEvent}
use Rattle.tocmark_event.specs.declared.event.TagEnd.TheVariants as end
use Rattle.tocmark_event.specs.declared.event.flags.ParserOptions.{ParserOptions}
use Rattle.tocmark_event.specs.declared.options.Error.{Error}
use Rattle.tocmark_reader.specs.PlainTexts.{line_events, lines_paragraph}
use Rattle.tocmark_spelling.specs.Body.{Trees, some_leaf}
use Rattle.tocmark_spelling.specs.Closing.{closing}
use Rattle.tocmark_spelling.specs.Opening.{opening}
use Rattle.tocmark_spelling.specs.Page.{Around, Site, Page, Reference}
use Rattle.tocmark_spelling.specs.declared.trail.Last.TheVariants.{Other}
use Rattle.tocmark_spelling.specs.Plan.{Setting, Manner}
use Rattle.tocmark_spelling.specs.PlanOf.{setting_of}
use Rattle.tocmark_spelling.specs.Runs.{beyond}
use Rattle.tocmark_spelling.specs.Spelling.{spelling, then_site}
use Rattle.tocmark_choose.specs.Candidates.{preferred_manner, has_source, is_delimiter_block, is_delimiter_tag, is_math, some_tag}
use Rattle.tocmark_choose.specs.Choice as choice
use Rattle.tocmark_choose.specs.Choice.{has_standard_markers, spelled, document_after, accepted_if, preferred}
use Rattle.tocmark_write_labels.specs.Definitions.{definitions_text}
use Rattle.tocmark_write_labels.specs.Document.{DocumentView, first_document}
use Rattle.tocmark_write_labels.specs.Ending.{last_texts, holds_raw_block, unless_empty}
use Rattle.tocmark_write_pending.specs.Placeholder.{needs_placeholder, needs_placeholder_at}
use Rattle.tocmark_choose.specs.Chosen.{chosen}
use Rattle.tocmark_choose.proofs.Chosen.{chosen-unlabelled}
use Rattle.tocmark_choose.proofs.PlainUnits.{choice-unasked}
use Rattle.tocmark_read_scan.proofs.PlainTests.{all_from}
use Rattle.tocmark_laws.specs.PlainLines.{is_line, paragraph_of_lines, IsReadBack, HandsLines}
use Rattle.tocmark_state.specs.Ranges.{Pair, unranged}
use Rattle.tocmark_state.specs.WorkView.{keeping, rendering}
use Rattle.tocmark_state.specs.Walk.{Walk, Done, done, Kept, Rendering, Standing, finished_of, nothing_yet, beginning, go_on, script, stay, walk, joins, flushed_before, advance, step, ended}
use Rattle.tocmark_state.specs.Writes.{Makes}
use Rattle.tocmark_laws.proofs.PlainParagraph.{Escapes, IsLineText, line_from, lines_stand, lines_are_read_back}
use Rattle.tocmark_laws.proofs.Paragraphs.{neither_in}
use Rattle.tocmark_laws.proofs.PlainSpelling.{line_trees, in_paragraph, page_of, within, site_of, around, lines_text, lines_spelled, written_some}

-- a standing in a paragraph, with these events pending
abbrev inside : Kept → List SourcedEvent → Standing
inside kept p = record (beginning kept) { pending = p; open_tags = end.Paragraph ∷ [] }

-- a standing after a paragraph
abbrev behind : Kept → List SourcedEvent → Standing
behind kept p = record (beginning kept) { pending = p }

abbrev to_end : List SourcedEvent
to_end = End end.Paragraph ∷ []

one_walked : (how : Rendering) (source : List ℕ) (kept : Kept) (p : List SourcedEvent) (l : List ℕ) → walk how source (inside kept p) (map unranged (line_events l [] ++ End end.Paragraph ∷ [])) ≡ stay (behind kept ((p ++ flat_onto (line_trees l []) []) ++ to_end))
unfolding step advance flushed_before joins
one_walked how source kept p l = refl

more_walked : (how : Rendering) (source : List ℕ) (kept : Kept) (p : List SourcedEvent) (l n : List ℕ) (ms : List (List ℕ)) → walk how source (inside kept p) (map unranged (line_events l (n ∷ ms) ++ End end.Paragraph ∷ [])) ≡ walk how source (inside kept ((p ++ flat_onto (line_trees l []) []) ++ Leaf (record { leaf = SoftBreak; source = None }) ∷ [])) (map unranged (line_events n ms ++ End end.Paragraph ∷ []))
unfolding step advance flushed_before joins
more_walked how source kept p l n ms = refl

-- all lines of a paragraph are pending after it
lines_walked : (how : Rendering) (source : List ℕ) (kept : Kept) (p : List SourcedEvent) (l : List ℕ) (ms : List (List ℕ)) → walk how source (inside kept p) (map unranged (line_events l ms ++ End end.Paragraph ∷ [])) ≡ stay (behind kept (p ++ flat_onto (line_trees l ms) to_end))
lines_walked how source kept p l [] =
    one_walked how source kept p l ∙ ap (λ (q : List SourcedEvent). stay (behind kept q)) (append_assoc p (flat_onto (line_trees l []) []) to_end)
lines_walked how source kept p l (n ∷ ms) =
    let text : List SourcedEvent = flat_onto (line_trees l []) [] in
    let line_end : List SourcedEvent = Leaf (record { leaf = SoftBreak; source = None }) ∷ [] in
    more_walked how source kept p l n ms
    ∙ lines_walked how source kept ((p ++ text) ++ line_end) n ms
    ∙ ap (λ (q : List SourcedEvent). stay (behind kept q)) (append_assoc (p ++ text) line_end (flat_onto (line_trees n ms) to_end) ∙ append_assoc p text (line_end ++ flat_onto (line_trees n ms) to_end))

-- the unit
abbrev unit : List ℕ → List (List ℕ) → Trees
unit l ms = node Paragraph (line_trees l ms) empty

paragraph_walked : (how : Rendering) (source : List ℕ) (kept : Kept) (l : List ℕ) (ms : List (List ℕ)) → walk how source (beginning kept) (paragraph_of_lines l ms) ≡ stay (behind kept (flat (unit l ms)))
unfolding step advance flushed_before joins
paragraph_walked how source kept l ms = lines_walked how source kept (Start Paragraph ∷ []) l ms

-- a walk, and what its end comes to
abbrev ended_walk : Rendering → Walk Standing → Walk Done
ended_walk how w = go_on w.texts w.outcome (λ t. ended how t)

unit_ended : (how : Rendering) (kept : Kept) (l : List ℕ) (ms : List (List ℕ)) → ended_walk how (stay (behind kept (flat (unit l ms)))) ≡ finished_of how (flat (unit l ms)) (how.choice kept (flat (unit l ms)) None)
unfolding ended
unit_ended how kept l ms = refl

no_sources : (l : List ℕ) (ms : List (List ℕ)) → has_source (line_trees l ms) ≡ false
no_sources l [] = refl
no_sources l (n ∷ ms) = no_sources n ms

-- no text of the unit is known from a source
no_source : (s : Setting) (l : List ℕ) (ms : List (List ℕ)) → (has_source (unit l ms) && has_standard_markers s.options) ≡ false
no_source s l ms = ap (λ b. (b || false) && has_standard_markers s.options) (no_sources l ms)

-- a text that isn't empty is one text
one_text : (text : List ℕ) → 0 < length text → unless_empty text ≡ text ∷ []
one_text [] h = absurd (omega arith)
one_text (b ∷ bs) h = refl

lines_undelimited : (l : List ℕ) (ms : List (List ℕ)) → is_delimiter_block (line_trees l ms) ≡ false
lines_undelimited l [] = refl
lines_undelimited l (n ∷ ms) = lines_undelimited n ms

-- the unit has no delimiters
unit_undelimited : (l : List ℕ) (ms : List (List ℕ)) → is_delimiter_block (unit l ms) ≡ false
unit_undelimited l ms = neither_in (some_tag is_delimiter_tag (line_trees l ms)) (some_leaf is_math (line_trees l ms)) (lines_undelimited l ms)

lines_placed : (l : List ℕ) (ms : List (List ℕ)) (a : Around) → needs_placeholder_at (line_trees l ms) a ≡ false
lines_placed l [] a = refl
lines_placed l (n ∷ ms) a = lines_placed n ms _

-- no list of the unit needs a placeholder
unit_placed : (l : List ℕ) (ms : List (List ℕ)) → needs_placeholder (unit l ms) ≡ false
unfolding needs_placeholder
unit_placed l ms = ap (λ b. b || false) (lines_placed l ms _)

-- the paragraph is opened, its lines are written, and it is closed
abbrev closed_page : Setting → Manner → Trees → Option Site → Option Page
closed_page s m kids o = choice.page_of (then_site o (λ full. then_site (closing s.options full.path full.page) (λ here. spelling s m empty (beyond Paragraph kids (around [] [] None)) here.path here.page)))

opened_page : (s : Setting) (m : Manner) (kids : Trees) → spelled s first_document (node Paragraph kids empty) None m ≡ closed_page s m kids (spelling s m kids (around (Start Paragraph ∷ []) (End end.Paragraph ∷ []) None) in_paragraph (page_of (within []) Other []))
unfolding spelled spelling opening
opened_page s m kids = refl

-- the page of a closed paragraph, with no references
record IsClosed (s : Setting) (m : Manner) (kids : Trees) (text : List ℕ) : Type 0 where
  page : Page
  is : closed_page s m kids (Some (site_of (within text) [])) ≡ Some page
  sheet : page.sheet.text ≡ text
  none : page.references ≡ []

closed : (s : Setting) (m : Manner) (kids : Trees) (text : List ℕ) → IsClosed s m kids text
unfolding spelling closing
closed s m kids text = record { page = _; is = refl; sheet = refl; none = refl }

-- what such a page is accepted as: its text, with no definitions
record IsAccepted (s : Setting) (page : Page) (text : List ℕ) : Type 0 where
  document : DocumentView
  is : accepted_if s first_document (Some page) ≡ Ok (text, document)
  none : definitions_text document.references document.feeds ≡ []

accepted : (s : Setting) (page : Page) (text : List ℕ) → page.sheet.text ≡ text → page.references ≡ [] → IsAccepted s page text
unfolding document_after definitions_text
accepted s page text e n = record {
  document = document_after s first_document page;
  is = ap (λ t. Ok (t, document_after s first_document page)) e;
  none = ap (λ (refs : List Reference). definitions_text refs page.sheet.feeds) n;
}

module _ (o : OptionsView) (reading : List ℕ → ParserOptions → ReadingView) (flags : ParserOptions) (off : o.check_plain_blocks ≡ false) (token : char_set_contains (codes "*_") o.emphasis_token ≡ true) where
  abbrev setting : Setting
  setting = setting_of o flags reading None

  escapes : Escapes setting (preferred_manner o)
  escapes = record { literal = refl; entities = refl; token = token }

  abbrev written : List ℕ → List (List ℕ) → List ℕ
  written l ms = lines_text setting (preferred_manner o) l ms

  -- the preferred spelling of the unit, and that it leaves no definitions
  record IsPreferred (l : List ℕ) (ms : List (List ℕ)) : Type 0 where
    document : DocumentView
    is : preferred setting first_document (unit l ms) None ≡ Ok (written l ms, document)
    none : definitions_text document.references document.feeds ≡ []

  lines_preferred : (l : List ℕ) (ms : List (List ℕ)) → AllByRecursion IsLineText (l ∷ ms) → IsPreferred l ms
  lines_preferred l ms h =
      let m = preferred_manner o in
      let shut = closed setting m (line_trees l ms) (written l ms) in
      let taken = accepted setting shut.page (written l ms) shut.sheet shut.none in
      record {
        document = taken.document;
        is =
            ap (accepted_if setting first_document)
            (opened_page setting m (line_trees l ms)
            ∙ ap (closed_page setting m (line_trees l ms)) (lines_spelled setting m l ms [] None [] refl (lines_stand setting m (l ∷ ms) escapes h))
            ∙ shut.is)
            ∙ taken.is;
        none = taken.none;
      }

  chosen-preferred : (l : List ℕ) (ms : List (List ℕ)) → chosen setting first_document (flat (unit l ms)) None ≡ preferred setting first_document (unit l ms) None
  chosen-preferred l ms =
      chosen-unlabelled setting first_document (unit l ms) None refl (unit_placed l ms)
      ∙ choice-unasked setting first_document (unit l ms) None (unit_undelimited l ms) off (no_source setting l ms)

  abbrev ended_as : List ℕ → List (List ℕ) → Result (List ℕ × DocumentView) Error → Walk Done
  ended_as l ms r = finished_of (rendering o reading) (flat (unit l ms)) (keeping flags r)

  -- the unit's choice is what the end comes to
  scripted : (source l : List ℕ) (ms : List (List ℕ)) → script (rendering o reading) source (nothing_yet flags) (paragraph_of_lines l ms) ≡ ended_as l ms (chosen setting first_document (flat (unit l ms)) None)
  scripted source l ms =
      ap (ended_walk (rendering o reading)) (paragraph_walked (rendering o reading) source (record { flags = flags; document = first_document }) l ms)
      ∙ unit_ended (rendering o reading) (record { flags = flags; document = first_document }) l ms

  -- one text is handed for a paragraph of lines
  pub made : (source l : List ℕ) (ms : List (List ℕ)) → AllByRecursion IsLineText (l ∷ ms) → script (rendering o reading) source (nothing_yet flags) (paragraph_of_lines l ms) ≡ record { texts = unless_empty (written l ms); outcome = Ok done }
  made source l ms h =
      let w = lines_preferred l ms h in
      scripted source l ms
      ∙ ap (ended_as l ms) (chosen-preferred l ms ∙ w.is)
      ∙ ap (λ (defs : List ℕ). record { texts = last_texts (holds_raw_block (flat (unit l ms))) defs (written l ms); outcome = Ok done }) w.none

  -- and the core reader reads it as that paragraph
  pub lines_read_back : (source l : List ℕ) (ms : List (List ℕ)) → AllByRecursion IsLineText (l ∷ ms) → IsReadBack (script (rendering o reading) source (nothing_yet flags) (paragraph_of_lines l ms)) (lines_paragraph l ms)
  lines_read_back source l ms h =
      let m = made source l ms h in
      record {
        ends_well = ap (λ (w : Walk Done). w.outcome) m;
        text = written l ms;
        handed = ap (λ (w : Walk Done). w.texts) m ∙ one_text (written l ms) (written_some setting (preferred_manner o) l ms (lines_stand setting (preferred_manner o) (l ∷ ms) escapes h));
        read = λ fits. lines_are_read_back setting (preferred_manner o) l ms escapes h fits;
      }

  -- the same by the test of lines
  pub plain_read_back : (source l : List ℕ) (ms : List (List ℕ)) → list_all is_line (l ∷ ms) ≡ true → IsReadBack (script (rendering o reading) source (nothing_yet flags) (paragraph_of_lines l ms)) (lines_paragraph l ms)
  plain_read_back source l ms h = lines_read_back source l ms (all_from is_line IsLineText (l ∷ ms) line_from h)

-- a call that made the walk of a paragraph of lines handed one text, which is read back
pub lines_handed : {W X : Type 0} (gives refuses : W → List ℕ → W → Type 0) (w v : W) (r : Result X Error) (o : OptionsView) (reading : List ℕ → ParserOptions → ReadingView) (flags : ParserOptions) (p : List Pair) (l : List ℕ) (ms : List (List ℕ)) → o.check_plain_blocks ≡ false → char_set_contains (codes "*_") o.emphasis_token ≡ true → list_all is_line (l ∷ ms) ≡ true → p ≡ paragraph_of_lines l ms → Makes gives refuses w v r done (script (rendering o reading) [] (nothing_yet flags) p) → HandsLines gives refuses w v r l ms
lines_handed gives refuses w v r o reading flags p l ms off token lines e made =
    let read = plain_read_back o reading flags off token [] l ms lines in
    let walk : Walk Done = script (rendering o reading) [] (nothing_yet flags) (paragraph_of_lines l ms) in
    let with_texts : List (List ℕ) → Walk Done = λ ts. record { texts = ts; outcome = walk.outcome } in
    let with_end : Result Done Error → Walk Done = λ k. record { texts = read.text ∷ []; outcome = k } in
    let is : script (rendering o reading) [] (nothing_yet flags) p ≡ record { texts = read.text ∷ []; outcome = Ok done } =
    ap (λ (q : List Pair). script (rendering o reading) [] (nothing_yet flags) q) e ∙ ap with_texts read.handed ∙ ap with_end read.ends_well
    in
    (read.text, subst (λ (x : Walk Done). Makes gives refuses w v r done x) is made, read.read)
