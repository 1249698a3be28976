-- What is handed for a paragraph with a reference to a footnote, and the footnote, is read as both.
use Rattle.std.proofs.Common.{◌≡◌, ℕ, ◌^◌, ◌<◌, ◌≤◌, true, false, not, ◌==◌, ◌&&◌, nat_lt, List, [], ◌∷◌, ◌++◌, length, map, refl, ap, sym, subst, ◌∙◌, arith, append-nil, length-append, true≢false, None, Some, Ok}
use Rattle.std.specs.List.{AllByRecursion, concat, list_all}
use Rattle.tocmark_event.specs.Forest.{empty, node, flat, flat_onto}
use Rattle.tocmark_event.specs.Options.{OptionsView}
use Rattle.tocmark_event.specs.Reading.{ReadingView}
use Rattle.tocmark_event.specs.View.{EventView, Start, End, Paragraph, FootnoteDefinition, TagView, end_of}
use Rattle.tocmark_event.specs.declared.event.flags.ParserOptions.{ParserOptions}
use Rattle.tocmark_read_scan.proofs.PlainTests.{both_true, all_from}
use Rattle.tocmark_reader.specs.PlainTexts.{IsReadAs}
use Rattle.tocmark_reader.specs.Reading.{reading_of}
use Rattle.tocmark_reader.proofs.PlainReading.{IsPrintable}
use Rattle.tocmark_spelling.specs.Body as body
use Rattle.tocmark_spelling.specs.Page.{Page}
use Rattle.tocmark_spelling.specs.Plan.{Setting}
use Rattle.tocmark_spelling.specs.PlanOf.{setting_of}
use Rattle.tocmark_choose.specs.Candidates.{preferred_manner}
use Rattle.tocmark_choose.specs.Choice as choice
use Rattle.tocmark_choose.specs.Choice.{spelled, accepted_if, document_after}
use Rattle.tocmark_choose.specs.Chosen.{chosen}
use Rattle.tocmark_choose.proofs.Chosen.{chosen-unlabelled}
use Rattle.tocmark_choose.proofs.PlainUnits.{choice-unasked}
use Rattle.tocmark_write_labels.specs.Definitions.{definitions_text}
use Rattle.tocmark_write_labels.specs.Document.{DocumentView, first_document}
use Rattle.tocmark_write_labels.specs.Ending.{last_texts, holds_raw_block}
use Rattle.tocmark_write_pending.specs.Placeholder.{whole, needs_placeholder}
use Rattle.tocmark_write_pending.specs.Units.{waits}
use Rattle.tocmark_write_pending.proofs.Forests.{waits-flat}
use Rattle.tocmark_state.specs.Ranges.{unranged}
use Rattle.tocmark_state.specs.WorkView.{keeping, rendering}
use Rattle.tocmark_state.specs.Walk.{Walk, Done, done, Kept, Rendering, Standing, beginning, finished_of, flush_of, go_on, nothing_yet, script, ended}
use Rattle.tocmark_laws.specs.Extensions.{is_word_byte, is_word_line}
use Rattle.tocmark_laws.specs.Footnotes.{is_label_byte, is_label, in_brackets, noted_words, footnote_events}
use Rattle.tocmark_laws.specs.ReadBack.{AreReadWhere, ArePlainOptions, is_barless_line}
use Rattle.tocmark_laws.specs.Trees.{Ranged, Trees, ranged, then_ranged, deferred_unit, followed_unit, walk_trees}
use Rattle.tocmark_laws.proofs.AloneHanded.{bare, all_ranged, one_text, IsUnasked}
use Rattle.tocmark_laws.proofs.BreaksReadBack.{bare_from}
use Rattle.tocmark_laws.proofs.BreakSpelling.{AreBareWords}
use Rattle.tocmark_laws.proofs.NoteReading.{footnotes_read}
use Rattle.tocmark_laws.proofs.NoteSpelling.{noted_trees, note_trees, noted_page, note_text, IsNotePage, reference_spelled, note_spelled}
use Rattle.tocmark_laws.proofs.Trees.{walk_is}
use Rattle.tocmark_laws.proofs.WordsReading.{word_byte}

-- ---- documents of two trees

module _ (o : OptionsView) (reading : List ℕ → ParserOptions → ReadingView) (flags : ParserOptions) (source : List ℕ) (t u : TagView) (kids others : body.Trees) where
  abbrev how : Rendering
  how = rendering o reading

  abbrev setting : Setting
  setting = setting_of o flags reading None

  abbrev kept : DocumentView → Kept
  kept d = record { flags = flags; document = d }

  abbrev first : body.Trees
  first = node t kids empty

  abbrev second : body.Trees
  second = node u others empty

  -- the second tree is pending after the document that the first one leaves
  abbrev behind : DocumentView → Standing
  behind d = record (beginning (kept d)) { pending = flat second }

  first_walked : (x : List ℕ) (d : DocumentView) → waits (flat first) ≡ false → chosen setting first_document (flat first) (Some (Start u)) ≡ Ok (x, d) → 0 < length x → walk_trees how (kept first_document) (node t kids second) [] [] ≡ record { texts = x ∷ []; outcome = Ok (behind d) }
  first_walked x d goes is some =
      let go : Kept → Walk Standing = λ k. walk_trees how k second [] [] in
      ap (λ b. followed_unit how b (kept first_document) (flat first) (Start u) (deferred_unit (kept first_document) (Start t ∷ flat_onto kids (End (end_of t) ∷ flat second)) [] []) go) goes
      ∙ ap (λ r. go_on (flush_of (beginning (kept first_document)) (keeping flags r)).texts (flush_of (beginning (kept first_document)) (keeping flags r)).outcome (λ s. go s.document)) is
      ∙ ap (λ (ts : List (List ℕ)). record { texts = ts ++ []; outcome = Ok (behind d) }) (one_text x some)

  second_ended : (d : DocumentView) → ended how (behind d) ≡ finished_of how (flat second) (how.choice (kept d) (flat second) None)
  unfolding ended
  second_ended d = refl

  -- a text for each tree is handed
  trees_handed : (es : List EventView) (x y : List ℕ) (d e : DocumentView) → map bare es ≡ flat (node t kids second) → waits (flat first) ≡ false → chosen setting first_document (flat first) (Some (Start u)) ≡ Ok (x, d) → chosen setting d (flat second) None ≡ Ok (y, e) → definitions_text e.references e.feeds ≡ [] → 0 < length x → 0 < length y
      → script how source (nothing_yet flags) (map unranged es) ≡ record { texts = x ∷ y ∷ []; outcome = Ok done }
  trees_handed es x y d e h goes is next none some more =
      let all : ranged source 0 (map unranged es) ≡ record { events = map bare es; range_end = 0; is_cut = false } = all_ranged source 0 es in
      let trees : Trees (ranged source 0 (map unranged es)).events = record { whole = node t kids second; part = []; refused = []; are = sym h ∙ sym (ap (λ (r : Ranged). r.events) all); wrong = tt } in
      ap (λ (w : Walk Standing). go_on w.texts w.outcome (λ s. ended how s))
      (walk_is how source (kept first_document) (map unranged es) trees
      ∙ ap (λ (w : Walk Standing). then_ranged (ranged source 0 (map unranged es)) w) (first_walked x d goes is some)
      ∙ ap (λ (r : Ranged). then_ranged r (record { texts = x ∷ []; outcome = Ok (behind d) })) all)
      ∙ ap (λ (w : Walk Done). record { texts = x ∷ w.texts; outcome = w.outcome })
      (second_ended d
      ∙ ap (λ r. finished_of how (flat second) (keeping flags r)) next
      ∙ ap (λ defs. record { texts = last_texts (holds_raw_block (flat second)) defs y; outcome = Ok done }) none
      ∙ ap (λ (ts : List (List ℕ)). record { texts = ts; outcome = Ok done }) (one_text y more))

-- ---- the choices

paragraph_unasked : (words label : List ℕ) → IsUnasked (node Paragraph (noted_trees words label) empty)
unfolding needs_placeholder
paragraph_unasked words label = record { placed = refl; undelimited = refl; unsourced = refl }

note_unasked : (label note : List ℕ) → IsUnasked (node (FootnoteDefinition label) (note_trees note) empty)
unfolding needs_placeholder
note_unasked label note = record { placed = refl; undelimited = refl; unsourced = refl }

module _ (o : OptionsView) (reading : List ℕ → ParserOptions → ReadingView) (flags : ParserOptions) (plain : ArePlainOptions o) where
  abbrev s : Setting
  s = setting_of o flags reading None

  chosen_as : (d : DocumentView) (unit : body.Trees) (next : _) (p : Page) → IsUnasked unit → spelled s d unit next (preferred_manner o) ≡ Some p → chosen s d (flat unit) next ≡ Ok (p.sheet.text, document_after s d p)
  chosen_as d unit next p unasked h =
      chosen-unlabelled s d unit next refl unasked.placed
      ∙ choice-unasked s d unit next unasked.undelimited plain.unchecked (ap (λ b. b && choice.has_standard_markers o) unasked.unsourced)
      ∙ ap (accepted_if s d) h

  -- the document after the paragraph
  abbrev noted : List ℕ → List ℕ → DocumentView
  noted words label = document_after s first_document (noted_page s plain.emphasis (words ++ in_brackets label))

  first_spelled : (words label : List ℕ) → AreBareWords words → AllByRecursion IsPrintable label → spelled s first_document (node Paragraph (noted_trees words label) empty) (Some (Start (FootnoteDefinition label))) (preferred_manner o) ≡ Some (noted_page s plain.emphasis (words ++ in_brackets label))
  unfolding spelled
  first_spelled words label h k = ap choice.page_of (reference_spelled s plain.emphasis words label (Some (Start (FootnoteDefinition label))) h k)

  second_spelled : (words label note : List ℕ) → (p : IsNotePage s plain.emphasis label note (whole None)) → spelled s (noted words label) (node (FootnoteDefinition label) (note_trees note) empty) None (preferred_manner o) ≡ Some p.page
  unfolding spelled document_after
  second_spelled words label note p = ap choice.page_of p.is

  no_definitions : (words label : List ℕ) (p : Page) → p.references ≡ [] → (let d = document_after s (noted words label) p in definitions_text d.references d.feeds ≡ [])
  unfolding document_after definitions_text
  no_definitions words label p h = ap (λ refs. definitions_text refs p.sheet.feeds) h

  front_some : (xs ys : List ℕ) → 0 < length ys → 0 < length (xs ++ ys)
  front_some xs ys h = omega (arith, h, length-append xs ys)

  notes_handed : (source words label note : List ℕ) → o.newlines_after_paragraph ≤ 2 → AreBareWords words → AllByRecursion IsPrintable label → AreBareWords note
      → script (rendering o reading) source (nothing_yet flags) (map unranged (footnote_events words label note)) ≡ record { texts = (words ++ in_brackets label) ∷ note_text label note ∷ []; outcome = Ok done }
  notes_handed source words label note few h k g =
      let first : body.Trees = node Paragraph (noted_trees words label) empty in
      let second : body.Trees = node (FootnoteDefinition label) (note_trees note) empty in
      let p : IsNotePage s plain.emphasis label note (whole None) = note_spelled s plain.emphasis label note (whole None) few g k in
      let d : DocumentView = noted words label in
      trees_handed o reading flags source Paragraph (FootnoteDefinition label) (noted_trees words label) (note_trees note) (footnote_events words label note) (words ++ in_brackets label) (note_text label note) d (document_after s d p.page) refl
      (waits-flat first ∙ (paragraph_unasked words label).placed)
      (chosen_as first_document first (Some (Start (FootnoteDefinition label))) (noted_page s plain.emphasis (words ++ in_brackets label)) (paragraph_unasked words label) (first_spelled words label h k))
      (chosen_as d second None p.page (note_unasked label note) (second_spelled words label note p) ∙ ap (λ (xs : List ℕ). Ok (xs, document_after s d p.page)) p.text_is)
      (no_definitions words label p.page p.none)
      (front_some words (in_brackets label) (omega arith))
      (omega arith)

-- ---- the law

label_shown : (label : List ℕ) → is_label label ≡ true → AllByRecursion IsPrintable label
label_shown [] h = absurd (true≢false (sym h))
label_shown (b ∷ bs) h =
    all_from is_label_byte IsPrintable (b ∷ bs)
    (λ c k. (word_byte c ((both_true (is_word_byte c) (not (c == 32)) k).0)).printable)
    ((both_true (list_all is_label_byte (b ∷ bs)) (nat_lt (length (b ∷ bs)) 999) h).0)

words_of : (l : List ℕ) → is_barless_line l ≡ true → is_word_line l ≡ true
words_of l h = (both_true (is_word_line l) (list_all (λ b. not (b == 124)) l) h).0

pub footnotes_read_back : (options : OptionsView) (words label note : List ℕ) → ArePlainOptions options → options.newlines_after_paragraph ≤ 2 → is_barless_line words ≡ true → is_label label ≡ true → is_barless_line note ≡ true → (reading : List ℕ → ParserOptions → ReadingView) (flags : ParserOptions) (source : List ℕ)
    → AreReadWhere (λ syntax. syntax.footnotes) (script (rendering options reading) source (nothing_yet flags) (map unranged (footnote_events words label note))) (footnote_events words label note)
footnotes_read_back options words label note plain few h k g reading flags source =
    let handed = notes_handed options reading flags plain source words label note few (bare_from words h) (label_shown label k) (bare_from note g) in
    let joined : (words ++ in_brackets label) ++ (note_text label note ++ []) ≡ noted_words words label note = ap (λ (xs : List ℕ). (words ++ in_brackets label) ++ xs) (append-nil (note_text label note)) in
    let text_is = ap (λ (w : Walk Done). concat w.texts) handed ∙ joined in
    record {
      ends_well = ap (λ (w : Walk Done). w.outcome) handed;
      read = λ syntax has fits.
          subst (λ (xs : List ℕ). IsReadAs (reading_of syntax xs) (footnote_events words label note)) (sym text_is)
          (footnotes_read syntax words label note has (words_of words h) k (words_of note g) (subst (λ (xs : List ℕ). length xs < 2 ^ 64) text_is fits));
    }
