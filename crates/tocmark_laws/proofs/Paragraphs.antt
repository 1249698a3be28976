-- What is handed for a paragraph with one text or one code span.
use Rattle.std.proofs.Common.{◌≡◌, ℕ, List, [], ◌∷◌, ◌++◌, if◌then◌else◌, None, Some, Ok, Bool, true, false, Result, refl, sym, ap, ◌∙◌, chars, append-nil, append_assoc}
use Rattle.std.specs.Prelude.{◌||◌, ◌<◌, length, nat_lt}
use Rattle.std.specs.List.{concat}
use Rattle.tocmark_event.specs.Forest.{empty, leaf, node, flat}
use Rattle.tocmark_event.specs.Options.{OptionsView}
use Rattle.tocmark_event.specs.Reading.{ReadingView}
use Rattle.tocmark_event.specs.View.{Paragraph, LeafView, Text, Code, End}
use Rattle.tocmark_event.specs.declared.event.TagEnd.TheVariants as end
use Rattle.tocmark_event.specs.declared.event.flags.ParserOptions.{ParserOptions}
use Rattle.tocmark_event.specs.declared.options.Error.{Error}
use Rattle.tocmark_spelling.specs.Body.{Trees}
use Rattle.tocmark_spelling.specs.Closing.{closing}
use Rattle.tocmark_write_texts.specs.Escape.{Surroundings, escaped}
use Rattle.tocmark_spelling.specs.Opening.{opening}
use Rattle.tocmark_spelling.specs.ById.{by_id}
use Rattle.tocmark_write_texts.specs.Leaves.{code_span, unspan}
use Rattle.tocmark_spelling.specs.Marker.{marker}
use Rattle.tocmark_spelling.specs.Runs.{prefers_underscore}
use Rattle.tocmark_spelling.specs.Page.{Sheet, laid, put_byte}
use Rattle.tocmark_spelling.specs.PlanOf.{setting_of}
use Rattle.tocmark_spelling.specs.Spelling.{spelling}
use Rattle.tocmark_spelling.specs.Stretch.{leaf_on}
use Rattle.tocmark_write_texts.specs.Unescape.{unescape}
use Rattle.tocmark_choose.specs.Candidates.{is_delimiter_block, is_math}
use Rattle.tocmark_choose.specs.Choice.{preferred, spelled, document_after}
use Rattle.tocmark_write_labels.specs.Definitions.{definitions_text}
use Rattle.tocmark_write_labels.specs.Document.{DocumentView, first_document}
use Rattle.tocmark_write_labels.specs.Ending.{last_texts, holds_raw_block}
use Rattle.tocmark_write_pending.specs.Placeholder.{needs_placeholder}
use Rattle.tocmark_choose.specs.Chosen.{chosen}
use Rattle.tocmark_choose.proofs.Chosen.{chosen-unlabelled}
use Rattle.tocmark_choose.proofs.PlainUnits.{choice-unasked}
use Rattle.tocmark_laws.specs.Paragraphs.{ReadsAs, ReadsAsSpan, paragraph_with, paragraph_of}
use Rattle.tocmark_state.specs.WorkView.{keeping, rendering}
use Rattle.tocmark_state.specs.Walk.{Walk, Done, done, finished_of, handed_text, nothing_yet, script, joins, flushed, flushed_before, advance, step, ended}

-- a text that is handed
handed : (text : List ℕ) → concat (handed_text text) ≡ text
handed [] = refl
handed (b ∷ bs) = append-nil (b ∷ bs)

-- the unit
abbrev unit : LeafView → Trees
unit l = node Paragraph (leaf (record { leaf = l; source = None }) empty) empty

pub either-way : (b : Bool) (xs : List ℕ) → (if b then xs else xs) ≡ xs
either-way true xs = refl
either-way false xs = refl

-- a text that is laid with no prefix
pub laid-plain : (text : List ℕ) (s : Sheet) → (laid [] text s).text ≡ s.text ++ text
laid-plain [] s = sym (append-nil s.text)
laid-plain (b ∷ bs) s =
    laid-plain bs (put_byte [] b s)
    ∙ ap (λ x. ((s.text ++ x) ++ b ∷ []) ++ bs) (either-way (nat_lt 0 s.feeds) [])
    ∙ ap (λ t. (t ++ b ∷ []) ++ bs) (append-nil s.text)
    ∙ append_assoc s.text (b ∷ []) bs

-- two truths that are false, each beside another one
pub neither_in : (a b : Bool) → (a || b) ≡ false → ((a || false) || (b || false)) ≡ false
neither_in true b h = h
neither_in false true h = h
neither_in false false h = refl

-- a paragraph of a leaf that isn't mathematics has no delimiters
undelimited : (l : LeafView) → is_math l ≡ false → is_delimiter_block (unit l) ≡ false
undelimited l h = ap (λ b. (b || false) || false) h

no-list : (l : LeafView) → needs_placeholder (unit l) ≡ false
unfolding needs_placeholder
no-list l = refl

-- the sheet on which the first unit begins
abbrev blank : Sheet
blank = record { text = []; feeds = 0 }

module _ (o : OptionsView) (reading : List ℕ → ParserOptions → ReadingView) (flags : ParserOptions) (off : o.check_plain_blocks ≡ false) where
  -- the place of the text
  abbrev place_in : Surroundings
  place_in = record { flags = flags; token = o.emphasis_token; literal = false; first_encoded = false; last_encoded = false; at_front = true; in_table = false; in_heading = false; next = Some (End end.Paragraph) }

  -- the preferred spelling of the unit is a text that is laid with no prefix, and leaves no definition
  pub record IsWritten (l : LeafView) (text : List ℕ) : Type 0 where
    pub document : DocumentView
    pub undefined : definitions_text document.references document.feeds ≡ []
    pub preferred_is : preferred (setting_of o flags reading None) first_document (unit l) None ≡ Ok ((laid [] text blank).text, document)

  written-text : (text : List ℕ) → IsWritten (Text text) (escaped place_in text)
  unfolding spelled spelling opening closing leaf_on document_after definitions_text prefers_underscore by_id marker
  written-text text = record { document = _; undefined = refl; preferred_is = refl }

  pub written-code : (text : List ℕ) → IsWritten (Code text) (code_span false text)
  unfolding spelled spelling opening closing leaf_on document_after definitions_text prefers_underscore by_id marker
  written-code text = record { document = _; undefined = refl; preferred_is = refl }

  chosen-preferred : (l : LeafView) → is_math l ≡ false → chosen (setting_of o flags reading None) first_document (flat (unit l)) None ≡ preferred (setting_of o flags reading None) first_document (unit l) None
  chosen-preferred l h =
      let s = setting_of o flags reading None in
      chosen-unlabelled s first_document (unit l) None refl (no-list l) ∙ choice-unasked s first_document (unit l) None (undelimited l h) off refl

  -- what the end comes to, by what is chosen for the unit
  abbrev ended_as : LeafView → Result (List ℕ × DocumentView) Error → Walk Done
  ended_as l r = finished_of (rendering o reading) (flat (unit l)) (keeping flags r)

  scripted : (source : List ℕ) (l : LeafView) → script (rendering o reading) source (nothing_yet flags) (paragraph_with l) ≡ ended_as l (chosen (setting_of o flags reading None) first_document (flat (unit l)) None)
  unfolding joins flushed flushed_before advance step ended
  scripted source l = refl

  -- the text is handed unless it is empty
  pub made : (source : List ℕ) (l : LeafView) (text : List ℕ) → is_math l ≡ false → IsWritten l text → script (rendering o reading) source (nothing_yet flags) (paragraph_with l) ≡ record { texts = handed_text text; outcome = Ok done }
  made source l text h w =
      scripted source l
      ∙ ap (ended_as l) (chosen-preferred l h ∙ w.preferred_is ∙ ap (λ t. Ok (t, w.document)) (laid-plain text blank))
      ∙ ap (λ (defs : List ℕ). record { texts = last_texts (holds_raw_block (flat (unit l))) defs text; outcome = Ok done }) w.undefined

  pub read_back : (source text : List ℕ)
      → ((place : Surroundings) → place.token ≡ o.emphasis_token → unescape (chars (escaped place text)) ≡ chars text)
      → ReadsAs text (script (rendering o reading) source (nothing_yet flags) (paragraph_of text))
  read_back source text law =
      let m = made source (Text text) (escaped place_in text) refl (written-text text) in
      let texts = ap (λ (w : Walk Done). concat w.texts) m ∙ handed (escaped place_in text) in
      record {
        ends_well = ap (λ (w : Walk Done). w.outcome) m;
        place = place_in;
        escape = texts;
        read = ap (λ t. unescape (chars t)) texts ∙ law place_in refl;
      }

  pub span_read_back : (source text : List ℕ) → (0 < length text → unspan (code_span false text) ≡ Some text)
      → ReadsAsSpan text (script (rendering o reading) source (nothing_yet flags) (paragraph_with (Code text)))
  span_read_back source text law =
      let m = made source (Code text) (code_span false text) refl (written-code text) in
      let texts = ap (λ (w : Walk Done). concat w.texts) m ∙ handed (code_span false text) in
      record {
        ends_well = ap (λ (w : Walk Done). w.outcome) m;
        span = texts;
        read = λ h. ap unspan texts ∙ law h;
      }
