-- What is handed for a paragraph with one inline link round one text.
use Rattle.std.proofs.Common.{◌≡◌, ℕ, List, [], ◌++◌, None, Ok, false, Result, refl, ap, ◌∙◌, codes}
use Rattle.tocmark_event.specs.Forest.{empty, leaf, node, flat}
use Rattle.tocmark_event.specs.Options.{OptionsView}
use Rattle.tocmark_event.specs.Reading.{ReadingView}
use Rattle.tocmark_event.specs.View.{Link, Paragraph, Text}
use Rattle.tocmark_event.specs.declared.event.LinkType.TheVariants as link
use Rattle.tocmark_event.specs.declared.event.flags.ParserOptions.{ParserOptions}
use Rattle.tocmark_event.specs.declared.options.Error.{Error}
use Rattle.tocmark_write_texts.specs.Destination.{inline_closing}
use Rattle.tocmark_write_texts.specs.Escape.{escaped}
use Rattle.tocmark_spelling.specs.Body.{Trees}
use Rattle.tocmark_spelling.specs.ById.{by_id}
use Rattle.tocmark_spelling.specs.Closing.{closing}
use Rattle.tocmark_spelling.specs.Opening.{opening}
use Rattle.tocmark_spelling.specs.Page.{Sheet, laid}
use Rattle.tocmark_spelling.specs.PlanOf.{setting_of}
use Rattle.tocmark_spelling.specs.Runs.{prefers_underscore}
use Rattle.tocmark_spelling.specs.Spelling.{spelling}
use Rattle.tocmark_spelling.specs.Stretch.{leaf_on}
use Rattle.tocmark_choose.specs.Choice.{preferred, spelled, document_after}
use Rattle.tocmark_write_labels.specs.Definitions.{definitions_text}
use Rattle.tocmark_write_labels.specs.Document.{DocumentView, first_document}
use Rattle.tocmark_write_labels.specs.Ending.{last_texts, holds_raw_block}
use Rattle.tocmark_write_pending.specs.Placeholder.{needs_placeholder}
use Rattle.tocmark_laws.proofs.Paragraphs.{laid-plain}
use Rattle.tocmark_state.specs.WorkView.{keeping, rendering}
use Rattle.tocmark_state.specs.Walk.{Walk, Done, done, finished_of, nothing_yet, script, joins, flushed, flushed_before, advance, step, ended}
use Rattle.tocmark_laws.proofs.Alone.{alone-chosen}
use Rattle.tocmark_laws.specs.Links.{link_events, link_text, one_text_walk, place_in_link}

-- the unit
abbrev unit : List ℕ → List ℕ → List ℕ → List ℕ → Trees
unit dest title id text =
    node Paragraph (node (Link link.Inline dest title id) (leaf (record { leaf = Text text; source = None }) empty) empty) empty

no-list : (dest title id text : List ℕ) → needs_placeholder (unit dest title id text) ≡ false
unfolding needs_placeholder
no-list dest title id text = refl

module _ (o : OptionsView) (reading : List ℕ → ParserOptions → ReadingView) (flags : ParserOptions) (dest title id text : List ℕ) (off : o.check_plain_blocks ≡ false) where
  -- the sheet before the text, after it, and at the end
  abbrev opened : Sheet
  opened = laid [] (codes "[") (record { text = []; feeds = 0 })

  abbrev inside : Sheet
  inside = laid [] (escaped (place_in_link o flags) text) opened

  abbrev closed : Sheet
  closed = laid [] (inline_closing dest title) inside

  -- the preferred spelling of the unit, which leaves no definition
  pub record IsWritten : Type 0 where
    pub document : DocumentView
    pub undefined : definitions_text document.references document.feeds ≡ []
    pub preferred_is : preferred (setting_of o flags reading None) first_document (unit dest title id text) None ≡ Ok (closed.text, document)

  written : IsWritten
  unfolding spelled spelling opening closing leaf_on document_after definitions_text prefers_underscore by_id
  written = record { document = _; undefined = refl; preferred_is = refl }

  closed-text : closed.text ≡ link_text o flags dest title text
  closed-text =
      laid-plain (inline_closing dest title) inside
      ∙ ap (λ t. t ++ inline_closing dest title) (laid-plain (escaped (place_in_link o flags) text) opened)

  -- what the end comes to, by what is chosen for the unit
  abbrev ended_as : Result (List ℕ × DocumentView) Error → Walk Done
  ended_as r = finished_of (rendering o reading) (flat (unit dest title id text)) (keeping flags r)

  scripted : (source : List ℕ) → script (rendering o reading) source (nothing_yet flags) (link_events dest title id text) ≡ finished_of (rendering o reading) (flat (unit dest title id text)) ((rendering o reading).choice (record { flags = flags; document = first_document }) (flat (unit dest title id text)) None)
  unfolding joins flushed flushed_before advance step ended
  scripted source = refl

  pub handed : (source : List ℕ) → script (rendering o reading) source (nothing_yet flags) (link_events dest title id text) ≡ one_text_walk (link_text o flags dest title text)
  handed source =
      let w = written in
      scripted source
      ∙ ap (λ r. finished_of (rendering o reading) (flat (unit dest title id text)) r) (alone-chosen o reading flags (unit dest title id text) off (no-list dest title id text) refl refl)
      ∙ ap ended_as (w.preferred_is ∙ ap (λ t. Ok (t, w.document)) closed-text)
      ∙ ap (λ (defs : List ℕ). record { texts = last_texts (holds_raw_block (flat (unit dest title id text))) defs (link_text o flags dest title text); outcome = Ok done }) w.undefined
