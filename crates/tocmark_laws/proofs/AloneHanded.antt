-- What is handed for a document of one tree, by the preferred spelling of that tree.
use Rattle.std.proofs.Common.{◌≡◌, ℕ, ◌<◌, false, List, [], ◌∷◌, length, map, refl, ap, sym, ◌∙◌, arith, None, Some, Ok}
use Rattle.tocmark_event.specs.Forest.{empty, node, flat}
use Rattle.tocmark_event.specs.Options.{OptionsView}
use Rattle.tocmark_event.specs.Reading.{ReadingView}
use Rattle.tocmark_event.specs.View.{EventView, SourcedEvent, TagView}
use Rattle.tocmark_event.specs.declared.event.flags.ParserOptions.{ParserOptions}
use Rattle.tocmark_spelling.specs.Body as body
use Rattle.tocmark_spelling.specs.Buffered.{sourced}
use Rattle.tocmark_spelling.specs.Page.{Page, Path, Site, Around}
use Rattle.tocmark_spelling.specs.Plan.{Setting}
use Rattle.tocmark_spelling.specs.PlanOf.{setting_of}
use Rattle.tocmark_spelling.specs.Spelling.{spelling}
use Rattle.tocmark_spelling.specs.declared.trail.Last.TheVariants.{Other}
use Rattle.tocmark_choose.specs.Candidates.{preferred_manner, has_source, is_delimiter_block}
use Rattle.tocmark_choose.specs.Choice as choice
use Rattle.tocmark_choose.specs.Choice.{preferred, spelled, accepted_if, document_after}
use Rattle.tocmark_write_labels.specs.Definitions.{definitions_text}
use Rattle.tocmark_write_labels.specs.Document.{DocumentView, first_document}
use Rattle.tocmark_write_labels.specs.Ending.{last_texts, holds_raw_block, unless_empty}
use Rattle.tocmark_write_pending.specs.Placeholder.{needs_placeholder}
use Rattle.tocmark_state.specs.Ranges.{unranged}
use Rattle.tocmark_state.specs.WorkView.{keeping, rendering}
use Rattle.tocmark_state.specs.Walk.{Walk, done, Kept, Rendering, Standing, beginning, finished_of, go_on, stay, nothing_yet, script, walk, ended}
use Rattle.tocmark_laws.specs.Links.{one_text_walk}
use Rattle.tocmark_laws.specs.Trees.{Ranged, Trees, ranged, then_ranged}
use Rattle.tocmark_laws.proofs.Alone.{alone-chosen}
use Rattle.tocmark_laws.proofs.BlockSpelling.{page_of, blank}
use Rattle.tocmark_laws.proofs.Trees.{walk_is}

-- an event as it is pending where it comes without a range
abbrev pub bare : EventView → SourcedEvent
bare e = sourced e None

-- events without ranges are all taken
pub all_ranged : (source : List ℕ) (n : ℕ) (es : List EventView) → ranged source n (map unranged es) ≡ record { events = map bare es; range_end = n; is_cut = false }
all_ranged source n [] = refl
all_ranged source n (e ∷ es) = ap (λ (r : Ranged). record { events = bare e ∷ r.events; range_end = r.range_end; is_cut = r.is_cut }) (all_ranged source n es)

-- a tree is pending after its events
tree_walked : (how : Rendering) (source : List ℕ) (kept : Kept) (t : TagView) (kids : body.Trees) (es : List EventView) → map bare es ≡ flat (node t kids empty) → walk how source (beginning kept) (map unranged es) ≡ stay (record (beginning kept) { pending = flat (node t kids empty) })
tree_walked how source kept t kids es h =
    let all : ranged source 0 (map unranged es) ≡ record { events = map bare es; range_end = 0; is_cut = false } = all_ranged source 0 es in
    let trees : Trees (ranged source 0 (map unranged es)).events = record { whole = node t kids empty; part = []; refused = []; are = sym h ∙ sym (ap (λ (r : Ranged). r.events) all); wrong = tt } in
    walk_is how source kept (map unranged es) trees ∙ ap (λ (r : Ranged). then_ranged r (stay (record (beginning kept) { pending = flat (node t kids empty) }))) all

pub one_text : (text : List ℕ) → 0 < length text → unless_empty text ≡ text ∷ []
one_text [] h = absurd (omega arith)
one_text (b ∷ bs) h = refl

abbrev site : Path → Page → Site
site path page = record { path = path; page = page }

-- nothing is before, after or after the tree of a document
abbrev pub nowhere : Around
nowhere = record { before = []; after = []; next = None }

-- a document's first tree is spelled in the preferred manner as this text, and leaves no definition
pub record IsSpelledAlone (s : Setting) (unit : body.Trees) (text : List ℕ) : Type 0 where
  pub path : Path
  pub page : Page
  pub is : spelling s (preferred_manner s.options) unit nowhere [] (page_of blank 0 Other None) ≡ Some (site path page)
  pub text_is : page.sheet.text ≡ text
  pub none : page.references ≡ []

-- a tree that isn't checked, and has no sources
pub record IsUnasked (unit : body.Trees) : Type 0 where
  pub placed : needs_placeholder unit ≡ false
  pub undelimited : is_delimiter_block unit ≡ false
  pub unsourced : has_source unit ≡ false

module _ (o : OptionsView) (reading : List ℕ → ParserOptions → ReadingView) (flags : ParserOptions) (source : List ℕ) (off : o.check_plain_blocks ≡ false) where
  abbrev how : Rendering
  how = rendering o reading

  abbrev setting : Setting
  setting = setting_of o flags reading None

  abbrev kept : DocumentView → Kept
  kept d = record { flags = flags; document = d }

  preferred_is : (unit : body.Trees) (path : Path) (p : Page) → spelling setting (preferred_manner o) unit nowhere [] (page_of blank 0 Other None) ≡ Some (site path p) → preferred setting first_document unit None ≡ Ok (p.sheet.text, document_after setting first_document p)
  unfolding spelled
  preferred_is unit path p h = ap (λ x. accepted_if setting first_document (choice.page_of x)) h

  no_definitions : (p : Page) → p.references ≡ [] → (let d = document_after setting first_document p in definitions_text d.references d.feeds ≡ [])
  unfolding document_after definitions_text
  no_definitions p h = ap (λ refs. definitions_text refs p.sheet.feeds) h

  tree_ended : (t : TagView) (kids : body.Trees) (d : DocumentView) → ended how (record (beginning (kept d)) { pending = flat (node t kids empty) }) ≡ finished_of how (flat (node t kids empty)) (how.choice (kept d) (flat (node t kids empty)) None)
  unfolding ended
  tree_ended t kids d = refl

  -- exactly the text of the tree is handed
  pub tree_handed : (t : TagView) (kids : body.Trees) (es : List EventView) (text : List ℕ) → map bare es ≡ flat (node t kids empty) → IsUnasked (node t kids empty) → 0 < length text → IsSpelledAlone setting (node t kids empty) text → script how source (nothing_yet flags) (map unranged es) ≡ one_text_walk text
  tree_handed t kids es text h unasked some spelt =
      let unit : body.Trees = node t kids empty in
      let p : Page = spelt.page in
      ap (λ (w : Walk Standing). go_on w.texts w.outcome (λ s. ended how s)) (tree_walked how source (kept first_document) t kids es h)
      ∙ tree_ended t kids first_document
      ∙ ap (finished_of how (flat unit)) (alone-chosen o reading flags unit off unasked.placed unasked.undelimited unasked.unsourced ∙ ap (keeping flags) (preferred_is unit spelt.path p spelt.is))
      ∙ ap (λ defs. record { texts = last_texts (holds_raw_block (flat unit)) defs p.sheet.text; outcome = Ok done }) (no_definitions p spelt.none)
      ∙ ap (λ (xs : List ℕ). record { texts = unless_empty xs; outcome = Ok done }) spelt.text_is
      ∙ ap (λ (ts : List (List ℕ)). record { texts = ts; outcome = Ok done }) (one_text text some)
