-- Lists of events that are refused as unexpected: the walk over them is computed.
use Rattle.std.proofs.Common.{◌≡◌, ℕ, true, List, [], ◌∷◌, None, Err, refl, ap}
use Rattle.tocmark_event.specs.Forest.{empty, node}
use Rattle.tocmark_event.specs.Options.{OptionsView}
use Rattle.tocmark_event.specs.Reading.{ReadingView}
use Rattle.tocmark_event.specs.View.{SourcedEvent, TagView, Start, End, Item, Heading}
use Rattle.tocmark_event.specs.declared.event.HeadingLevel.TheVariants.{H1, H2}
use Rattle.tocmark_event.specs.declared.event.TagEnd.TheVariants as end
use Rattle.tocmark_event.specs.declared.event.flags.ParserOptions.{ParserOptions}
use Rattle.tocmark_event.specs.declared.options.Error.TheVariants.{UnexpectedEvent}
use Rattle.tocmark_spelling.specs.ById.{by_id}
use Rattle.tocmark_write_labels.specs.Document.{first_document}
use Rattle.tocmark_choose.specs.Chosen.{chosen}
use Rattle.tocmark_state.specs.Walk.{Kept, advance, ended, finished_of, flushed, flushed_before, joins, step}
use Rattle.tocmark_state.specs.WorkView.{keeping, rendering}
use Rattle.tocmark_laws.specs.Unexpected.{setting_at}
use Rattle.tocmark_laws.proofs.Unexpected.{misplaced-unit}
use Rattle.tocmark_document_laws.specs.ProperLists.{SomeListsAreUnexpected}

module _ (options : OptionsView) (reading : List ℕ → ParserOptions → ReadingView) (flags : ParserOptions) where
  kept : Kept
  kept = record { flags = flags; document = first_document }

  item : List SourcedEvent
  item = Start Item ∷ End end.Item ∷ []

  outer : TagView
  outer = Heading H1 None [] []

  inner : TagView
  inner = Heading H2 None [] []

  heading : List SourcedEvent
  heading = Start outer ∷ Start inner ∷ End (end.Heading H2) ∷ End (end.Heading H1) ∷ []

  item_refused : chosen (setting_at options reading kept) first_document item None ≡ Err UnexpectedEvent
  unfolding kept item
  item_refused = misplaced-unit (setting_at options reading kept) first_document item None (record {
    forest = node Item empty empty;
    is = refl;
    start = record { before = []; tag = Item; after = (End end.Item, true) ∷ []; is = refl; looked_at = refl; wrong = refl };
  })

  heading_refused : chosen (setting_at options reading kept) first_document heading None ≡ Err UnexpectedEvent
  unfolding kept heading outer inner by_id
  heading_refused = misplaced-unit (setting_at options reading kept) first_document heading None (record {
    forest = node outer (node inner empty empty) empty;
    is = refl;
    start = record { before = (Start outer, true) ∷ []; tag = inner; after = (End (end.Heading H2), true) ∷ (End (end.Heading H1), true) ∷ []; is = refl; looked_at = refl; wrong = refl };
  })

pub some_unexpected : SomeListsAreUnexpected
unfolding advance ended flushed flushed_before joins step kept item heading outer inner
some_unexpected options reading flags source = (
  ap (λ c. (finished_of (rendering options reading) (item options reading flags) (keeping flags c)).outcome) (item_refused options reading flags),
  ap (λ c. (finished_of (rendering options reading) (heading options reading flags) (keeping flags c)).outcome) (heading_refused options reading flags),
)
