-- The choice for a unit that is given as its events.
use Rattle.std.specs.Prelude.{Option, Some, None, Err, List}
use Rattle.tocmark_event.specs.View.{EventView, SourcedEvent}
use Rattle.tocmark_event.specs.declared.options.Error.TheVariants.{UnexpectedEvent}
use Rattle.tocmark_spelling.specs.Plan.{Setting}
use Rattle.tocmark_spelling.specs.Body.{Trees}
use Rattle.tocmark_write_labels.specs.Document.{DocumentView}
use Rattle.tocmark_write_labels.specs.Units.{labelled}
use Rattle.tocmark_write_pending.specs.Units.{trees_of}
use Rattle.tocmark_choose.specs.Choice.{Chosen, choice}

-- the choice for a unit's trees; a refusal where its events aren't balanced
abbrev pub choice_of : Setting → DocumentView → Option Trees → Option EventView → Chosen
choice_of s d None next = Err UnexpectedEvent
choice_of s d (Some f) next = choice s d f next

-- the choice for a unit that is given as its events, which have a label if they need one
unfoldable pub chosen : Setting → DocumentView → List SourcedEvent → Option EventView → Chosen
chosen s d unit next = choice_of (labelled s d unit next) d (trees_of unit) next
