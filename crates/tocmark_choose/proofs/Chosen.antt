-- The choice for the events of a forest is the forest's.
use Rattle.std.proofs.Common.{◌≡◌, false, Option, None, ap, sym, ◌∙◌}
use Rattle.tocmark_event.specs.Forest.{flat}
use Rattle.tocmark_event.specs.View.{EventView}
use Rattle.tocmark_spelling.specs.Body.{Trees}
use Rattle.tocmark_spelling.specs.Plan.{Setting}
use Rattle.tocmark_write_labels.specs.Document.{DocumentView}
use Rattle.tocmark_write_pending.specs.Placeholder.{needs_placeholder}
use Rattle.tocmark_write_labels.specs.Units.{labelled}
use Rattle.tocmark_write_labels.proofs.Unlabelled.{no-label}
use Rattle.tocmark_write_pending.proofs.Forests.{trees-flat}
use Rattle.tocmark_choose.specs.Choice.{choice}
use Rattle.tocmark_choose.specs.Chosen.{choice_of, chosen}

-- the choice for a forest's events is the forest's, with the label of these events
pub chosen-flat : (s : Setting) (d : DocumentView) (f : Trees) (next : Option EventView) → chosen s d (flat f) next ≡ choice (labelled s d (flat f) next) d f next
unfolding chosen
chosen-flat s d f next = ap (λ o. choice_of (labelled s d (flat f) next) d o next) (trees-flat f)

-- without a label the choice is the forest's in the same setting
pub chosen-unlabelled : (s : Setting) (d : DocumentView) (f : Trees) (next : Option EventView) → s.label ≡ None → needs_placeholder f ≡ false → chosen s d (flat f) next ≡ choice s d f next
chosen-unlabelled s d f next e h =
    chosen-flat s d f next ∙ ap (λ l. choice (record s { label = l }) d f next) (no-label s d f next h ∙ sym e)
