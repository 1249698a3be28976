use Rattle.std.proofs.Common.{◌∙◌, arith, add-one}
use Rattle.std.proofs.lemmas.List.{length-map}
use Rattle.tocmark_event.specs.Text.{text_of}
use Rattle.tocmark_event.specs.View.{event_view}
use Rattle.tocmark_links.specs.Changed.{blank}
use Rattle.tocmark_links.proofs.Fronts.{all-changed, one-more}
use Rattle.tocmark_links.proofs.changed.blank_all.Goals as goal

pub loop-event-preserved : goal.loop-event-preserved
loop-event-preserved c =
    rw add-one (one-more (λ e. event_view text_of e.0) blank c.loop-event.events _ c.loop-event.event-index _ _ c.loop-event.invariant (omega arith) c.blank.ensures)

pub returns : goal.returns
returns c = c.loop-event.invariant ∙ all-changed blank c.loop-event.event-index _ (rw length-map c.loop-event-test.false)
