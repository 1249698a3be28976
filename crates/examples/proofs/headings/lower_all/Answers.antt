use Rattle.std.proofs.Common.{◌∙◌, arith, add-one}
use Rattle.std.proofs.lemmas.List.{length-map}
use mathlib.Core.List.{map-map}
use Rattle.tocmark_event.specs.Text.{text_of}
use Rattle.tocmark_event.specs.View.{event_view}
use Rattle.examples.specs.Headings.{lowered}
use Rattle.tocmark_rewrite.proofs.Fronts.{all-changed, one-more}
use Rattle.examples.proofs.headings.lower_all.Goals as goal

pub loop-event-preserved : goal.loop-event-preserved
loop-event-preserved c =
    rw add-one (one-more (λ e. event_view text_of e.0) lowered c.loop-event.events _ c.loop-event.event-index _ _ c.loop-event.invariant (omega arith) c.lower.ensures)

pub returns : goal.returns
returns c =
    c.loop-event.invariant
    ∙ all-changed lowered c.loop-event.event-index _ (rw length-map c.loop-event-test.false)
    ∙ map-map lowered (λ e. event_view text_of e.0) c.args.events.now
