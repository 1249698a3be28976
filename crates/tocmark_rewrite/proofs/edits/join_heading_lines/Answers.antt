use Rattle.std.proofs.Common.{◌∙◌, arith, add-one, false}
use Rattle.std.proofs.lemmas.List.{length-map}
use Rattle.tocmark_event.specs.Text.{text_of}
use Rattle.tocmark_event.specs.View.{event_view}
use Rattle.tocmark_rewrite.proofs.Fronts.{all-joined, one-joined, open-next}
use Rattle.tocmark_rewrite.proofs.edits.join_heading_lines.Goals as goal

pub loop-event-preserved : goal.loop-event-preserved
loop-event-preserved c =
    let i = c.loop-event.invariant in (
      rw add-one (one-joined (λ e. event_view text_of e.0) false c.loop-event.events _ c.loop-event.event-index _ _ c.loop-event.is_open i.0 (omega arith) i.1 c.join_event-is_open.ensures.event),
      rw add-one (open-next (λ e. event_view text_of e.0) false c.loop-event.events _ c.loop-event.event-index _ c.loop-event.is_open _ i.0 (omega arith) i.1 c.join_event-is_open.ensures.open),
    )

pub returns : goal.returns
returns c =
    c.loop-event.invariant.0
    ∙ all-joined false c.loop-event.event-index _ (rw length-map c.loop-event-test.false)
