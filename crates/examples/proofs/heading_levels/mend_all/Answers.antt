use Rattle.std.proofs.Common.{◌∙◌, [], map, ap, arith, add-one, sym}
use Rattle.std.proofs.lemmas.List.{length-map}
use Rattle.tocmark_event.specs.Text.{text_of}
use Rattle.tocmark_event.specs.View.{event_view}
use Rattle.examples.specs.Levels.{Before, levels_behind}
use Rattle.examples.proofs.MendedFronts.{all-mended, before_at, one-more, one-more-before}
use Rattle.examples.proofs.heading_levels.mend_all.Goals as goal

pub loop-event-preserved : goal.loop-event-preserved
loop-event-preserved c =
    let before : Before = before_at [] c.loop-event.event-index (map (λ e. event_view text_of e.0) c.args.events.now) in (
      rw add-one (one-more (λ e. event_view text_of e.0) c.loop-event.events [] _ c.loop-event.event-index _ _ c.loop-event.invariant.0 (omega arith) (c.mend.ensures.event before c.loop-event.invariant.1)),
      rw add-one (c.mend.ensures.levels before c.loop-event.invariant.1 ∙ ap levels_behind (sym (one-more-before (λ e. event_view text_of e.0) c.loop-event.events [] _ c.loop-event.event-index _ c.loop-event.invariant.0 (omega arith)))),
    )

pub returns : goal.returns
returns c =
    c.loop-event.invariant.0
    ∙ all-mended [] c.loop-event.event-index _ (rw length-map c.loop-event-test.false)
