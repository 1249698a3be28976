use Rattle.std.proofs.Common.{arith, map, subst}
use Rattle.tocmark_spelling.specs.Buffered.{buffered_view}
use Rattle.tocmark_spelling.proofs.Turns.{drop-event, length-events}
use Rattle.tocmark_choose.specs.Alike.{IsEventAlike}
use Rattle.tocmark_choose.proofs.AlikeEvents.{alike-end, alike-step}
use Rattle.tocmark_choose.proofs.alike.are_alike.Goals as goal

pub loop-event-preserved : goal.loop-event-preserved
loop-event-preserved c = λ h.
    let events = c.args.events.now in
    let i = c.loop-event.event-index in
    let at = drop-event events i c.event-item.result c.loop-event-test.true c.event-item.is in
    let here = c.is_within.ensures in
    c.loop-event.invariant
    (alike-step c.loop-event.raw c.raw_after-raw.result c.loop-event.place c.place_after-place.result (map buffered_view events) (buffered_view c.event-item.result) i at
    (subst (λ b. IsEventAlike c.loop-event.raw b (buffered_view c.event-item.result)) here (c.is_event_alike.ensures c.if-not-is_event_alike.false))
    c.raw_after-raw.ensures c.place_after-place.ensures h)

pub returns : goal.returns
returns c = λ is.
    let events = c.args.events.now in
    c.loop-event.invariant
    (alike-end c.loop-event.raw c.loop-event.place (map buffered_view events) c.loop-event.event-index (omega (arith, c.loop-event-test.false, length-events events)))
