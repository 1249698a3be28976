use Rattle.std.proofs.Common.{map, refl}
use Rattle.tocmark_event.specs.View.{event_view}
use Rattle.tocmark_json.specs.Json.{event_json}
use Rattle.tocmark_json.proofs.Adding.{begun, more_added, all_added}
use Rattle.tocmark_json.proofs.printing.print_events.Goals as goal

pub loop-event-init : goal.loop-event-init
loop-event-init g c = begun (map event_json (map (event_view g.T.Words.bytes) c.args.events.now)) c.push.new.out.items

pub loop-event-preserved : goal.loop-event-preserved
loop-event-preserved g c =
    let l = c.loop-event in
    more_added (λ x. event_json ((event_view g.T.Words.bytes) x)) (λ ys. map event_json (map (event_view g.T.Words.bytes) ys)) (λ x ys. refl) refl c.args.events.now l.event-index l.later c.push.new.out.items l.out.items c.push_comma.new.out.items c.print_event.new.out.items l.invariant c.event-item.result c.loop-event-test.true c.event-item.is c.in_ok-push_comma.ensures c.in_ok-print_event.ensures

pub returns : goal.returns
returns g c =
    let l = c.loop-event in
    all_added (λ x. event_json ((event_view g.T.Words.bytes) x)) (λ ys. map event_json (map (event_view g.T.Words.bytes) ys)) (λ x ys. refl) refl c.args.events.now l.event-index l.later c.push.new.out.items l.out.items c.push-2.new.out.items l.out.items l.invariant c.push-2.result c.args.out.now.items c.loop-event-test.false c.in_ok-push.ensures c.push-2.ensures
