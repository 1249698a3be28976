use Rattle.std.proofs.Common.{map, drop}
use Rattle.tocmark_event.specs.View.{event_view}
use Rattle.tocmark_json.specs.Json.{event_json}
use Rattle.tocmark_json.proofs.Adding.{Goes}
use Rattle.tocmark_json.proofs.printing.print_events.Given as goal

abbrev pub invariant-loop-event : goal.invariant-loop-event
invariant-loop-event g l = Goes (map event_json (map (event_view g.T.Words.bytes) l.events)) (map event_json (map (event_view g.T.Words.bytes) (drop l.event-index l.events))) l.later l.initial.out.items l.out.items
