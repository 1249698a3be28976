use Rattle.std.proofs.Common.{◌≡◌, ◌++◌, map, drop, string_bytes}
use Rattle.std.specs.Option.{option_map}
use Rattle.tocmark_event.specs.View.{event_view}
use Rattle.tocmark_event.specs.Merged.{merged, with_text}
use Rattle.tocmark_event.proofs.event.merge_all.Given as goal

abbrev pub invariant-loop-event : goal.invariant-loop-event
invariant-loop-event g l =
    map (event_view g.U.Words.bytes) l.all.items ++ with_text (option_map string_bytes l.pending) (merged (map (event_view g.T.Words.bytes) (drop l.event-index l.events)))
    ≡ merged (map (event_view g.T.Words.bytes) l.events)
