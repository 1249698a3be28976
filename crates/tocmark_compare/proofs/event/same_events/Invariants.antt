use Rattle.std.proofs.Common.{◌≡◌, length, map, drop}
use Rattle.tocmark_event.specs.View.{event_view}
use Rattle.tocmark_spelling.specs.SameEvents.{same_events}
use Rattle.tocmark_compare.proofs.event.same_events.Given as goal

abbrev pub invariant-loop-i : goal.invariant-loop-i
invariant-loop-i g l =
    record {
      long : length l.a ≡ length l.b;
      rest : same_events (map (event_view g.T.Words.bytes) (drop l.i l.a)) (map (event_view g.U.Words.bytes) (drop l.i l.b)) ≡ same_events (map (event_view g.T.Words.bytes) l.a) (map (event_view g.U.Words.bytes) l.b);
    }
