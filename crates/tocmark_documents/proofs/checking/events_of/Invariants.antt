use Rattle.std.proofs.Common.{◌≡◌, ◌++◌, map}
use Rattle.std.specs.Vec.Iter.{into_iter_items}
use Rattle.tocmark_event.specs.Text.{text_of}
use Rattle.tocmark_event.specs.View.{event_view}
use Rattle.tocmark_json.specs.Json.{pair_view}
use Rattle.tocmark_documents.proofs.checking.events_of.Given as goal

abbrev pub invariant-loop-event : goal.invariant-loop-event
invariant-loop-event l =
    (map (event_view text_of) l.events.items ≡ map (λ p. p.0) (map (pair_view text_of) l.yielded))
    × (l.yielded ++ into_iter_items l.event-iterator ≡ l.fn.pairs.items)
