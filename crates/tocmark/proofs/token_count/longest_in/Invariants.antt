use Rattle.std.proofs.Common.{◌≡◌, ◌++◌, List, map}
use Rattle.tocmark_event.specs.Text.{text_of}
use Rattle.tocmark_event.specs.View.{EventView, event_view}
use Rattle.tocmark.specs.SeenTokens.{with_events}
use Rattle.tocmark.proofs.token_count.longest_in.Given as goal

abbrev pub invariant-loop-event : goal.invariant-loop-event
invariant-loop-event g l =
    (goal.iterator-loop-event g).can_next l.event-iterator ×
    (goal.iterator-loop-event g).is_finite l.event-iterator ×
    ((rest : List EventView) → with_events l.seen rest ≡ with_events l.initial.seen (map (λ x. event_view text_of x.now) l.yielded ++ rest))
