use Rattle.std.proofs.Common.{◌≡◌}
use Rattle.tocmark_rewrite.specs.Edited.{edited_events}
use Rattle.tocmark_compare.specs.Given.{given_events}
use Rattle.tocmark_rewrite.proofs.collect.collected.Given as goal

abbrev pub invariant-loop-event : goal.invariant-loop-event
invariant-loop-event g l =
    (goal.iterator-loop-event g).can_next l.event-iterator
    × (goal.iterator-loop-event g).is_finite l.event-iterator
    × (given_events l.all.items ≡ edited_events l.yielded)
