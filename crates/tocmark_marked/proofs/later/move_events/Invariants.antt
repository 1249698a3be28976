use Rattle.std.proofs.Common.{◌≡◌}
use Rattle.tocmark_marked.specs.Marked.{with_later_range}
use Rattle.tocmark_marked.proofs.Fronts.{front}
use Rattle.tocmark_marked.proofs.later.move_events.Given as goal

abbrev pub invariant-loop-pair : goal.invariant-loop-pair
invariant-loop-pair l = l.events ≡ front with_later_range l.pair-index l.fn.events
