use Rattle.std.proofs.Common.{◌≡◌, map, take}
use Rattle.test_script.specs.Readers.{ranged_view}
use Rattle.test_script.proofs.readers.copied_events.Given as goal

abbrev pub invariant-loop-event : goal.invariant-loop-event
invariant-loop-event l = map ranged_view l.copies.items ≡ map ranged_view (take l.event-index l.events)
