use Rattle.std.proofs.Common.{◌≡◌, map, take}
use Rattle.tocmark_spelling.specs.Buffered.{buffered_view}
use Rattle.tocmark_write_pending.proofs.pending.copied_events.Given as goal

abbrev pub invariant-loop-buffered : goal.invariant-loop-buffered
invariant-loop-buffered l = map buffered_view l.copies.items ≡ map buffered_view (take l.buffered-index l.events)
