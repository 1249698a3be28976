use Rattle.std.proofs.Common.{◌≡◌, length}
use Rattle.tocmark_read_scan.specs.Repeat.{iterated}
use Rattle.tocmark_read_spans.specs.Tick.{next_run}
use Rattle.tocmark_read_spans.proofs.tick.first_run.Given as goal

abbrev pub invariant-loop-steps_left : goal.invariant-loop-steps_left
invariant-loop-steps_left l =
    iterated (next_run l.bytes l.count) l._steps_left l.place ≡ iterated (next_run l.bytes l.count) (length l.bytes) l.from
