use Rattle.std.proofs.Common.{◌≡◌, length}
use Rattle.tocmark_read_scan.specs.Repeat.{iterated}
use Rattle.tocmark_read_spans.specs.Tick.{ticks_view, run_noted, ticks_start}
use Rattle.tocmark_read_spans.proofs.tick.last_ticks.Given as goal

abbrev pub invariant-loop-steps_left : goal.invariant-loop-steps_left
invariant-loop-steps_left l =
    iterated (run_noted l.bytes) l._steps_left (ticks_view l.ticks) ≡ iterated (run_noted l.bytes) (length l.bytes) ticks_start
