use Rattle.std.proofs.Common.{◌≡◌, length}
use Rattle.tocmark_read_scan.specs.Repeat.{iterated}
use Rattle.tocmark_read_inlines.specs.Scan.{before_space}
use Rattle.tocmark_read_inlines.proofs.leaves.space_start.Given as goal

abbrev pub invariant-loop-steps_left : goal.invariant-loop-steps_left
invariant-loop-steps_left l =
    iterated (before_space l.bytes) l._steps_left l.place ≡ iterated (before_space l.bytes) (length l.bytes) l.end
