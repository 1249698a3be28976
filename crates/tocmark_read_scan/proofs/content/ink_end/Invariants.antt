use Rattle.std.proofs.Common.{◌≡◌, length}
use Rattle.tocmark_read_scan.specs.Repeat.{iterated}
use Rattle.tocmark_read_scan.specs.Content.{before_white}
use Rattle.tocmark_read_scan.proofs.content.ink_end.Given as goal

abbrev pub invariant-loop-steps_left : goal.invariant-loop-steps_left
invariant-loop-steps_left l =
    iterated (before_white l.bytes) l._steps_left l.place ≡ iterated (before_white l.bytes) (length l.bytes) (length l.bytes)
