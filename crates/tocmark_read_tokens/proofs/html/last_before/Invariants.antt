use Rattle.std.proofs.Common.{◌≡◌, length}
use Rattle.tocmark_read_scan.specs.Repeat.{iterated}
use Rattle.tocmark_read_tokens.specs.Html.{nearer}
use Rattle.tocmark_read_tokens.proofs.html.last_before.Given as goal

abbrev pub invariant-loop-steps_left : goal.invariant-loop-steps_left
invariant-loop-steps_left l =
    iterated (nearer l.bytes l.word) l._steps_left l.place ≡ iterated (nearer l.bytes l.word) (length l.bytes) (length l.bytes)
