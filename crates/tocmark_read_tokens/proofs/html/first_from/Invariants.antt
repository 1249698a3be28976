use Rattle.std.proofs.Common.{◌≡◌, length}
use Rattle.tocmark_read_scan.specs.Repeat.{iterated}
use Rattle.tocmark_read_tokens.specs.Html.{further}
use Rattle.tocmark_read_tokens.proofs.html.first_from.Given as goal

abbrev pub invariant-loop-steps_left : goal.invariant-loop-steps_left
invariant-loop-steps_left l =
    iterated (further l.bytes l.word) l._steps_left l.place ≡ iterated (further l.bytes l.word) (length l.bytes) l.from
