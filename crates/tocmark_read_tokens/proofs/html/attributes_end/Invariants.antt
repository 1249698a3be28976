use Rattle.std.proofs.Common.{◌≡◌, length}
use Rattle.tocmark_read_scan.specs.Repeat.{iterated}
use Rattle.tocmark_read_tokens.specs.Html.{attribute}
use Rattle.tocmark_read_tokens.proofs.html.attributes_end.Given as goal

abbrev pub invariant-loop-steps_left : goal.invariant-loop-steps_left
invariant-loop-steps_left l = iterated (attribute l.bytes) l._steps_left l.end ≡ iterated (attribute l.bytes) (length l.bytes) l.place
