use Rattle.std.proofs.Common.{◌≡◌, length}
use Rattle.tocmark_read_spans.specs.Emphasis.{found}
use Rattle.tocmark_read_spans.proofs.emphasis.find.Given as goal

abbrev pub invariant-loop-k : goal.invariant-loop-k
invariant-loop-k l = found l.stack l.closer l.bottom l.k ≡ found l.stack l.closer l.bottom (length l.stack)
