use Rattle.std.proofs.Common.{◌≡◌, ◌++◌, false, drop}
use Rattle.tocmark_read_spans.specs.Math.{signs}
use Rattle.tocmark_read_spans.proofs.math.signs_of.Given as goal

abbrev pub invariant-loop-byte : goal.invariant-loop-byte
invariant-loop-byte l = l.found.items ++ signs l.escaped (drop l.byte-index l.bytes) ≡ signs false l.bytes
