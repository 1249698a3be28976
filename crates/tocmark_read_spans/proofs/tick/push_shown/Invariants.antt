use Rattle.std.proofs.Common.{◌≡◌, drop}
use Rattle.tocmark_read_spans.specs.Tick.{push_shown}
use Rattle.tocmark_read_spans.proofs.tick.push_shown.Given as goal

abbrev pub invariant-loop-byte : goal.invariant-loop-byte
invariant-loop-byte l = push_shown l.out.items (drop l.byte-index l.text) ≡ push_shown l.fn.out.items l.text
