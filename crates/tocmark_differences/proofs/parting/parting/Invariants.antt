use Rattle.std.proofs.Common.{◌≡◌, min, length, take}
use Rattle.tocmark_compare.specs.Given.{given_events}
use Rattle.tocmark_differences.proofs.parting.parting.Given as goal

abbrev pub invariant-loop-i : goal.invariant-loop-i
invariant-loop-i l = record {
  least : l.count ≡ min (length l.old) (length l.new);
  front : given_events (take l.i l.old) ≡ given_events (take l.i l.new);
}
