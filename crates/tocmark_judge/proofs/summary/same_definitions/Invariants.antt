use Rattle.std.proofs.Common.{◌≡◌, length, map, take}
use Rattle.tocmark_judge.specs.LinkDefinitions.{link_defined}
use Rattle.tocmark_judge.proofs.summary.same_definitions.Given as goal

abbrev pub invariant-loop-at : goal.invariant-loop-at
invariant-loop-at l = record {
  long : length l.one ≡ length l.other;
  same : map link_defined (take l.at l.one) ≡ map link_defined (take l.at l.other);
}
