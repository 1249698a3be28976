use Rattle.tocmark_rewrite.specs.Parts.{Builds}
use Rattle.tocmark_rewrite.proofs.join.put_gaps.Given as goal

abbrev pub invariant-loop-k : goal.invariant-loop-k
invariant-loop-k l = Builds l.source l.output
