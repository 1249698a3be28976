use Rattle.tocmark_rewrite.specs.Parts.{Builds}
use Rattle.tocmark_rewrite.proofs.join.joined.Given as goal

abbrev pub invariant-loop-joint : goal.invariant-loop-joint
invariant-loop-joint l = Builds l.source l.output
