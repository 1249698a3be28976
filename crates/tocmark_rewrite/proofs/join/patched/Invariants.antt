use Rattle.tocmark_rewrite.specs.Parts.{Builds}
use Rattle.tocmark_rewrite.proofs.join.patched.Given as goal

abbrev pub invariant-loop-patch : goal.invariant-loop-patch
invariant-loop-patch l = Builds l.source l.output
