use Rattle.tocmark_format.specs.Named.{IsNamed}
use Rattle.tocmark_format.proofs.named.blocks_kept.Given as goal

abbrev pub invariant-loop-block : goal.invariant-loop-block
invariant-loop-block l = IsNamed l.named
