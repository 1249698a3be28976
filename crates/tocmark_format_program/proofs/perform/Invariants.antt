use Rattle.std.proofs.Common.{◌≡◌, replicate}
use Rattle.tocmark_format_program.specs.Outcomes.{failed}
use Rattle.tocmark_format_program.proofs.perform.Given as goal

abbrev pub invariant-loop-failure : goal.invariant-loop-failure
invariant-loop-failure l = l.outcomes.items ≡ replicate l.failure-index failed
