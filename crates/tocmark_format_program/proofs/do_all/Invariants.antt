use Rattle.std.proofs.Common.{◌≡◌, ◌++◌, ℕ, List, length}
use Rattle.tocmark_format_program.specs.declared.outcome.Outcome.{Outcome}
use Rattle.tocmark_format_program.proofs.do_all.Given as goal

abbrev pub invariant-loop-target : goal.invariant-loop-target
invariant-loop-target l = (added : List Outcome) × (l.outcomes.items ≡ l.fn.outcomes.items ++ added) × (length added ≡ l.target-index)
