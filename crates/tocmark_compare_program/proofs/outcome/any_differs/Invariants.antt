use Rattle.std.proofs.Common.{◌≡◌, drop}
use Rattle.std.specs.List.{list_any}
use Rattle.tocmark_compare_program.specs.Outcomes.{differs}
use Rattle.tocmark_compare_program.proofs.outcome.any_differs.Given as goal

abbrev pub invariant-loop-outcome : goal.invariant-loop-outcome
invariant-loop-outcome l = list_any differs (drop l.outcome-index l.outcomes) ≡ list_any differs l.outcomes
