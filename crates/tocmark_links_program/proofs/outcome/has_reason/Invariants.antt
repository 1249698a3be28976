use Rattle.std.proofs.Common.{◌≡◌, drop}
use Rattle.std.specs.List.{list_any}
use Rattle.tocmark_links_program.specs.Outcomes.{is_reason}
use Rattle.tocmark_links_program.proofs.outcome.has_reason.Given as goal

abbrev pub invariant-loop-outcome : goal.invariant-loop-outcome
invariant-loop-outcome l = list_any is_reason (drop l.outcome-index l.outcomes) ≡ list_any is_reason l.outcomes
