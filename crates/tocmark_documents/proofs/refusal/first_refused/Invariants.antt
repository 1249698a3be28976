use Rattle.std.proofs.Common.{◌-◌}
use Rattle.tocmark_documents.specs.Places.{IsWithin}
use Rattle.tocmark_documents.proofs.refusal.first_refused.Given as goal

-- no event after those that were taken is named
abbrev pub invariant-loop-at : goal.invariant-loop-at
invariant-loop-at l = IsWithin (l.at - 1) l.progress
