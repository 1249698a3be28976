use Rattle.tocmark_compare.specs.Given.{given_events}
use Rattle.tocmark_documents.proofs.Stretches.{IsReached}
use Rattle.tocmark_documents.proofs.document.place_of.Given as goal

abbrev pub invariant-loop-place : goal.invariant-loop-place
invariant-loop-place l = IsReached l.stretch l.left (given_events l.given) l.place
