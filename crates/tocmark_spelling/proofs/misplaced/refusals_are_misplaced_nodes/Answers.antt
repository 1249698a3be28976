use Rattle.tocmark_spelling.proofs.Refusals.{none-misplaced}
use Rattle.tocmark_spelling.proofs.misplaced.refusals_are_misplaced_nodes.Goals as goal

pub returns : goal.returns
returns c = none-misplaced
