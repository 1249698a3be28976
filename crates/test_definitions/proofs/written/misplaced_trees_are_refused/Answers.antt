use Rattle.test_definitions.proofs.Refusals.{refusals-refused}
use Rattle.test_definitions.proofs.written.misplaced_trees_are_refused.Goals as goal

pub returns : goal.returns
returns c = refusals-refused
