use Rattle.tocmark_laws.proofs.Misplaced.{none-start, start-none}
use Rattle.tocmark_laws.proofs.misplaced_nodes.misplaced_nodes_are_starts.Goals as goal

pub returns : goal.returns
returns c = record { refused = none-start; misplaced = start-none }
