use Rattle.test_definitions.proofs.EdgesOfLists.{edges_of_lists-written}
use Rattle.test_definitions.proofs.written.edges_of_lists_are_written.Goals as goal

pub returns : goal.returns
returns c = edges_of_lists-written
