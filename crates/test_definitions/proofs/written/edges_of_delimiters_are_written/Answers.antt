use Rattle.test_definitions.proofs.EdgesOfDelimiters.{edges_of_delimiters-written}
use Rattle.test_definitions.proofs.written.edges_of_delimiters_are_written.Goals as goal

pub returns : goal.returns
returns c = edges_of_delimiters-written
