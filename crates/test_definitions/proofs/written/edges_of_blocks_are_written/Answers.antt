use Rattle.test_definitions.proofs.EdgesOfBlocks.{edges_of_blocks-written}
use Rattle.test_definitions.proofs.written.edges_of_blocks_are_written.Goals as goal

pub returns : goal.returns
returns c = edges_of_blocks-written
