use Rattle.test_definitions.proofs.Blocks.{blocks-written}
use Rattle.test_definitions.proofs.written.blocks_are_written.Goals as goal

pub returns : goal.returns
returns c = blocks-written
