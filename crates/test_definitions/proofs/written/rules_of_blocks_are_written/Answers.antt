use Rattle.test_definitions.proofs.RulesOfBlocks.{rules_of_blocks-written}
use Rattle.test_definitions.proofs.written.rules_of_blocks_are_written.Goals as goal

pub returns : goal.returns
returns c = rules_of_blocks-written
