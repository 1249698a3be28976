use Rattle.test_definitions.proofs.RulesOfGaps.{rules_of_gaps-written}
use Rattle.test_definitions.proofs.written.rules_of_gaps_are_written.Goals as goal

pub returns : goal.returns
returns c = rules_of_gaps-written
