use Rattle.test_definitions.proofs.RulesOfManners.{rules_of_manners-written}
use Rattle.test_definitions.proofs.written.rules_of_manners_are_spelt.Goals as goal

pub returns : goal.returns
returns c = rules_of_manners-written
