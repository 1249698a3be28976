use Rattle.test_definitions.proofs.RulesOfLetters.{rules_of_letters-written}
use Rattle.test_definitions.proofs.written.rules_of_letters_are_written.Goals as goal

pub returns : goal.returns
returns c = rules_of_letters-written
