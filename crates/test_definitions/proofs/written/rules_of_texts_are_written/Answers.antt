use Rattle.test_definitions.proofs.RulesOfTexts.{rules_of_texts-written}
use Rattle.test_definitions.proofs.written.rules_of_texts_are_written.Goals as goal

pub returns : goal.returns
returns c = rules_of_texts-written
