use Rattle.test_definitions.proofs.Events.{behind-answered}
use Rattle.test_definitions.proofs.calls.calls_behind_definitions_are_answered.Goals as goal

pub returns : goal.returns
returns c = behind-answered
