use Rattle.test_definitions.proofs.Events.{calls-answered}
use Rattle.test_definitions.proofs.calls.calls_are_answered.Goals as goal

pub returns : goal.returns
returns c = calls-answered
