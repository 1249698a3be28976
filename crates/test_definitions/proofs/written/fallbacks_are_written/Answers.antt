use Rattle.test_definitions.proofs.Fallbacks.{fallbacks-written}
use Rattle.test_definitions.proofs.written.fallbacks_are_written.Goals as goal

pub returns : goal.returns
returns c = fallbacks-written
