use Rattle.test_definitions.proofs.Delimiters.{delimiters-written}
use Rattle.test_definitions.proofs.written.delimiters_are_written.Goals as goal

pub returns : goal.returns
returns c = delimiters-written
