use Rattle.tocmark_standard_laws.proofs.CoveredExamples.{examples-covered}
use Rattle.tocmark_standard_laws.proofs.events.examples_are_covered.Goals as goal

pub returns : goal.returns
returns c = examples-covered
