use Rattle.tocmark_standard_laws.proofs.CoveredTexts.{covered-declared}
use Rattle.tocmark_standard_laws.proofs.events.covered_texts_are_read_as_declared.Goals as goal

pub returns : goal.returns
returns c = covered-declared
