use Rattle.tocmark_standard_laws.proofs.CoveredTexts.{agreed-declared}
use Rattle.tocmark_standard_laws.proofs.events.agreed_texts_are_read_as_declared.Goals as goal

pub returns : goal.returns
returns c = agreed-declared
