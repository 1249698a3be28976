use Rattle.tocmark_standard_laws.proofs.Labels.{labels-declared}
use Rattle.tocmark_standard_laws.proofs.inlines.labels_are_declared.Goals as goal

pub returns : goal.returns
returns c = labels-declared
