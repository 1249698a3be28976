use Rattle.tocmark_standard_laws.proofs.Labels.{defined-declared}
use Rattle.tocmark_standard_laws.proofs.inlines.defined_labels_are_declared.Goals as goal

pub returns : goal.returns
returns c = defined-declared
