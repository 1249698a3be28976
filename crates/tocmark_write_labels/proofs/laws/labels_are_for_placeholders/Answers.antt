use Rattle.tocmark_write_labels.proofs.Unlabelled.{no-label}
use Rattle.tocmark_write_labels.proofs.laws.labels_are_for_placeholders.Goals as goal

pub returns : goal.returns
returns c = no-label
