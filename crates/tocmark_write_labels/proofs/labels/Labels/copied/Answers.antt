use Rattle.tocmark_write_labels.proofs.LabelLemmas.{labels-copied}
use Rattle.tocmark_write_labels.proofs.labels.Labels.copied.Goals as goal

pub returns : goal.returns
returns c = labels-copied c.args.self.now.folded.keys c.in_ok-clone.field-0.keys c.in_ok-clone.ensures.cases
