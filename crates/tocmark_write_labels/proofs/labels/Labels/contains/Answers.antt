use Rattle.std.proofs.Common.{◌∙◌}
use Rattle.tocmark_write_labels.proofs.LabelLemmas.{label-among}
use Rattle.tocmark_write_labels.proofs.labels.Labels.contains.Goals as goal

pub returns : goal.returns
returns c =
    c.contains.ensures ∙ label-among c.in_ok-folded.folded c.args.self.now.folded.keys c.args.label.now c.in_ok-folded.ensures
