use Rattle.std.proofs.Common.{ap, map, ◌∙◌, string_bytes}
use Rattle.tocmark_write_labels.proofs.LabelLemmas.{label-inserted}
use Rattle.tocmark_write_labels.proofs.labels.Labels.add.Goals as goal

pub returns-clause-added : goal.returns-clause-added
returns-clause-added c =
    ap (map string_bytes) c.in_ok-insert.ensures.keys
    ∙ label-inserted c.in_ok-folded.folded c.args.self.now.folded.keys c.args.label.now c.in_ok-folded.ensures
