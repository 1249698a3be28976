use Rattle.std.proofs.Common.{◌∙◌, ap, map, string_bytes, sym}
use Rattle.std.proofs.lemmas.List.{take-map}
use Rattle.tocmark_write_labels.proofs.labels.Labels.truncate.Goals as goal

pub returns : goal.returns
returns c = ap (map string_bytes) c.truncate.ensures.keys ∙ sym (take-map string_bytes c.args.len c.args.self.now.folded.keys)
