use Rattle.std.proofs.Common.{◌≡◌, ◌++◌, ℕ, List, drop}
use Rattle.tocmark_write_labels.specs.Document.{is_among}
use Rattle.tocmark_write_labels.specs.LabelsOf.{folded_ids, labels_of}
use Rattle.tocmark_write_labels.proofs.reserved_label.label_set.Given as goal

abbrev pub invariant-loop-id : goal.invariant-loop-id
invariant-loop-id l = (label : List ℕ) → is_among (labels_of l.labels ++ folded_ids (drop l.id-index l.ids)) label ≡ is_among (folded_ids l.ids) label
