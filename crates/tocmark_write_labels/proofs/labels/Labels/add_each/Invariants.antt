use Rattle.std.proofs.Common.{◌≡◌, drop, map, string_bytes}
use Rattle.tocmark_write_labels.specs.Document.{with_labels}
use Rattle.tocmark_write_labels.specs.LabelsOf.{labels_of, Begins}
use Rattle.tocmark_write_labels.proofs.labels.Labels.add_each.Given as goal

abbrev pub invariant-loop-label : goal.invariant-loop-label
invariant-loop-label l =
    record {
      same : with_labels (labels_of l.self) (map string_bytes (drop l.label-index l.labels)) ≡ with_labels (labels_of l.initial.self) (map string_bytes l.labels);
      front : Begins (labels_of l.initial.self) (labels_of l.self);
    }
