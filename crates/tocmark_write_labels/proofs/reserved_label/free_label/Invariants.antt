use Rattle.std.proofs.Common.{◌≡◌, ◌++◌, ◌-◌, ◌+◌}
use Rattle.tocmark_write_labels.specs.LabelsOf.{labels_of}
use Rattle.tocmark_write_labels.specs.Reserved.{free_label}
use Rattle.tocmark_write_labels.proofs.reserved_label.free_label.Given as goal

abbrev pub invariant-loop-n : goal.invariant-loop-n
invariant-loop-n l =
    free_label (l.count - l.n) (l.n + 1) (labels_of l.known ++ labels_of l.literal ++ labels_of l.ids)
    ≡ free_label l.count 1 (labels_of l.known ++ labels_of l.literal ++ labels_of l.ids)
