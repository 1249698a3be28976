use Rattle.std.proofs.Common.{◌≡◌, map, drop, string_bytes}
use Rattle.std.specs.List.{list_any}
use Rattle.tocmark_write_labels.specs.LabelsOf.{is_taken_in}
use Rattle.tocmark_write_labels.proofs.taken.Taken.contains_any.Given as goal

abbrev pub invariant-loop-label : goal.invariant-loop-label
invariant-loop-label l = list_any (is_taken_in l.self) (map string_bytes (drop l.label-index l.labels)) ≡ list_any (is_taken_in l.self) (map string_bytes l.labels)
