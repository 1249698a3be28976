use Rattle.std.proofs.Common.{◌≡◌, drop, map}
use Rattle.tocmark_write_renderer.specs.WriterOf.{reference_view}
use Rattle.tocmark_write_labels.specs.Document.{with_labels}
use Rattle.tocmark_write_labels.specs.LabelsOf.{labels_of}
use Rattle.tocmark_write_labels.proofs.defined.add_labels.Given as goal

abbrev pub invariant-loop-definition : goal.invariant-loop-definition
invariant-loop-definition l =
    with_labels (labels_of l.known) (map (λ r. r.label) (map reference_view (drop l.definition-index l.defined)))
    ≡ with_labels (labels_of l.initial.known) (map (λ r. r.label) (map reference_view l.defined))
