use Rattle.std.proofs.Common.{◌∙◌, ap}
use Rattle.tocmark_write_labels.specs.Document.{with_label}
use Rattle.tocmark_write_labels.specs.LabelsOf.{labels_of}
use Rattle.tocmark_write_labels.proofs.DefinedLabels.{labels-added}
use Rattle.tocmark_write_labels.proofs.defined.add_labels.Goals as goal

pub loop-definition-preserved : goal.loop-definition-preserved
loop-definition-preserved c =
    labels-added c.args.defined.now c.loop-definition.definition-index c.definition-item.result (labels_of c.loop-definition.known) (labels_of c.add.new.self) _ c.loop-definition-test.true c.definition-item.is
    (c.in_ok-add.ensures.added ∙ ap (with_label (labels_of c.loop-definition.known)) c.as_str.ensures.value) c.loop-definition.invariant
