use Rattle.std.proofs.Common.{refl}
use Rattle.tocmark_write_labels.specs.Document.{is_among}
use Rattle.tocmark_write_labels.specs.LabelsOf.{folded_ids, labels_of}
use Rattle.tocmark_write_labels.proofs.ReservedLabels.{ids-more}
use Rattle.tocmark_write_labels.proofs.reserved_label.label_set.Goals as goal

pub loop-id-preserved : goal.loop-id-preserved
loop-id-preserved c = λ label.
    ids-more c.args.ids.now c.loop-id.id-index _ _ (labels_of c.loop-id.labels) (labels_of c.add.new.self) label (is_among (folded_ids c.args.ids.now) label)
    c.loop-id-test.true refl c.in_ok-add.ensures.added (c.loop-id.invariant label)
