use Rattle.std.proofs.Common.{◌+◌, ◌∙◌, ap, length}
use Rattle.std.proofs.lemmas.Result.{IfOk-weaker}
use Rattle.tocmark_write_labels.specs.LabelsOf.{labels_of}
use Rattle.tocmark_write_labels.proofs.ReservedLabels.{reserved-is}
use Rattle.tocmark_write_labels.proofs.reserved_label.free_beside.Goals as goal

pub returns : goal.returns
returns c =
    IfOk-weaker c.free_label.result _ _
    (λ label is s d known literal pending ids.
    is ∙ reserved-is s d (labels_of c.args.known.now) (labels_of c.args.literal.now) (labels_of c.in_ok-set.set) c.args.ids.now pending c.in_ok-count.count known literal ids
    (c.in_ok-count.ensures
    ∙ ap (λ n. n + c.len-2.result + length c.args.ids.now) c.len.ensures
    ∙ ap (λ n. length (labels_of c.args.known.now) + n + length c.args.ids.now) c.len-2.ensures) c.in_ok-set.ensures)
    c.free_label.ensures
