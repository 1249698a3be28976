use Rattle.std.proofs.Common.{◌++◌, ◌∙◌, ap, sym}
use Rattle.tocmark_write_labels.specs.Document.{is_among}
use Rattle.tocmark_write_labels.specs.LabelsOf.{labels_of}
use Rattle.tocmark_write_labels.proofs.ReservedLabels.{free-more, free-found}
use Rattle.tocmark_write_labels.proofs.reserved_label.free_label.Goals as goal

pub returns-then-not-branch : goal.returns-then-not-branch
returns-then-not-branch c =
    let used = labels_of c.args.known.now ++ labels_of c.args.literal.now ++ labels_of c.args.ids.now in
    c.in_ok-label.ensures
    ∙ free-found c.args.count c.loop-n.n used c.loop-n-test.true
    (ap (is_among used) (sym (c.as_str.ensures.value ∙ c.in_ok-label.ensures)) ∙ sym c.in_ok-is_used.ensures ∙ c.if-not-branch.true)
    ∙ c.loop-n.invariant

pub loop-n-preserved : goal.loop-n-preserved
loop-n-preserved c =
    let used = labels_of c.args.known.now ++ labels_of c.args.literal.now ++ labels_of c.args.ids.now in
    free-more c.args.count c.loop-n.n used c.loop-n-test.true
    (ap (is_among used) (sym (c.as_str.ensures.value ∙ c.in_ok-label.ensures)) ∙ sym c.in_ok-is_used.ensures ∙ c.if-not-branch.false)
    ∙ c.loop-n.invariant
