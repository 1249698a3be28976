use Rattle.std.proofs.Common.{◌∙◌, ap, refl, subst, sym}
use Rattle.tocmark_write_labels.specs.Document.{with_label}
use Rattle.tocmark_write_labels.specs.LabelsOf.{labels_of, Begins}
use Rattle.tocmark_write_labels.proofs.LabelLemmas.{begins-more, begins-whole, labels-more}
use Rattle.tocmark_write_labels.proofs.labels.Labels.add_each.Goals as goal

pub loop-label-init : goal.loop-label-init
loop-label-init c = record { same = refl; front = begins-whole (labels_of c.args.self.now) }

pub loop-label-preserved : goal.loop-label-preserved
loop-label-preserved c =
    let old = labels_of c.args.self.now in
    let mid = labels_of c.loop-label.self in
    let added = c.in_ok-add.ensures.added ∙ ap (with_label mid) c.as_str.ensures.value in
    record {
      same = labels-more c.args.labels.now c.loop-label.label-index c.label-item.result mid (labels_of c.add.new.self) _ c.loop-label-test.true c.label-item.is added c.loop-label.invariant.same;
      front = subst (Begins old) (sym c.in_ok-add.ensures.added) (begins-more old mid c.as_str.result.now c.loop-label.invariant.front);
    }
