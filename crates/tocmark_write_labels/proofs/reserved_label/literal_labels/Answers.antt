use Rattle.std.proofs.Common.{◌∙◌, List, String, ap, map, string_bytes}
use Rattle.std.specs.Global.{Global}
use Rattle.tocmark_event.specs.Reading.{ReadingView}
use Rattle.tocmark_write_labels.specs.Document.{with_labels}
use Rattle.tocmark_write_labels.specs.LabelsOf.{labels_of}
use Rattle.tocmark_write_labels.proofs.LiteralLabels.{literal-next}
use Rattle.tocmark_write_labels.proofs.reserved_label.literal_labels.Goals as goal

pub loop-text-preserved : goal.loop-text-preserved
loop-text-preserved g c =
    let reading = g.R.Reader.reading c.args.reader.now in
    let labels = labels_of c.loop-text.labels in
    literal-next reading c.args.flags c.args.texts.now c.loop-text.text-index c.text-item.result labels (labels_of c.add_all.new.self) _ c.loop-text-test.true c.text-item.is
    (c.in_ok-add_all.ensures.added
    ∙ ap (λ (ls : List (String Global)). with_labels labels (map string_bytes ls)) c.deref.ensures.value
    ∙ ap (λ (r : ReadingView). with_labels labels r.unresolved) (c.in_ok-found.ensures ∙ ap (λ t. reading t c.args.flags) c.as_str.ensures.value))
    c.loop-text.invariant
