use Rattle.std.proofs.Common.{◌≡◌, drop, map, string_bytes}
use Rattle.tocmark_write_labels.specs.Document.{literal_in, with_literal}
use Rattle.tocmark_write_labels.specs.LabelsOf.{labels_of}
use Rattle.tocmark_write_labels.proofs.reserved_label.literal_labels.Given as goal

abbrev pub invariant-loop-text : goal.invariant-loop-text
invariant-loop-text g l =
    with_literal (g.R.Reader.reading l.reader) l.flags (labels_of l.labels) (map string_bytes (drop l.text-index l.texts)) ≡ literal_in (g.R.Reader.reading l.reader) l.flags (map string_bytes l.texts)
