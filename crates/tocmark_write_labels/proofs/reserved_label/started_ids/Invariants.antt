use Rattle.std.proofs.Common.{◌≡◌, ◌++◌, map, drop}
use Rattle.tocmark_spelling.specs.Buffered.{buffered_view}
use Rattle.tocmark_write_labels.specs.LabelsOf.{folded_ids}
use Rattle.tocmark_write_labels.specs.Reserved.{ids_of}
use Rattle.tocmark_write_labels.proofs.reserved_label.started_ids.Given as goal

abbrev pub invariant-loop-event : goal.invariant-loop-event
invariant-loop-event l = folded_ids l.ids.items ++ ids_of (map buffered_view (drop l.event-index l.events)) ≡ ids_of (map buffered_view l.events)
