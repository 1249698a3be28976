use Rattle.std.proofs.Common.{◌≡◌, map, drop}
use Rattle.std.specs.List.{list_any}
use Rattle.tocmark_spelling.specs.Buffered.{buffered_view}
use Rattle.tocmark_write_labels.specs.Ending.{starts_raw_block}
use Rattle.tocmark_write_labels.proofs.ending.holds_raw_block.Given as goal

abbrev pub invariant-loop-event : goal.invariant-loop-event
invariant-loop-event l = list_any starts_raw_block (map buffered_view (drop l.event-index l.unit)) ≡ list_any starts_raw_block (map buffered_view l.unit)
