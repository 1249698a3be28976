use Rattle.std.proofs.Common.{◌≡◌, map, drop}
use Rattle.std.specs.List.{list_any}
use Rattle.tocmark_spelling.specs.Buffered.{buffered_view}
use Rattle.tocmark_write_inlines.specs.Named.{asks_reader}
use Rattle.tocmark_write_inlines.proofs.named.ask_reader.Given as goal

abbrev pub invariant-loop-event : goal.invariant-loop-event
invariant-loop-event l = list_any asks_reader (map buffered_view (drop l.event-index l.events)) ≡ list_any asks_reader (map buffered_view l.events)
