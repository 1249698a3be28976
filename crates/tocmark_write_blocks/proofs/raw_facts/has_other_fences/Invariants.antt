use Rattle.std.proofs.Common.{◌≡◌, map, drop}
use Rattle.std.specs.List.{list_any}
use Rattle.tocmark_event.specs.Options.{options_view}
use Rattle.tocmark_spelling.specs.Buffered.{buffered_view}
use Rattle.tocmark_write_blocks.specs.Kinds.{opens}
use Rattle.tocmark_write_blocks.specs.Raw.{has_other_fence}
use Rattle.tocmark_write_blocks.proofs.raw_facts.has_other_fences.Given as goal

abbrev pub invariant-loop-event : goal.invariant-loop-event
invariant-loop-event l =
    list_any (opens (has_other_fence (options_view l.options))) (map buffered_view (drop l.event-index l.events))
    ≡ list_any (opens (has_other_fence (options_view l.options))) (map buffered_view l.events)
