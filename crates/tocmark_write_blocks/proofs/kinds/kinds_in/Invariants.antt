use Rattle.std.proofs.Common.{◌≡◌, map, drop}
use Rattle.std.specs.Prelude.{◌||◌}
use Rattle.std.specs.List.{list_any}
use Rattle.tocmark_spelling.specs.Buffered.{buffered_view}
use Rattle.tocmark_write_blocks.specs.Kinds.{is_fenced, is_html_block, opens}
use Rattle.tocmark_write_blocks.proofs.kinds.kinds_in.Given as goal

abbrev pub invariant-loop-event : goal.invariant-loop-event
invariant-loop-event l = record {
  fenced : (l.fenced || list_any (opens is_fenced) (map buffered_view (drop l.event-index l.events))) ≡ list_any (opens is_fenced) (map buffered_view l.events);
  html : (l.html || list_any (opens is_html_block) (map buffered_view (drop l.event-index l.events))) ≡ list_any (opens is_html_block) (map buffered_view l.events);
}
