use Rattle.std.proofs.Common.{◌≡◌, ◌++◌, map, drop, string_bytes}
use Rattle.tocmark_spelling.specs.Buffered.{buffered_view}
use Rattle.tocmark_write_blocks.specs.HtmlAhead.{all_html}
use Rattle.tocmark_write_blocks.proofs.html_facts.joined_html.Given as goal

abbrev pub invariant-loop-event : goal.invariant-loop-event
invariant-loop-event l = string_bytes l.text ++ all_html (map buffered_view (drop l.event-index l.events)) ≡ all_html (map buffered_view l.events)
