use Rattle.std.proofs.Common.{◌≡◌, length, map, drop, ℕ, ◌≤◌, slice_index_or}
use Rattle.tocmark_spelling.specs.Buffered.{buffered_view}
use Rattle.tocmark_write_blocks.specs.Html.{no_html}
use Rattle.tocmark_write_blocks.specs.HtmlAhead.{all_html, ahead_of, AreHtmlTexts}
use Rattle.tocmark_write_blocks.proofs.HtmlLemmas.{IsFound}
use Rattle.tocmark_write_blocks.proofs.html_facts.found.Given as goal

abbrev pub invariant-loop-i : goal.invariant-loop-i
invariant-loop-i l = record {
  within : l.i ≤ length l.events;
  len : length l.facts.items ≡ length l.events;
  numbers : length l.lefts.items ≡ length l.events;
  texts : AreHtmlTexts (drop l.i (map buffered_view l.events));
  ahead : l.ahead ≡ ahead_of (drop l.i (map buffered_view l.events));
  lefts : (j : ℕ) → l.i ≤ j → slice_index_or l.lefts.items j 0 ≡ length (all_html (drop j (map buffered_view l.events)));
  found : (j : ℕ) → l.i ≤ j → IsFound (map buffered_view l.events) j (slice_index_or l.facts.items j no_html);
}

abbrev pub decreases-loop-i : goal.decreases-loop-i
decreases-loop-i l = l.i
