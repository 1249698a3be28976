use Rattle.std.proofs.Common.{◌≡◌, length, map, ℕ, ◌≤◌, slice_index_or}
use Rattle.tocmark_event.specs.Options.{options_view}
use Rattle.tocmark_spelling.specs.Buffered.{buffered_view}
use Rattle.tocmark_write_blocks.specs.Raw.{no_raw}
use Rattle.tocmark_write_blocks.proofs.RawLemmas.{IsGathered}
use Rattle.tocmark_write_blocks.proofs.raw_facts.gathered.Given as goal

abbrev pub invariant-loop-i : goal.invariant-loop-i
invariant-loop-i l = record {
  within : l.i ≤ length l.events;
  len : length l.facts.items ≡ length l.events;
  found : (j : ℕ) → l.i ≤ j
      → IsGathered (options_view l.options) (map buffered_view l.events) l.preferred l.tildes l.html j (slice_index_or l.facts.items j no_raw);
}

abbrev pub decreases-loop-i : goal.decreases-loop-i
decreases-loop-i l = l.i
