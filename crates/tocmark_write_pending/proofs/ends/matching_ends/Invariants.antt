use Rattle.std.proofs.Common.{◌≡◌, map, ◌≤◌, ℕ, None, drop, length, reverse, slice_get, slice_index_or}
use Rattle.tocmark_spelling.specs.Buffered.{buffered_view}
use Rattle.tocmark_spelling.specs.Scans.{end_at, end_from}
use Rattle.tocmark_write_pending.proofs.ends.matching_ends.Given as goal

abbrev pub invariant-loop-i : goal.invariant-loop-i
invariant-loop-i l =
    record {
      within : l.i ≤ length l.events;
      len : length l.ends.items ≡ length l.events;
      closers : (d : ℕ) → slice_get (reverse l.closers.items) d ≡ end_from d l.i (drop l.i (map buffered_view l.events));
      ends : (j : ℕ) → l.i ≤ j → slice_index_or l.ends.items j None ≡ end_at j (drop j (map buffered_view l.events));
    }

abbrev pub decreases-loop-i : goal.decreases-loop-i
decreases-loop-i l = l.i
