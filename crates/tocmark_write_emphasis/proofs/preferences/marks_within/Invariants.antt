use Rattle.std.proofs.Common.{◌≡◌, length, ℕ, ◌+◌, ◌-◌, ◌<◌, ◌≤◌, false, None, take, drop, slice_index_or}
use Rattle.std.specs.Prelude.{unwrap_or}
use Rattle.std.specs.List.{list_any}
use Rattle.tocmark_write_pending.specs.Ahead.{first_mark}
use Rattle.tocmark_write_emphasis.proofs.preferences.marks_within.Given as goal

abbrev pub invariant-loop-i : goal.invariant-loop-i
invariant-loop-i l =
    record {
      within : l.i ≤ length l.marks;
      len : length l.found.items ≡ length l.marks;
      nearest : l.nearest ≡ first_mark l.i (drop l.i l.marks);
      found : (j : ℕ) → l.i ≤ j → j < length l.marks → slice_index_or l.found.items j false ≡ list_any (λ b. b) (take (unwrap_or (slice_index_or l.ends j None) (length l.marks) - (j + 1)) (drop (j + 1) l.marks));
    }

abbrev pub decreases-loop-i : goal.decreases-loop-i
decreases-loop-i l = l.i
