use Rattle.std.proofs.Common.{◌≡◌, ◌≤◌, ◌+◌, ◌++◌, length, reverse, vec_capacity}
use Rattle.tocmark_write_containers.proofs.kept.put_back.Given as goal

abbrev pub invariant-loop-kept : goal.invariant-loop-kept
invariant-loop-kept l =
    record {
      all : l.frames.items ++ reverse l.closed.items ≡ l.initial.frames.items ++ reverse l.initial.closed.items;
      room : length l.frames.items + length l.closed.items ≤ vec_capacity l.frames;
    }

abbrev pub decreases-loop-kept : goal.decreases-loop-kept
decreases-loop-kept l = length l.closed.items
