use Rattle.std.proofs.Common.{◌≤◌, length}
use Rattle.tocmark_read_spans.specs.Role.{IsSlot}
use Rattle.tocmark_read_spans.proofs.role.slot.Given as goal

-- under .rev() the loop's variable is the end of what is left
abbrev pub invariant-loop-k : goal.invariant-loop-k
invariant-loop-k l = (l.first ≤ l.k) × (l.k ≤ length l.marks) × IsSlot l.marks l.place l.k
