use Rattle.std.proofs.Common.{◌<◌, length, ℕ}
use Rattle.std.specs.List.{All}
use Rattle.tocmark_event.specs.declared.event.TagEnd.{TagEnd}
use Rattle.tocmark_documents.proofs.refusal.unbalanced.Given as goal

-- each open container's Start is one of the events
abbrev pub invariant-loop-at : goal.invariant-loop-at
invariant-loop-at g l = All (λ (x : ℕ × TagEnd). x.0 < length l.pairs) l.open.items
