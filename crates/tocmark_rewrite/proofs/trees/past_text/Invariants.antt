use Rattle.std.proofs.Common.{ℕ, ◌≤◌, ◌<◌, IsTrue}
use Rattle.tocmark_rewrite.specs.Lines.{is_blank_at}
use Rattle.tocmark_rewrite.proofs.trees.past_text.Given as goal

abbrev pub invariant-loop-k : goal.invariant-loop-k
invariant-loop-k l = (j : ℕ) → l.k ≤ j → j < l.to → IsTrue (is_blank_at l.bytes j)
