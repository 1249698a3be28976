use Rattle.std.proofs.Common.{◌≡◌, ◌++◌, List, ℕ, drop}
use Rattle.tocmark.specs.SeenTokens.{onward}
use Rattle.tocmark.proofs.token_count.Runs.after_text.Given as goal

abbrev pub invariant-loop-byte : goal.invariant-loop-byte
invariant-loop-byte l = (rest : List ℕ) → onward l.fn.token l.runs (drop l.byte-index l.byte-items ++ rest) ≡ onward l.fn.token l.fn.self (l.fn.text ++ rest)
